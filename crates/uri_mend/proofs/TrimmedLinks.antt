-- Links of pages without their white space.
use Rattle.uri_mend.proofs.Common.{common_steps, ◌≡◌, ℕ, true, false, List, [], ◌∷◌, ◌++◌, drop, refl, sym, ap, ◌∙◌, arith, length, subst, ◌<◌, is_ascii_whitespace, list_any, prefix_len, IsCharBoundary, IsTrimAscii, IsUtf8, cond-true, not_from_false, or_parts, IsCharBoundary-after_ascii, is_one_of, AreAscii-by-test, before_any, from_any, before_any-past-other, from_any-past-other, IsEmptyOrMarked, text-is-cut-at-first-mark, tab_and_newlines, without_any, without_outer_space}
use Rattle.std.proofs.lemmas.Str.Ascii.{trim_ascii_is}
use Rattle.uri_parts.proofs.Offered.{utf8_from_marks}

text-without-marks-by-cut : (marks text : List ℕ) → without_any marks text
    ≡ before_any marks text ++ without_any marks (drop 1 (from_any marks text))
text-without-marks-by-cut marks [] = refl
text-without-marks-by-cut marks (c ∷ rest) =
    grind (arith, from_any-past-other, before_any-past-other, text-without-marks-by-cut marks rest)

pub text-without-marks-is-unchanged : (marks text : List ℕ)
    → list_any (is_one_of marks) text ≡ false → without_any marks text ≡ text
text-without-marks-is-unchanged marks [] none = refl
text-without-marks-is-unchanged marks (c ∷ rest) none =
    let parts = or_parts (is_one_of marks c) (list_any (is_one_of marks) rest) none in
    cond-true _ _ _ (not_from_false _ parts.0)
    ∙ ap (λ t. c ∷ t) (text-without-marks-is-unchanged marks rest parts.1)

-- trimming: after a run is appended, what was appended and what is left still make the whole
pub text-without-marks-after-run : (marks out mid rest from all : List ℕ)
    → mid ≡ out ++ before_any marks rest → from ≡ from_any marks rest
    → out ++ without_any marks rest ≡ all → mid ++ without_any marks (drop 1 from) ≡ all
text-without-marks-after-run marks out mid rest from all copied left whole =
    grind (arith, common_steps, text-without-marks-by-cut)

pub trimmed-text-is-without-outer-space : (text trimmed : List ℕ) → IsTrimAscii text trimmed
    → trimmed ≡ without_outer_space text
trimmed-text-is-without-outer-space text trimmed is =
    trim_ascii_is text trimmed (drop (prefix_len is_ascii_whitespace text) text) refl is

-- trimming: what is from the first of tab, LF and CR on has an end after its first character
pub boundary-after-tab-or-newline : (text from : List ℕ) → IsUtf8 text
    → from ≡ from_any tab_and_newlines text → 0 < length from → IsCharBoundary from 1
boundary-after-tab-or-newline text [] u e some = absurd (omega (arith, some))
boundary-after-tab-or-newline text (c ∷ rest) u e some =
    let begins : IsEmptyOrMarked tab_and_newlines (c ∷ rest) =
    subst (IsEmptyOrMarked tab_and_newlines) (sym e)
    (text-is-cut-at-first-mark tab_and_newlines text).begins in
    let utf8 : IsUtf8 (c ∷ rest) =
    subst IsUtf8 (sym e) (utf8_from_marks tab_and_newlines text
    (AreAscii-by-test tab_and_newlines refl) u) in
    IsCharBoundary-after_ascii (c ∷ rest) 0 utf8 (omega arith) (tab-or-newline-is-ascii c begins)
  where
    tab-or-newline-is-ascii : (c : ℕ) → is_one_of tab_and_newlines c ≡ true → c < 128
    tab-or-newline-is-ascii c h = grind arith
