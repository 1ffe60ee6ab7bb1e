-- A component within a text, mended from left to right: what a scan passes is unchanged, and the
-- character
-- where it stops becomes octets, up to the first of the marks that end the component.
use Rattle.uri_mend.proofs.Common.{common_steps, ◌≡◌, ℕ, ◌+◌, ◌<◌, ◌≤◌, true, false, not, List, [], ◌∷◌, ◌++◌, length, take, drop, map, get_or, refl, sym, ap, subst, ◌∙◌, arith, ⊎_elim, length-drop, encode_utf8, list_all, IsUtf8, IsCharBoundary, and_from, and_parts, cases_Bool, leb-true, not-true, not_from_false, drop-append-le, get_or-drop, length-take-le, take-append-le, take-take, IsUtf8-take, valid_prefix, TableSet, LacksPercent, is_one_of, IsValidFor, Octet, print, HasEncoding, char_has_encoding, is_no_ascii_byte, excludes, valid_prefix-ends-by-mark, AreAscii, first_mark_is_at_boundary, length_before_marks, test_holds_of_each, before_any, from_any, before_any-past-other, from_any-past-other, cut-at-end-of-text-without-marks, text-is-cut-at-first-mark, mended}
use Rattle.std.proofs.lemmas.List.Sums.{prefix_len-le-length}
use Rattle.uri_pct.proofs.Offered.{valid_prefix_ends_at_boundary, valid_prefix_is_longest, valid_prefix_is_valid}
use Rattle.uri_mend.proofs.MendedSteps.{scanned-prefix-is-unchanged, unscanned-char-is-encoded}

boundary-within-prefix : (m n : ℕ) (text : List ℕ) → m ≤ length text → n ≤ m
    → IsCharBoundary text n → IsCharBoundary (take m text) n
boundary-within-prefix m n text inside before at = grind (arith, common_steps)

boundary-of-prefix : (m n : ℕ) (text : List ℕ) → IsCharBoundary text m → n ≤ m
    → IsCharBoundary (take m text) n → IsCharBoundary text n
boundary-of-prefix m n text end before at = grind (arith, common_steps)

module _ (marks : List ℕ) where
  -- bytes that are no marks are before the first mark of what follows them
  other-bytes-are-before-mark : (xs ys : List ℕ) → list_all (λ b. not (is_one_of marks b)) xs ≡ true
      → (before_any marks (xs ++ ys) ≡ xs ++ before_any marks ys)
      × (from_any marks (xs ++ ys) ≡ from_any marks ys)
  other-bytes-are-before-mark [] ys e = (refl, refl)
  other-bytes-are-before-mark (x ∷ xs) ys e =
      let p = and_parts _ _ e in
      let other = not-true _ p.0 in
      let rest = other-bytes-are-before-mark xs ys p.1 in (
        before_any-past-other marks x (xs ++ ys) other ∙ ap (λ t. x ∷ t) rest.0,
        from_any-past-other marks x (xs ++ ys) other ∙ rest.1,
      )

  -- bytes past ASCII are none of the marks, which are ASCII
  bytes-past-ascii-are-other : AreAscii marks → (xs : List ℕ) → list_all is_no_ascii_byte xs ≡ true
      → list_all (λ b. not (is_one_of marks b)) xs ≡ true
  bytes-past-ascii-are-other ascii [] e = refl
  bytes-past-ascii-are-other ascii (x ∷ xs) e =
      let p = and_parts _ _ e in
      and_from _ _ (⊎_elim
      (λ m. let l = ascii x m in absurd (past-ascii-is-not-ascii x p.0 l))
      (λ m. not_from_false _ m)
      (cases_Bool (is_one_of marks x)))
      (bytes-past-ascii-are-other ascii xs p.1)
    where
      past-ascii-is-not-ascii : (b : ℕ) → is_no_ascii_byte b ≡ true → b < 128 → ⊥
      past-ascii-is-not-ascii b h l = let d = leb-true 128 b h in omega arith

  -- a character whose first byte is no mark has no marks
  char-without-mark : AreAscii marks → (c : ℕ) → (w : HasEncoding c)
      → is_one_of marks w.first ≡ false
      → list_all (λ b. not (is_one_of marks b)) (encode_utf8 c) ≡ true
  char-without-mark ascii c w other = ap (list_all (λ b. not (is_one_of marks b))) w.joined
      ∙ and_from _ _ (not_from_false _ other) (bytes-past-ascii-are-other ascii w.more w.high)

module _ (marks : List ℕ) (set : TableSet) (lacks : LacksPercent set)
    (octets : set.pct_encoded ≡ true) (outside : excludes set marks ≡ true) where
  marks-are-ascii : AreAscii marks
  marks-are-ascii b m = grind (arith, test_holds_of_each)

  -- what is before the first mark is UTF-8
  component-is-utf8 : (rest : List ℕ) → IsUtf8 rest → IsUtf8 (before_any marks rest)
  component-is-utf8 rest u =
      IsUtf8-take rest _ u (first_mark_is_at_boundary marks marks-are-ascii rest)

  -- a scan of a text goes as far as that of its component
  component-is-scanned-as-text : (rest : List ℕ) → IsUtf8 rest
      → valid_prefix set (before_any marks rest) ≡ valid_prefix set rest
  component-is-scanned-as-text rest u =
      let m = length_before_marks marks rest in
      let n = valid_prefix set rest in
      let k = valid_prefix set (before_any marks rest) in
      let inside = prefix_len-le-length (λ c. not (is_one_of marks c)) rest in
      let end = first_mark_is_at_boundary marks marks-are-ascii rest in
      let v = component-is-utf8 rest u in
      let few : n ≤ m = valid_prefix-ends-by-mark marks set lacks outside rest u in
      let at = valid_prefix_ends_at_boundary set lacks (before_any marks rest) v in
      let within : k ≤ m = omega (arith, at.0, length-take-le m rest inside) in
      let first : n ≤ k = valid_prefix_is_longest set lacks (before_any marks rest) n v
      (boundary-within-prefix m n rest inside few (valid_prefix_ends_at_boundary set lacks rest u))
      (subst (IsValidFor set) (sym (take-take n m rest few))
      (valid_prefix_is_valid set lacks rest u)) in
      let second : k ≤ n = valid_prefix_is_longest set lacks rest k u
      (boundary-of-prefix m k rest end within at) (subst (IsValidFor set)
      (take-take k m rest within) (valid_prefix_is_valid set lacks (before_any marks rest) v)) in
      omega (arith, first, second)

  -- what is scanned is unchanged, and what is after it is mended
  pub scanned-component-is-unchanged : (rest : List ℕ) → IsUtf8 rest
      → (mended set (before_any marks rest)
      ≡ take (valid_prefix set rest) rest
      ++ mended set (before_any marks (drop (valid_prefix set rest) rest)))
      × (from_any marks rest ≡ from_any marks (drop (valid_prefix set rest) rest))
  scanned-component-is-unchanged rest u =
      let m = length_before_marks marks rest in
      let n = valid_prefix set rest in
      let before = before_any marks rest in
      let from = from_any marks rest in
      let cut = text-is-cut-at-first-mark marks rest in
      let few : n ≤ length before = omega (
        arith,
        valid_prefix-ends-by-mark marks set lacks outside rest u,
        length-take-le m rest (prefix_len-le-length (λ c. not (is_one_of marks c)) rest),
      ) in
      let same : take n rest ≡ take n before =
      ap (take n) (sym cut.whole) ∙ take-append-le n before from few in
      let left : drop n rest ≡ drop n before ++ from =
      ap (drop n) (sym cut.whole) ∙ drop-append-le n before from few in
      let parts = cut-at-end-of-text-without-marks marks (drop n before) from
      (λ k d l. subst (λ b. is_one_of marks b ≡ false) (sym (get_or-drop n before k d))
      (cut.lacks (n + k) d (omega (arith, length-drop n before, l)))) cut.begins in (
        scanned-prefix-is-unchanged set lacks octets before (component-is-utf8 rest u) ∙ ap
            (λ j. take j before ++ mended set (drop j before)) (component-is-scanned-as-text rest u)
            ∙ ap (λ t. t ++ mended set (drop n before)) (sym same)
            ∙ ap (λ t. take n rest ++ mended set t) (sym (ap (before_any marks) left ∙ parts.0)),
        sym (ap (from_any marks) left ∙ parts.1),
      )

  -- the character where a scan stops becomes octets, if it does not begin with a mark
  pub component-char-is-encoded : (c : ℕ) (rest suffix : List ℕ) → IsUtf8 rest
      → rest ≡ encode_utf8 c ++ suffix → valid_prefix set rest ≡ 0
      → is_one_of marks (get_or rest 0 0) ≡ false → (mended set (before_any marks rest)
      ≡ print (map Octet (encode_utf8 c)) ++ mended set (before_any marks suffix))
      × (from_any marks rest ≡ from_any marks suffix)
  component-char-is-encoded c rest suffix u e stop other =
      let w = char_has_encoding c in
      let first : get_or rest 0 0 ≡ w.first =
      ap (λ t. get_or t 0 0) (e ∙ ap (λ t. t ++ suffix) w.joined) in
      let parts = other-bytes-are-before-mark marks (encode_utf8 c) suffix
      (char-without-mark marks marks-are-ascii c w (sym (ap (is_one_of marks) first) ∙ other)) in (
        unscanned-char-is-encoded set lacks octets (before_any marks rest) (before_any marks suffix)
            c (component-is-utf8 rest u) (ap (before_any marks) e ∙ parts.0)
            (component-is-scanned-as-text rest u ∙ stop),
        ap (from_any marks) e ∙ parts.1,
      )
