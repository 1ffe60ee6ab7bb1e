-- What a text that is valid for a set lacks, and UTF-8 on both sides of an ASCII character.
use Rattle.uri_parts.proofs.Common.{◌≡◌, ℕ, ◌<◌, ◌≤◌, true, List, ◌∷◌, ◌++◌, length, get_or, drop, length-append, sym, subst, ◌∙◌, arith, IsUtf8, take_all, eqb-true, get_or-append_seam, take-append_seam, drop-append_seam, IsUtf8-take, IsUtf8-drop, IsCharBoundary-before_ascii, TableSet, LacksPercent, is_valid_for, valid_prefix, excludes, valid_prefix-ends-by-mark, is_valid_for_is_scanned_to_end, length_before_marks, Lacks, before_any}
use Rattle.uri_parts.proofs.Splitting.Cuts.{text-is-cut-at-first-mark}
use Rattle.uri_parts.proofs.Parsing.ScanStops.{utf8_after_ascii_byte}

prefix-is-shorter-than-text : (xs : List ℕ) (c : ℕ) (ys : List ℕ)
    → length xs < length (xs ++ c ∷ ys)
prefix-is-shorter-than-text xs c ys = omega (arith, length-append xs (c ∷ ys))

-- texts of a kind: on both sides of an ASCII byte c, a text in UTF-8 is UTF-8
pub utf8_around_ascii_byte : (xs : List ℕ) (c : ℕ) (ys : List ℕ) → c < 128 → IsUtf8 (xs ++ c ∷ ys)
    → IsUtf8 xs × IsUtf8 ys
utf8_around_ascii_byte xs c ys h u =
    let text : List ℕ = xs ++ c ∷ ys in
    let n = length xs in
    let at : get_or text n 0 ≡ c = get_or-append_seam xs c ys 0 in
    let rest : drop n text ≡ c ∷ ys = drop-append_seam xs (c ∷ ys) in
    let inside : n < length text = prefix-is-shorter-than-text xs c ys in
    let boundary = IsCharBoundary-before_ascii text n inside (omega arith) in (
      subst IsUtf8 (take-append_seam xs (c ∷ ys)) (IsUtf8-take text n u boundary),
      utf8_after_ascii_byte c ys h (subst IsUtf8 rest (IsUtf8-drop text n u boundary)),
    )

-- texts of a kind: a valid text lacks the delimiters that the set excludes
pub valid_text_lacks_excluded_marks : (set : TableSet) (marks : List ℕ) → LacksPercent set
    → excludes set marks ≡ true
    → (text : List ℕ) → IsUtf8 text → is_valid_for set text ≡ true → Lacks marks text
valid_text_lacks_excluded_marks set marks lacks outside text u valid =
    let scanned : valid_prefix set text ≡ length text =
    eqb-true _ _ (sym (is_valid_for_is_scanned_to_end set text lacks u) ∙ valid) in
    let le : valid_prefix set text ≤ length_before_marks marks text =
    valid_prefix-ends-by-mark marks set lacks outside text u in
    let whole : before_any marks text ≡ text = take_all _ text (omega arith) in
    subst (Lacks marks) whole (text-is-cut-at-first-mark marks text).lacks
