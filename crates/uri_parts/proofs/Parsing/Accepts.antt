-- What the parser accepts is the grammar of its kind.
use Rattle.uri_parts.proofs.Common.{◌≡◌, ℕ, Bool, true, false, eqb, List, [], ◌∷◌, drop, refl, sym, ap, ◌∙◌, arith, ◌&&◌, ⊎_elim, codes, IsUtf8, cases_Bool, cond-false, eq-eqb, eqb-true, ne_eqb, both_ways, and-true, or-false, nat_tests, TableSet, is_one_of, is_valid_for, AreAscii-by-test, cut_leaves_mark_or_nothing, length_before_marks_counts_other_byte, before_any, from_any, starts, when, after_query, is_end, Kind, absent_or_passes}
use Rattle.uri_parts.proofs.Parsing.Acceptance.{parses_after, parses_fragment, parses_end, parses_path}
use Rattle.uri_parts.proofs.Parsing.ScanStops.{parses_after-is-valid-before-mark, utf8_from_marks, utf8_after_ascii_byte}
use Rattle.uri_parts.proofs.TextKinds.Separations.{SeparatesComponents}

-- general fact on numbers, for comparing bytes in the parser
eqb-is-symmetric : (a b : ℕ) → eqb b a ≡ true → eqb a b ≡ true
eqb-is-symmetric a b e = eq-eqb a b (sym (eqb-true b a e))

-- general fact on numbers, for comparing bytes in the parser
eqb-false-is-symmetric : (a b : ℕ) → eqb b a ≡ false → eqb a b ≡ false
eqb-false-is-symmetric a b e = ne_eqb a b (λ d. both_ways _ e (eq-eqb b a (sym d)))

one-of-hash-is-byte-35 : (b : ℕ) → is_one_of (codes "#") b ≡ eqb 35 b
one-of-hash-is-byte-35 b = or-false _

-- parser: a delimiter `?` or `#` that is not 63 is 35, `#`
mark-that-is-no-question-is-hash : (b : ℕ) → is_one_of (codes "?#") b ≡ true → eqb b 63 ≡ false
    → eqb b 35 ≡ true
mark-that-is-no-question-is-hash b e q = grind (arith, nat_tests)

-- parser: a byte that is neither `?` nor `#` is neither 63 nor 35
other-byte-is-no-question-or-hash : (b : ℕ) → is_one_of (codes "?#") b ≡ false → (eqb b 63 ≡ false)
    × (eqb b 35 ≡ false)
other-byte-is-no-question-or-hash b e = (grind (arith, nat_tests), grind (arith, nat_tests))

pub none-of-four-marks-is-none-of-two-pairs : (b : ℕ) → is_one_of (codes ":/?#") b ≡ false
    → (is_one_of (codes ":/") b ≡ false) × (is_one_of (codes "?#") b ≡ false)
none-of-four-marks-is-none-of-two-pairs b e = (grind (arith, nat_tests), grind (arith, nat_tests))

module _ (segment : TableSet) (kind : Kind) (w : SeparatesComponents segment kind) where
  -- fragments and queries
  unfoldable pub fragment_is_valid : List ℕ → Bool
  fragment_is_valid rest = absent_or_passes (when (starts 35 rest) (drop 1 rest))
      (is_valid_for kind.fragment)

  unfoldable pub query_and_fragment_are_valid : List ℕ → Bool
  query_and_fragment_are_valid rest = absent_or_passes
      (when (starts 63 rest) (before_any (codes "#") (drop 1 rest)))
      (is_valid_for kind.query) && fragment_is_valid (after_query rest)

  cut-at-no-marks-is-whole : (bs : List ℕ) → (before_any [] bs ≡ bs) × (from_any [] bs ≡ [])
  cut-at-no-marks-is-whole [] = (refl, refl)
  cut-at-no-marks-is-whole (b ∷ bs) =
      grind (arith, nat_tests, length_before_marks_counts_other_byte, cut-at-no-marks-is-whole bs)

  fragment-is-parsed-iff-valid : (bs : List ℕ) → IsUtf8 bs
      → parses_after kind.fragment is_end bs ≡ is_valid_for kind.fragment bs
  unfolding is_end
  fragment-is-parsed-iff-valid bs u =
      let p = cut-at-no-marks-is-whole bs in
      parses_after-is-valid-before-mark [] kind.fragment w.fragment_lacks refl is_end (λ b
      rest _ _. refl) bs u ∙ ap (λ xs. is_valid_for kind.fragment xs && is_end (from_any [] bs)) p.0
      ∙ ap (λ xs. is_valid_for kind.fragment bs && is_end xs) p.1 ∙ and-true _

  pub parses_fragment-not-at-other : (b : ℕ) (rest : List ℕ) → eqb b 35 ≡ false
      → parses_fragment kind (b ∷ rest) ≡ false
  unfolding parses_fragment is_end
  parses_fragment-not-at-other b rest e = cond-false _ _ _ e

  fragment-at-hash-is-parsed-iff-valid : (b : ℕ) (rest : List ℕ) → eqb b 35 ≡ true
      → IsUtf8 (b ∷ rest) → parses_fragment kind (b ∷ rest) ≡ fragment_is_valid (b ∷ rest)
  unfolding parses_fragment fragment_is_valid
  fragment-at-hash-is-parsed-iff-valid b rest e u = rw e (fragment-is-parsed-iff-valid rest
      (utf8_after_ascii_byte b rest (let d = eqb-true b 35 e in omega arith) u))

  fragment-after-cut-is-parsed-iff-valid : (bs : List ℕ) → IsUtf8 bs
      → parses_fragment kind (from_any (codes "#") bs) ≡ fragment_is_valid (from_any (codes "#") bs)
  unfolding parses_fragment fragment_is_valid is_end
  fragment-after-cut-is-parsed-iff-valid bs u = cut_leaves_mark_or_nothing
      (codes "#") (λ r. IsUtf8 r → parses_fragment kind r ≡ fragment_is_valid r)
      (λ _. refl) (λ b rest e. fragment-at-hash-is-parsed-iff-valid b rest
      (eqb-is-symmetric b 35 (sym (one-of-hash-is-byte-35 b) ∙ e))) bs
      (utf8_from_marks (codes "#") bs (AreAscii-by-test (codes "#") refl) u)

  query-is-parsed-iff-valid-with-fragment : (rest : List ℕ)
      → IsUtf8 rest → parses_after kind.query (parses_fragment kind) rest ≡ (is_valid_for kind.query
      (before_any (codes "#") rest) && fragment_is_valid (from_any (codes "#") rest))
  query-is-parsed-iff-valid-with-fragment rest u =
      parses_after-is-valid-before-mark (codes "#") kind.query w.query_lacks w.query_marks
      (parses_fragment kind) (λ b r e _. parses_fragment-not-at-other b r
      (eqb-false-is-symmetric b 35 (sym (one-of-hash-is-byte-35 b) ∙ e))) rest u
      ∙ ap (λ t. is_valid_for kind.query (before_any (codes "#") rest)
      && t) (fragment-after-cut-is-parsed-iff-valid rest u)

  query-or-fragment-at-mark-is-parsed-iff-valid : (b : ℕ) (rest : List ℕ) → is_one_of (codes "?#") b
      ≡ true → IsUtf8 (b ∷ rest)
      → parses_end kind (b ∷ rest) ≡ query_and_fragment_are_valid (b ∷ rest)
  unfolding parses_end query_and_fragment_are_valid
  query-or-fragment-at-mark-is-parsed-iff-valid b rest e u =
      ⊎_elim (λ q. rw q (query-is-parsed-iff-valid-with-fragment rest
      (utf8_after_ascii_byte b rest (let d = eqb-true b 63 q in omega arith) u))) (λ q. rw q
      (fragment-at-hash-is-parsed-iff-valid b rest (mark-that-is-no-question-is-hash b e q) u))
      (cases_Bool (eqb b 63))

  query-and-fragment-after-cut-are-parsed-iff-valid : (bs : List ℕ) → IsUtf8 bs → parses_end kind
      (from_any (codes "?#") bs) ≡ query_and_fragment_are_valid (from_any (codes "?#") bs)
  unfolding parses_end query_and_fragment_are_valid parses_fragment fragment_is_valid is_end
  query-and-fragment-after-cut-are-parsed-iff-valid bs u = cut_leaves_mark_or_nothing
      (codes "?#") (λ r. IsUtf8 r → parses_end kind r ≡ query_and_fragment_are_valid r)
      (λ _. refl) (λ b rest e. query-or-fragment-at-mark-is-parsed-iff-valid b rest e) bs
      (utf8_from_marks (codes "?#") bs (AreAscii-by-test (codes "?#") refl) u)

  pub parses_end-not-at-other : (b : ℕ) (rest : List ℕ) → is_one_of (codes "?#") b ≡ false
      → parses_end kind (b ∷ rest) ≡ false
  unfolding parses_end
  parses_end-not-at-other b rest e = cond-false _ _ _ (other-byte-is-no-question-or-hash b e).0
      ∙ parses_fragment-not-at-other b rest (other-byte-is-no-question-or-hash b e).1

  -- paths
  pub parses_path-is-valid-path-and-end : (bs : List ℕ)
      → IsUtf8 bs → parses_path kind bs ≡ (is_valid_for kind.path (before_any (codes "?#") bs)
      && query_and_fragment_are_valid (from_any (codes "?#") bs))
  unfolding parses_path
  parses_path-is-valid-path-and-end bs u = parses_after-is-valid-before-mark (codes "?#") kind.path
      w.path_lacks w.path_marks (parses_end kind) (λ b r e _. parses_end-not-at-other b r e) bs u
      ∙ ap (λ t. is_valid_for kind.path (before_any (codes "?#") bs)
      && t) (query-and-fragment-after-cut-are-parsed-iff-valid bs u)
