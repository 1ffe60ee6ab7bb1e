-- The first segment of a path without a scheme.
use Rattle.uri_parts.proofs.Common.{◌≡◌, ℕ, Bool, true, false, eqb, not, List, [], ◌∷◌, drop, refl, sym, ap, ◌∙◌, arith, ◌||◌, ◌&&◌, ⊎_elim, codes, IsUtf8, drop-drop, list_any, cases_Bool, and_left, and_right, eqb-true, and_parts, not_from_true, both_ways, false≢true, or_left, nat_tests, TableSet, LacksPercent, is_one_of, scheme_set, valid_prefix, after, excludes, valid_prefix_at_mark_is_empty, valid_prefix_by_first_byte, length_before_marks, nothing_is_scanned_after_valid_prefix, valid_prefix_of_superset_goes_on_from_subset, successor_is_not_zero, before_any, from_any, starts, has_scheme, Kind, has_colon_in_first_segment}
use Rattle.uri_parts.proofs.Parsing.Acceptance.{is_stray, parses_end, parses_path, parses_relative}
use Rattle.uri_parts.proofs.Parsing.ScanStops.{scan-stops-at-first-mark-or-within}
use Rattle.uri_parts.proofs.TextKinds.Separations.{SeparatesComponents}
use Rattle.uri_parts.proofs.Parsing.Accepts.{parses_end-not-at-other, none-of-four-marks-is-none-of-two-pairs}
use Rattle.uri_parts.proofs.Splitting.Cuts.{before_any-past-other, from_any-past-other, before_any-at-mark, from_any-at-mark}

pub scan_stops_at_first_mark : (marks : List ℕ) (mark : ℕ) → is_one_of marks mark ≡ true
    → (set : TableSet) → LacksPercent set → excludes set marks ≡ true → (bs : List ℕ) → IsUtf8 bs
    → starts mark (after set bs) ≡ true → valid_prefix set bs ≡ length_before_marks marks bs
scan_stops_at_first_mark marks mark m set lacks outside bs u e = ⊎_elim (λ h. h)
    (λ w. absurd (both_ways _ w.other
    (ap (is_one_of marks) (eqb-true w.byte mark (sym (ap (starts mark) w.left) ∙ e)) ∙ m)))
    (scan-stops-at-first-mark-or-within marks set lacks outside bs u)

-- splitting, relative references: a scan by a set without `:`
-- that stops at a `:` (58) stopped before the first delimiter
pub scan_stops_at_first_colon : (set : TableSet)
    → LacksPercent set → excludes set (codes ":/?#") ≡ true → (bs : List ℕ) → IsUtf8 bs
    → starts 58 (after set bs) ≡ true → valid_prefix set bs ≡ length_before_marks (codes ":/?#") bs
scan_stops_at_first_colon = scan_stops_at_first_mark (codes ":/?#") 58 refl

-- splitting, relative references: at a `:` (58), a scan by a set without `:` passes nothing
nothing-is-scanned-at-colon : (set : TableSet) → LacksPercent set
    → excludes set (codes ":/?#") ≡ true → (bs : List ℕ) → starts 58 bs ≡ true → after set bs ≡ bs
nothing-is-scanned-at-colon set lacks outside [] e = absurd (false≢true e)
nothing-is-scanned-at-colon set lacks outside (b ∷ rest) e = ap
    (λ n. drop n (b ∷ rest)) (valid_prefix_at_mark_is_empty (codes ":/?#") set lacks outside b rest
    (ap (is_one_of (codes ":/?#")) (eqb-true b 58 e)))

-- splitting, relative references: `?` and `#` end a scheme
pub question_or_hash_ends_scheme : (b : ℕ) → is_one_of (codes "?#") b ≡ true
    → is_one_of (codes ":/?#") b ≡ true
question_or_hash_ends_scheme b q = grind (arith, nat_tests)

-- splitting, relative references: `?` and `#` are not `:` (58)
pub question_or_hash_is_no_colon : (b : ℕ) → is_one_of (codes "?#") b ≡ true → eqb b 58 ≡ false
question_or_hash_is_no_colon b q = grind (arith, nat_tests)

-- splitting, relative references: `/` ends a scheme
slash-is-one-of-four-marks : (b : ℕ) → is_one_of (codes "/") b ≡ true → is_one_of (codes ":/?#") b
    ≡ true
slash-is-one-of-four-marks b q = grind (arith, nat_tests)

-- splitting, relative references: `/` is not `:` (58),
-- so a first segment that ends at one has no `:` before it
slash-is-no-colon : (b : ℕ) → is_one_of (codes "/") b ≡ true → eqb b 58 ≡ false
slash-is-no-colon b q = grind (arith, nat_tests)

-- splitting, relative references: a byte that is neither `?`, `#`, `/` nor `:` (58) ends no scheme
other-byte-is-none-of-four-marks : (b : ℕ) → is_one_of (codes "?#") b ≡ false
    → is_one_of (codes "/") b ≡ false → eqb b 58 ≡ false → is_one_of (codes ":/?#") b ≡ false
other-byte-is-none-of-four-marks b q s c = grind (arith, nat_tests)

colon-in-first-segment-iff-colon-is-first-mark : (bs : List ℕ) → has_colon_in_first_segment
    (before_any (codes "?#") bs) ≡ starts 58 (from_any (codes ":/?#") bs)
colon-in-first-segment-iff-colon-is-first-mark [] = refl
colon-in-first-segment-iff-colon-is-first-mark (b ∷ rest) =
    let F = before_any (codes "?#") rest in
    ⊎_elim (λ q. ap has_colon_in_first_segment (before_any-at-mark (codes "?#") b rest q)
    ∙ sym (ap (starts 58) (from_any-at-mark (codes ":/?#") b rest
    (question_or_hash_ends_scheme b q)) ∙ question_or_hash_is_no_colon b q))
    (λ q. ap has_colon_in_first_segment (before_any-past-other (codes "?#") b rest q)
    ∙ ⊎_elim (λ s. ap (list_any (λ c. eqb c 58)) (before_any-at-mark (codes "/") b F s)
    ∙ sym (ap (starts 58) (from_any-at-mark (codes ":/?#") b rest (slash-is-one-of-four-marks b s))
    ∙ slash-is-no-colon b s)) (λ s. ap (list_any (λ c. eqb c 58))
    (before_any-past-other (codes "/") b F s) ∙ ⊎_elim (λ c. or_left _ _ c ∙ sym (ap (starts 58)
    (from_any-at-mark (codes ":/?#") b rest (ap (is_one_of (codes ":/?#")) (eqb-true b 58 c))) ∙ c))
    (λ c. ap (λ t. t || has_colon_in_first_segment F) c
    ∙ colon-in-first-segment-iff-colon-is-first-mark rest ∙ sym (ap (starts 58) (from_any-past-other
    (codes ":/?#") b rest (other-byte-is-none-of-four-marks b q s c)))) (cases_Bool (eqb b 58)))
    (cases_Bool (is_one_of (codes "/") b))) (cases_Bool (is_one_of (codes "?#") b))

-- splitting, relative references: without a scheme,
-- a first segment has `:` exactly where the text begins with it (58)
pub colon_in_first_segment-is-at-start : (bs : List ℕ) → has_scheme bs ≡ false
    → has_colon_in_first_segment (before_any (codes "?#") bs) ≡ starts 58 bs
colon_in_first_segment-is-at-start bs e =
    grind (arith, colon-in-first-segment-iff-colon-is-first-mark)

-- splitting, relative references: `%` is no character of a scheme
pub scheme_set_lacks_percent : LacksPercent scheme_set
scheme_set_lacks_percent = refl

-- splitting, relative references: no character of a scheme is `:`, `/`, `?` or `#`
pub scheme_set_excludes_delimiters : excludes scheme_set (codes ":/?#") ≡ true
scheme_set_excludes_delimiters = refl

module _ (segment : TableSet) (kind : Kind) (w : SeparatesComponents segment kind) where
  no-scheme-means-no-colon-after-segment : (bs : List ℕ) → IsUtf8 bs → has_scheme bs ≡ false
      → starts 58 (after segment bs) ≡ starts 58 bs
  no-scheme-means-no-colon-after-segment bs u e =
      grind (arith, scan_stops_at_first_colon, nothing-is-scanned-at-colon)

  -- where the first segment stops at no colon, the path stops too
  path-stops-where-segment-stops : (b : ℕ) (rest : List ℕ) → is_one_of (codes ":/") b ≡ false
      → valid_prefix segment (b ∷ rest) ≡ 0 → valid_prefix kind.path (b ∷ rest) ≡ 0
  path-stops-where-segment-stops b rest e z =
      grind (arith, nat_tests, valid_prefix_by_first_byte, successor_is_not_zero)

  path-stops-at-other-byte : (b : ℕ) (rest : List ℕ) → is_one_of (codes ":/?#") b ≡ false
      → valid_prefix segment (b ∷ rest) ≡ 0 → parses_path kind (b ∷ rest) ≡ false
  unfolding parses_path
  path-stops-at-other-byte b rest e z =
      let p = none-of-four-marks-is-none-of-two-pairs b e in
      let r : List ℕ = after kind.path (b ∷ rest) in
      and_right (not (is_stray kind.path r)) (parses_end kind r)
      (ap (λ n. parses_end kind (drop n (b ∷ rest))) (path-stops-where-segment-stops b rest p.0 z)
      ∙ parses_end-not-at-other segment kind w b rest p.1)

  pub after_path-after-segment : (bs : List ℕ) → after kind.path (after segment bs)
      ≡ after kind.path bs
  after_path-after-segment bs =
      grind (arith, nat_tests, drop-drop, valid_prefix_of_superset_goes_on_from_subset)

  pub parses_path-after-segment : (bs : List ℕ) → parses_path kind (after segment bs)
      ≡ parses_path kind bs
  unfolding parses_path
  parses_path-after-segment bs = ap (λ r. not (is_stray kind.path r) && parses_end kind r)
      (after_path-after-segment bs)

  percent-that-stops-segment-stops-path : (r : List ℕ) → starts 37 r ≡ true
      → valid_prefix segment r ≡ 0 → is_stray segment r ≡ true → parses_path kind r ≡ false
  unfolding parses_path
  percent-that-stops-segment-stops-path [] e z s = absurd (false≢true e)
  percent-that-stops-segment-stops-path (b ∷ rest) e z s =
      grind (arith, nat_tests, path-stops-where-segment-stops, is_stray, parses_end, not_from_true)

  -- a stray `%` stops the path as well
  test-after-path-makes-no-difference : (bs : List ℕ) (x : Bool)
      → (not (is_stray segment (after segment bs)) && (x && parses_path kind (after segment bs)))
      ≡ (x && parses_path kind (after segment bs))
  test-after-path-makes-no-difference bs x =
      grind (arith, percent-that-stops-segment-stops-path, nothing_is_scanned_after_valid_prefix)

  pub parses_relative-without-scheme : (bs : List ℕ) → IsUtf8 bs → has_scheme bs ≡ false
      → parses_relative segment kind bs ≡ (not (starts 58 bs) && parses_path kind bs)
  unfolding parses_relative
  parses_relative-without-scheme bs u e =
      test-after-path-makes-no-difference bs (not (starts 58 (after segment bs))) ∙ ap (λ t. not t
      && parses_path kind (after segment bs)) (no-scheme-means-no-colon-after-segment bs u e)
      ∙ ap (λ t. not (starts 58 bs) && t) (parses_path-after-segment bs)

  pub parses_relative-rejects-scheme : (bs : List ℕ) → IsUtf8 bs → has_scheme bs ≡ true
      → parses_relative segment kind bs ≡ false
  unfolding parses_relative
  parses_relative-rejects-scheme bs u e =
      test-after-path-makes-no-difference bs (not (starts 58 (after segment bs)))
      ∙ ⊎_elim (λ h. and_left _ _ (not_from_true _ (ap (λ n. starts 58 (drop n bs)) h
      ∙ (and_parts _ _ e).0))) (λ s. and_right _ _ (ap (parses_path kind) s.left
      ∙ path-stops-at-other-byte s.byte s.rest s.other s.stuck)) (scan-stops-at-first-mark-or-within
      (codes ":/?#") segment w.segment_lacks w.segment_marks bs u)

  -- what might have been a scheme is the beginning of the segment
  pub after_segment-after-scheme-chars : (bs : List ℕ) → after segment (after scheme_set bs)
      ≡ after segment bs
  after_segment-after-scheme-chars bs =
      drop-drop (valid_prefix segment (after scheme_set bs)) (valid_prefix scheme_set bs) bs
      ∙ ap (λ n. drop n bs) (sym (valid_prefix_of_superset_goes_on_from_subset scheme_set
      segment w.scheme_within scheme_set_lacks_percent bs))

  pub parses_relative-after-scheme-chars : (bs : List ℕ)
      → parses_relative segment kind (after scheme_set bs) ≡ parses_relative segment kind bs
  unfolding parses_relative
  parses_relative-after-scheme-chars bs = ap (λ r. not (is_stray segment r)
      && (not (starts 58 r) && parses_path kind r)) (after_segment-after-scheme-chars bs)
