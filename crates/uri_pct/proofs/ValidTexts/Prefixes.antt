-- The longest prefix that a set allows: its length, and that of a greater set.
use Rattle.uri_pct.proofs.Common.{◌≡◌, ℕ, zero, suc, ◌+◌, ◌≤◌, true, false, eqb, List, [], ◌∷◌, length, drop, refl, sym, ap, ◌∙◌, arith, add-one, zero-add, eqb-true, continuation_len, TableSet, LacksPercent, IsSubset, allows_first, valid_prefix_from, valid_prefix, after, nat_tests}
use Rattle.uri_pct.proofs.ValidTexts.EStrs.{superset_allows_same_past_ascii}
use Rattle.uri_pct.proofs.ValidTexts.Validity.{ascii_first_byte_is_allowed_iff_in_set}

drop_of_one_more_drops_first_byte : (n : ℕ) (b : ℕ) (bs : List ℕ) → drop (n + 1) (b ∷ bs)
    ≡ drop n bs
drop_of_one_more_drops_first_byte n b bs = rw add-one refl

-- scanning: after the longest prefix that a set allows, it allows nothing; k: bytes to skip first
nothing_is_scanned_after_valid_prefix_from : (set : TableSet) (k : ℕ) (bs : List ℕ)
    → valid_prefix_from set 0 (drop (valid_prefix_from set k bs) bs) ≡ 0
unfolding valid_prefix_from
nothing_is_scanned_after_valid_prefix_from set zero [] = refl
nothing_is_scanned_after_valid_prefix_from set (suc k) [] = refl
nothing_is_scanned_after_valid_prefix_from set (suc k) (b ∷ bs) =
    rw (drop_of_one_more_drops_first_byte (valid_prefix_from set k bs) b bs)
    (nothing_is_scanned_after_valid_prefix_from set k bs)
nothing_is_scanned_after_valid_prefix_from set zero (b ∷ bs) = grind (
  arith,
  nat_tests,
  drop_of_one_more_drops_first_byte,
  nothing_is_scanned_after_valid_prefix_from set 2 bs,
  nothing_is_scanned_after_valid_prefix_from set (continuation_len b) bs,
)

-- scanning: after the longest prefix that a set allows, it allows nothing
pub nothing_is_scanned_after_valid_prefix : (set : TableSet) (bs : List ℕ)
    → valid_prefix set (after set bs) ≡ 0
nothing_is_scanned_after_valid_prefix set bs = nothing_is_scanned_after_valid_prefix_from set 0 bs

-- scanning: a scan ends within the text; k: bytes to skip first
valid_prefix_from_is_at_most_length : (set : TableSet) (k : ℕ) (bs : List ℕ)
    → valid_prefix_from set k bs ≤ length bs
unfolding valid_prefix_from
valid_prefix_from_is_at_most_length set zero [] = omega arith
valid_prefix_from_is_at_most_length set (suc k) [] = omega arith
valid_prefix_from_is_at_most_length set (suc k) (b ∷ bs) = let h =
    valid_prefix_from_is_at_most_length set k bs in omega arith
valid_prefix_from_is_at_most_length set zero (b ∷ bs) = grind (
  arith,
  nat_tests,
  valid_prefix_from_is_at_most_length set 2 bs,
  valid_prefix_from_is_at_most_length set (continuation_len b) bs,
)

-- scanning: a scan ends within the text
pub valid_prefix_is_at_most_length : (set : TableSet) (bs : List ℕ)
    → valid_prefix set bs ≤ length bs
valid_prefix_is_at_most_length set bs = valid_prefix_from_is_at_most_length set 0 bs

superset_allows_same_first_char : (small great : TableSet) → IsSubset small great
    → (b : ℕ) (bs : List ℕ) → allows_first small b bs ≡ true → allows_first great b bs ≡ true
unfolding allows_first
superset_allows_same_first_char small great w b bs e =
    grind (arith, nat_tests, superset_allows_same_past_ascii)

-- scanning: a scan for a set goes on from the start, if the scan for a subset stopped there
empty_prefix_of_subset_begins_that_of_superset : (small great : TableSet) (bs : List ℕ)
    → valid_prefix small bs ≡ 0 → valid_prefix great bs
    ≡ valid_prefix small bs + valid_prefix great (drop (valid_prefix small bs) bs)
empty_prefix_of_subset_begins_that_of_superset small great bs e = sym
    (ap (λ n. n + valid_prefix great (drop n bs)) e ∙ zero-add _)

-- general fact on numbers, for scans: one byte b more before a text moves the end of a scan by one
scan_with_one_more_byte_splits_alike : (great : TableSet) (b p n : ℕ) (bs : List ℕ) → p ≡ n
    + valid_prefix great (drop n bs) → p + 1 ≡ (n + 1) + valid_prefix great (drop (n + 1) (b ∷ bs))
scan_with_one_more_byte_splits_alike great b p n bs e = rw
    (drop_of_one_more_drops_first_byte n b bs) (omega arith)

-- scanning: no set has `%` (37) as a character
pub percent_is_not_allowed_first : (set : TableSet) → LacksPercent set → (b : ℕ) (bs : List ℕ)
    → eqb b 37 ≡ true → allows_first set b bs ≡ false
percent_is_not_allowed_first set lacks b bs e = let d = eqb-true
    b 37 e in ascii_first_byte_is_allowed_iff_in_set set b bs (omega arith) ∙ ap set.ascii d ∙ lacks

-- scanning: a scan for a set goes on where the scan for a subset
-- of it stopped; k: bytes to skip first
prefix_of_superset_goes_on_from_that_of_subset : (small great : TableSet) → IsSubset small great
    → LacksPercent small → (k : ℕ) (bs : List ℕ) → valid_prefix_from great k bs
    ≡ valid_prefix_from small k bs + valid_prefix great (drop (valid_prefix_from small k bs) bs)
unfolding valid_prefix_from
prefix_of_superset_goes_on_from_that_of_subset small great w lacks zero [] = refl
prefix_of_superset_goes_on_from_that_of_subset small great w lacks (suc k) [] = refl
prefix_of_superset_goes_on_from_that_of_subset small great w lacks (suc k) (b ∷ bs) =
    scan_with_one_more_byte_splits_alike great b _ _ bs
    (prefix_of_superset_goes_on_from_that_of_subset small great w lacks k bs)
prefix_of_superset_goes_on_from_that_of_subset small great w lacks zero (b ∷ bs) = grind (
  arith,
  nat_tests,
  scan_with_one_more_byte_splits_alike,
  empty_prefix_of_subset_begins_that_of_superset,
  percent_is_not_allowed_first,
  superset_allows_same_first_char,
  prefix_of_superset_goes_on_from_that_of_subset small great w lacks 2 bs,
  prefix_of_superset_goes_on_from_that_of_subset small great w lacks (continuation_len b) bs,
)

-- scanning: a scan for a set goes on where the scan for a subset of it stopped
pub valid_prefix_of_superset_goes_on_from_subset : (small great : TableSet) → IsSubset small great
    → LacksPercent small → (bs : List ℕ)
    → valid_prefix great bs ≡ valid_prefix small bs + valid_prefix great (after small bs)
valid_prefix_of_superset_goes_on_from_subset small great w lacks bs =
    prefix_of_superset_goes_on_from_that_of_subset small great w lacks 0 bs
