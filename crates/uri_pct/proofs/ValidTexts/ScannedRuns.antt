-- A scan passes bytes and octets that the set allows.
use Rattle.uri_pct.proofs.Common.{◌≡◌, ℕ, zero, suc, ◌+◌, ◌<◌, ◌≤◌, Bool, true, false, List, length, get_or, drop, sym, ap, subst, ◌∙◌, arith, ⊎_elim, IsUtf8, IsCharBoundary, IsCharBoundary-after_ascii, cases_Bool, cases_lt, false_from_ne_true, TableSet, LacksPercent, valid_prefix, has_hex_digits_after, AreCharactersOrOctets, nat_tests}
use Rattle.uri_pct.proofs.ValidTexts.PrefixSteps.{valid_prefix_passes_ascii_char_of_set, valid_prefix_passes_octet, second_hex_digit_is_ascii}

-- bytes and octets that are lanes from i on; `oct` marks where octets begin
module _ (set : TableSet) (lacks : LacksPercent set) (pct : set.pct_encoded ≡ true)
    (ascii : (b : ℕ) → set.ascii b ≡ true → b < 128) (bs : List ℕ) (i n : ℕ)
    (room : i + n ≤ length bs) (oct : ℕ → Bool)
    (given : (k : ℕ) → k < n → oct k ≡ false → ((j : ℕ) → j < k → k ≤ j + 2 → oct j ≡ false)
    → set.ascii (get_or bs (i + k) 0) ≡ true)
    (percent : (k : ℕ) → oct k ≡ true → get_or bs (i + k) 0 ≡ 37)
    (digits : (k : ℕ) → oct k ≡ true → has_hex_digits_after bs (i + k) ≡ true)
    (whole : (k : ℕ) → k < n → oct k ≡ true → k + 3 ≤ n)
    (u : IsUtf8 bs) (here : IsCharBoundary bs i) where
  -- no octet that began before reaches so far
  abbrev IsFresh : ℕ → Type 0
  IsFresh k = (j : ℕ) → j < k → k ≤ j + 2 → oct j ≡ false

  abbrev IsScanned : ℕ → Type 0
  IsScanned k = (i + n + valid_prefix set (drop (i + n) bs)
      ≡ i + k + valid_prefix set (drop (i + k) bs)) × IsCharBoundary bs (i + n)

  byte_but_percent_begins_no_octet : (k : ℕ) → (get_or bs (i + k) 0 ≡ 37 → ⊥) → oct k ≡ false
  byte_but_percent_begins_no_octet k none = false_from_ne_true _ (λ o. none (percent k o))

  digits_of_octet_are_no_percent : (k : ℕ) → oct k ≡ true
      → (get_or bs (i + k + 1) 0 ≡ 37 → ⊥) × (get_or bs (i + k + 2) 0 ≡ 37 → ⊥)
  unfolding has_hex_digits_after
  digits_of_octet_are_no_percent k o = grind (arith, nat_tests)

  no_octet_goes_on_after_character : (k : ℕ) → IsFresh k → oct k ≡ false → IsFresh (k + 1)
  no_octet_goes_on_after_character k fresh none j l h = grind arith

  no_octet_goes_on_after_octet : (k : ℕ) → oct k ≡ true → IsFresh (k + 3)
  no_octet_goes_on_after_octet k o j l h =
      let none = digits_of_octet_are_no_percent k o in
      grind (arith, nat_tests, byte_but_percent_begins_no_octet)

  end_of_run_is_scanned : (k : ℕ) → n ≡ k → IsCharBoundary bs (i + k) → IsScanned k
  end_of_run_is_scanned k e b = grind (arith, nat_tests)

  run_is_scanned_from_index : (steps k : ℕ) → n ≤ k + steps → k ≤ n → IsFresh k
      → IsCharBoundary bs (i + k) → IsScanned k
  run_is_scanned_from_index zero k far near fresh b = end_of_run_is_scanned k (omega arith) b
  run_is_scanned_from_index (suc steps) k far near fresh b =
      ⊎_elim (λ (inside : k < n). ⊎_elim (λ o.
      let w = whole k inside o in
      let p = percent k o in
      let e = valid_prefix_passes_octet set bs (i + k) (omega arith) pct p (digits k o) in
      let next : i + k + 3 ≡ i + (k + 3) = omega arith in
      let last : i + k + 2 + 1 ≡ i + (k + 3) = omega arith in
      let suffix = IsCharBoundary-after_ascii bs (i + k + 2) u (omega arith)
      (second_hex_digit_is_ascii bs (i + k) (digits k o)) in
      let r : IsScanned (k + 3) = run_is_scanned_from_index steps (k + 3) (omega arith) w
      (no_octet_goes_on_after_octet k o) (subst (IsCharBoundary bs) last suffix) in
      let f : valid_prefix set (drop (i + k) bs) ≡ valid_prefix set (drop (i + (k + 3)) bs) + 3 = e
      ∙ ap (λ m. valid_prefix set (drop m bs) + 3) next in
      (omega (arith, r.0, f), r.1)) (λ o.
      let a = given k inside o fresh in
      let e = valid_prefix_passes_ascii_char_of_set set lacks bs (i + k) (omega arith)
      (ascii _ a) a in
      let next : i + k + 1 ≡ i + (k + 1) = omega arith in
      let suffix = IsCharBoundary-after_ascii bs (i + k) u (omega arith) (ascii _ a) in
      let r : IsScanned (k + 1) = run_is_scanned_from_index steps (k + 1) (omega arith)
      (omega arith) (no_octet_goes_on_after_character k fresh o)
      (subst (IsCharBoundary bs) next suffix) in
      let f : valid_prefix set (drop (i + k) bs) ≡ valid_prefix set (drop (i + (k + 1)) bs) + 1 = e
      ∙ ap (λ m. valid_prefix set (drop m bs) + 1) next in
      (omega (arith, r.0, f), r.1)) (cases_Bool (oct k)))
      (λ (end : n ≤ k). end_of_run_is_scanned k (omega arith) b) (cases_lt k n)

  run_is_scanned_from_start : (i + n + valid_prefix set (drop (i + n) bs)
      ≡ i + valid_prefix set (drop i bs)) × IsCharBoundary bs (i + n)
  run_is_scanned_from_start =
      let z : i + 0 ≡ i = omega arith in
      let r = run_is_scanned_from_index n 0 (omega arith) (omega arith)
      (λ j l h. absurd (omega arith)) (subst (IsCharBoundary bs) (sym z) here) in
      (r.0 ∙ ap (λ m. m + valid_prefix set (drop m bs)) z, r.1)

pub characters_and_octets_are_scanned : (set : TableSet) → LacksPercent set → set.pct_encoded ≡ true
    → ((b : ℕ) → set.ascii b ≡ true → b < 128) → (bs : List ℕ) (i n : ℕ) → i + n ≤ length bs
    → IsUtf8 bs → IsCharBoundary bs i → AreCharactersOrOctets set.ascii bs i n
    → (i + n + valid_prefix set (drop (i + n) bs) ≡ i + valid_prefix set (drop i bs))
    × IsCharBoundary bs (i + n)
characters_and_octets_are_scanned set lacks pct ascii bs i n room u here are =
    run_is_scanned_from_start set lacks pct ascii bs i n room are.octet are.pass are.percent
    are.digits are.whole u here

-- scanning: a scan passes an octet, and stops at a boundary of characters
pub octet_is_scanned : (set : TableSet) (bs : List ℕ) (i : ℕ) → IsUtf8 bs → set.pct_encoded ≡ true
    → i + 2 < length bs → get_or bs i 0 ≡ 37 → has_hex_digits_after bs i ≡ true
    → (i + 3 + valid_prefix set (drop (i + 3) bs) ≡ i + valid_prefix set (drop i bs))
    × IsCharBoundary bs (i + 3)
octet_is_scanned set bs i u pct within percent digits =
    let e = valid_prefix_passes_octet set bs i within pct percent digits in
    let f : i + 2 + 1 ≡ i + 3 = omega arith in (
      omega arith,
      subst (IsCharBoundary bs) f
          (IsCharBoundary-after_ascii bs (i + 2) u within (second_hex_digit_is_ascii bs i digits)),
    )
