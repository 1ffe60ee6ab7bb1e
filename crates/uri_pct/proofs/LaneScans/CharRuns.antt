-- A run of characters of ASCII and of parts of characters from U+00C0 to U+D7FF is scanned.
use Rattle.uri_pct.proofs.Common.{◌≡◌, ℕ, zero, suc, ◌+◌, ◌<◌, ◌≤◌, Bool, true, not, eqb, List, length, get_or, drop, ap, arith, ⊎_elim, ◌&&◌, nat_le, IsUtf8, IsCharBoundary, IsCharBoundary-after_ascii, cases_lt, or_cases, both_ways, nat_tests, TableSet, LacksPercent, valid_prefix, IsLongestRun, is_char_byte}
use Rattle.uri_pct.proofs.ValidTexts.PrefixSteps.{valid_prefix_passes_ascii_char_of_set}
use Rattle.uri_pct.proofs.TableSets.LeadBytes.{scan_passes_two_bytes, scan_passes_three_bytes, past_ascii_lead_is_at_least_c2, second_byte_past_ascii_continues, third_byte_from_e0_continues}

-- sixteen bytes at a time: the byte may be a part of a character from U+00C0 to U+D7FF
abbrev is_byte_of_char_part : ℕ → Bool
is_byte_of_char_part b = nat_le b 237 && not (nat_le b 127) && not (eqb b 194)

-- sixteen bytes at a time: a byte from 80 to ED (237), but C2 (194),
-- may be in a character from U+00C0 to U+D7FF
byte_from_128_to_237_is_char_part : (b : ℕ) → 128 ≤ b → b ≤ 237 → (b ≡ 194 → ⊥)
    → is_byte_of_char_part b ≡ true
byte_from_128_to_237_is_char_part b from to other = grind (arith, nat_tests)

-- sixteen bytes at a time: a byte of a character from U+00C0 to
-- U+D7FF is from 80 to ED (237), but not C2 (194)
char_part_is_from_128_to_237 : (b : ℕ) → is_byte_of_char_part b ≡ true → (128 ≤ b) × (b ≤ 237)
    × (b ≡ 194 → ⊥)
char_part_is_from_128_to_237 b e = grind (arith, nat_tests)

module _ (set : TableSet) (lacks : LacksPercent set) (flag : set.ucschar ≡ true)
    (ascii : (b : ℕ) → set.ascii b ≡ true → b < 128) (bs : List ℕ) (u : IsUtf8 bs)
    (start end : ℕ) (run : IsLongestRun (is_char_byte set.ascii) bs start end) where
  -- a run does not end before a byte that continues a character
  char_run_ends_at_no_continuation_byte : (k : ℕ) → end ≡ k → k < length bs → 128 ≤ get_or bs k 0
      → get_or bs k 0 < 192 → ⊥
  char_run_ends_at_no_continuation_byte k e inside from to =
      both_ways _ (run.stop (omega (arith, e, inside)))
      (grind (arith, nat_tests, byte_from_128_to_237_is_char_part))

  pub char_run_ends_at_boundary : IsCharBoundary bs end
  char_run_ends_at_boundary = grind (arith, nat_tests, char_run_ends_at_no_continuation_byte)

  abbrev IsScannedFrom : ℕ → Type 0
  IsScannedFrom i = end + valid_prefix set (drop end bs) ≡ i + valid_prefix set (drop i bs)

  scanned_from_next_char_is_scanned_from_this : (i n : ℕ) → valid_prefix set (drop i bs)
      ≡ valid_prefix set (drop (i + n) bs) + n → IsScannedFrom (i + n) → IsScannedFrom i
  scanned_from_next_char_is_scanned_from_this i n e r = omega (arith, e, r)

  char_run_is_scanned_from_boundary : (steps i : ℕ) → end ≤ i + steps → i ≤ end → start ≤ i
      → IsCharBoundary bs i → IsScannedFrom i
  char_run_is_scanned_from_boundary zero i far near from here = let e : end ≡ i = omega arith in
      ap (λ n. n + valid_prefix set (drop n bs)) e
  char_run_is_scanned_from_boundary (suc steps) i far near from here = ⊎_elim (λ (inside : i < end).
      let w = run.within in
      let within : i < length bs = omega arith in
      let b : ℕ = get_or bs i 0 in
      ⊎_elim (λ (given : set.ascii b ≡ true).
      let e = valid_prefix_passes_ascii_char_of_set set lacks bs i within (ascii _ given) given in
      scanned_from_next_char_is_scanned_from_this i 1 e (char_run_is_scanned_from_boundary steps
      (i + 1) (omega arith) (omega arith) (omega arith) (IsCharBoundary-after_ascii bs i u within
      (ascii _ given)))) (λ (p : is_byte_of_char_part b ≡ true).
      let range = char_part_is_from_128_to_237 b p in
      let lead = past_ascii_lead_is_at_least_c2 set bs i u here within flag range.0 in
      let high : 195 ≤ b = omega (arith, lead, range.2) in
      let second = second_byte_past_ascii_continues set bs i u here within flag range.0 in
      ⊎_elim (λ (two : b < 224).
      let r = scan_passes_two_bytes set bs i u here within flag high two in
      let room : i + 2 ≤ end = ⊎_elim (λ (l : end < i + 2). let e : end ≡ i + 1 = omega arith in
      absurd (char_run_ends_at_no_continuation_byte (i + 1) e
      (omega (arith, r.1.0)) second.0 second.1)) (λ (l : i + 2 ≤ end). l) (cases_lt end (i + 2)) in
      scanned_from_next_char_is_scanned_from_this i 2 r.0 (char_run_is_scanned_from_boundary steps
      (i + 2) (omega arith) room (omega arith) r.1)) (λ (three : 224 ≤ b).
      let r = scan_passes_three_bytes set bs i u here within flag three range.1 in
      let third = third_byte_from_e0_continues set bs i u here within flag three in
      let room : i + 3 ≤ end =
      ⊎_elim (λ (l : end < i + 3). ⊎_elim (λ (m : end < i + 2). let e : end ≡ i + 1 = omega arith in
      absurd (char_run_ends_at_no_continuation_byte (i + 1) e (omega (arith, r.1.0))
      second.0 second.1))
      (λ (m : i + 2 ≤ end). let e : end ≡ i + 2 = omega arith in
      absurd
      (char_run_ends_at_no_continuation_byte (i + 2) e (omega (arith, r.1.0)) third.0 third.1))
      (cases_lt end (i + 2))) (λ (l : i + 3 ≤ end). l) (cases_lt end (i + 3)) in
      scanned_from_next_char_is_scanned_from_this i 3 r.0
      (char_run_is_scanned_from_boundary steps (i + 3) (omega arith) room (omega arith) r.1))
      (cases_lt b 224)) (or_cases _ _ (run.pass i from inside)))
      (λ (end_there : end ≤ i). let e : end ≡ i = omega arith in
      ap (λ n. n + valid_prefix set (drop n bs)) e) (cases_lt i end)

  pub char_run_is_scanned_from_start : IsCharBoundary bs start → IsScannedFrom start
  char_run_is_scanned_from_start here = char_run_is_scanned_from_boundary end start
      (omega arith) run.from (omega arith) here

-- sixteen bytes at a time: a run that begins with a byte from C3 to ED is not empty
pub char_part_begins_nonempty_run : (ascii : ℕ → Bool) (bs : List ℕ) (start : ℕ)
    → IsLongestRun (is_char_byte ascii) bs start start → start < length bs
    → 195 ≤ get_or bs start 0 → get_or bs start 0 ≤ 237 → ⊥
char_part_begins_nonempty_run ascii bs start run inside from to =
    grind (arith, nat_tests, byte_from_128_to_237_is_char_part)
