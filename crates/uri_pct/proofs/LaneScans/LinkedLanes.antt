-- The lanes that are linked to those before them: a mask has those that are not.
use Rattle.uri_pct.proofs.Common.{◌≡◌, ℕ, ◌+◌, ◌-◌, ◌^◌, ◌<◌, ◌≤◌, Bool, true, false, not, eqb, List, get_or, sym, ap, ◌∙◌, arith, w64, bit_and, bit_or, ◌&&◌, ◌||◌, ⊎_elim, bit_at, bit_not, is_ascii_hexdigit, eq-eqb, or_left, or_right, or_parts, both_ways, cases_lt, HEXDIG_LOW, HEXDIG_HIGH, IsByteOfEncodedText, has_bit}
use Rattle.uri_pct.proofs.TableSets.Masks.{bit_of_bit_and, bit_of_bit_or, bit_of_bit_and_not}
use Rattle.uri_pct.proofs.LaneScans.LaneRuns.{MarksFailingLanes}
use Rattle.uri_pct.proofs.LaneScans.LaneBits.{is_set_bit, clear_lane_passes_test}
use Rattle.uri_pct.proofs.LaneScans.OctetLanes.{char_of_hex_masks_is_hexdigit, first_is_false_if_and_is_false}

module _ (test : ℕ → Bool) (bs : List ℕ) (i misses others percents one two : ℕ) (before : 2 ≤ i)
    (outside : MarksFailingLanes test bs i 16 misses)
    (no_digits : MarksFailingLanes (has_bit HEXDIG_LOW HEXDIG_HIGH) bs i 16 others)
    (fits : percents < 2 ^ 64)
    (here : (k : ℕ) → k < 16 → is_set_bit percents k ≡ eqb (get_or bs (i + k) 0) 37)
    (one_before : (k : ℕ) → k < 16 → is_set_bit one k ≡ eqb (get_or bs (i - 1 + k) 0) 37)
    (two_before : (k : ℕ) → k < 16 → is_set_bit two k ≡ eqb (get_or bs (i - 2 + k) 0) 37)
    (k : ℕ) (h : k < 16)
    (clear : bit_at
    (bit_or (bit_and misses (bit_not w64 percents)) (bit_and others (bit_or one two))) k ≡ 0)
  where
    neither_mask_of_unlinked_lanes_has_bit : (is_set_bit (bit_and misses (bit_not w64 percents)) k
        ≡ false) × (is_set_bit (bit_and others (bit_or one two)) k ≡ false)
    neither_mask_of_unlinked_lanes_has_bit = or_parts _ _ (sym (bit_of_bit_or (bit_and misses
        (bit_not w64 percents)) (bit_and others (bit_or one two)) k) ∙ ap (λ m. eqb m 1) clear)

    lane_after_percent_holds_hexdigit : (is_set_bit one k || is_set_bit two k) ≡ true
        → is_ascii_hexdigit (get_or bs (i + k) 0) ≡ true
    lane_after_percent_holds_hexdigit e = char_of_hex_masks_is_hexdigit _
        (clear_lane_passes_test _ bs i 16 others k no_digits h (first_is_false_if_and_is_false _ _
        (ap (λ b. is_set_bit others k && b) (sym (bit_of_bit_or one two k)) ∙ sym
        (bit_of_bit_and others (bit_or one two) k) ∙ neither_mask_of_unlinked_lanes_has_bit.1) e))

    -- the byte at a clear lane passes the test or is a `%`, and is a digit after a `%`
    pub clear_lane_holds_byte_of_encoded_text : IsByteOfEncodedText test bs (i + k)
    clear_lane_holds_byte_of_encoded_text = record {
      no_octet = λ e. clear_lane_passes_test test bs i 16 misses k outside h
          (first_is_false_if_and_is_false _ _ (sym (bit_of_bit_and_not misses percents k fits
          (omega arith)) ∙ neither_mask_of_unlinked_lanes_has_bit.0) (ap not (here k h ∙ e)));
      first = λ e.
          let p : i + k - 1 ≡ i - 1 + k = omega arith in
          lane_after_percent_holds_hexdigit (or_left _ _ (one_before k h
          ∙ eq-eqb _ _ (ap (λ j. get_or bs j 0) (sym p) ∙ e)));
      second = λ e.
          let p : i + k - 2 ≡ i - 2 + k = omega arith in
          lane_after_percent_holds_hexdigit (or_right _ _ (two_before k h
          ∙ eq-eqb _ _ (ap (λ j. get_or bs j 0) (sym p) ∙ e)));
    }

-- a block of bytes that all pass the test, which `%` does not: if none of the two bytes before it
-- is a `%`, each is a byte of encoded text
module _ (test : ℕ → Bool) (bs : List ℕ) (i : ℕ) (before : 2 ≤ i) (percent : test 37 ≡ false)
    (pass : (k : ℕ) → k < 16 → test (get_or bs (i + k) 0) ≡ true)
    (one_before : get_or bs (i - 1) 0 ≡ 37 → ⊥) (two_before : get_or bs (i - 2) 0 ≡ 37 → ⊥)
    (k : ℕ) (h : k < 16)
  where
    no_byte_of_block_is_percent : (j : ℕ) → j < 16 → get_or bs (i + j) 0 ≡ 37 → ⊥
    no_byte_of_block_is_percent j few e = both_ways _ percent (sym (ap test e) ∙ pass j few)

    byte_one_before_is_no_percent : get_or bs (i + k - 1) 0 ≡ 37 → ⊥
    byte_one_before_is_no_percent e = ⊎_elim (λ (first : k < 1). one_before
        (ap (λ j. get_or bs j 0) (omega arith) ∙ e)) (λ (later : 1 ≤ k). no_byte_of_block_is_percent
        (k - 1) (omega arith) (ap (λ j. get_or bs j 0) (omega arith) ∙ e)) (cases_lt k 1)

    byte_two_before_is_no_percent : get_or bs (i + k - 2) 0 ≡ 37 → ⊥
    byte_two_before_is_no_percent e = ⊎_elim
        (λ (first : k < 1). two_before (ap (λ j. get_or bs j 0) (omega arith) ∙ e)) (λ (later : 1
        ≤ k). ⊎_elim (λ (second : k < 2). one_before (ap (λ j. get_or bs j 0) (omega arith) ∙ e))
        (λ (third : 2 ≤ k). no_byte_of_block_is_percent (k - 2)
        (omega arith) (ap (λ j. get_or bs j 0) (omega arith) ∙ e)) (cases_lt k 2)) (cases_lt k 1)

    pub byte_of_plain_block_is_of_encoded_text : IsByteOfEncodedText test bs (i + k)
    byte_of_plain_block_is_of_encoded_text = record {
      no_octet = λ _. pass k h;
      first = λ e. absurd (byte_one_before_is_no_percent e);
      second = λ e. absurd (byte_two_before_is_no_percent e);
    }
