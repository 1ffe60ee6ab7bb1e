-- The first byte from a start on that fails a test, by the mask of its block, and octets after it.
use Rattle.std.proofs.lemmas.Grind.{common_steps}
use Rattle.uri_pct.proofs.Common.{◌≡◌, ℕ, ◌+◌, ◌-◌, ◌^◌, ◌<◌, ◌≤◌, Bool, true, false, not, eqb, leb, List, length, get_or, refl, sym, ap, subst, ◌∙◌, arith, w64, bit_and, ◌&&◌, ⊎_elim, bit_at, trailing_zeros, is_ascii_hexdigit, and-true, and_le_l, bit_at-zero, bit_at_above, bit_at_ones, cases_lt, cases_Bool, both_ways, eq-eqb, eqb-true, and_parts, and_from, and_right, not-true, leb-true, le-leb, has_hex_digits_after, AreCharactersOrOctets, IsLongestRun, is_lane_of_octet, nat_tests}
use Rattle.uri_pct.proofs.TableSets.Masks.{bit_of_bit_and, bit_that_is_not_one_is_zero}
use Rattle.uri_pct.proofs.LaneScans.LaneBits.{is_set_bit, trailing_zeros_is_first_set_lane}
use Rattle.uri_pct.proofs.LaneScans.OctetLanes.{first_is_false_if_and_is_false, lane_without_origin_is_in_no_octet, no_octet_begins_before_lane_outside, octets_before_lane_outside_are_whole}

-- bit k of the mask is set where the byte at i + k is one from start on that fails the test, and
-- those from start to i pass it
pub record MarksFailingLanesFrom (test : ℕ → Bool) (bs : List ℕ) (start i mask : ℕ) : Type 0 where
  pub below : mask < 2 ^ 16
  pub lane : (k : ℕ) → k < 16
      → is_set_bit mask k ≡ (leb start (i + k) && not (test (get_or bs (i + k) 0)))
  pub before : (k : ℕ) → start ≤ k → k < i → test (get_or bs k 0) ≡ true

-- a run of bytes that pass the test has no octet
pub passing_bytes_are_characters : (test : ℕ → Bool) (bs : List ℕ) (start end : ℕ)
    → IsLongestRun test bs start end → AreCharactersOrOctets test bs start (end - start)
passing_bytes_are_characters test bs start end run = record {
  octet = λ _. false;
  pass = λ k h _ _. run.pass (start + k) (omega arith) (omega arith);
  percent = λ k f. absurd (both_ways _ refl f);
  digits = λ k f. absurd (both_ways _ refl f);
  whole = λ k h f. absurd (both_ways _ refl f);
}

-- lane n is the first of sixteen that is set
pub record IsFirstLane (left n : ℕ) : Type 0 where
  pub within : n < 16
  pub set : is_set_bit left n ≡ true
  pub before : (k : ℕ) → k < n → is_set_bit left k ≡ false

-- the lanes of a mask that some other has are its own
lane_of_part : (left part k : ℕ) → is_set_bit part k ≡ true
    → is_set_bit (bit_and left part) k ≡ is_set_bit left k
lane_of_part left part k e = bit_of_bit_and left part k
    ∙ ap (λ b. is_set_bit left k && b) e ∙ and-true (is_set_bit left k)

lane_below_14 : (left k : ℕ) → k < 14 → is_set_bit (bit_and left 16383) k ≡ is_set_bit left k
lane_below_14 left k h = lane_of_part left 16383 k (ap (λ n. eqb n 1) (bit_at_ones 14 k h))

lane_from_14 : (left k : ℕ) → 14 ≤ k → k < 16
    → is_set_bit (bit_and left 49152) k ≡ is_set_bit left k
lane_from_14 left k from to = lane_of_part left 49152 k
    (⊎_elim (λ (h : k < 15). let e : k ≡ 14 = omega arith in ap (is_set_bit 49152) e)
    (λ (h : 15 ≤ k). let e : k ≡ 15 = omega arith in ap (is_set_bit 49152) e) (cases_lt k 15))

no_lane_of_zero : (mask k : ℕ) → mask ≡ 0 → is_set_bit mask k ≡ false
no_lane_of_zero mask k none = ap (λ n. is_set_bit n k) none ∙ ap (λ n. eqb n 1) (bit_at-zero k)

pub first_of_lower_lanes : (left : ℕ) → left < 2 ^ 16 → (bit_and left 16383 ≡ 0 → ⊥)
    → (trailing_zeros w64 (bit_and left 16383) < 14)
    × IsFirstLane left (trailing_zeros w64 (bit_and left 16383))
first_of_lower_lanes left below some =
    let low = bit_and left 16383 in
    let j = trailing_zeros w64 low in
    let f = trailing_zeros_is_first_set_lane low (omega (arith, below, and_le_l left 16383)) some in
    let both : (is_set_bit left j ≡ true) × (is_set_bit 16383 j ≡ true) =
    and_parts _ _ (sym (bit_of_bit_and left 16383 j) ∙ eq-eqb _ _ f.1) in
    let near : j < 14 = ⊎_elim (λ (h : j < 14). h) (λ (h : 14 ≤ j). absurd (both_ways _
    (ap (λ n. eqb n 1) (bit_at_above 16383 14 j (omega arith) h)) both.1)) (cases_lt j 14) in (
      near,
      record {
        within = f.0;
        set = both.0;
        before = λ k h. sym (lane_below_14 left k (omega (arith, h, near)))
            ∙ ap (λ n. eqb n 1) (f.2 k h);
      },
    )

pub first_of_last_lanes : (left : ℕ) → left < 2 ^ 16 → bit_and left 16383 ≡ 0
    → (bit_and left 49152 ≡ 0 → ⊥) → IsFirstLane left (trailing_zeros w64 (bit_and left 49152))
first_of_last_lanes left below none some =
    grind (arith, common_steps, trailing_zeros_is_first_set_lane)

pub no_lane_of_both_parts : (left : ℕ) → bit_and left 16383 ≡ 0 → bit_and left 49152 ≡ 0
    → (k : ℕ) → k < 16 → is_set_bit left k ≡ false
no_lane_of_both_parts left low high k h = ⊎_elim (λ (l : k < 14). sym (lane_below_14 left k l)
    ∙ no_lane_of_zero (bit_and left 16383) k low) (λ (l : 14 ≤ k). sym (lane_from_14 left k l h)
    ∙ no_lane_of_zero (bit_and left 49152) k high) (cases_lt k 14)

module _ (test : ℕ → Bool) (bs : List ℕ) (start i mask : ℕ)
    (m : MarksFailingLanesFrom test bs start i mask) where
  marked_lane_fails : (k : ℕ) → k < 16 → is_set_bit mask k ≡ true
      → (start ≤ i + k) × (test (get_or bs (i + k) 0) ≡ false)
  marked_lane_fails k h e =
      let p = and_parts _ _ (sym (m.lane k h) ∙ e) in (leb-true _ _ p.0, not-true _ p.1)

  unmarked_lane_passes : (k : ℕ) → k < 16 → start ≤ i + k → is_set_bit mask k ≡ false
      → test (get_or bs (i + k) 0) ≡ true
  unmarked_lane_passes k h from e = grind (arith, nat_tests)

  bytes_before_lane_pass : (n : ℕ) → n ≤ 16 → ((k : ℕ) → k < n → is_set_bit mask k ≡ false)
      → (x : ℕ) → start ≤ x → x < i + n → test (get_or bs x 0) ≡ true
  bytes_before_lane_pass n few clear x from to = ⊎_elim
      (λ (h : x < i). m.before x from h) (λ (h : i ≤ x). let e : i + (x - i) ≡ x = omega arith in
      subst (λ p. test (get_or bs p 0) ≡ true) e (unmarked_lane_passes (x - i)
      (omega arith) (omega arith) (clear (x - i) (omega arith)))) (cases_lt x i)

  -- the longest run ends at the first lane that is marked
  pub run_ends_at_first_marked_byte : (mask ≡ 0 → ⊥) → i + 16 ≤ length bs
      → IsLongestRun test bs start (i + trailing_zeros w64 mask)
  run_ends_at_first_marked_byte some room =
      let f = trailing_zeros_is_first_set_lane mask m.below some in
      let fails = marked_lane_fails (trailing_zeros w64 mask) f.0 (eq-eqb _ _ f.1) in
      record {
        from = fails.0;
        within = omega (arith, room, f.0);
        pass = bytes_before_lane_pass (trailing_zeros w64 mask) (omega (arith, f.0))
            (λ k h. ap (λ n. eqb n 1) (f.2 k h));
        stop = λ _. fails.1;
      }

  -- or where the text ends, if none is and the block is the last
  pub run_goes_on_to_end : mask ≡ 0 → i + 16 ≡ length bs → start ≤ length bs
      → IsLongestRun test bs start (length bs)
  run_goes_on_to_end none last within =
      grind (arith, nat_tests, bytes_before_lane_pass, bit_at-zero)

  -- the digits of an octet pass a test that all digits pass
  pub digits_of_octet_are_unmarked : ((c : ℕ) → is_ascii_hexdigit c ≡ true → test c ≡ true)
      → (k : ℕ) → k + 3 ≤ 16 → has_hex_digits_after bs (i + k) ≡ true
      → (bit_at mask (k + 1) ≡ 0) × (bit_at mask (k + 2) ≡ 0)
  unfolding has_hex_digits_after
  digits_of_octet_are_unmarked pass k room digits =
      let both = and_parts _ _ digits in
      let unmarked : (n : ℕ) → n < 16 → is_ascii_hexdigit (get_or bs (i + n) 0) ≡ true
      → bit_at mask n ≡ 0 = λ n h e. bit_that_is_not_one_is_zero mask n
      (m.lane n h ∙ and_right _ _ (ap not (pass (get_or bs (i + n) 0) e))) in (
        unmarked (k + 1) (omega (arith, room))
            (ap (λ p. is_ascii_hexdigit (get_or bs p 0)) (omega arith) ∙ both.0),
        unmarked (k + 2) (omega (arith, room))
            (ap (λ p. is_ascii_hexdigit (get_or bs p 0)) (omega arith) ∙ both.1),
      )

  -- octets begin at some of the lanes that are marked; what is left of these begins at lane n
  module _ (begun left n : ℕ) (few : n ≤ 16) (reach : start ≤ i + n)
      (inside : (k : ℕ) → is_set_bit begun k ≡ true → is_set_bit mask k ≡ true)
      (starts : (k : ℕ) → is_set_bit begun k ≡ true → (k + 3 ≤ 16)
      × (get_or bs (i + k) 0 ≡ 37) × (has_hex_digits_after bs (i + k) ≡ true))
      (lane : (k : ℕ) → k < 16
      → is_set_bit left k ≡ (is_set_bit mask k && not (is_lane_of_octet begun k)))
      (shut : (k : ℕ) → k < n → is_set_bit left k ≡ false)
      (ends : n < 16 → is_set_bit left n ≡ true) where
    abbrev begins : ℕ → Bool
    begins j = leb i (start + j) && is_set_bit begun (start + j - i)

    -- an octet that begins at a lane before lane k is one that begins at or after start
    origin_is_clear : (j k : ℕ) → i + k ≡ start + j → k < 16 → ((p : ℕ) → p < j
        → j ≤ p + 2 → begins p ≡ false) → (o : ℕ) → o < k → k ≤ o + 2 → is_set_bit begun o ≡ false
    origin_is_clear j k e h fresh o before near = ⊎_elim (λ (set : is_set_bit begun o ≡ true).
        let from = (marked_lane_fails o (omega (arith, h, before)) (inside o set)).0 in
        let p : ℕ = i + o - start in
        let here : start + p ≡ i + o = omega (arith, from) in
        let same : start + p - i ≡ o = omega (arith, here) in
        absurd (both_ways _ (fresh p (omega (arith, here, e, before))
        (omega (arith, here, e, near))) (ap (λ b. b && is_set_bit begun (start + p - i))
        (le-leb i (start + p) (omega (arith, here))) ∙ ap (is_set_bit begun) same ∙ set)))
        (λ (clear : is_set_bit begun o ≡ false). clear) (cases_Bool (is_set_bit begun o))

    octet_at : (j : ℕ) → begins j ≡ true → (i ≤ start + j)
        × (is_set_bit begun (start + j - i) ≡ true)
    octet_at j o = let p = and_parts _ _ o in (leb-true _ _ p.0, p.1)

    bytes_before_first_left_lane : AreCharactersOrOctets test bs start (i + n - start)
    bytes_before_first_left_lane = record {
      octet = begins;
      pass = λ j h o fresh. ⊎_elim
          (λ (l : start + j < i). m.before (start + j) (omega arith) l) (λ (l : i ≤ start + j).
          let k : ℕ = start + j - i in
          let e : i + k ≡ start + j = omega arith in
          let none : is_set_bit begun k ≡ false =
          sym (ap (λ b. b && is_set_bit begun k) (le-leb i (start + j) l)) ∙ o in
          subst (λ p. test (get_or bs p 0) ≡ true) e (unmarked_lane_passes k (omega arith)
          (omega arith) (first_is_false_if_and_is_false _ _ (sym (lane k (omega arith))
          ∙ shut k (omega arith)) (ap not (lane_without_origin_is_in_no_octet begun k none
          (origin_is_clear j k e (omega arith) fresh)))))) (cases_lt (start + j) i);
      percent = λ j o. let p = octet_at j o in
          let e : i + (start + j - i) ≡ start + j = omega (arith, p.0) in
          subst (λ x. get_or bs x 0 ≡ 37) e (starts (start + j - i) p.1).1;
      digits = λ j o. let p = octet_at j o in
          let e : i + (start + j - i) ≡ start + j = omega (arith, p.0) in
          subst (λ x. has_hex_digits_after bs x ≡ true) e (starts (start + j - i) p.1).2;
      whole = λ j h o. let p = octet_at j o in
          let w : start + j - i + 3 ≤ n = octets_before_lane_outside_are_whole begun n few
          (λ k b. (starts k b).0) (λ l. not-true _ (and_parts _ _ (sym (lane n l) ∙ ends l)).1)
          (start + j - i) (omega (arith, h, p.0)) p.1 in
          omega (arith, w, p.0);
    }

  -- octets that begin among these lanes, at all that are marked and begin one
  module _ (octets left : ℕ) (some : mask ≡ 0 → ⊥)
      (starts : (k : ℕ) → bit_at octets k ≡ 1 → (k + 3 ≤ 16) × (get_or bs (i + k) 0 ≡ 37)
      × (has_hex_digits_after bs (i + k) ≡ true))
      (all : (k : ℕ) → k + 3 ≤ 16 → get_or bs (i + k) 0 ≡ 37
      → has_hex_digits_after bs (i + k) ≡ true → bit_at octets k ≡ 1)
      (lane : (k : ℕ) → k < 16 → is_set_bit left k
      ≡ (is_set_bit mask k && not (is_lane_of_octet (bit_and octets mask) k))) where
    abbrev begun : ℕ
    begun = bit_and octets mask

    begun_is_marked : (k : ℕ) → is_set_bit begun k ≡ true
        → (is_set_bit octets k ≡ true) × (is_set_bit mask k ≡ true)
    begun_is_marked k e = and_parts _ _ (sym (bit_of_bit_and octets mask k) ∙ e)

    octet_begins : (k : ℕ) → is_set_bit begun k ≡ true → (k + 3 ≤ 16)
        × (get_or bs (i + k) 0 ≡ 37) × (has_hex_digits_after bs (i + k) ≡ true)
    octet_begins k e = starts k (eqb-true _ _ (begun_is_marked k e).0)

    pub start_is_within_block : start ≤ i + 16
    start_is_within_block =
        let f = trailing_zeros_is_first_set_lane mask m.below some in
        omega (arith, (marked_lane_fails (trailing_zeros w64 mask) f.0 (eq-eqb _ _ f.1)).0, f.0)

    pub block_without_left_lanes : ((k : ℕ) → k < 16 → is_set_bit left k ≡ false)
        → AreCharactersOrOctets test bs start (i + 16 - start)
    block_without_left_lanes none = bytes_before_first_left_lane begun left 16 (omega arith)
        start_is_within_block (λ k e. (begun_is_marked k e).1) octet_begins lane none
        (λ h. absurd (omega arith))

    module _ (n : ℕ) (first : IsFirstLane left n) where
      first_left_lane_is_marked : (is_set_bit mask n ≡ true) × (is_lane_of_octet begun n ≡ false)
      first_left_lane_is_marked =
          let p = and_parts _ _ (sym (lane n first.within) ∙ first.set) in (p.0, not-true _ p.1)

      pub first_left_lane_fails : (start ≤ i + n) × (test (get_or bs (i + n) 0) ≡ false)
      first_left_lane_fails = marked_lane_fails n first.within first_left_lane_is_marked.0

      pub bytes_before_left_lanes : AreCharactersOrOctets test bs start (i + n - start)
      bytes_before_left_lanes = bytes_before_first_left_lane begun left n
          (omega (arith, first.within)) first_left_lane_fails.0 (λ k e. (begun_is_marked k e).1)
          octet_begins lane first.before (λ _. first.set)

      -- a `%` among these has no digits, if there is room for them
      pub left_percent_is_stray : n < 14 → get_or bs (i + n) 0 ≡ 37
          → has_hex_digits_after bs (i + n) ≡ false
      left_percent_is_stray near percent =
          ⊎_elim (λ (e : has_hex_digits_after bs (i + n) ≡ true). absurd
          (both_ways _ (no_octet_begins_before_lane_outside begun n n first_left_lane_is_marked.1
          (omega arith) (omega arith)) (bit_of_bit_and octets mask n ∙ and_from _ _
          (eq-eqb _ _ (all n (omega (arith, near)) percent e)) first_left_lane_is_marked.0)))
          (λ (e : has_hex_digits_after bs (i + n) ≡ false). e)
          (cases_Bool (has_hex_digits_after bs (i + n)))
