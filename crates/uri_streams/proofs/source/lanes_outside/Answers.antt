use Rattle.uri_streams.proofs.Common.{◌≡◌, ◌+◌, ◌<◌, ◌≤◌, ℕ, List, map, ◌^◌, ◌||◌, ◌&&◌, ◌∙◌, Bool, true, false, not, arith, bit_or, eqb, get_or, length, refl, replicate, subst, sym, ap, w8, ◌%◌, nat_le, length-map}
use Rattle.std.proofs.lemmas.Nat.{or_of_16}
use Rattle.uri_pct.proofs.Offered.{bit_of_bit_or, is_set_bit, mask_bit_is_test_of_byte, equality_mask_is_below_2_16, mask_bit_is_equality_of_byte}
use Rattle.std.specs.Simd.Lanes.{chunk, mask_l}
use Rattle.std.proofs.lemmas.Simd.{bitmask_splat, length-chunk, mask_l-lt, mask_l-mod, tops_compared, zip2_splat_left}
use Rattle.uri_streams.proofs.source.lanes_outside.Goals as goal

either : (a b : Bool) → (a || b) ≡ not (not a && not b)
either true true = refl
either true false = refl
either false true = refl
either false false = refl

-- the mask of the lanes that pass a test has sixteen bits
mask_is_below_2_16 : (test : ℕ → Bool) (bs : List ℕ) (i : ℕ) → i + 16 ≤ length bs
    → mask_l (map test (chunk i 16 bs)) < 2 ^ 16
mask_is_below_2_16 test bs i room =
    let ms = map test (chunk i 16 bs) in
    subst (λ n. mask_l ms < 2 ^ n)
    (length-map (chunk i 16 bs) test ∙ length-chunk i 16 bs room) (mask_l-lt ms)

-- the masks of the lanes that are past ASCII and of those that equal a byte
module _ (end : ℕ) (bs : List ℕ) (i : ℕ) (room : i + 16 ≤ length bs) (past ends : ℕ)
    (past_is : past ≡ mask_l (map (λ b. nat_le 128 b) (chunk i 16 bs)))
    (ends_is : ends ≡ mask_l (map (λ b. eqb b end) (chunk i 16 bs))) where
  masks_are_below_2_16 : bit_or past ends < 2 ^ 16
  masks_are_below_2_16 = or_of_16 past ends
      (subst (λ m. m < 2 ^ 16) (sym past_is) (mask_is_below_2_16 (λ b. nat_le 128 b) bs i room))
      (subst (λ m. m < 2 ^ 16) (sym ends_is) (equality_mask_is_below_2_16 end bs i room))

  masks_have_lanes_outside : (k : ℕ) → k < 16 → is_set_bit (bit_or past ends) k
      ≡ not (not (nat_le 128 (get_or bs (i + k) 0)) && not (eqb (get_or bs (i + k) 0) end))
  masks_have_lanes_outside k h =
      let b = get_or bs (i + k) 0 in
      bit_of_bit_or past ends k ∙ ap (λ x. x || is_set_bit ends k) (ap (λ m. is_set_bit m k) past_is
      ∙ mask_bit_is_test_of_byte (λ x. nat_le 128 x) bs i k room h) ∙ ap (λ x. nat_le 128 b || x)
      (ap (λ m. is_set_bit m k) ends_is ∙ mask_bit_is_equality_of_byte end bs i k room h)
      ∙ either (nat_le 128 b) (eqb b end)

-- the mask that a comparison with 128 gives
past_ascii : (lanes : List ℕ) → length lanes ≡ 16
    → mask_l (map (λ b. nat_le 128 b) lanes) % 2 ^ 64 ≡ mask_l (map (λ b. nat_le 128 b) lanes)
past_ascii lanes long = mask_l-mod (map (λ b. nat_le 128 b) lanes) 64
    (omega (arith, long, length-map lanes (λ b. nat_le 128 b)))

pub returns-clause-below : goal.returns-clause-below
returns-clause-below c =
    let lanes : List ℕ = chunk c.args.at 16 c.args.bytes.now in
    let long : length lanes ≡ 16 = length-chunk c.args.at 16 c.args.bytes.now c.requires in
    masks_are_below_2_16 c.args.end c.args.bytes.now c.args.at c.requires _ _
    (ap (λ marks. mask_l marks % 2 ^ 64) (tops_compared w8 nat_le (replicate 16 128) lanes
    ∙ zip2_splat_left nat_le 128 16 lanes long) ∙ past_ascii lanes long)
    (bitmask_splat w8 eqb lanes 16 c.args.end long (omega arith))

pub returns-clause-lane : goal.returns-clause-lane
returns-clause-lane c k h =
    let lanes : List ℕ = chunk c.args.at 16 c.args.bytes.now in
    let long : length lanes ≡ 16 = length-chunk c.args.at 16 c.args.bytes.now c.requires in
    masks_have_lanes_outside c.args.end c.args.bytes.now c.args.at c.requires _ _
    (ap (λ marks. mask_l marks % 2 ^ 64) (tops_compared w8 nat_le (replicate 16 128) lanes
    ∙ zip2_splat_left nat_le 128 16 lanes long) ∙ past_ascii lanes long)
    (bitmask_splat w8 eqb lanes 16 c.args.end long (omega arith)) k h
