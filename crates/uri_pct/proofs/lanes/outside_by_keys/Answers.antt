use Rattle.uri_pct.proofs.Common.{◌≡◌, ◌∙◌, ◌/◌, ◌^◌, ◌%◌, ap, eqb, cond, bit_and, map, length, get_or, replicate, List, ℕ, arith, length-map, map-map, zip2, mask_l, top, bytes_of_masks}
use Rattle.uri_pct.proofs.LaneScans.LaneMasks.{swizzle_mask_is_outside_set}
use Rattle.uri_pct.proofs.lanes.outside_by_keys.Goals as goal

mask_of : List ℕ → List ℕ → ℕ
mask_of a b = mask_l
    (map (top 7) (zip2 (λ x y. cond (eqb x y) 255 0) (zip2 bit_and a b) (replicate 16 0))) % 2 ^ 64

same : (a b c d : List ℕ) → a ≡ c → b ≡ d → mask_of a b ≡ mask_of c d
same a b c d p q = ap (λ l. mask_of l b) p ∙ ap (mask_of c) q

pub returns : goal.returns
unfolding mask_of
returns c bytes places bits =
    let byte : ℕ → ℕ = λ i. get_or (bytes_of_masks c.args.low c.args.high) i 0 in
    let long : length bytes ≡ 16 = grind (arith, length-map) in
    same c.mask_bytes.result c.args.bits _ _
    (c.mask_bytes.ensures ∙ ap (map byte) places ∙ map-map byte (λ b. b / 8 % 16) bytes) bits
    ∙ swizzle_mask_is_outside_set c.args.low c.args.high bytes long c.ranges.low.fits
