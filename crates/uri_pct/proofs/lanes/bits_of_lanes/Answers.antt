use Rattle.uri_pct.proofs.Common.{◌≡◌, ◌∙◌, ap, subst, sym, map, replicate, length, List, ℕ, bit_and, w8, arith, zip2_splat, SwzOk, swz_l, zip2, bit_in_mask_byte}
use Rattle.uri_pct.proofs.LaneScans.LaneMasks.{lanes_fit_swizzle, swizzle_is_lookup, bit_index_fits_swizzle, swizzle_reads_bit_of_byte, swizzle_bits}
use Rattle.uri_pct.proofs.lanes.bits_of_lanes.Goals as goal

places : (v : List ℕ) → length v ≡ 16
    → zip2 bit_and v (replicate 16 143) ≡ map (λ b. bit_and b 143) v
places v long = zip2_splat bit_and v 16 143 long

pub swizzle : goal.swizzle
swizzle c = subst (SwzOk w8 16 16 0) (sym (places c.args.lanes c.fits-lanes.0))
    (grind (arith, lanes_fit_swizzle, bit_index_fits_swizzle))

pub returns : goal.returns
returns c = ap (swz_l w8 16 swizzle_bits 0) (places c.args.lanes c.fits-lanes.0)
    ∙ swizzle_is_lookup swizzle_bits c.args.lanes (λ b. bit_and b 143) bit_in_mask_byte
    c.fits-lanes.0 c.fits-lanes.1 swizzle_reads_bit_of_byte
