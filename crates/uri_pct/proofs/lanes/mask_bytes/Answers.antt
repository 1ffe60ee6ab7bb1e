use Rattle.uri_pct.proofs.Common.{bytes_of_masks}
use Rattle.uri_pct.proofs.LaneScans.LaneMasks.{small_indices_fit_swizzle, swizzle_by_small_indices_is_lookup}
use Rattle.uri_pct.proofs.lanes.mask_bytes.Goals as goal

pub swizzle : goal.swizzle
swizzle c = small_indices_fit_swizzle (bytes_of_masks c.args.low c.args.high) c.args.indices
    c.fits-indices.0 c.requires

pub returns : goal.returns
returns c = swizzle_by_small_indices_is_lookup (bytes_of_masks c.args.low c.args.high)
    c.args.indices c.fits-indices.0 c.requires
