use Rattle.uri_pct.proofs.LaneScans.DotLanes.{first_slash_dot_lane_is_at_most_16, no_slash_dot_where_no_slash, no_slash_dot_before_first_lane, no_slash_dot_where_mask_is_zero, slash_is_at_first_slash_dot_lane}
use Rattle.uri_pct.proofs.Common.{arith}
use Rattle.uri_pct.proofs.search.len_before_slash_dot.Goals as goal

pub returns-then-slashes-eq0-clause-none : goal.returns-then-slashes-eq0-clause-none
returns-then-slashes-eq0-clause-none c = grind (arith, no_slash_dot_where_no_slash)

pub returns-then-found-eq0-clause-none : goal.returns-then-found-eq0-clause-none
returns-then-found-eq0-clause-none c = grind (arith, no_slash_dot_where_mask_is_zero)

pub returns-clause-few : goal.returns-clause-few
returns-clause-few c = grind (arith, first_slash_dot_lane_is_at_most_16)

pub returns-clause-none : goal.returns-clause-none
returns-clause-none c = grind (arith, no_slash_dot_before_first_lane)

pub returns-clause-slash : goal.returns-clause-slash
returns-clause-slash c = grind (arith, slash_is_at_first_slash_dot_lane)
