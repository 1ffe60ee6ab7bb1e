use Rattle.uri_pct.proofs.Common.{arith, on_ok_weaker, parts_from}
use Rattle.uri_pct.proofs.decode.Decode.take_parts.Goals as goal

pub returns : goal.returns
unfolding parts_from
returns g c = grind (arith, on_ok_weaker)
