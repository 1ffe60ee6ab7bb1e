use Rattle.uri_ops.proofs.Common.{arith, ◌≡◌, Bool, true, false, refl, both_ways, kind_by_flags, KindLacksPastAscii}
use Rattle.uri_ops.proofs.normalize.unchanged.lacks_past_ascii.Goals as goal

-- a kind of which queries have no characters past ASCII is one of URIs
kind-of-flags-lacks : (international needs : Bool)
    → (kind_by_flags international needs).query.ucschar ≡ false
    → KindLacksPastAscii (kind_by_flags international needs)
kind-of-flags-lacks true needs e = absurd (both_ways _ e refl)
kind-of-flags-lacks false needs e = grind arith

pub returns : goal.returns
returns g c = grind (arith, kind-of-flags-lacks)
