use Rattle.uri_parts.proofs.Common.{arith}
use Rattle.uri_parts.proofs.Authorities.AuthorityPlaces.{empty_is_authority}
use Rattle.uri_parts.proofs.component.Authority.new_empty.Goals as goal

pub invariant_of-result : goal.invariant_of-result
invariant_of-result g c = grind (arith, empty_is_authority)
