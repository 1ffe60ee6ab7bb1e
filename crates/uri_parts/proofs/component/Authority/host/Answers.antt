use Rattle.uri_parts.proofs.Common.{arith}
use Rattle.uri_parts.proofs.Authorities.AuthorityPlaces.{host_is_at_positions}
use Rattle.uri_parts.proofs.component.Authority.host.Goals as goal

pub range-requires-clause-start_boundary : goal.range-requires-clause-start_boundary
range-requires-clause-start_boundary g c = grind (arith, host_is_at_positions)

pub range-requires-clause-end_boundary : goal.range-requires-clause-end_boundary
range-requires-clause-end_boundary g c = grind (arith, host_is_at_positions)

pub returns : goal.returns
returns g c = grind (arith, host_is_at_positions)
