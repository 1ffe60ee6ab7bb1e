use Rattle.uri_parts.proofs.Common.{arith}
use Rattle.uri_parts.proofs.Authorities.AuthorityPlaces.{port_is_after_host, port_follows_host}
use Rattle.uri_parts.proofs.component.Authority.port.Goals as goal

pub returns-then-self-text : goal.returns-then-self-text
returns-then-self-text g c = grind (arith, port_is_after_host)

pub overflow_add-self : goal.overflow_add-self
overflow_add-self g c = grind (arith, port_follows_host)

pub range_from-requires : goal.range_from-requires
range_from-requires g c = grind (arith, port_follows_host)

pub new_or_panic-requires : goal.new_or_panic-requires
new_or_panic-requires g c = grind (arith, port_follows_host)

pub returns : goal.returns
returns g c = grind (arith, port_follows_host)
