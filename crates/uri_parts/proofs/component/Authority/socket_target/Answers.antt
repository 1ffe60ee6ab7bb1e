use Rattle.uri_parts.proofs.Common.{rules}
use Rattle.uri_parts.proofs.component.Authority.socket_target.Goals as goal

pub returns-in-Ipv4-clause-answer : goal.returns-in-Ipv4-clause-answer
returns-in-Ipv4-clause-answer g c = search rules
