use Rattle.uri_parts.proofs.Common.{arith}
use Rattle.uri_parts.proofs.Authorities.AuthorityPlaces.{userinfo_is_before_host}
use Rattle.uri_parts.proofs.component.Authority.userinfo.Goals as goal

pub new_or_panic-requires : goal.new_or_panic-requires
new_or_panic-requires g c = grind (arith, userinfo_is_before_host)
