use Rattle.uri_parts.proofs.Common.{◌≡◌, None, subst, ipv4_value}
use Rattle.uri_parts.proofs.HostForms.ParsedAddresses.{text-of-no-ipv4-has-no-value}
use Rattle.uri_parts.proofs.net.Ipv4Addr.parse.Goals as goal

pub returns-in-Err : goal.returns-in-Err
returns-in-Err c = subst (λ t. None ≡ ipv4_value t) c.as_bytes.ensures.value
    (text-of-no-ipv4-has-no-value _ c.in-Err.ensures)
