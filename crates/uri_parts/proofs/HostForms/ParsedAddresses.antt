-- What std parses of the text of an IPv4 address.
use Rattle.uri_parts.proofs.Common.{◌≡◌, List, ℕ, Some, None, sym, ⊎_elim, ipv4_octets, IsIpv4Text, ipv4_value}
use Rattle.std.specs.declared.net.ipv4_addr.Ipv4Addr.{Ipv4Addr}
use Rattle.uri_parts.proofs.HostForms.Addresses.{ipv4_value-complete, ipv4_value-sound}
use Rattle.uri_parts.proofs.HostForms.Hosts.{option-is-none-or-some}

-- IP addresses: what std parses as an IPv4 address has the octets that the grammar reads
pub parsed_ipv4_has_value_of_text : (text : List ℕ) (a : Ipv4Addr) → IsIpv4Text text a
    → Some (ipv4_octets a) ≡ ipv4_value text
parsed_ipv4_has_value_of_text text a h = sym (ipv4_value-complete text (ipv4_octets a) h)

-- IP addresses: what std rejects as an IPv4 address is none by the grammar
pub text-of-no-ipv4-has-no-value : (text : List ℕ) → ((a : Ipv4Addr) → ¬ (IsIpv4Text text a))
    → None ≡ ipv4_value text
text-of-no-ipv4-has-no-value text h = ⊎_elim (λ n. sym n)
    (λ (octets, e). absurd (h (record { octets = octets }) (ipv4_value-sound text octets e)))
    (option-is-none-or-some (ipv4_value text))
