-- What a host means, by whether it begins with `[`.
use Rattle.uri_ops.proofs.Common.{◌≡◌, ℕ, true, false, List, map, arith, Option, str_to_ascii_lowercase, nat_tests, decode_unreserved, lower_token, TableSet, print, starts, IpvFuture, host_kind, literal_kind, name_kind, host_kind_of, host_meaning, host_text, common_steps}
use Rattle.uri_parts.specs.declared.component.HostOf.{HostOf}
use Rattle.uri_parts.specs.declared.net.Ipv6Addr.{Ipv6Addr}
use Rattle.uri_parts.specs.declared.component.HostOf.TheVariants as Of

-- meanings of hosts: an IPv4 address is written as a name is, decoded and in lower case
name_kind-prints-lowered-decoded-name : (names : TableSet) (host : List ℕ) (value : Option (List ℕ))
    → host_text (host_meaning names host (name_kind value))
    ≡ print (map lower_token (decode_unreserved names host))
name_kind-prints-lowered-decoded-name names host value = grind (arith, common_steps)

-- meanings of hosts: a host without `[` (91) is written decoded and in lower case
pub normal-name-is-lowered-decoded : (names : TableSet) (host : List ℕ) → starts 91 host ≡ false
    → host_text (host_meaning names host (host_kind host))
    ≡ print (map lower_token (decode_unreserved names host))
unfolding host_kind
normal-name-is-lowered-decoded names host s =
    grind (arith, nat_tests, name_kind-prints-lowered-decoded-name)

-- meanings of hosts: what is in brackets, and is no IPv6 address, is an IPvFuture address
literal-without-ipv6-is-ipvfuture : {N : Type 0} (h : HostOf N) (value : Option (List ℕ))
    → ((x : Ipv6Addr) → h ≡ Of.Ipv6 x → ⊥) → host_kind_of h ≡ literal_kind value
    → literal_kind value ≡ IpvFuture
literal-without-ipv6-is-ipvfuture h value other e = grind (arith, common_steps, other)

-- meanings of hosts: a host in brackets that is no IPv6 address is written in lower case
pub normal-ipvfuture-is-lowered : {N : Type 0} (h : HostOf N) (names : TableSet) (host : List ℕ)
    → ((x : Ipv6Addr) → h ≡ Of.Ipv6 x → ⊥) → starts 91 host ≡ true → host_kind_of h ≡ host_kind host
    → host_text (host_meaning names host (host_kind host)) ≡ str_to_ascii_lowercase host
unfolding host_kind
normal-ipvfuture-is-lowered h names host other s e =
    grind (arith, nat_tests, literal-without-ipv6-is-ipvfuture)
