-- Hosts in ASCII, as DNS has them: UTS 46, section 4.2, with the flags of RFC 3987, section 3.1.
use Rattle.std.specs.Prelude.{◌≡◌, ℕ, ◌&&◌, Bool, List, Option, Some, None, IsTrue, IsUtf8, ⊤, if◌then◌else◌}
use Rattle.std.specs.Char.{is_ascii}
use Rattle.std.specs.List.{list_all}
use Rattle.idna.specs.Uts46.{to_ascii}
use Rattle.idna.specs.declared.deny_list.TheConstants.AsciiDenyList.{STD3}
use Rattle.idna.specs.declared.options.Hyphens.TheVariants.{CheckFirstLast}
use Rattle.idna.specs.declared.options.DnsLength.TheVariants.{VerifyAllowRootDot}
use Rattle.uri_pct.specs.Prelude.{is_unencoded}
use Rattle.uri_parts.specs.Prelude.{HostKind, Ipv4, Ipv6, IpvFuture, RegName, host_kind, name_bytes}
use Rattle.uri_idna.specs.declared.error.AsciiHostError.{AsciiHostError}
use Rattle.uri_idna.specs.declared.error.AsciiHostError.TheVariants.{InvalidName, NameNotUtf8, OutOfMemory}

-- whether bytes are ASCII alone
abbrev pub is_ascii_text : List ℕ → Bool
is_ascii_text bytes = list_all is_ascii bytes

-- whether a host is ASCII alone and has no `%`, so that it stands for itself
abbrev pub is_unencoded_ascii : List ℕ → Bool
is_unencoded_ascii host = is_unencoded host && is_ascii_text host

-- a name in ASCII, if it is a domain name: ToASCII of UTS 46, section 4.2, where ASCII is letters,
-- digits and hyphens alone, no hyphen is at an end of a label, and the lengths are those of DNS; a
-- full stop may end the name (RFC 3987, section 3.1; RFC 3490, section 4.1)
abbrev pub dns_name : List ℕ → Option (List ℕ)
dns_name name = to_ascii STD3 CheckFirstLast VerifyAllowRootDot name

-- a registered name in ASCII, if it has one: itself, if it decodes to ASCII, or else the name in
-- ASCII of what it decodes to (RFC 3987, section 3.1)
abbrev pub ascii_name : List ℕ → Option (List ℕ)
ascii_name host =
    if is_ascii_text (name_bytes host) then Some host else dns_name (name_bytes host)

-- a host of this kind in ASCII, if it has such a form: an address stays
abbrev pub ascii_host_of : HostKind → List ℕ → Option (List ℕ)
ascii_host_of (Ipv4 octets) host = Some host
ascii_host_of (Ipv6 segments) host = Some host
ascii_host_of IpvFuture host = Some host
ascii_host_of RegName host = ascii_name host

-- a host in ASCII, if it has such a form
abbrev pub ascii_host : List ℕ → Option (List ℕ)
ascii_host host = ascii_host_of (host_kind host) host

-- a name may be rejected as one for DNS with the error
abbrev pub IsDnsNameError : List ℕ → AsciiHostError → Type 0
IsDnsNameError name NameNotUtf8 = ⊥
IsDnsNameError name InvalidName = dns_name name ≡ None
IsDnsNameError name OutOfMemory = ⊤

-- a registered name may be rejected with the error: its bytes are not UTF-8; or they are, and it
-- has no name in ASCII; or it is encoded or past ASCII, so that it needs memory
abbrev pub IsAsciiNameError : List ℕ → AsciiHostError → Type 0
IsAsciiNameError host NameNotUtf8 = ¬ (IsUtf8 (name_bytes host))
IsAsciiNameError host InvalidName = IsUtf8 (name_bytes host) × (ascii_name host ≡ None)
IsAsciiNameError host OutOfMemory = ¬ (IsTrue (is_unencoded_ascii host))

-- a host may be rejected with the error: it is a registered name, and that may be
abbrev pub IsAsciiHostError : List ℕ → AsciiHostError → Type 0
IsAsciiHostError host error = (host_kind host ≡ RegName) × IsAsciiNameError host error
