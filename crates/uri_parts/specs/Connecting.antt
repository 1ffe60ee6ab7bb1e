-- Where an authority is to be reached: RFC 3986, sections 3.2.2 and 3.2.3.
use Rattle.std.specs.Prelude.{◌≡◌, ℕ, List, IsTrue, IsUtf8, ⊤, Result, Err, MatchResult, IsOkAnd}
use Rattle.uri_pct.specs.Prelude.{IsBorrowedText, bytes_decoded_from, cow_text, is_unencoded, tokens}
use Rattle.uri_parts.specs.declared.connect.SocketTarget.{SocketTarget}
use Rattle.uri_parts.specs.declared.connect.SocketTarget.TheVariants as Of
use Rattle.uri_parts.specs.declared.connect.SocketError.{SocketError}
use Rattle.uri_parts.specs.declared.connect.SocketError.TheVariants.{InvalidPort, UnsupportedMechanism, NameNotUtf8, OutOfMemory}
use Rattle.uri_parts.specs.Addresses.{ipv4_octets, ipv6_segments}
use Rattle.uri_parts.specs.Hosts.{HostKind, Ipv4, Ipv6, IpvFuture, RegName}

-- where an authority is reached: an IPv4 or IPv6 address by its numbers, or a name by its bytes;
-- and the port there (RFC 3986, sections 3.2.2 and 3.2.3)
pub data Target : Type 0 where
  V4 : List ℕ → ℕ → Target
  V6 : List ℕ → ℕ → Target
  Name : List ℕ → ℕ → Target

-- what a `SocketTarget` says: its address by its numbers, or its name by its bytes, and its port
abbrev pub socket_target_of : SocketTarget → Target
socket_target_of (Of.V4 address port) = V4 (ipv4_octets address) port
socket_target_of (Of.V6 address port) = V6 (ipv6_segments address) port
socket_target_of (Of.Name name port) = Name (cow_text name) port

-- the bytes that a registered name decodes to (RFC 3986, section 2.1)
abbrev pub name_bytes : List ℕ → List ℕ
name_bytes host = bytes_decoded_from (tokens host)

-- a registered name, given by its text, may be rejected with the error: its bytes are not UTF-8, or
-- it has a `%`, so that decoding needs memory
abbrev pub IsNameError : List ℕ → SocketError → Type 0
IsNameError host InvalidPort = ⊥
IsNameError host UnsupportedMechanism = ⊥
IsNameError host NameNotUtf8 = ¬ (IsUtf8 (name_bytes host))
IsNameError host OutOfMemory = ¬ (IsTrue (is_unencoded host))

-- r may be returned for the host of this kind, at the port: its target, an error for IPvFuture, or
-- one of decoding a name (RFC 3986, section 3.2.2)
abbrev pub IsTargetResultFor : List ℕ → HostKind → ℕ → Result SocketTarget SocketError → Type 0
IsTargetResultFor host (Ipv4 octets) port r = IsOkAnd r (λ t. socket_target_of t ≡ V4 octets port)
IsTargetResultFor host (Ipv6 segments) port r = IsOkAnd r (λ t. socket_target_of t
    ≡ V6 segments port)
IsTargetResultFor host IpvFuture port r = r ≡ Err UnsupportedMechanism
IsTargetResultFor host RegName port r =
    MatchResult r
    (λ t. (socket_target_of t ≡ Name (name_bytes host) port) × IsUtf8 (name_bytes host))
    (IsNameError host)

-- if the target is a name, its text is borrowed; an address passes
abbrev pub IsBorrowedTarget : SocketTarget → Type 0
IsBorrowedTarget (Of.V4 address port) = ⊤
IsBorrowedTarget (Of.V6 address port) = ⊤
IsBorrowedTarget (Of.Name name port) = IsBorrowedText name
