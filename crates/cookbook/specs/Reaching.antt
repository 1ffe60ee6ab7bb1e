-- Where a URI without a port is reached: RFC 3986, sections 3.2.2 and 3.2.3.
use Rattle.std.specs.Prelude.{◌≡◌, ℕ, List, Err, Result, unwrap_or}
use Rattle.std.specs.Option.{option_and_then}
use Rattle.std.specs.Str.{str_to_ascii_lowercase}
use Rattle.fluent_uri.specs.Prelude.{Components, FitsPort, IsTargetResultFor, authority_parts, default_port, host_kind, port_number}
use Rattle.fluent_uri.specs.declared.component.SocketError.{SocketError}
use Rattle.fluent_uri.specs.declared.component.SocketError.TheVariants.{InvalidPort}
use Rattle.fluent_uri.specs.declared.component.SocketTarget.{SocketTarget}

-- the port at which a caller's program reaches a URI that has none: the default port of its scheme,
-- or this number
abbrev pub default_port_or : Components → ℕ → ℕ
default_port_or p other =
    unwrap_or (option_and_then (λ s. default_port (str_to_ascii_lowercase s)) p.scheme) other

-- a caller's program may return this for an authority that it reaches at this port, if the
-- authority has none: where to connect to, or an error (sections 3.2.2 and 3.2.3)
pub record IsReachedAt (authority : List ℕ) (port : ℕ)
    (answer : Result SocketTarget SocketError) : Type 0 where
  pub target : FitsPort (port_number (authority_parts authority).port)
      → IsTargetResultFor (authority_parts authority).host
      (host_kind (authority_parts authority).host)
      (unwrap_or (port_number (authority_parts authority).port) port) answer
  pub invalid_port : ¬ (FitsPort (port_number (authority_parts authority).port))
      → answer ≡ Err InvalidPort
