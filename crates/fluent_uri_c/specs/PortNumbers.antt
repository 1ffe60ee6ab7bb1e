-- Ports as numbers, as the caller learns them: RFC 3986, section 3.2.3.
use Rattle.std.specs.Prelude.{◌≡◌, ◌≢◌, ℕ, List, [], ◌∷◌, nat_lt, Option, Some, None, unwrap_or, if◌then◌else◌}
use Rattle.std.specs.Option.{option_map_or}
use Rattle.std.specs.Str.{str_to_ascii_lowercase}
use Rattle.fluent_uri.specs.Prelude.{Kind, components}
use Rattle.uri_ops.specs.Prelude.{is_scheme_text}
use Rattle.uri_parts.specs.Prelude.{default_port, port_value}
use Rattle.fluent_uri_c.specs.Errors.{number_of}
use Rattle.fluent_uri_c.specs.Spans.{parse_error, port_of}

-- what C gets in place of a number where there is no port, where it is empty, and where its number
-- is above 65535
abbrev pub no_port : ℕ
no_port = 65536

abbrev pub empty_port : ℕ
empty_port = 65537

abbrev pub port_too_large : ℕ
port_too_large = 65538

-- what C gets of a port: its number, from 0 to 65535, or why there is none (section 3.2.3)
abbrev pub port_code : Option (List ℕ) → ℕ
port_code None = no_port
port_code (Some []) = empty_port
port_code (Some (d ∷ digits)) =
    if nat_lt (port_value (d ∷ digits)) 65536 then port_value (d ∷ digits) else port_too_large

-- the default port of a scheme in any case, as the library has it, or 0 if it has none
abbrev pub default_port_code : List ℕ → ℕ
default_port_code scheme =
    if is_scheme_text scheme then unwrap_or (default_port (str_to_ascii_lowercase scheme)) 0
    else 0

-- what `fluent_uri_port_number` returns and writes for a text of the kind: 0 and what its port is,
-- or the number of the error, and then nothing has changed
pub record LeavesPortNumber (kind : Option Kind) (text : List ℕ) (old new returned : ℕ)
    : Type 0 where
  pub error : returned ≡ option_map_or (λ why. number_of why.error) (parse_error kind text) 0
  pub port : returned ≡ 0 → new ≡ port_code (port_of (components text).authority)
  pub kept : returned ≢ 0 → new ≡ old
