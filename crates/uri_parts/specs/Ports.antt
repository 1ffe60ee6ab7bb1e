-- Ports as numbers, and the default ports of schemes: RFC 3986, sections 3.2.3 and 6.2.3.
use Rattle.std.specs.Prelude.{ℕ, ◌<◌, List, [], ◌∷◌, Option, Some, None, IfSome, Bool, false, ◌==◌}
use Rattle.std.specs.Str.Parse.{digits_value}

-- the number that a port's digits write: leading zeros make no difference (RFC 3986, section 3.2.3)
abbrev pub port_value : List ℕ → ℕ
port_value digits = digits_value 10 digits

-- the number of a port, or `None` if it is absent or empty (RFC 3986, section 3.2.3)
abbrev pub port_number : Option (List ℕ) → Option ℕ
port_number None = None
port_number (Some []) = None
port_number (Some (d ∷ digits)) = Some (port_value (d ∷ digits))

-- the number of a port, where there is one, is no greater than 65535
abbrev pub FitsPort : Option ℕ → Type 0
FitsPort number = IfSome number (λ n. n < 65536)

-- a function from a scheme, which is given in lower case, to its default port, where it has one
-- (RFC 3986, section 6.2.3)
abbrev pub PortFunction : Type 0
PortFunction = List ℕ → Option ℕ

-- the function by which no scheme has a default port (RFC 3986, section 6.2.3)
abbrev pub no_defaults : PortFunction
no_defaults scheme = None

-- the digits of a port write the default port of its scheme, where that has one (RFC 3986,
-- section 6.2.3)
abbrev pub is_default : Option ℕ → List ℕ → Bool
is_default None digits = false
is_default (Some port) digits = port_value digits == port
