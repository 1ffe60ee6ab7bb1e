-- What an `EString` holds: RFC 3986, section 2.1.
use Rattle.std.specs.Prelude.{ℕ, List, string_bytes}
use Rattle.std.specs.String.{string_capacity}
use Rattle.uri_pct.specs.declared.estring.EString.{EString}

-- the text of an `EString`, as its bytes
abbrev pub owned_text : {E : _} {g : _} → EString E g → List ℕ
owned_text e = string_bytes e.text

-- how many bytes an `EString` may hold before it allocates again
abbrev pub owned_capacity : {E : _} {g : _} → EString E g → ℕ
owned_capacity e = string_capacity e.text
