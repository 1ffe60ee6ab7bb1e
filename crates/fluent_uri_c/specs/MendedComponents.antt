-- The result of mending a component of which some octets are percent-encoded already: RFC 3986,
-- section 2.4.
use Rattle.std.specs.Prelude.{ℕ, List, Ok}
use Rattle.fluent_uri.specs.Prelude.{TableSet}
use Rattle.uri_mend.specs.MendedParts.{mended}
use Rattle.fluent_uri_c.specs.Results.{Returned, rejection_or_result, utf8_error, with_valid_number}
use Rattle.fluent_uri_c.specs.Sets.{encoding_set}

-- the result of a call for C that mends bytes as a component by the set, or why they are rejected:
-- each `%` with two hexadecimal digits stays, and so does what the set has; all else becomes octets
abbrev pub mended_as_result : TableSet → List ℕ → Returned
mended_as_result set bytes = rejection_or_result (utf8_error bytes) (Ok (mended set bytes))

-- the result of `fluent_uri_mend_component` for a text and the component with a number of the C
-- header
abbrev pub mend_component_result : ℕ → List ℕ → Returned
mend_component_result n text = with_valid_number (encoding_set n) λ set. mended_as_result set text
