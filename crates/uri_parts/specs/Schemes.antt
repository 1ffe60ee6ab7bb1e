-- What a `Scheme` holds: RFC 3986, section 3.1.
use Rattle.std.specs.Prelude.{ℕ, List}
use Rattle.std.specs.Str.{str_to_ascii_lowercase}
use Rattle.uri_parts.specs.declared.scheme.Scheme.{Scheme}

-- the text of a `Scheme`, as its bytes, without the `:`
abbrev pub scheme_text : Scheme → List ℕ
scheme_text s = s.text.now

-- the text of a `Scheme` in lower case, since schemes are the same in upper and lower case
-- (RFC 3986, section 3.1)
abbrev pub lowered_scheme : Scheme → List ℕ
lowered_scheme s = str_to_ascii_lowercase (scheme_text s)
