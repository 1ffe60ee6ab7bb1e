-- What an error of the parser says. RFC 3986, section 3, says which texts are rejected, and no RFC
-- with which error.
use Rattle.std.specs.Prelude.{◌≡◌, ℕ, ◌<◌, ◌-◌, List, ⊤, slice_index}
use Rattle.std.specs.Str.{IsCharBoundary}
use Rattle.uri_pct.specs.Prelude.{IsStrayPercent, left_bracket}
use Rattle.uri_parts.specs.declared.error.ParseError.{ParseError}
use Rattle.uri_parts.specs.declared.error.ParseErrorKind.{ParseErrorKind}
use Rattle.uri_parts.specs.declared.error.ParseErrorKind.TheVariants.{InvalidPctEncodedOctet, UnexpectedChar, InvalidIpv6Addr}

-- the index of a parse error: a byte offset in the text
abbrev pub error_index : ParseError → ℕ
error_index e = e.index

-- the kind of a parse error: what is wrong at its index
abbrev pub error_kind_of : ParseError → ParseErrorKind
error_kind_of e = e.kind

-- the kind of error is right for the text and the index: a stray `%` is there, or the `[` of an
-- IPv6 address is just before; an unexpected character or end may be at any
abbrev pub IsErrorKindAt : List ℕ → ParseErrorKind → ℕ → Type 0
IsErrorKindAt text InvalidPctEncodedOctet index = IsStrayPercent text index
IsErrorKindAt text UnexpectedChar index = ⊤
IsErrorKindAt text InvalidIpv6Addr index = (0 < index)
    × (slice_index text (index - 1) ≡ left_bracket)

-- the error is right for the text: its index is on a character boundary, and its kind says what is
-- wrong there
pub record IsErrorIn (text : List ℕ) (e : ParseError) : Type 0 where
  pub boundary : IsCharBoundary text e.index
  pub fault : IsErrorKindAt text e.kind e.index

-- the error that the character at index i is unexpected, or the end of the text there
abbrev pub unexpected : ℕ → ParseError
unexpected i = record { index = i; kind = UnexpectedChar }

-- the error that two hexadecimal digits do not follow the `%` at index i
abbrev pub stray_percent : ℕ → ParseError
stray_percent i = record { index = i; kind = InvalidPctEncodedOctet }

-- the error that the IPv6 address that begins at index i, just after its `[`, is malformed
abbrev pub malformed_ipv6 : ℕ → ParseError
malformed_ipv6 i = record { index = i; kind = InvalidIpv6Addr }
