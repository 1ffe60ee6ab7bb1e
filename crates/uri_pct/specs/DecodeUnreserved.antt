-- Which octets normalising decodes to characters: RFC 3986, section 6.2.2.2, and RFC 3987, section
-- 5.3.2.3.
use Rattle.std.specs.Prelude.{◌≡◌, ℕ, Bool, false, not, ◌&&◌, ◌||◌, ◌==◌, nat_lt, List, [], ◌∷◌, ◌++◌, map, if◌then◌else◌}
use Rattle.std.specs.Int.{is_in_range}
use Rattle.std.specs.List.{flat_map}
use Rattle.std.specs.Char.{encode_utf8, to_ascii_lowercase}
use Rattle.std.specs.Str.{all_scalars, chars}
use Rattle.uri_pct.specs.Sets.{TableSet, is_unreserved, allows_past_ascii}
use Rattle.uri_pct.specs.Tokens.{Token, Char, Octet, tokens, print}
use Rattle.uri_pct.specs.Pieces.{Piece, WellFormed, IllFormed, char_of, utf8_pieces}
use Rattle.uri_pct.specs.Delimiters.{percent_sign}

-- normalising decodes the character in a component of this set: it is unreserved, or past ASCII and
-- in the set (RFC 3986, section 6.2.2.2; RFC 3987, section 5.3.2.3)
unfoldable pub is_decodable : TableSet → ℕ → Bool
is_decodable set c = is_unreserved c || allows_past_ascii set c

-- the set has no characters past ASCII, as that of each component of a URI
abbrev pub LacksPastAscii : TableSet → Type 0
LacksPastAscii set = (set.ucschar ≡ false) × (set.iprivate ≡ false)

-- a token as normalising a URI leaves it: the octet of an unreserved character becomes that
-- character (RFC 3986, section 6.2.2.2)
abbrev pub decode_octet : Token → Token
decode_octet (Char c) = Char c
decode_octet (Octet value) = if is_unreserved value then Char value else Octet value

-- what normalising an IRI makes of a UTF-8 piece of percent-encoded octets: its character if that
-- is decodable in the set, or else its octets (RFC 3987, section 5.3.2.3)
abbrev pub decode_piece : TableSet → Piece → List Token
decode_piece set (WellFormed bytes) =
    if is_decodable set (char_of bytes) then Char (char_of bytes) ∷ [] else map Octet bytes
decode_piece set (IllFormed bytes) = map Octet bytes

-- the tokens that normalising makes of a run of percent-encoded octets, which is given by its
-- values: it is decoded as UTF-8 where the set allows it (RFC 3987, section 5.3.2.3)
unfoldable pub decode_run : TableSet → List ℕ → List Token
decode_run set run = flat_map (decode_piece set) (utf8_pieces run)

-- the tokens that normalising makes of a run of percent-encoded octets, which is given by its
-- values, and of the tokens after it, with which the run may go on
unfoldable pub decode_after_run : TableSet → List ℕ → List Token → List Token
decode_after_run set run [] = decode_run set run
decode_after_run set run (Octet value ∷ ts) = decode_after_run set (run ++ value ∷ []) ts
decode_after_run set run (Char c ∷ ts) = decode_run set run ++ Char c ∷ decode_after_run set [] ts

-- the tokens with each maximal run of percent-encoded octets decoded as UTF-8 where the set allows
-- it (RFC 3987, section 5.3.2.3)
abbrev pub decode_tokens : TableSet → List Token → List Token
decode_tokens set ts = decode_after_run set [] ts

-- the character is a formatting character of bidirectional text: LRM, RLM, LRE, RLE, PDF, LRO or
-- RLO (RFC 3987, section 4.1)
unfoldable pub is_bidi_formatting : ℕ → Bool
is_bidi_formatting c = c == 0x200E || c == 0x200F || is_in_range 0x202A 0x202E c

-- the set percent-encodes the character: it is a formatting character of bidirectional text, which
-- an IRI must not contain (RFC 3987, section 4.1).
-- A set without percent-encoded octets has no other way to represent it.
unfoldable pub is_never_literal : TableSet → ℕ → Bool
is_never_literal set c = set.ucschar && set.pct_encoded && is_bidi_formatting c

-- the token, or the octets of its UTF-8 if it is a formatting character of bidirectional text that
-- the set percent-encodes (RFC 3987, section 4.1)
abbrev pub formatting_as_octets : TableSet → Token → List Token
formatting_as_octets set (Char c) =
    if is_never_literal set c then map Octet (encode_utf8 c) else Char c ∷ []
formatting_as_octets set (Octet value) = Octet value ∷ []

-- the token is a literal formatting character of bidirectional text: decode_unreserved leaves none,
-- if the set allows octets and ucschar
abbrev pub is_literal_formatting : Token → Bool
is_literal_formatting (Char c) = is_bidi_formatting c
is_literal_formatting (Octet value) = false

-- the tokens with each formatting character of bidirectional text replaced by the octets of its
-- UTF-8, if the set percent-encodes it (RFC 3987, section 4.1)
abbrev pub encode_formatting : TableSet → List Token → List Token
encode_formatting set ts = flat_map (formatting_as_octets set) ts

-- the tokens of a text as normalising leaves it: what is decodable in the set is decoded, and
-- bidirectional formatting is octets (RFC 3986, section 6.2.2.2; RFC 3987, section 5.3.2.3).
-- Each maximal run of octets is decoded as UTF-8. Formatting characters become octets, whether they
-- were characters or octets.
abbrev pub decode_unreserved : TableSet → List ℕ → List Token
decode_unreserved set text = encode_formatting set (decode_tokens set (tokens text))

-- the token with a literal ASCII letter in lower case; an octet is unchanged
abbrev pub lower_token : Token → Token
lower_token (Char c) = Char (to_ascii_lowercase c)
lower_token (Octet value) = Octet value

-- `tokens` returns the token for its printed text: it is a character other than `%`, or an octet
-- below 256
abbrev pub is_printable : Token → Bool
is_printable (Char c) = all_scalars (c ∷ []) && not (c == percent_sign)
is_printable (Octet value) = nat_lt value 256

-- the text of a character, which is percent-encoded if it is a formatting character of
-- bidirectional text (RFC 3987, section 4.1)
abbrev pub encoded_formatting_char : ℕ → List ℕ
encoded_formatting_char c = if is_bidi_formatting c then print (map Octet (encode_utf8 c))
    else encode_utf8 c

-- the text with its formatting characters of bidirectional text percent-encoded, and all others as
-- they are (RFC 3987, section 4.1)
abbrev pub encoded_formatting_text : List ℕ → List ℕ
encoded_formatting_text text = flat_map encoded_formatting_char (chars text)
