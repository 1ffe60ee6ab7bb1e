-- Which tokens a text or bytes are encoded as (RFC 3986, section 2.1; RFC 3987, section 3.1).
use Rattle.std.specs.Prelude.{◌≡◌, ◌-◌, ℕ, List, [], ◌∷◌, ◌++◌, map, take, drop, if◌then◌else◌}
use Rattle.std.specs.Char.{encode_utf8}
use Rattle.std.specs.List.{flat_map}
use Rattle.std.specs.Str.{chars}
use Rattle.uri_pct.specs.Sets.{TableSet, allows}
use Rattle.uri_pct.specs.Tokens.{Token, Char, Octet, print}
use Rattle.uri_pct.specs.Pieces.{Piece, WellFormed, IllFormed, char_of, utf8_pieces}

-- the tokens that a character is encoded as: itself if the set allows it, or else the octets of its
-- UTF-8 (RFC 3986, section 2.1; RFC 3987, section 3.1)
abbrev pub encode_char : TableSet → ℕ → List Token
encode_char set c = if allows set c then Char c ∷ [] else map Octet (encode_utf8 c)

-- the tokens that a text is encoded as: each of its characters that the set allows, and the octets
-- of the UTF-8 of each other (RFC 3986, section 2.1; RFC 3987, section 3.1)
abbrev pub encode_text : TableSet → List ℕ → List Token
encode_text set text = flat_map (encode_char set) (chars text)

-- encoded for the set, the text from start on is what the function `written` returns for its part
-- up to end, and then the encoding of what is after end
abbrev pub IsEncodedBy : (List ℕ → List ℕ) → TableSet → List ℕ → ℕ → ℕ → Type 0
IsEncodedBy written set text start end =
    print (encode_text set (drop start text)) ≡ written (take (end - start) (drop start text))
    ++ print (encode_text set (drop end text))

-- the tokens that a piece of bytes is encoded as: its character as one of a text, for the set, or
-- each byte of an ill-formed piece as an octet
abbrev pub encode_piece : TableSet → Piece → List Token
encode_piece set (WellFormed bytes) = encode_char set (char_of bytes)
encode_piece set (IllFormed bytes) = map Octet bytes

-- the tokens that bytes are encoded as: their characters as those of a text, for the set, and each
-- byte of an ill-formed part as an octet (RFC 3986, section 2.1)
abbrev pub encode_bytes : TableSet → List ℕ → List Token
encode_bytes set bytes = flat_map (encode_piece set) (utf8_pieces bytes)
