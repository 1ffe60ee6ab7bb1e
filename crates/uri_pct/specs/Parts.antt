-- The decoded text in parts: literal text, and the UTF-8 pieces of each maximal run of octets (RFC
-- 3986, section 2.1; Unicode, section 3.9).
use Rattle.std.specs.Prelude.{ℕ, ◌≤◌, List, [], ◌∷◌, ◌++◌, map}
use Rattle.std.specs.List.{All, flat_map}
use Rattle.uri_pct.specs.Chunks.{Chunk, Text, Byte, chunks}
use Rattle.uri_pct.specs.Pieces.{Piece, IllFormed, utf8_pieces}

-- a part of the text that a text decodes to: literal text, or a UTF-8 piece of a run of
-- percent-encoded octets (RFC 3986, section 2.1)
pub data Part : Type 0 where
  Literal : List ℕ → Part
  Decoded : Piece → Part

-- the parts of chunks, with a run of octets before them that is given by its values
unfoldable pub parts_from : List ℕ → List Chunk → List Part
parts_from run [] = map Decoded (utf8_pieces run)
parts_from run (Byte value ∷ chunks) = parts_from (run ++ value ∷ []) chunks
parts_from run (Text text ∷ chunks) =
    map Decoded (utf8_pieces run) ++ Literal text ∷ parts_from [] chunks

-- the parts of a text: its literal texts, and the UTF-8 pieces of each maximal run of
-- percent-encoded octets (RFC 3986, section 2.1; Unicode, section 3.9)
abbrev pub parts : List ℕ → List Part
parts text = parts_from [] (chunks text)

-- the UTF-8 pieces of a part: those of its literal text, or its one piece of a run
abbrev pub part_pieces : Part → List Piece
part_pieces (Literal text) = utf8_pieces text
part_pieces (Decoded piece) = piece ∷ []

-- the UTF-8 pieces of parts, one part after the other
abbrev pub pieces_of_parts : List Part → List Piece
pieces_of_parts ps = flat_map part_pieces ps

-- the bytes as one ill-formed piece, or no piece if there are no bytes
abbrev pub ill_formed_piece_if_any : List ℕ → List Piece
ill_formed_piece_if_any [] = []
ill_formed_piece_if_any (b ∷ bytes) = IllFormed (b ∷ bytes) ∷ []

-- each of the bytes is past ASCII: it is 128 or more
abbrev pub ArePastAscii : List ℕ → Type 0
ArePastAscii bytes = All (λ b. 128 ≤ b) bytes
