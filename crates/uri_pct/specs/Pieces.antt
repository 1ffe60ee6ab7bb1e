-- The characters and the ill-formed parts of bytes: Unicode, section 3.9, table 3-7.
use Rattle.std.specs.Prelude.{◌≡◌, ℕ, zero, suc, Bool, true, false, ◌==◌, List, [], ◌∷◌, length, take, Option, Some, None, option_map, slice_index, if◌then◌else◌}
use Rattle.std.specs.Char.{encode_utf8, IsScalar}
use Rattle.std.specs.Int.{is_in_range}
use Rattle.std.specs.List.{find, flat_map}
use Rattle.std.specs.Str.{chars}
use Rattle.std.specs.Str.Lossy.{replacement_bytes}

-- a piece of bytes taken as UTF-8: those of one character, or a maximal part that is ill-formed
-- (Unicode, section 3.9)
pub data Piece : Type 0 where
  WellFormed : List ℕ → Piece
  IllFormed : List ℕ → Piece

-- the bytes of a piece, well-formed or not
abbrev pub piece_bytes : Piece → List ℕ
piece_bytes (WellFormed bytes) = bytes
piece_bytes (IllFormed bytes) = bytes

-- the piece is the bytes of a character, and not an ill-formed part
abbrev pub is_well_formed : Piece → Bool
is_well_formed (WellFormed bytes) = true
is_well_formed (IllFormed bytes) = false

-- a range of bytes: the least and the greatest, both in it
abbrev pub ByteRange : Type 0
ByteRange = ℕ × ℕ

-- the byte b is in the range, whose least and greatest are in it too
abbrev pub is_in_byte_range : ByteRange → ℕ → Bool
is_in_byte_range range b = is_in_range range.0 range.1 b

-- the range of the bytes that continue a character in UTF-8: 80 to BF
abbrev pub continuation : ByteRange
continuation = (0x80, 0xBF)

-- a row of Unicode's table 3-7: the range of the first byte of a character, and those of the bytes
-- that follow, one after the other
abbrev pub Row : Type 0
Row = ByteRange × List ByteRange

-- the rows of Unicode's table 3-7: which byte sequences are well-formed UTF-8
abbrev pub well_formed_rows : List Row
well_formed_rows =
    ((0x00, 0x7F), [])
    ∷ ((0xC2, 0xDF), continuation ∷ [])
    ∷ ((0xE0, 0xE0), (0xA0, 0xBF) ∷ continuation ∷ [])
    ∷ ((0xE1, 0xEC), continuation ∷ continuation ∷ [])
    ∷ ((0xED, 0xED), (0x80, 0x9F) ∷ continuation ∷ [])
    ∷ ((0xEE, 0xEF), continuation ∷ continuation ∷ [])
    ∷ ((0xF0, 0xF0), (0x90, 0xBF) ∷ continuation ∷ continuation ∷ [])
    ∷ ((0xF1, 0xF3), continuation ∷ continuation ∷ continuation ∷ [])
    ∷ ((0xF4, 0xF4), (0x80, 0x8F) ∷ continuation ∷ continuation ∷ [])
    ∷ []

-- the text begins with a byte that continues a character in UTF-8: one from 80 to BF
abbrev pub begins_with_continuation : List ℕ → Bool
begins_with_continuation [] = false
begins_with_continuation (b ∷ rest) = is_in_byte_range continuation b

-- the ranges of the bytes after the first byte b of a character, or `None` if no character begins
-- with it (Unicode, table 3-7)
unfoldable pub following_ranges : ℕ → Option (List ByteRange)
following_ranges b =
    option_map (λ (row : Row). row.1)
    (find (λ (row : Row). is_in_byte_range row.0 b) well_formed_rows)

-- how many bytes at the start of the text are in the ranges, one after the other
abbrev pub len_in_ranges : List ByteRange → List ℕ → ℕ
len_in_ranges [] text = 0
len_in_ranges (range ∷ ranges) [] = 0
len_in_ranges (range ∷ ranges) (b ∷ rest) = if is_in_byte_range range b then suc
    (len_in_ranges ranges rest) else 0

-- how many bytes a UTF-8 piece has after its first; given are the ranges of what may follow that
-- one, or `None`, and the bytes that follow
abbrev pub first_piece_tail_len : Option (List ByteRange) → List ℕ → ℕ
first_piece_tail_len None rest = 0
first_piece_tail_len (Some ranges) rest = len_in_ranges ranges rest

-- the UTF-8 piece that begins with the byte b, which rest follows: a character; or else the longest
-- prefix of one, or b alone. The ranges are those of what may follow b, or `None`.
abbrev pub first_piece : Option (List ByteRange) → ℕ → List ℕ → Piece
first_piece None b rest = IllFormed (b ∷ [])
first_piece (Some ranges) b rest =
    let n = len_in_ranges ranges rest in
    if n == length ranges then WellFormed (b ∷ take n rest) else IllFormed (b ∷ take n rest)

-- the UTF-8 pieces of bytes, of which the first `skip` belong to a piece that has begun before them
unfoldable pub pieces_from : ℕ → List ℕ → List Piece
pieces_from skip [] = []
pieces_from zero (b ∷ rest) =
    first_piece (following_ranges b) b rest ∷ pieces_from
    (first_piece_tail_len (following_ranges b) rest) rest
pieces_from (suc k) (b ∷ rest) = pieces_from k rest

-- the pieces of bytes taken as UTF-8: characters, and maximal ill-formed parts
-- (Unicode, section 3.9)
abbrev pub utf8_pieces : List ℕ → List Piece
utf8_pieces bytes = pieces_from 0 bytes

-- the bytes of the pieces, one after the other
abbrev pub bytes_of_pieces : List Piece → List ℕ
bytes_of_pieces pieces = flat_map piece_bytes pieces

-- the character whose UTF-8 these bytes are, as its code
abbrev pub char_of : List ℕ → ℕ
char_of bytes = slice_index (chars bytes) 0

-- the piece, if it is well-formed, is the UTF-8 of its character; any ill-formed one passes
abbrev pub IsOfCharacter : Piece → Type 0
IsOfCharacter (WellFormed bytes) = IsScalar (char_of bytes) × (encode_utf8 (char_of bytes) ≡ bytes)
IsOfCharacter (IllFormed bytes) = Unit {0}

-- the bytes of a well-formed piece, or those of U+FFFD for an ill-formed one (Unicode, section 3.9)
abbrev pub lossy_piece : Piece → List ℕ
lossy_piece (WellFormed bytes) = bytes
lossy_piece (IllFormed bytes) = replacement_bytes

-- the bytes as a text, with U+FFFD for each maximal ill-formed part (Unicode, section 3.9)
abbrev pub lossy_text : List ℕ → List ℕ
lossy_text bytes = flat_map lossy_piece (utf8_pieces bytes)
