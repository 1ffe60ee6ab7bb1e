-- Which bytes at the end may be of a character that goes on after them: Unicode, section 3.9,
-- table 3-7.
use Rattle.std.specs.Prelude.{◌≡◌, ℕ, suc, nat_lt, List, [], ◌∷◌, ◌++◌, length, Option, Some, None, if◌then◌else◌}
use Rattle.uri_pct.specs.Pieces.{ByteRange, following_ranges, utf8_pieces}

-- how many ranges of bytes may follow a first byte of UTF-8, or 0 for `None`
abbrev pub range_count : Option (List ByteRange) → ℕ
range_count None = 0
range_count (Some ranges) = length ranges

-- how many bytes follow the first byte of a character in UTF-8; 0 if the byte begins none (Unicode,
-- table 3-7)
abbrev pub following_byte_count : ℕ → ℕ
following_byte_count b = range_count (following_ranges b)

-- the length of the longest suffix of the bytes whose first byte calls for more bytes than follow
-- it (Unicode, table 3-7)
unfoldable pub unfinished_len : List ℕ → ℕ
unfinished_len [] = 0
unfinished_len (b ∷ rest) =
    if nat_lt (length rest) (following_byte_count b) then suc (length rest) else unfinished_len rest

-- between prefix and end no UTF-8 piece is cut, whatever bytes follow (Unicode, section 3.9)
abbrev pub CutsNoPiece : List ℕ → List ℕ → Type 0
CutsNoPiece prefix end = (suffix : List ℕ)
    → utf8_pieces (prefix ++ (end ++ suffix)) ≡ utf8_pieces prefix ++ utf8_pieces (end ++ suffix)
