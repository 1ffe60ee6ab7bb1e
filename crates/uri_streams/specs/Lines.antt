-- The lines of an input, and the text of a line.
use Rattle.std.specs.Prelude.{ℕ, List, [], ◌∷◌, Bool, not, ◌&&◌, ◌==◌, length, nat_lt, if◌then◌else◌}
use Rattle.std.specs.Io.BufRead.{ends_with_byte, strip_last}

-- the byte that ends a line of an input: NUL if the Bool is true, and else a newline
abbrev pub end_byte : Bool → ℕ
end_byte is_null = if is_null then 0 else 10

-- the lines of an input, with this byte before the first of them
abbrev pub prepend_to_first_line : ℕ → List (List ℕ) → List (List ℕ)
prepend_to_first_line x [] = (x ∷ []) ∷ []
prepend_to_first_line x (line ∷ lines) = (x ∷ line) ∷ lines

-- the lines of an input, each with the byte that ends it, the first argument; the last may lack it
abbrev pub lines_of : ℕ → List ℕ → List (List ℕ)
lines_of end [] = []
lines_of end (x ∷ xs) =
    if x == end then (x ∷ []) ∷ lines_of end xs else prepend_to_first_line x (lines_of end xs)

-- whether the byte, the first argument, ends the line of an input and has a `\r` before it
abbrev pub ends_with_return : ℕ → List ℕ → Bool
ends_with_return end line = ends_with_byte end line && ends_with_byte 13 (strip_last end line)

-- whether a line that is read in parts ends in `\r`, before its end byte, after this part; the Bool
-- is whether it did before the part
abbrev pub return_after : ℕ → Bool → List ℕ → Bool
return_after end was part =
    let bytes = strip_last end part in
    if nat_lt 0 (length bytes) then ends_with_byte 13 bytes else was

-- whether a newline ends the line of an input and has a `\r` before it; the Bool is whether NUL
-- ends lines instead
abbrev pub has_return : Bool → List ℕ → Bool
has_return is_null line = not is_null && ends_with_return 10 line

-- the text of a line of an input, without what ends it; the Bool is whether NUL ends lines, and
-- else a newline
abbrev pub line_text : Bool → List ℕ → List ℕ
line_text is_null line =
    let text = strip_last (end_byte is_null) line in
    if has_return is_null line then strip_last 13 text else text
