-- The position of a `Cursor` in its text: no RFC has this.
use Rattle.std.specs.Prelude.{ℕ, List, drop, None}
use Rattle.uri_parts.specs.declared.parse.BeforePath.{BeforePath}
use Rattle.uri_parts.specs.declared.packed_positions.PackedPositions.{PackedPositions}
use Rattle.uri_parts.specs.declared.cursor.Cursor.{Cursor}
use Rattle.uri_parts.specs.Grammar.{Kind}
use Rattle.uri_parts.specs.PackedPositions.{packed}
use Rattle.uri_parts.specs.Models.Parsing.{path_positions}

-- the whole text of a `Cursor`, as its bytes
abbrev pub cursor_text : Cursor → List ℕ
cursor_text r = r.text.now

-- the position of a `Cursor` in its text: how many bytes it has passed
abbrev pub cursor_position : Cursor → ℕ
cursor_position r = r.position

-- the text after the position of a `Cursor`: what it has not passed
abbrev pub text_after_cursor : Cursor → List ℕ
text_after_cursor r = drop r.position r.text.now

-- the positions of the components in six words, if `before` says what is before the path, the text
-- is parsed up to place within the path, and rest is left
abbrev pub packed_from : Kind → BeforePath → ℕ → List ℕ → PackedPositions
packed_from kind before place rest =
    record (packed (path_positions kind None None before.path_start place rest)) {
      scheme_end = before.scheme_end;
      host_start = before.host_start;
      host_end = before.host_end;
    }

-- the same, if the parser is in the path where the cursor is
abbrev pub packed_if_parsed_from : Kind → BeforePath → Cursor → PackedPositions
packed_if_parsed_from kind before cursor =
    packed_from kind before (cursor_position cursor) (text_after_cursor cursor)
