-- A line that is ASCII, and its text.
use Rattle.uri_streams.proofs.Common.{arith, ◌≡◌, ℕ, Bool, List, ◌-◌, IsTrue, IsAscii-take, strip_last, IsAscii, line_text, IsCutLine}
use Rattle.uri_streams.specs.declared.line_ends.Line.{Line}

strip_last-ascii : (byte : ℕ) (xs : List ℕ) → IsAscii xs → IsAscii (strip_last byte xs)
strip_last-ascii byte xs ascii = grind (arith, IsAscii-take)

-- lines: the text of an ASCII line, without its end, is ASCII; is_null: whether lines end with NUL
pub line_text-ascii : (is_null : Bool) (line : List ℕ) → IsAscii line
    → IsAscii (line_text is_null line)
line_text-ascii is_null line ascii = grind (arith, strip_last-ascii)

pub IsCutLine-of-text : (is_null : Bool) (line : Line)
    → line.text.now ≡ line_text is_null line.bytes.now
    → (IsTrue line.is_ascii → IsAscii line.bytes.now) → IsCutLine is_null line
IsCutLine-of-text is_null line text ascii = grind (arith, line_text-ascii)
