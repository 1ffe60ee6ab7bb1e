-- How a text is scanned from an index on, and where what is there ends: no RFC has this.
use Rattle.std.specs.Prelude.{ℕ, ◌+◌, Bool, ◌&&◌, List, drop, nat_lt, Result, Ok, Err, if◌then◌else◌}
use Rattle.uri_pct.specs.Prelude.{TableSet, percent_sign, valid_prefix}
use Rattle.uri_parts.specs.Components.{starts, is_end}
use Rattle.uri_parts.specs.Errors.{stray_percent, unexpected}
use Rattle.uri_parts.specs.declared.error.ParseError.{ParseError}

-- the index where the parser finds the end of something, or the parse error if it is not there
abbrev pub ScanResult : Type 0
ScanResult = Result ℕ ParseError

module _ (text : List ℕ) where
  -- the character mark is in the text at index i
  abbrev pub is_next : ℕ → ℕ → Bool
  is_next mark i = starts mark (drop i text)

  -- nothing of the text is left at index i
  abbrev pub is_at_end : ℕ → Bool
  is_at_end i = is_end (drop i text)

  -- the index where a scan of the text by the set from index i on ends: after the longest prefix of
  -- what is left that is valid for the set
  abbrev pub scan_end : TableSet → ℕ → ℕ
  scan_end set i = i + valid_prefix set (drop i text)

  -- where a scan of the text by the set from index i on ends; a `%` there is an error if the set
  -- allows percent-encoded octets
  abbrev pub scan : TableSet → ℕ → ScanResult
  scan set i =
      let end = scan_end set i in
      if set.pct_encoded && is_next percent_sign end then Err (stray_percent end) else Ok end

  -- the result of `next` after one or more characters of the set from index i on and then the
  -- character mark, or the error if they are not there
  abbrev pub scan_to_mark : TableSet → ℕ → (ℕ → ScanResult) → ℕ → ScanResult
  scan_to_mark set mark next i =
      let end = scan_end set i in
      if nat_lt i end && is_next mark end then next (end + 1) else Err (unexpected end)
