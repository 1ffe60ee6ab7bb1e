-- What a command gets of a line: its text, or one of its fields.
use Rattle.std.specs.Prelude.{ℕ, ◌≡◌, ◌≤◌, ◌+◌, List, [], ◌∷◌, ◌++◌, ◌==◌, codes, decimal, drop, length, Option, Some, None, Result, Ok, Err, nat_lt, slice_get, take, if◌then◌else◌}
use Rattle.std.specs.List.{flat_map, slice_split}
use Rattle.uri_streams.specs.declared.fault.NoText.{NoText}
use Rattle.uri_streams.specs.declared.fault.NoText.TheVariants.{TooLong, NoField, NotUtf8}
use Rattle.uri_streams.specs.declared.job.Field.{Field}

-- a line, cut around what the command gets of it: that text, or why it gets none, and what is
-- before and after it
pub record Cut : Type 0 where
  pub before : List ℕ
  pub text : Result (List ℕ) NoText
  pub after : List ℕ

-- the cut of a line of which the command gets all, this text, or nothing
abbrev pub cut_without_other_fields : Result (List ℕ) NoText → Cut
cut_without_other_fields text = record { before = []; text = text; after = [] }

-- the fields of a line, which are what is between its delimiters; the arguments are that byte and
-- the line
abbrev pub fields_of : ℕ → List ℕ → List (List ℕ)
fields_of delimiter line = slice_split (λ b. b == delimiter) line

-- the fields of a line, each with the delimiter after it
abbrev pub fields_before_delimiters : ℕ → List (List ℕ) → List ℕ
fields_before_delimiters delimiter fields = flat_map (λ field. field ++ delimiter ∷ []) fields

-- the fields of a line, each with the delimiter before it
abbrev pub fields_after_delimiters : ℕ → List (List ℕ) → List ℕ
fields_after_delimiters delimiter fields = flat_map (λ field. delimiter ∷ field) fields

-- the message for a line of which the command gets no text
abbrev pub no_text_message : NoText → List ℕ
no_text_message (TooLong most) = codes "line over " ++ decimal most ++ codes " bytes"
no_text_message (NoField before) = codes "no field " ++ decimal (before + 1)
no_text_message (NotUtf8 index) = codes "not UTF-8 at index " ++ decimal index

-- the cut of a line around the field after so many others, if it was found: the numbers are the
-- delimiter and how many others; the list has all fields
abbrev pub cut_at_field : ℕ → ℕ → List (List ℕ) → Option (List ℕ) → Cut
cut_at_field delimiter before fields None = cut_without_other_fields (Err (NoField before))
cut_at_field delimiter before fields (Some field) = record {
  before = fields_before_delimiters delimiter (take before fields);
  text = Ok field;
  after = fields_after_delimiters delimiter (drop (before + 1) fields);
}

-- the cut of a line around the field after so many others; the numbers are the delimiter and how
-- many others
unfoldable pub field_cut : ℕ → ℕ → List ℕ → Cut
field_cut delimiter before line =
    cut_at_field delimiter before (fields_of delimiter line)
    (slice_get (fields_of delimiter line) before)

-- the field of a line after `before` others begins at the position `start`
pub record IsFieldStart (delimiter before : ℕ) (line : List ℕ) (start : ℕ) : Type 0 where
  pub within : start ≤ length line
  pub before_it : take start line ≡ fields_before_delimiters delimiter
      (take before (fields_of delimiter line))
  pub from_it : fields_of delimiter (drop start line) ≡ drop before (fields_of delimiter line)

-- the cut of a line around the field that is asked for, or of the whole line if none is
abbrev pub cut_of : Option Field → List ℕ → Cut
cut_of None line = cut_without_other_fields (Ok line)
cut_of (Some field) line = field_cut field.delimiter field.before line

-- the cut of a line around the field that is asked for, or around nothing if the line has more
-- bytes than the number, its maximum
abbrev pub bounded_cut : ℕ → Option Field → List ℕ → Cut
bounded_cut max_line field line =
    if nat_lt max_line (length line) then cut_without_other_fields (Err (TooLong max_line))
    else cut_of field line
