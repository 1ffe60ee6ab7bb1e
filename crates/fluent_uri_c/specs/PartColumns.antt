-- What a batch leaves that parses each text of a column.
use Rattle.std.specs.Prelude.{◌≡◌, ℕ, ◌<◌, ◌≤◌, List, length, drop, Option, is_some, IsFalse, IsSomeAnd, IsTrue, slice_get}
use Rattle.fluent_uri.specs.Prelude.{Kind}
use Rattle.fluent_uri_c.specs.declared.outcome.Outcome.{Outcome}
use Rattle.fluent_uri_c.specs.declared.parts.Parts.{Parts}
use Rattle.fluent_uri_c.specs.Columns.{SaysFullIfFull, TextColumn, are_arguments_valid, count_of, text_in}
use Rattle.fluent_uri_c.specs.Endings.{EndsAt}
use Rattle.fluent_uri_c.specs.Full.{parts_buffer}
use Rattle.fluent_uri_c.specs.Spans.{ArePartsOf}

-- the text at an index of the column is within the data, and the list has its parts at that index
abbrev pub HasPartsAt : {O : Type 0} → Option Kind → TextColumn O → List Parts → ℕ → Type 0
HasPartsAt kind column parts i =
    IsSomeAnd (text_in column i) (λ text. IsSomeAnd (slice_get parts i) (ArePartsOf kind text))

-- What a batch that parses a column leaves if there is such a kind and room for all parts: the
-- parts of the texts that are done.
-- The other parts are as they were.
pub record HasParsed {O : Type 0} (kind : Option Kind) (column : TextColumn O)
    (old new : List Parts) (done number : ℕ) : Type 0 where
  pub parts : (i : ℕ) → i < done → HasPartsAt kind column new i
  pub others : drop done new ≡ drop done old
  pub end : EndsAt (count_of column) (text_in column) (λ _. ⊥) (λ _. ⊥) done number

-- a batch parses nothing: it returns the number `wanted`, and no parts have changed; the lists are
-- the parts before and after
abbrev pub ParsesNothing : ℕ → List Parts → List Parts → Outcome → ℕ → Type 0
ParsesNothing wanted old new outcome number =
    (number ≡ wanted) × (outcome.index ≡ 0) × (new ≡ old)

-- what the batch that parses each text of a column writes, reports in its outcome and returns as a
-- number
pub record LeavesParts {O : Type 0} (kind : Option Kind) (column : TextColumn O)
    (old new : List Parts) (outcome : Outcome) (number : ℕ) : Type 0 where
  pub error : outcome.error ≡ number
  pub total : outcome.length ≡ 0
  pub consumed : outcome.consumed ≡ 0
  pub full : SaysFullIfFull outcome number
  pub invalid : IsFalse (are_arguments_valid (is_some kind) column)
      → ParsesNothing 9 old new outcome number
  pub no_room : IsTrue (are_arguments_valid (is_some kind) column) → length old < count_of column
      → ParsesNothing 10 old new outcome number × (outcome.which ≡ parts_buffer)
      × (outcome.needed ≡ count_of column)
  pub done : IsTrue (are_arguments_valid (is_some kind) column) → count_of column ≤ length old
      → HasParsed kind column old new outcome.index number
