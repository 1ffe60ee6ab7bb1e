-- Columns of texts as data and offsets, and what a batch leaves of one.
use Rattle.std.specs.Prelude.{◌≡◌, ◌≢◌, ℕ, zero, suc, ◌+◌, ◌-◌, ◌*◌, ◌/◌, ◌%◌, ◌^◌, ◌<◌, ◌≤◌, Bool, ◌&&◌, List, [], ◌++◌, length, drop, nat_le, nat_lt, Option, Some, None, IsSomeAnd, slice_get, slice_index, slice_range, option_and_then, is_some, IsFalse, IsSome, IsTrue, unwrap_or, string_bytes, if◌then◌else◌}
use Rattle.std.specs.Int.{bit_at}
use Rattle.fluent_uri.specs.Prelude.{cow_items}
use Rattle.fluent_uri_c.specs.declared.batch.CallResult.{CallResult}
use Rattle.fluent_uri_c.specs.declared.batch.CallResult.TheVariants.{Bytes, Part, Text}
use Rattle.fluent_uri_c.specs.declared.outcome.Outcome.{Outcome}
use Rattle.fluent_uri_c.specs.Endings.{EndsAt}
use Rattle.fluent_uri_c.specs.Full.{IsFull, ends_buffer, valid_buffer}
use Rattle.fluent_uri_c.specs.Results.{is_possible_length}
use Rattle.fluent_uri_c.specs.SingleCalls.{SingleCall}

-- the text between two offsets into a column's data, if they do not fall and are within the data
abbrev pub text_between : List ℕ → ℕ → ℕ → Option (List ℕ)
text_between texts start end =
    if nat_le start end && nat_le end (length texts) then Some (slice_range texts start end)
    else None

-- the text at an index of a column, from its offset to the next; the function makes an offset a
-- number, and the lists are data and offsets
abbrev pub text_at : {O : Type 0} → (O → ℕ) → List ℕ → List O → ℕ → Option (List ℕ)
text_at value texts offsets i =
    option_and_then (λ start. option_and_then (λ end. text_between texts (value start) (value end))
    (slice_get offsets (i + 1))) (slice_get offsets i)

-- a column of texts, as data engines hold one: the bytes of all texts, and the offset of each, a
-- number below a limit
pub record TextColumn (O : Type 0) : Type 0 where
  pub value : O → ℕ
  pub limit : ℕ
  pub texts : List ℕ
  pub offsets : List O

-- the column of texts with these bytes and offsets; the function makes an offset a number, which is
-- below the limit
abbrev pub column_of : {O : Type 0} → (O → ℕ) → ℕ → List ℕ → List O → TextColumn O
column_of value limit texts offsets = record {
  value = value;
  limit = limit;
  texts = texts;
  offsets = offsets;
}

-- the column of texts with these bytes and offsets of 32 bits, of which Arrow's have a sign
abbrev pub column32 : List ℕ → List ℕ → TextColumn ℕ
column32 texts offsets = column_of (λ offset. offset) (2 ^ 31) texts offsets

-- the column of texts with these bytes and offsets of 64 bits, of which Arrow's have a sign
abbrev pub column64 : List ℕ → List ℕ → TextColumn ℕ
column64 texts offsets = column_of (λ offset. offset) (2 ^ 63) texts offsets

-- how many texts a column has: one fewer than offsets
abbrev pub count_of : {O : Type 0} → TextColumn O → ℕ
count_of column = length column.offsets - 1

-- the text at an index of a column, if its offsets are within the data
abbrev pub text_in : {O : Type 0} → TextColumn O → ℕ → Option (List ℕ)
text_in column i = text_at column.value column.texts column.offsets i

-- the result of a call, the function, for the text at an index of a column, if it has one
abbrev pub result_in : {O : Type 0} → (List ℕ → Option (List ℕ)) → TextColumn O → ℕ
    → Option (List ℕ)
result_in result column i = option_and_then result (text_in column i)

-- the bytes of the result of a batch's call, or no bytes if there is none
abbrev pub bytes_of : Option (List ℕ) → List ℕ
bytes_of result = unwrap_or result []

-- the bytes of the first n results of a batch, one after the other; the function has the result at
-- an index
abbrev pub joined_results : (ℕ → Option (List ℕ)) → ℕ → List ℕ
joined_results at zero = []
joined_results at (suc n) = joined_results at n ++ bytes_of (at n)

-- the bit at an index of the bits that a batch writes, as 0 or 1: eight to a byte, the lowest first
abbrev pub bit_of : List ℕ → ℕ → ℕ
bit_of bytes i = bit_at (slice_index bytes (i / 8)) (i % 8)

-- the bit that a batch writes for a Bool: 1 for true, and 0 for false
abbrev pub number_of_bool : Bool → ℕ
number_of_bool b = if b then 1 else 0

-- the buffers that a batch writes: the bytes of the results, where each ends, and a bit for whether
-- it is present
pub record Buffers (O : Type 0) : Type 0 where
  pub bytes : List ℕ
  pub ends : List O
  pub valid : List ℕ

-- the buffers of a batch, of the bytes of results, their ends, and the bits for which are present
abbrev pub buffers : {O : Type 0} → List ℕ → List O → List ℕ → Buffers O
buffers bytes ends valid = record { bytes = bytes; ends = ends; valid = valid }

-- The buffers after a batch has done `done` texts: they have the results one after the other, where
-- each ends, and whether it is present.
-- After these, everything is as it was.
pub record IsColumn {O : Type 0} (value : O → ℕ) (at : ℕ → Option (List ℕ)) (done : ℕ)
    (old new : Buffers O) : Type 0 where
  pub bytes : new.bytes ≡ joined_results at done ++ drop (length (joined_results at done)) old.bytes
  pub ends : (i : ℕ) → i ≤ done
      → IsSomeAnd (slice_get new.ends i) (λ end. value end ≡ length (joined_results at i))
  pub valid : (i : ℕ) → i < done → bit_of new.valid i ≡ number_of_bool (is_some (at i))
  pub other_ends : drop (done + 1) new.ends ≡ drop (done + 1) old.ends
  pub other_bits : (i : ℕ) → done ≤ i → bit_of new.valid i ≡ bit_of old.valid i

-- the call of a batch takes memory for the text at an index
abbrev pub TakesMemoryAt : {O : Type 0} → SingleCall → TextColumn O → ℕ → Type 0
TakesMemoryAt call column i = IsSomeAnd (text_in column i) (λ text. IsTrue (call.takes_memory text))

-- What a batch writes and reports if its numbers are valid and there is room: the results of the
-- texts that are done.
-- There is room for the ends and bits of all results, and each text that is done is within the
-- data.
pub record HasDoneTexts {O : Type 0} (call : SingleCall) (column : TextColumn O)
    (old new : Buffers O)
    (outcome : Outcome) (number : ℕ) : Type 0 where
  pub results : IsColumn column.value (result_in call.result column) outcome.index old new
  pub total : outcome.length ≡ length (joined_results (result_in call.result column) outcome.index)
  pub below : outcome.length < column.limit
  pub within : (i : ℕ) → i < outcome.index → IsSome (text_in column i)
  pub end : EndsAt (count_of column) (text_in column) (TakesMemoryAt call column)
      (λ done. IsFull column.limit (length old.bytes)
      (length (joined_results (result_in call.result column) (suc done)))
      outcome.which outcome.needed) outcome.index number

-- whether the arguments of a batch are valid: its numbers, and its column, which has an offset, and
-- no more than `PTRDIFF_MAX` bytes
abbrev pub are_arguments_valid : {O : Type 0} → Bool → TextColumn O → Bool
are_arguments_valid numbers column =
    numbers && (nat_lt 0 (length column.offsets) && is_possible_length column.texts)

-- a batch does nothing: it returns the number `wanted`, and no buffer has changed
abbrev pub DoesNothing : {O : Type 0} → ℕ → Buffers O → Buffers O → Outcome → ℕ → Type 0
DoesNothing wanted old new outcome number =
    (number ≡ wanted) × (outcome.index ≡ 0) × (outcome.length ≡ 0) × (new ≡ old)

-- a batch does nothing because of a buffer that is full: it says which, and how long it must be
abbrev pub LacksRoom : {O : Type 0} → ℕ → ℕ → Buffers O → Buffers O → Outcome → ℕ → Type 0
LacksRoom which needed old new outcome number =
    DoesNothing 10 old new outcome number × (outcome.which ≡ which) × (outcome.needed ≡ needed)

-- an outcome says which buffer is full only if one is
abbrev pub SaysFullIfFull : Outcome → ℕ → Type 0
SaysFullIfFull outcome number = number ≢ 10 → (outcome.which ≡ 0) × (outcome.needed ≡ 0)

-- what a batch that makes a call for each text of a column writes to its buffers, reports in its
-- outcome and returns as a number
pub record LeavesColumn {O : Type 0} (call : SingleCall) (column : TextColumn O)
    (old new : Buffers O) (outcome : Outcome) (number : ℕ) : Type 0 where
  pub error : outcome.error ≡ number
  pub consumed : outcome.consumed ≡ 0
  pub full : SaysFullIfFull outcome number
  pub invalid : IsFalse (are_arguments_valid call.is_valid column)
      → DoesNothing 9 old new outcome number
  -- the ends are one more than the results
  pub no_ends : IsTrue (are_arguments_valid call.is_valid column)
      → length old.ends ≤ count_of column
      → LacksRoom ends_buffer (count_of column + 1) old new outcome number
  -- each byte has eight bits
  pub no_bits : IsTrue (are_arguments_valid call.is_valid column)
      → count_of column < length old.ends
      → 8 * length old.valid < count_of column
      → LacksRoom valid_buffer ((count_of column + 7) / 8) old new outcome number
  pub done : IsTrue (are_arguments_valid call.is_valid column) → count_of column < length old.ends
      → count_of column ≤ 8 * length old.valid → HasDoneTexts call column old new outcome number

-- the bytes of the result of a batch's call on a text: a part of it, or a text of its own, or bytes
-- that are one of these
abbrev pub call_result_bytes : CallResult → List ℕ
call_result_bytes (Part bytes) = bytes.now
call_result_bytes (Text text) = string_bytes text
call_result_bytes (Bytes bytes) = cow_items bytes
