-- Which buffer of a batch is full, and how long it must be, by the numbers of the header.
use Rattle.std.specs.Prelude.{◌≡◌, ◌⊎◌, ℕ, ◌-◌, ◌^◌, ◌<◌, ◌≤◌, min}

-- the numbers in the C header of the buffers that may be full: of the bytes of results, of their
-- ends, of their bits, of parts, and of the numbers of errors; and that of an end that is no offset
abbrev pub out_buffer : ℕ
out_buffer = 0

abbrev pub ends_buffer : ℕ
ends_buffer = 1

abbrev pub valid_buffer : ℕ
valid_buffer = 2

abbrev pub parts_buffer : ℕ
parts_buffer = 3

abbrev pub errors_buffer : ℕ
errors_buffer = 4

abbrev pub offset_width : ℕ
offset_width = 5

-- a length as C gets it, which is no larger than `SIZE_MAX`
abbrev pub as_size : ℕ → ℕ
as_size n = min n (2 ^ 64 - 1)

-- A result of a batch that would end at `end` does not fit: the buffer of `room` bytes is shorter,
-- or the end is no offset, which is below the limit.
-- The last two numbers say which is full, and how long it must be.
abbrev pub IsFull : ℕ → ℕ → ℕ → ℕ → ℕ → Type 0
IsFull limit room end which needed =
    ((which ≡ out_buffer) × (room < end) × (needed ≡ as_size end))
    ⊎ ((which ≡ offset_width) × (end ≤ room) × (limit ≤ end) × (needed ≡ end))
