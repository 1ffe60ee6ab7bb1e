-- Text or bytes that may be borrowed, as decoding returns them: RFC 3986, section 2.1.
use Rattle.std.specs.Prelude.{ℕ, ◌≡◌, List, ⊤, string_bytes, IsUtf8}
use Rattle.uri_pct.specs.declared.cow.CowStr.{CowStr}
use Rattle.uri_pct.specs.declared.cow.CowStr.TheVariants as text
use Rattle.uri_pct.specs.declared.cow.CowSlice.{CowSlice}
use Rattle.uri_pct.specs.declared.cow.CowSlice.TheVariants as slice
use Rattle.uri_pct.specs.declared.cow.DecodeError.{DecodeError}
use Rattle.uri_pct.specs.declared.cow.DecodeError.TheVariants.{NotUtf8, OutOfMemory}

-- the text of a `CowStr`, borrowed or owned, as its bytes
abbrev pub cow_text : CowStr → List ℕ
cow_text (text.Borrowed s) = s.now
cow_text (text.Owned s) = string_bytes s

-- the items of a `CowSlice`, borrowed or owned
abbrev pub cow_items : {T : Type 0} → CowSlice T → List T
cow_items (slice.Borrowed s) = s.now
cow_items (slice.Owned v) = v.items

-- the text of the `CowStr` is borrowed, not owned
abbrev pub IsBorrowedText : CowStr → Type 0
IsBorrowedText (text.Borrowed s) = ⊤
IsBorrowedText (text.Owned s) = ⊥

-- the items of the `CowSlice` are borrowed, not owned
abbrev pub AreBorrowedItems : {T : Type 0} → CowSlice T → Type 0
AreBorrowedItems (slice.Borrowed s) = ⊤
AreBorrowedItems (slice.Owned v) = ⊥

-- the error may be returned by decoding to text that comes to these bytes: `NotUtf8` gives them
-- back, and they are not UTF-8; `OutOfMemory` may be returned for any
abbrev pub IsDecodeErrorOf : List ℕ → DecodeError → Type 0
IsDecodeErrorOf bytes (NotUtf8 given) = (given.items ≡ bytes) × ¬ (IsUtf8 bytes)
IsDecodeErrorOf bytes OutOfMemory = ⊤
