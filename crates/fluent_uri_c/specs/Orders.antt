-- The order of texts by their normal forms, and the hash of these: for tables and indexes.
use Rattle.std.specs.Prelude.{◌≡◌, ◌⊎◌, ℕ, List, Option, Some, None, bit_xor}
use Rattle.std.specs.Cmp.Lexicographic.{slice_cmp}
use Rattle.std.specs.List.{fold}
use Rattle.std.specs.Option.{unwrap_or}
use Rattle.std.specs.Ordering.{nat_cmp}
use Rattle.std.specs.Result.{result_ok}
use Rattle.std.specs.declared.cmp.Ordering.{Ordering}
use Rattle.std.specs.declared.cmp.Ordering.TheVariants.{Less, Equal, Greater}
use Rattle.uri_order.specs.HashedTexts.{hashed_text}
use Rattle.fluent_uri_c.specs.Fnv.{fnv_write}
use Rattle.fluent_uri_c.specs.declared.fnv.Fnv.{Fnv}
use Rattle.fluent_uri_c.specs.Results.{normalize_result}

-- the normal form of bytes that are a text of the kind; other bytes have none. The numbers are
-- those of the kind and of the options in the C header.
abbrev pub normal_key : ℕ → ℕ → List ℕ → Option (List ℕ)
normal_key kind options bytes = result_ok (normalize_result kind options bytes)

-- the order of two texts, byte by byte
abbrev pub byte_order : List ℕ → List ℕ → Ordering
byte_order one other = slice_cmp nat_cmp one other

-- the order of bytes by their normal forms, where there are any: what has one is before what has
-- none. The last argument is the order where neither has one.
abbrev pub order_of_keys : Option (List ℕ) → Option (List ℕ) → Ordering → Ordering
order_of_keys (Some one) (Some other) order = byte_order one other
order_of_keys (Some one) None order = Less
order_of_keys None (Some other) order = Greater
order_of_keys None None order = order

-- the order of bytes for tables: texts of the kind by their normal forms, and after these all other
-- bytes, as they are
abbrev pub key_order : ℕ → ℕ → List ℕ → List ℕ → Ordering
key_order kind options one other =
    order_of_keys (normal_key kind options one) (normal_key kind options other)
    (byte_order one other)

-- the number of an order in the C header
abbrev pub order_number : Ordering → ℕ
order_number Less = 0
order_number Equal = 1
order_number Greater = 2

-- bytes that are one key of a table: texts of the kind with one normal form, or the same bytes that
-- are no such text
abbrev pub AreOneKey : ℕ → ℕ → List ℕ → List ℕ → Type 0
AreOneKey kind options one other =
    ((normal : List ℕ) × ((normal_key kind options one ≡ Some normal)
    × (normal_key kind options other ≡ Some normal)))
    ⊎ ((normal_key kind options one ≡ None)
    × ((normal_key kind options other ≡ None) × (one ≡ other)))

-- the state of FNV-1a from which the hash with a seed begins: the offset basis of 64 bits, and the
-- seed
abbrev pub seeded : ℕ → Fnv
seeded seed = record { state = bit_xor 14695981039346656037 seed }

-- the hash of bytes with a seed: FNV-1a of their blocks, and of 255
abbrev pub hash_of_bytes : ℕ → List ℕ → ℕ
hash_of_bytes seed bytes = (fold fnv_write (seeded seed) (hashed_text bytes)).state

-- the hash of bytes for tables: that of the normal form. Bytes that are no text of the kind are
-- hashed as they are.
abbrev pub key_hash : ℕ → ℕ → ℕ → List ℕ → ℕ
key_hash kind options seed bytes =
    hash_of_bytes seed (unwrap_or (normal_key kind options bytes) bytes)
