-- The hash FNV-1a of 64 bits, by Fowler, Noll and Vo.
use Rattle.std.specs.Prelude.{ℕ, ◌*◌, ◌%◌, ◌^◌, List, bit_xor}
use Rattle.std.specs.List.{fold}
use Rattle.fluent_uri_c.specs.declared.fnv.Fnv.{Fnv}

-- the state after a byte: their exclusive or, times the prime of 64 bits
abbrev pub fnv_step : ℕ → ℕ → ℕ
fnv_step state byte = bit_xor state byte * 1099511628211 % 2 ^ 64

-- the state after bytes
abbrev pub fnv_bytes : ℕ → List ℕ → ℕ
fnv_bytes state bytes = fold fnv_step state bytes

-- the hasher after bytes are written
abbrev pub fnv_write : Fnv → List ℕ → Fnv
fnv_write hasher bytes = record { state = fnv_bytes hasher.state bytes }
