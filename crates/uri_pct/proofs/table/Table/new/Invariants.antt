use Rattle.uri_pct.proofs.Common.{◌≡◌, ℕ, take, is_one_of, has_bit}
use Rattle.uri_pct.proofs.table.Table.new.Given as goal

abbrev pub invariant-loop-byte : goal.invariant-loop-byte
invariant-loop-byte l = (c : ℕ) → has_bit l.low l.high c ≡ is_one_of (take l.byte-index l.bytes) c
