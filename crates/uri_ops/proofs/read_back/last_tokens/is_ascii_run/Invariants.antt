-- If nothing was found, the bytes that were passed are ASCII, and no `%` is two bytes before one.
use Rattle.std.proofs.Common.{◌≡◌, ◌≢◌, ◌+◌, ◌<◌, ℕ, slice_index, true}
use Rattle.uri_pct.specs.Prelude.{percent_sign}
use Rattle.uri_ops.proofs.read_back.last_tokens.is_ascii_run.Given as goal

abbrev pub invariant-loop-i : goal.invariant-loop-i
invariant-loop-i l = record {
  ascii : l.is_run ≡ true → (k : ℕ) → k < l.i → slice_index l.block (k + 2) < 128;
  outside : l.is_run ≡ true → (k : ℕ) → k < l.i → slice_index l.block k ≢ percent_sign;
}
