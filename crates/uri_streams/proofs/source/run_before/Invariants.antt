use Rattle.uri_streams.proofs.Common.{length, ◌-◌, ◌≡◌, ◌≤◌, ◌<◌, ℕ, Bool, true, not, eqb, ◌&&◌, nat_le, slice_index}
use Rattle.uri_streams.proofs.source.run_before.Given as goal

-- the byte is ASCII and not the first one
abbrev pub is_inside : ℕ → ℕ → Bool
is_inside end b = not (nat_le 128 b) && not (eqb b end)

abbrev pub invariant-loop-i : goal.invariant-loop-i
invariant-loop-i l = record {
  from : 0 ≤ l.i;
  within : l.i ≤ length l.bytes;
  pass : (k : ℕ) → 0 ≤ k → k < l.i → is_inside l.end (slice_index l.bytes k) ≡ true;
}

abbrev pub decreases-loop-i : goal.decreases-loop-i
decreases-loop-i l = length l.bytes - l.i
