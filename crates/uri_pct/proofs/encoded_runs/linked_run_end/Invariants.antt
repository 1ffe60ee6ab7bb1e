use Rattle.uri_pct.proofs.Common.{◌-◌, ◌≤◌, ◌<◌, ℕ, length, IsByteOfEncodedText, set_of}
use Rattle.uri_pct.proofs.encoded_runs.linked_run_end.Given as goal

abbrev pub invariant-loop-i : goal.invariant-loop-i
invariant-loop-i l = record {
  from : l.start ≤ l.i;
  within : l.i ≤ length l.bytes;
  linked : (k : ℕ) → l.start ≤ k → k < l.i → IsByteOfEncodedText (set_of l.table).ascii l.bytes k;
}

abbrev pub decreases-loop-i : goal.decreases-loop-i
decreases-loop-i l = length l.bytes - l.i
