use Rattle.uri_parts.proofs.Common.{◌≡◌, ℕ, ◌<◌, ◌≤◌, ◌+◌, max, get_or}
use Rattle.uri_parts.proofs.address_reader.merge_tail.Given as goal

abbrev pub invariant-loop-i : goal.invariant-loop-i
invariant-loop-i l = record {
  merged : (k : ℕ) → k < l.i
      → get_or l.segments k 0 ≡ max (get_or l.fn.segments k 0) (get_or l.tail (l.tail_len + k) 0);
  others : (k : ℕ) → l.i ≤ k → get_or l.segments k 0 ≡ get_or l.fn.segments k 0;
}
