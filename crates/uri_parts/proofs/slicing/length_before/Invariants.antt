use Rattle.uri_parts.proofs.Common.{length, ◌-◌, ◌≡◌, ◌+◌, not, drop, prefix_len, is_one_of}
use Rattle.uri_parts.proofs.slicing.length_before.Given as goal

abbrev pub invariant-loop-i : goal.invariant-loop-i
invariant-loop-i l = l.i + prefix_len (λ c. not (is_one_of l.marks c)) (drop l.i l.bytes)
    ≡ prefix_len (λ c. not (is_one_of l.marks c)) l.bytes

abbrev pub decreases-loop-i : goal.decreases-loop-i
decreases-loop-i l = length l.bytes - l.i
