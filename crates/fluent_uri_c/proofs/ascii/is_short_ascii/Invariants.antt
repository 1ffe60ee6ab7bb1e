use Rattle.fluent_uri_c.proofs.Common.{ℕ, ◌-◌, ◌<◌, slice_index}
use Rattle.fluent_uri_c.proofs.ascii.is_short_ascii.Given as goal

abbrev pub invariant-loop-at : goal.invariant-loop-at
invariant-loop-at l = (k : ℕ) → k < l.at → slice_index l.bytes k < 128

abbrev pub decreases-loop-at : goal.decreases-loop-at
decreases-loop-at l = l.last - l.at
