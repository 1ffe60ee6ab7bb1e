-- What was passed is ASCII, and in no octet.
use Rattle.uri_ops.proofs.Common.{◌≤◌, IsAsciiSuffix}
use Rattle.uri_ops.proofs.read_back.last_tokens.ascii_suffix_start.Given as goal

abbrev pub invariant-loop-start : goal.invariant-loop-start
invariant-loop-start l = record {
  suffix : IsAsciiSuffix l.bytes l.start;
  least : l.least ≤ l.start;
}

abbrev pub decreases-loop-start : goal.decreases-loop-start
decreases-loop-start l = l.start

abbrev pub invariant-loop-start-2 : goal.invariant-loop-start-2
invariant-loop-start-2 l = record {
  suffix : IsAsciiSuffix l.bytes l.start;
  least : l.least ≤ l.start;
}

abbrev pub decreases-loop-start-2 : goal.decreases-loop-start-2
decreases-loop-start-2 l = l.start

abbrev pub invariant-loop-start-3 : goal.invariant-loop-start-3
invariant-loop-start-3 l = record {
  suffix : IsAsciiSuffix l.bytes l.start;
  least : l.least ≤ l.start;
}

abbrev pub decreases-loop-start-3 : goal.decreases-loop-start-3
decreases-loop-start-3 l = l.start
