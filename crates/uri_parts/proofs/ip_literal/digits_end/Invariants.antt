use Rattle.uri_parts.proofs.Common.{length, ◌-◌, ◌≤◌, ◌≡◌, IsCharBoundary, digits_end}
use Rattle.uri_parts.proofs.ip_literal.digits_end.Given as goal

abbrev pub invariant-loop-end : goal.invariant-loop-end
invariant-loop-end l = record {
  boundary : IsCharBoundary l.bytes l.end;
  start : l.start ≤ l.end;
  left : digits_end l.bytes l.radix (l.most - (l.end - l.start)) l.end
      ≡ digits_end l.bytes l.radix l.most l.start;
}

abbrev pub decreases-loop-end : goal.decreases-loop-end
decreases-loop-end l = length l.bytes - l.end
