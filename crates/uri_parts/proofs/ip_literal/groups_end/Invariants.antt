use Rattle.uri_parts.proofs.Common.{◌≡◌, ◌-◌, true, ◌==◌, IsCharBoundary, groups_from}
use Rattle.uri_parts.proofs.ip_literal.groups_end.Given as goal

abbrev pub invariant-loop-counted : goal.invariant-loop-counted
invariant-loop-counted l = record {
  boundary : IsCharBoundary l.text l.end;
  left : groups_from l.text l.room true l.start
      ≡ groups_from l.text (l.room - l.counted) (l.counted == 0) l.end;
}
