use Rattle.uri_pct.proofs.Common.{◌≤◌, ◌-◌, length, map, IsCharBoundary, IsEncodedBy, set_of, Octet, print}
use Rattle.uri_pct.proofs.encode.disallowed_end.Given as goal

abbrev pub invariant-loop-end : goal.invariant-loop-end
invariant-loop-end l = record {
  from : l.start ≤ l.end;
  boundary : IsCharBoundary l.text l.end;
  octets : IsEncodedBy (λ bytes. print (map Octet bytes)) (set_of l.table) l.text l.start l.end;
}

abbrev pub decreases-loop-end : goal.decreases-loop-end
decreases-loop-end l = length l.text - l.end
