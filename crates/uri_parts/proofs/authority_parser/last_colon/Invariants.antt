use Rattle.uri_parts.proofs.Common.{◌≤◌, ◌≡◌, last_colon}
use Rattle.uri_parts.proofs.authority_parser.last_colon.Given as goal

abbrev pub invariant-loop-i : goal.invariant-loop-i
invariant-loop-i l = record {
  low : l.start ≤ l.i;
  high : l.i ≤ l.fn.end;
  none : last_colon l.text l.fn.end ≡ last_colon l.text l.i;
}

abbrev pub decreases-loop-i : goal.decreases-loop-i
decreases-loop-i l = l.i
