use Rattle.uri_mend.proofs.Common.{◌≡◌, ◌-◌, ◌++◌, drop, length, set_of, before_any, from_any, mended, IsProgress, mended_so_far}
use Rattle.uri_mend.proofs.component.mend_component.Given as goal

abbrev pub invariant-loop-p : goal.invariant-loop-p
invariant-loop-p l = record {
  progress : IsProgress l.text l.out.items l.p;
  text : mended_so_far l.text l.out.items l.p
      ++ mended (set_of l.table) (before_any l.marks (drop l.p.end l.text))
      ≡ mended_so_far l.text l.fn.out.items l.fn.from
      ++ mended (set_of l.table) (before_any l.marks (drop l.fn.from.end l.text));
  rest : from_any l.marks (drop l.p.end l.text) ≡ from_any l.marks (drop l.fn.from.end l.text);
}

abbrev pub decreases-loop-p : goal.decreases-loop-p
decreases-loop-p l = length l.text - l.p.end
