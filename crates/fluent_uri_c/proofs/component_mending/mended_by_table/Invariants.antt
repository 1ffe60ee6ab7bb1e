use Rattle.fluent_uri_c.proofs.Common.{◌≡◌, ◌-◌, ◌++◌, drop, length, string_bytes, IsCharBoundary, set_of, mended}
use Rattle.fluent_uri_c.proofs.component_mending.mended_by_table.Given as goal

abbrev pub invariant-loop-done : goal.invariant-loop-done
invariant-loop-done l = record {
  boundary : IsCharBoundary l.text l.done;
  text : string_bytes l.made ++ mended (set_of l.table) (drop l.done l.text)
      ≡ mended (set_of l.table) l.text;
}

abbrev pub decreases-loop-done : goal.decreases-loop-done
decreases-loop-done l = length l.text - l.done
