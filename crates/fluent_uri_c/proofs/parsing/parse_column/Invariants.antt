use Rattle.fluent_uri_c.proofs.Common.{◌≡◌, ℕ, ◌<◌, drop, column_of, kind_numbered}
use Rattle.fluent_uri_c.specs.PartColumns.{HasPartsAt}
use Rattle.fluent_uri_c.proofs.parsing.parse_column.Given as goal

-- the parts of the texts so far, and the others as they were
abbrev pub invariant-loop-index : goal.invariant-loop-index
invariant-loop-index g l = ((i : ℕ) → i < l.index → HasPartsAt (kind_numbered l.kind)
    (column_of g.O.Offset.value g.O.Offset.limit l.texts l.offsets) l.parts i)
    × (drop l.index l.parts ≡ drop l.index l.fn.parts)
