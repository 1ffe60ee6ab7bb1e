use Rattle.uri_parts.proofs.Common.{arith, IsCharBoundary-after_ascii}
use Rattle.uri_parts.proofs.slicing.after_mark.Goals as goal

pub range_from-requires : goal.range_from-requires
range_from-requires c = λ _. IsCharBoundary-after_ascii c.args.text.now 0 c.utf8.text (omega arith)
    (rw (← c.as_bytes.ensures.value) (omega (arith, c.if-first-mark.true)))
