use Rattle.uri_parts.proofs.Common.{arith, IsCharBoundary-after_ascii}
use Rattle.uri_parts.proofs.cursor.Cursor.skip.Goals as goal

pub invariant_of-self : goal.invariant_of-self
invariant_of-self c =
    let b = IsCharBoundary-after_ascii c.as_bytes-bytes.result.now c.args.self.now.position
    c.as_bytes-bytes.ensures.utf8 (omega arith) (omega (arith, c.requires)) in
    grind arith
