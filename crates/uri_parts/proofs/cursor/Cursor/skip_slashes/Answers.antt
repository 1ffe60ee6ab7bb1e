use Rattle.uri_parts.proofs.Common.{arith, ◌+◌, ◌≡◌, IsCharBoundary-after_ascii}
use Rattle.uri_parts.proofs.cursor.Cursor.skip_slashes.Goals as goal

pub invariant_of-self : goal.invariant_of-self
invariant_of-self c =
    let i = c.args.self.now.position in
    let b = IsCharBoundary-after_ascii c.as_bytes-bytes.result.now (i + 1)
    c.as_bytes-bytes.ensures.utf8 (omega arith) (omega arith) in
    let e : i + 1 + 1 ≡ i + 2 = omega arith in
    grind arith
