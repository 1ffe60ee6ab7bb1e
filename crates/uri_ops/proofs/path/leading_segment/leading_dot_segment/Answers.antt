use Rattle.uri_ops.proofs.Common.{sym, ap, ◌∙◌, arith, dot_len}
use Rattle.uri_ops.proofs.Paths.DotLengths.{no-dot-lengths-no-dot-segment}
use Rattle.uri_ops.proofs.path.leading_segment.leading_dot_segment.Goals as goal

pub returns-then-dot_len-eq0-clause-leading : goal.returns-then-dot_len-eq0-clause-leading
returns-then-dot_len-eq0-clause-leading c =
    let none = sym c.if-dot_len-eq0.true ∙ c.dot_len.ensures.bytes
    ∙ ap dot_len c.as_bytes-bytes.ensures.value in
    no-dot-lengths-no-dot-segment c.args.path.now 0 0 none none (λ some. absurd (omega (arith, some)))
