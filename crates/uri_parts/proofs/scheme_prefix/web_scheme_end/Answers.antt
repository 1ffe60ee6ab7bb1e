use Rattle.uri_parts.proofs.Common.{arith, subst, IsCharBoundary, IsCharBoundary-after_ascii}
use Rattle.uri_parts.proofs.scheme_prefix.web_scheme_end.Goals as goal

pub returns-then-are_same-clause-boundary : goal.returns-then-are_same-clause-boundary
returns-then-are_same-clause-boundary c =
    subst (λ t. IsCharBoundary t 8) c.as_bytes-bytes.ensures.value
    (IsCharBoundary-after_ascii c.as_bytes-bytes.result.now 7 c.as_bytes-bytes.ensures.utf8
    (omega arith) (grind (arith, c.are_same-2.ensures.last)))

pub returns-then-begin_same-clause-boundary : goal.returns-then-begin_same-clause-boundary
returns-then-begin_same-clause-boundary c =
    subst (λ t. IsCharBoundary t 7) c.as_bytes-bytes.ensures.value
    (IsCharBoundary-after_ascii c.as_bytes-bytes.result.now 6 c.as_bytes-bytes.ensures.utf8
    (omega arith) (grind (arith, c.begin_same.ensures.third)))
