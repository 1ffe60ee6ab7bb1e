use Rattle.uri_ops.proofs.Common.{arith, sym, ◌∙◌, starts}
use Rattle.uri_ops.proofs.Targeting.JoinedPieces.{zero-length-is-empty}
use Rattle.uri_ops.proofs.resolve.target_case.target_case.Goals as goal

pub returns-then-has_scheme : goal.returns-then-has_scheme
returns-then-has_scheme c = sym c.has_scheme.ensures ∙ c.if-has_scheme.true

pub returns-then-has_authority : goal.returns-then-has_authority
returns-then-has_authority c = grind arith

pub returns-then-is_empty : goal.returns-then-is_empty
returns-then-is_empty c = grind (arith, zero-length-is-empty)

pub returns-then-begins_with_slash : goal.returns-then-begins_with_slash
returns-then-begins_with_slash c = grind (arith, zero-length-is-empty, starts)

pub returns : goal.returns
returns c = grind (arith, zero-length-is-empty, starts)
