use Rattle.uri_parts.proofs.Common.{arith}
use Rattle.uri_parts.proofs.HostForms.HexDigits.{three-digits-are-below-4096, next-digit-extends-number, number-ends-at-other-byte}
use Rattle.uri_parts.proofs.address_parser.with_next_digit.Goals as goal

pub overflow_mul-result : goal.overflow_mul-result
overflow_mul-result c =
    let small = three-digits-are-below-4096 _ _ _ c.requires.found c.requires.few in omega arith

pub overflow_add-result : goal.overflow_add-result
overflow_add-result c =
    let small = three-digits-are-below-4096 _ _ _ c.requires.found c.requires.few in omega arith

pub returns-then-digit-eq16-clause-all : goal.returns-then-digit-eq16-clause-all
returns-then-digit-eq16-clause-all c = λ e.
    number-ends-at-other-byte _ _ _ _ _ _ c.requires.found c.requires.next c.digit_of-digit.ensures
    c.if-digit-eq16.true (let few = c.requires.few in omega arith)

pub returns-clause-found : goal.returns-clause-found
returns-clause-found c = next-digit-extends-number
    _ _ _ _ _ _ c.requires.found c.requires.next c.digit_of-digit.ensures c.if-digit-eq16.false
