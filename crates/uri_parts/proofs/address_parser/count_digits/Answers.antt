use Rattle.uri_parts.proofs.Common.{◌≡◌, arith}
use Rattle.uri_parts.proofs.HostForms.HexDigits.{next-digit-extends-number, five-digits-are-leading-digits}
use Rattle.uri_parts.proofs.address_parser.count_digits.Goals as goal

pub returns-clause-digits : goal.returns-clause-digits
returns-clause-digits c =
    let last = c.in-Some-with_next_digit-3.ensures in
    let count : c.in-Some-with_next_digit-3.four.count ≡ 4 = omega (
      arith,
      c.in-Some.ensures.count,
      c.in-Some-with_next_digit.ensures.count,
      c.in-Some-with_next_digit-2.ensures.count,
      last.count,
    ) in
    five-digits-are-leading-digits _ _ (next-digit-extends-number c.args.text.now c.args.start 4 _ _
    _ (rw count at last.found) (rw count at last.next) c.digit_of.ensures c.if-digit_of-eq16.false)
