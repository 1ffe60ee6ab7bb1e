use Rattle.std.proofs.Common.{◌<◌, ◌∙◌, sym, arith, length}
use Rattle.fluent_uri_c.proofs.HostNames.{begins_after_bracket, begins_as_name, empty_is_name}
use Rattle.fluent_uri_c.proofs.parts.begins_as_a_name.Goals as goal

pub returns-in-empty : goal.returns-in-empty
returns-in-empty c =
    let short : length c.args.host.now < 1 = omega arith in λ _. empty_is_name c.args.host.now short

pub returns-then-first-gt91 : goal.returns-then-first-gt91
returns-then-first-gt91 c = λ _. begins_after_bracket c.args.host.now c.if-first-gt91.true

pub returns-then-not-is_ascii_digit : goal.returns-then-not-is_ascii_digit
returns-then-not-is_ascii_digit c = begins_as_name c.args.host.now
    (sym c.is_ascii_digit.ensures.value ∙ c.if-not-is_ascii_digit.true)
