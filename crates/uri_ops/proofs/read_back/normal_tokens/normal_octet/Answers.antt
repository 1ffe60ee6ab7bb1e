-- The character of an unreserved octet is held, or the octet.
use Rattle.uri_ops.proofs.Common.{length, ap, ◌∙◌, arith}
use Rattle.uri_ops.proofs.FromEnd.LastDecodables.{char_has_one_to_four_bytes}
use Rattle.uri_ops.proofs.Meanings.AsciiSuffixes.{reserved-octet-is-written}
use Rattle.uri_ops.proofs.Meanings.UnreservedCodes.{unreserved-octet-prints-its-code}
use Rattle.uri_ops.proofs.read_back.normal_tokens.normal_octet.Goals as goal

pub returns-in-Some-clause-text : goal.returns-in-Some-clause-text
returns-in-Some-clause-text c = grind (arith, unreserved-octet-prints-its-code)

pub returns-in-Some-clause-some : goal.returns-in-Some-clause-some
returns-in-Some-clause-some c = grind (arith, char_has_one_to_four_bytes)

pub returns-in-None-clause-text : goal.returns-in-None-clause-text
returns-in-None-clause-text c = c.octet.ensures
    ∙ reserved-octet-is-written c.args.lowers c.args.value c.in-None.ensures

pub returns-in-None-clause-some : goal.returns-in-None-clause-some
returns-in-None-clause-some c = omega (arith, ap length c.octet.ensures)
