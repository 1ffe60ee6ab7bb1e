use Rattle.uri_parts.proofs.Common.{arith}
use Rattle.std.proofs.lemmas.Grind.{common_steps}
use Rattle.uri_parts.proofs.HostForms.AddressTexts.{decimal_has_no_leading_zeros}
use Rattle.uri_parts.proofs.address_text.put_octet.Goals as goal

pub returns-clause-text : goal.returns-clause-text
returns-clause-text c =
    let digits = decimal_has_no_leading_zeros c.args.octet (omega arith) in
    grind (arith, common_steps, digits)
