use Rattle.fluent_uri_c.proofs.Common.{arith}
use Rattle.fluent_uri_c.proofs.WrittenValues.{value-is-left}
use Rattle.fluent_uri_c.proofs.values.write_normal_form.Goals as goal

pub returns-in-Ok : goal.returns-in-Ok
returns-in-Ok g c = grind (arith, value-is-left)
