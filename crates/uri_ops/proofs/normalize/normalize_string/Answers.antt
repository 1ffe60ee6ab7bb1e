use Rattle.uri_ops.proofs.Common.{arith}
use Rattle.uri_ops.proofs.SchemeRules.RuledCopies.{unruled-text-is-its-normal-text}
use Rattle.uri_ops.proofs.normalize.normalize_string.Goals as goal

pub returns-then-is_found_normal_by_ports-clause-text :
    goal.returns-then-is_found_normal_by_ports-clause-text
returns-then-is_found_normal_by_ports-clause-text g c =
    grind (arith, unruled-text-is-its-normal-text)
