use Rattle.fluent_uri_c.proofs.Common.{arith, Some, ◌∙◌, ap, sym, result_ok}
use Rattle.fluent_uri_c.proofs.OtherErrors.{normalize_result-is-other, takes-memory-if-out-of-memory}
use Rattle.fluent_uri_c.proofs.lines.normal_line.Goals as goal

pub returns-in-Ok-clause-text : goal.returns-in-Ok-clause-text
returns-in-Ok-clause-text c = ap Some c.of_normal_form.ensures ∙ sym (ap result_ok c.in-Ok.ensures)

pub returns-in-OutOfMemory-clause-memory : goal.returns-in-OutOfMemory-clause-memory
returns-in-OutOfMemory-clause-memory c =
    grind (arith, takes-memory-if-out-of-memory, normalize_result-is-other)
