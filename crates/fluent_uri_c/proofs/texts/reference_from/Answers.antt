use Rattle.fluent_uri_c.proofs.Common.{arith}
use Rattle.fluent_uri_c.proofs.References.{IsRelativized-of-equal-texts, reference_from-of-reference}
use Rattle.fluent_uri_c.proofs.texts.reference_from.Goals as goal

pub returns-in_ok-relativize-in-Ok-clause-text : goal.returns-in_ok-relativize-in-Ok-clause-text
returns-in_ok-relativize-in-Ok-clause-text g c = grind (arith, reference_from-of-reference)

pub returns-in_ok-relativize-in-Ok-clause-leads : goal.returns-in_ok-relativize-in-Ok-clause-leads
returns-in_ok-relativize-in-Ok-clause-leads g c = grind (arith, IsRelativized-of-equal-texts)
