use Rattle.uri_ops.proofs.Common.{ap, subst, ◌∙◌, IsUtf8, components}
use Rattle.uri_ops.proofs.resolve.text_view.TextView.of.Goals as goal

pub returns-clause-components : goal.returns-clause-components
returns-clause-components g c = c.of_core.ensures.components ∙ ap components c.core.ensures.text

pub returns-clause-of_kind : goal.returns-clause-of_kind
returns-clause-of_kind g c = c.core.ensures.of_kind

pub returns-clause-utf8 : goal.returns-clause-utf8
returns-clause-utf8 g c = subst IsUtf8 c.core.ensures.text c.of_core.ensures.utf8
