use Rattle.fluent_uri.proofs.Calling.{resolution_is_target}
use Rattle.fluent_uri.specs.Prelude.{reference_text}
use Rattle.obligations.proofs.bases.link_to_target.Goals as goal

pub returns : goal.returns
returns g c =
    rw (resolution_is_target (reference_text c.args.page.now) (reference_text c.args.link.now) _
    c.in_ok-target.ensures.target) c.in_ok-relativize.ensures.leads
