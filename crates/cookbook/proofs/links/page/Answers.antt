use Rattle.std.proofs.Common.{ap, sym, ◌∙◌}
use Rattle.fluent_uri.proofs.Calling.{resolution_is_target}
use Rattle.fluent_uri.specs.Prelude.{resolution_of_texts, uri_text}
use Rattle.cookbook.proofs.links.page.Goals as goal

pub returns-clause-page : goal.returns-clause-page
returns-clause-page c =
    let base = uri_text c.args.base.now in
    rw (resolution_is_target base c.args.link.now _
    (ap (resolution_of_texts base) (sym c.in_ok-parse.ensures.text) ∙ c.in_ok-target.ensures.target))
    c.in_ok-set_fragment.ensures.set
