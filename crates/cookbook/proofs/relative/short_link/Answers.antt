use Rattle.std.proofs.Common.{ap, arith, refl, sym, ◌∙◌}
use Rattle.fluent_uri.proofs.Calling.{resolution_is_target}
use Rattle.fluent_uri.specs.Prelude.{resolution_of_texts, uri_ref_text, uri_text}
use Rattle.cookbook.proofs.relative.short_link.Goals as goal

pub returns-clause-back : goal.returns-clause-back
returns-clause-back c =
    let page = uri_text c.args.page.now in
    c.in_ok-relativize.ensures.back (uri_ref_text c.in_ok-parse.field-0)
    c.in_ok-target.ensures.target
    ∙ sym (ap (resolution_of_texts page) (sym c.in_ok-parse.ensures.text)
    ∙ c.in_ok-target.ensures.target)

pub returns-clause-short : goal.returns-clause-short
returns-clause-short c =
    let page = uri_text c.args.page.now in
    let shorter = c.in_ok-relativize.ensures.short refl in
    rw (resolution_is_target page c.args.link.now _
    (ap (resolution_of_texts page) (sym c.in_ok-parse.ensures.text) ∙ c.in_ok-target.ensures.target))
    (omega (arith, shorter.than_settled, shorter.than_given))
