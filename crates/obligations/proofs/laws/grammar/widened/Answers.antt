use Rattle.fluent_uri.specs.Grammar.{iri_ref}
use Rattle.obligations.proofs.laws.grammar.widened.Goals as goal

pub returns : goal.returns
returns c = λ kind within is. c.texts_are_of_wider_kinds_too.ensures.wider kind iri_ref
    c.args.text.now
    c.four_kinds_have_component_sets.ensures.iri_ref within is
