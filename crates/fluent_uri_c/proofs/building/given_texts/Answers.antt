use Rattle.fluent_uri_c.proofs.Common.{◌∙◌, ap, sym, together_rejection}
use Rattle.uri_ops.proofs.Offered.{one-of-four-kinds-has-sets}
use Rattle.fluent_uri_c.proofs.BuiltTexts.{built-text-has-given-components}
use Rattle.fluent_uri_c.proofs.building.given_texts.Goals as goal

pub returns-in-None-clause-valid : goal.returns-in-None-clause-valid
returns-in-None-clause-valid g c =
    let kind = g.K.Kind.kind in
    let valid = c.in_ok-texts.ensures.valid in
    built-text-has-given-components kind (one-of-four-kinds-has-sets kind g.met.K.Kind.known)
    c.args.text.now c.args.spans.now valid.scheme valid.authority valid.tail
    (ap (together_rejection kind) (sym c.in_ok-texts.ensures.components) ∙ sym c.in-None.ensures)
