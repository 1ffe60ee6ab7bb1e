-- The hasher of a text of the kind is given its normal form.
use Rattle.fluent_uri_c.proofs.Common.{◌∙◌, reference_text}
use Rattle.fluent_uri_c.proofs.Orders.{form-by-set, hash-of-form, hash-of-text}
use Rattle.fluent_uri_c.proofs.order.hash.Goals as goal

pub returns-in-Ok-clause-hash : goal.returns-in-Ok-clause-hash
returns-in-Ok-clause-hash g c =
    c.finish.ensures ∙ hash-of-form c.args.seed _ _ _ _ c.seeded-hasher.ensures
    (form-by-set _ c.args.rules c.scheme_rules_with.ensures g.K.Kind.kind
    (reference_text c.in-Ok.value)) c.hash.ensures.text
    ∙ hash-of-text c.args.rules g.K.Kind.kind c.args.text.now (reference_text c.in-Ok.value)
    c.args.seed c.in-Ok.ensures.rejected c.in-Ok.ensures.text
