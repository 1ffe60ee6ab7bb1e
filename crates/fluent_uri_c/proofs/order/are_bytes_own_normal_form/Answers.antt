-- A text of the kind is its own normal form exactly if normalising returns it.
use Rattle.fluent_uri_c.proofs.Common.{◌≡◌, ◌↔◌, true, subst, reference_text}
use Rattle.fluent_uri_c.proofs.Orders.{form-by-set, own-normal-result}
use Rattle.fluent_uri_c.proofs.order.are_bytes_own_normal_form.Goals as goal

pub returns-in-Ok : goal.returns-in-Ok
returns-in-Ok g c =
    let text = reference_text c.in-Ok.value in
    own-normal-result c.args.rules g.K.Kind.kind c.args.text.now text c.is_normal.result
    c.in-Ok.ensures.rejected c.in-Ok.ensures.text (subst
    (λ form. (c.is_normal.result ≡ true) ↔ (form ≡ text))
    (form-by-set _ c.args.rules c.scheme_rules_with.ensures g.K.Kind.kind text) c.is_normal.ensures)
