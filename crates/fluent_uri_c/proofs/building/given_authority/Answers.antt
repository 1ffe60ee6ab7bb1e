use Rattle.fluent_uri_c.proofs.Common.{◌∙◌, ap, refl, sym, absent_or_passes, is_text_for, TableSet, given, is_host_text}
use Rattle.uri_ops.proofs.Offered.{one-of-four-kinds-has-sets}
use Rattle.fluent_uri_c.proofs.BuiltTexts.{given-authority-is-valid}
use Rattle.fluent_uri_c.proofs.building.given_authority.Goals as goal

pub returns-in-Some-clause-valid : goal.returns-in-Some-clause-valid
returns-in-Some-clause-valid g c =
    let kind = g.K.Kind.kind in
    let text = c.args.text.now in
    let spans = c.args.spans.now in
    given-authority-is-valid kind (one-of-four-kinds-has-sets kind g.met.K.Kind.known) text spans
    (given text spans.host) refl (sym (ap
    (λ (s : TableSet). absent_or_passes (given text spans.userinfo) (is_text_for s))
    g.met.K.Kind.userinfo_set) ∙ c.in_ok-userinfo.ensures.valid) (sym (ap
    (λ (s : TableSet). absent_or_passes (given text spans.host) (is_host_text s))
    g.met.K.Kind.reg_name_set) ∙ c.in_ok-host.ensures.valid) c.in_ok-port.ensures.valid
