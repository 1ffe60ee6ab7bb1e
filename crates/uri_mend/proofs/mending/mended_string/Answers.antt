use Rattle.uri_mend.proofs.Common.{◌∙◌, subst, string_bytes, IsUtf8-string_bytes, IsOfKind, one-of-four-kinds-has-sets}
use Rattle.uri_mend.proofs.MendedResults.{equal-to-text-of-kind-is-mended}
use Rattle.uri_mend.proofs.mending.mended_string.Goals as goal

pub returns-in-Ok-clause-mended : goal.returns-in-Ok-clause-mended
returns-in-Ok-clause-mended g c =
    let kind = g.K.Kind.kind in
    let sets = one-of-four-kinds-has-sets kind g.met.K.Kind.known in
    equal-to-text-of-kind-is-mended kind sets (string_bytes c.args.text)
    (IsUtf8-string_bytes c.args.text) _
    (subst (IsOfKind kind) (c.in-Ok.ensures.text ∙ c.as_str.ensures.value) c.in-Ok.core.of_kind)
    (c.of_core.ensures.text ∙ c.new.ensures.text)
