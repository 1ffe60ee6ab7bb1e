use Rattle.uri_mend.proofs.Common.{◌∙◌, subst, IsOfKind, one-of-four-kinds-has-sets}
use Rattle.fluent_uri.proofs.Outcomes.{IfErr-of-only-error}
use Rattle.uri_mend.specs.declared.error.MendError.TheVariants.{OutOfMemory}
use Rattle.uri_mend.specs.Refusing.{IsMendErrorOf}
use Rattle.uri_mend.proofs.MendedResults.{equal-to-text-of-kind-is-mended}
use Rattle.uri_mend.proofs.Unchanged.{text-of-kind-can-be-mended}
use Rattle.uri_mend.proofs.mending.mended_reference.Goals as goal

pub returns-in_ok-to_owned-in-Ok-clause-mended : goal.returns-in_ok-to_owned-in-Ok-clause-mended
returns-in_ok-to_owned-in-Ok-clause-mended g c =
    let kind = g.K.Kind.kind in
    let text = c.args.text.now in
    let sets = one-of-four-kinds-has-sets kind g.met.K.Kind.known in
    equal-to-text-of-kind-is-mended kind sets text c.utf8.text _
    (subst (IsOfKind kind) c.in-Ok.ensures.text c.in-Ok.value.core.of_kind)
    (c.in_ok-to_owned-in-Ok.ensures ∙ c.in-Ok.ensures.text)

pub returns-in_err-to_owned-in-Ok-clause-refused : goal.returns-in_err-to_owned-in-Ok-clause-refused
returns-in_err-to_owned-in-Ok-clause-refused g c =
    let kind = g.K.Kind.kind in
    let text = c.args.text.now in
    let sets = one-of-four-kinds-has-sets kind g.met.K.Kind.known in
    IfErr-of-only-error (IsMendErrorOf kind text) c.from_residual.result OutOfMemory
    c.from_residual.ensures.1 (text-of-kind-can-be-mended kind sets text
    (subst (IsOfKind kind) c.in-Ok.ensures.text c.in-Ok.value.core.of_kind))
