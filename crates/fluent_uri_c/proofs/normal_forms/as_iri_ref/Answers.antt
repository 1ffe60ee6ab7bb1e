use Rattle.fluent_uri_c.proofs.Common.{ℕ, Bool, true, false, List, subst, IsUtf8, IsOfKind, Kind, iri_ref, kind_by_flags}
use Rattle.uri_parts.specs.CoreTexts.{core_text}
use Rattle.uri_parts.proofs.Offered.{iri_is_iri_ref, uri_is_uri_ref}
use Rattle.uri_ops.proofs.Offered.{uri_ref_is_iri_ref}
use Rattle.fluent_uri_c.proofs.normal_forms.as_iri_ref.Goals as goal

text-of-one-of-four-kinds-is-iri_ref : (past needs : Bool) (text : List ℕ) → IsUtf8 text
    → IsOfKind (kind_by_flags past needs) text → IsOfKind iri_ref text
text-of-one-of-four-kinds-is-iri_ref false false text u h = uri_ref_is_iri_ref text u h
text-of-one-of-four-kinds-is-iri_ref false true text u h =
    uri_ref_is_iri_ref text u (uri_is_uri_ref text h)
text-of-one-of-four-kinds-is-iri_ref true false text u h = h
text-of-one-of-four-kinds-is-iri_ref true true text u h = iri_is_iri_ref text h

pub into_kind-requires : goal.into_kind-requires
into_kind-requires g c =
    let core = c.into_core.ensures in
    let text = core_text c.into_core.result in
    text-of-one-of-four-kinds-is-iri_ref g.K.Kind.kind.path.ucschar g.K.Kind.kind.needs_scheme text
    core.utf8 (subst (λ (k : Kind). IsOfKind k text) g.met.K.Kind.known core.of_kind)
