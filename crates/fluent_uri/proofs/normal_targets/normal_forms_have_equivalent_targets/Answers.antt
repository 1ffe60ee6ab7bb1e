use Rattle.std.proofs.Common.{◌∙◌, subst}
use Rattle.uri_parts.specs.Grammar.{IsTextOf}
use Rattle.uri_ops.specs.Normalizers.{scheme_rules_of}
use Rattle.uri_ops.specs.SchemeRules.{meaning_under}
use Rattle.uri_ops.proofs.Offered.{one-of-four-kinds-has-sets}
use Rattle.fluent_uri.specs.References.{reference_text}
use Rattle.fluent_uri.proofs.TargetsOfNormalForms.{normal-forms-resolve-to-same-meaning, one-meaning-one-normal-form, pairs-are-refused-alike, targets-of-pairs-map-alike}
use Rattle.fluent_uri.proofs.normal_targets.normal_forms_have_equivalent_targets.Goals as goal

pub returns-clause-meanings : goal.returns-clause-meanings
returns-clause-meanings g c =
    let kind = g.K.Base.Kind.kind in
    let base = subst (IsTextOf kind) (c.as_str-base.ensures.text ∙ c.core.ensures.text)
    (record { utf8 = c.as_str-base.utf8; grammar = c.as_str-base.ensures.of_kind }) in
    let reference = subst (IsTextOf g.K.Kind.kind)
    (c.as_str-reference.ensures.text ∙ c.core-2.ensures.text)
    (record { utf8 = c.as_str-reference.utf8; grammar = c.as_str-reference.ensures.of_kind }) in
    let rules = g.S.SchemeRules.rules_of (scheme_rules_of c.args.normalizer.now) in
    normal-forms-resolve-to-same-meaning kind g.K.Kind.kind
    (one-of-four-kinds-has-sets kind g.met.K.Base.Kind.known) g.met.K.Base.BaseKind.needs_scheme
    g.met.K.RefKind.same_tables (reference_text c.args.base.now)
    (reference_text c.args.reference.now) (reference_text c.args.normal_base.now)
    (reference_text c.args.normal_reference.now) base reference rules c.requires.base
    c.requires.reference

pub returns-clause-targets : goal.returns-clause-targets
returns-clause-targets g c = λ target other normal other_normal e d v w.
    let rules = g.S.SchemeRules.rules_of (scheme_rules_of c.args.normalizer.now) in
    one-meaning-one-normal-form g.K.Base.Kind.kind rules target other normal other_normal
    (targets-of-pairs-map-alike (meaning_under g.K.Base.Kind.kind rules)
    (reference_text c.args.normal_base.now) (reference_text c.args.normal_reference.now)
    (reference_text c.args.base.now) (reference_text c.args.reference.now)
    (returns-clause-meanings g c) target other e d) v w

pub returns-clause-refusals : goal.returns-clause-refusals
returns-clause-refusals g c = λ error.
    let rules = g.S.SchemeRules.rules_of (scheme_rules_of c.args.normalizer.now) in
    pairs-are-refused-alike (meaning_under g.K.Base.Kind.kind rules)
    (reference_text c.args.normal_base.now) (reference_text c.args.normal_reference.now)
    (reference_text c.args.base.now) (reference_text c.args.reference.now)
    (returns-clause-meanings g c) error
