use Rattle.uri_ops.proofs.Common.{◌≡◌, refl, sym, ap, subst, string_bytes, is_ok, IsOfKind, scheme_rules_of, IsNormalTarget, IsNormalTargetError, base_of}
use Rattle.uri_ops.specs.declared.resolve.error.ResolveError.TheVariants.{OutOfMemory}
use Rattle.uri_ops.proofs.Normal.NormalForms.{normal-text-is-of-kind, normal-text-is-normal-form}
use Rattle.uri_ops.proofs.Targeting.NormalTargets.{if-error-from-error-and, normal-form-of-target-respects-meaning, refusal}
use Rattle.uri_ops.proofs.resolve.Resolver.resolve_normalized.Goals as goal

pub returns-in_err-target-clause-refusal : goal.returns-in_err-target-clause-refusal
returns-in_err-target-clause-refusal g c =
    let kind = g.R.RiMaybeRef.kind in
    let rules = g.S.SchemeRules.rules_of (scheme_rules_of c.args.normalizer.now) in
    let base = g.R.RiMaybeRef.text (base_of c.args.self.now) in
    let reference = g.Q.RiMaybeRef.text c.args.reference.now in
    if-error-from-error-and c.from_residual.result _
    (IsNormalTargetError kind g.Q.RiMaybeRef.kind rules base reference)
    (λ error h. subst (IsNormalTargetError kind g.Q.RiMaybeRef.kind rules base reference)
    (sym h) (refusal kind g.Q.RiMaybeRef.kind
    g.met.R.RiMaybeRef.component_sets g.met.R.Ri.needs_scheme g.met.Q.RefOf.same_tables
    rules base reference c.resolve_to_text.ensures.base c.resolve_to_text.ensures.reference
    c.in_err-target.field-0.0 c.in_err-target.ensures.resolved.error)) c.from_residual.ensures.1

pub normalize_string-requires-clause-of_kind : goal.normalize_string-requires-clause-of_kind
normalize_string-requires-clause-of_kind g c =
    subst (λ k. IsOfKind k (string_bytes c.in_ok-target.target.text))
    (sym g.met.R.RiMaybeRef.kind_is_its_own) c.in_ok-target.ensures.of_kind.grammar

pub returns-in_err-made-clause-refusal : goal.returns-in_err-made-clause-refusal
returns-in_err-made-clause-refusal g c =
    let kind = g.R.RiMaybeRef.kind in
    let rules = g.S.SchemeRules.rules_of (scheme_rules_of c.args.normalizer.now) in
    let base = g.R.RiMaybeRef.text (base_of c.args.self.now) in
    let reference = g.Q.RiMaybeRef.text c.args.reference.now in
    if-error-from-error-and c.from_residual-in_err-made.result _
    (IsNormalTargetError kind g.Q.RiMaybeRef.kind rules base reference)
    (λ error h. subst (IsNormalTargetError kind g.Q.RiMaybeRef.kind rules base reference)
    (sym h) (refusal kind g.Q.RiMaybeRef.kind
    g.met.R.RiMaybeRef.component_sets g.met.R.Ri.needs_scheme g.met.Q.RefOf.same_tables rules
    base reference c.resolve_to_text.ensures.base c.resolve_to_text.ensures.reference OutOfMemory
    (ap is_ok c.in_ok-target.ensures.resolved.target.0))) c.from_residual-in_err-made.ensures.1

pub make_owned-requires-clause-of_kind : goal.make_owned-requires-clause-of_kind
make_owned-requires-clause-of_kind g c = (normal-text-is-of-kind g.R.RiMaybeRef.kind
    g.R.Kind.Kind.kind g.met.R.RiMaybeRef.kind_is_its_own g.met.R.RiMaybeRef.component_sets
    (g.S.SchemeRules.rules_of (scheme_rules_of c.args.normalizer.now))
    (string_bytes c.in_ok-target.target.text) (string_bytes c.in_ok-target.target.text)
    (string_bytes c.in_ok-made.made.text) refl c.normalize_string.ensures.utf8
    c.in_ok-target.ensures.of_kind.grammar c.in_ok-made.ensures.text).grammar

pub returns-clause-normal : goal.returns-clause-normal
returns-clause-normal g c =
    let kind = g.R.RiMaybeRef.kind in
    let rules = g.S.SchemeRules.rules_of (scheme_rules_of c.args.normalizer.now) in
    let base = g.R.RiMaybeRef.text (base_of c.args.self.now) in
    let reference = g.Q.RiMaybeRef.text c.args.reference.now in
    let owned : g.R.RiMaybeRef.owned_text c.make_owned.result
    ≡ string_bytes c.in_ok-made.made.text = c.make_owned.ensures in
    subst (IsNormalTarget kind g.Q.RiMaybeRef.kind rules base reference)
    (sym owned) (normal-form-of-target-respects-meaning kind g.Q.RiMaybeRef.kind
    g.met.R.RiMaybeRef.component_sets g.met.R.Ri.needs_scheme g.met.Q.RefOf.same_tables
    rules base reference c.resolve_to_text.ensures.base c.resolve_to_text.ensures.reference
    (string_bytes c.in_ok-target.target.text) (string_bytes c.in_ok-made.made.text)
    c.in_ok-target.ensures.resolved.target.0 (normal-text-is-normal-form kind
    g.R.Kind.Kind.kind g.met.R.RiMaybeRef.kind_is_its_own g.met.R.RiMaybeRef.component_sets rules
    (string_bytes c.in_ok-target.target.text) (string_bytes c.in_ok-target.target.text)
    (string_bytes c.in_ok-made.made.text) refl c.normalize_string.ensures.utf8
    c.in_ok-target.ensures.of_kind.grammar c.in_ok-made.ensures.text))
