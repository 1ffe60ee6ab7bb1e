use Rattle.uri_ops.proofs.Common.{subst, sym, string_bytes, core_text, default_rules, IsNormalForm}
use Rattle.uri_ops.proofs.Normal.NormalForms.{normal-text-is-of-kind, normal-text-is-normal-form}
use Rattle.uri_ops.proofs.normalize.normalize_with_defaults.Goals as goal

pub make_owned-requires-clause-of_kind : goal.make_owned-requires-clause-of_kind
make_owned-requires-clause-of_kind g c = (normal-text-is-of-kind g.R.RiMaybeRef.kind
    g.R.Kind.Kind.kind g.met.R.RiMaybeRef.kind_is_its_own
    g.met.R.RiMaybeRef.component_sets default_rules (core_text c.core.result)
    (g.R.RiMaybeRef.text c.args.value.now) (string_bytes c.in_ok-made.made.text) c.core.ensures.text
    c.normalize_core.ensures.utf8 c.core.ensures.of_kind c.in_ok-made.ensures.text).grammar

pub returns : goal.returns
returns g c =
    subst (IsNormalForm g.R.RiMaybeRef.kind default_rules (g.R.RiMaybeRef.text c.args.value.now))
    (sym c.make_owned.ensures) (normal-text-is-normal-form g.R.RiMaybeRef.kind g.R.Kind.Kind.kind
    g.met.R.RiMaybeRef.kind_is_its_own g.met.R.RiMaybeRef.component_sets default_rules
    (core_text c.core.result)
    (g.R.RiMaybeRef.text c.args.value.now) (string_bytes c.in_ok-made.made.text) c.core.ensures.text
    c.normalize_core.ensures.utf8 c.core.ensures.of_kind c.in_ok-made.ensures.text)
