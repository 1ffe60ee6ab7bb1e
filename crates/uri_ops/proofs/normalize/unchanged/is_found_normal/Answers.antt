use Rattle.uri_ops.proofs.Common.{subst, sym, ◌∙◌, IsUtf8, not-true, core_text}
use Rattle.uri_ops.proofs.SchemeRules.RuledCopies.{unruled-text-is-its-normal-text}
use Rattle.uri_ops.proofs.TextKinds.FourKinds.{one-of-four-kinds-has-sets}
use Rattle.uri_ops.proofs.normalize.unchanged.is_found_normal.Goals as goal

pub returns-then-not-has_root_path-clause-text : goal.returns-then-not-has_root_path-clause-text
returns-then-not-has_root_path-clause-text g c = λ e. record {
  text = unruled-text-is-its-normal-text g.K.Kind.kind (g.S.SchemeRules.rules_of c.args.rules.now)
      (one-of-four-kinds-has-sets g.K.Kind.kind g.met.K.Kind.known)
      (core_text c.args.core) (record {
        utf8 = subst IsUtf8 c.as_str-text.ensures.text c.as_str-text.utf8;
        grammar = c.args.core.of_kind;
      }) (c.is_found_normal_by_ports.ensures.text c.if-not-is_found_normal_by_ports.false)
      (sym c.has_default_host.ensures ∙ not-true _ e)
      (sym c.has_root_path.ensures ∙ c.if-not-has_root_path.true);
}
