use Rattle.uri_ops.proofs.Common.{subst, ◌∙◌, IsUtf8, components, core_text, components_meaning, normal_text}
use Rattle.uri_ops.proofs.SchemeRules.RuledParts.{ruled_components-have-normal-text}
use Rattle.uri_ops.proofs.TextKinds.FourKinds.{one-of-four-kinds-has-sets}
use Rattle.uri_ops.proofs.read_back.ruled_back.ruled_back.Goals as goal

pub ruled_path-requires : goal.ruled_path-requires
ruled_path-requires g c = one-of-four-kinds-has-sets g.K.Kind.kind g.met.K.Kind.known

pub normal_back-requires-clause-sets : goal.normal_back-requires-clause-sets
normal_back-requires-clause-sets g c = one-of-four-kinds-has-sets g.K.Kind.kind g.met.K.Kind.known

pub returns : goal.returns
returns g c =
    let kind = g.K.Kind.kind in
    let rules = g.S.SchemeRules.rules_of c.args.rules.now in
    let text = core_text c.args.core in
    c.normal_back.ensures
    ∙ (λ i. normal_text (components_meaning kind rules.ports (record (components text) {
      authority = c.requires.authority i;
      path = c.ruled_path.ensures i;
    }))) ∙ ruled_components-have-normal-text kind rules
    (one-of-four-kinds-has-sets kind g.met.K.Kind.known) text (record {
      utf8 = subst IsUtf8 c.as_str-text.ensures.text c.as_str-text.utf8;
      grammar = c.args.core.of_kind;
    })
