use Rattle.uri_ops.proofs.Common.{arith, string_bytes, sym, ◌∙◌, components, recompose, core_text, IsTextOf, changed_components}
use Rattle.uri_ops.proofs.SchemeRules.RuledCopies.{changed-text-is-normal-text, components-of-changed-text, default-host-is-localhost, path-for-root-is-empty}
use Rattle.uri_ops.proofs.normalize.ruled_copies.ruled_copy.Goals as goal

pub changed_copy-requires-clause-host : goal.changed_copy-requires-clause-host
changed_copy-requires-clause-host g c = λ e. default-host-is-localhost _ _ (sym c.requires.host ∙ e)

pub changed_copy-requires-clause-root : goal.changed_copy-requires-clause-root
changed_copy-requires-clause-root g c = λ e. path-for-root-is-empty _ _ (sym c.requires.root ∙ e)

given-is-of-kind : (g : _) (c : goal.In_ok-made g) → IsTextOf g.K.Kind.kind (core_text c.args.core)
given-is-of-kind g c = grind arith

pub returns-clause-text : goal.returns-clause-text
returns-clause-text g c =
    let p = components (core_text c.args.core) in
    record {
      text = changed-text-is-normal-text g.K.Kind.kind (g.S.SchemeRules.rules_of c.args.rules.now)
          c.requires.sets (core_text c.args.core) (given-is-of-kind g c) c.requires.normal
          (string_bytes c.in_ok-made.made.text) (c.in_ok-made.ensures.text
          ∙ (λ i. recompose (changed_components (c.requires.host i) (c.requires.root i) p)));
    }

pub returns-clause-at : goal.returns-clause-at
returns-clause-at g c = grind (arith, components, components-of-changed-text, given-is-of-kind)
