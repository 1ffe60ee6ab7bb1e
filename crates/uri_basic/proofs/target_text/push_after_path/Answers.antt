use Rattle.uri_basic.proofs.Common.{◌≡◌, ap, false, rules, sym, true, ◌∙◌, is_empty, components_of}
use Rattle.uri_ops.proofs.Offered.{zero-length-is-empty}
use Rattle.uri_basic.proofs.TargetPlaces.{fragment-of-target, query-of-target-with-path}
use Rattle.uri_basic.proofs.target_text.push_after_path.Goals as goal

pub returns-then-has_scheme : goal.returns-then-has_scheme
returns-then-has_scheme c = elim c.then-has_scheme.branch [
  | goal.then-has_scheme-via-then-has_scheme w ↦ search rules
  | goal.then-has_scheme-via-else-has_scheme+then-has_authority w ↦ search rules
  | goal.then-has_scheme-via-else-has_scheme+else-has_authority+then-not-is_empty w ↦
      let some : is_empty (components_of c.args.reference.now).path ≡ false =
      ap is_empty (sym w.path.ensures) ∙ sym (zero-length-is-empty w.path.result.now)
      ∙ sym w.is_empty.ensures ∙ w.if-not-is_empty.true in
      search (
        rules,
        query-of-target-with-path (components_of c.args.base.now)
            (components_of c.args.reference.now) some,
        fragment-of-target (components_of c.args.base.now) (components_of c.args.reference.now),
      )
  | goal.then-has_scheme-via-else-has_scheme+else-has_authority+else-not-is_empty+then-has_query w ↦
      let none : is_empty (components_of c.args.reference.now).path ≡ true =
      ap is_empty (sym w.path.ensures) ∙ sym (zero-length-is-empty w.path.result.now)
      ∙ sym w.is_empty.ensures ∙ w.if-not-is_empty.false in
      search (rules, none)
]
