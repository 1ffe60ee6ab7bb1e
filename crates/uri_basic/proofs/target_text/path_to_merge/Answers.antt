use Rattle.uri_basic.proofs.Common.{◌≡◌, ap, false, rules, sym, ◌∙◌, is_empty, components_of}
use Rattle.uri_ops.proofs.Offered.{zero-length-is-empty}
use Rattle.uri_basic.proofs.target_text.path_to_merge.Goals as goal

pub returns : goal.returns
returns c = elim c.else-has_authority.branch [
  | goal.else-has_authority-via-then-has_authority+else-is_empty w ↦
      let some : is_empty (components_of c.args.base.now).path ≡ false =
      ap is_empty (sym c.path-path.ensures) ∙ sym (zero-length-is-empty c.path-path.result.now)
      ∙ sym w.is_empty.ensures ∙ w.if-is_empty.false in
      search (rules, some)
  | goal.else-has_authority-via-else-has_authority w ↦ search rules
]
