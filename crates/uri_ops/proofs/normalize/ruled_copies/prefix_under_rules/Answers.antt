use Rattle.uri_ops.proofs.Common.{[], length, ap, cond, sym, ◌-◌, ◌++◌, ◌∙◌, codes, Some, marked, slice_range-from-start, components_of}
use Rattle.uri_ops.proofs.SchemeRules.RuledCopies.{text-before-localhost}
use Rattle.uri_ops.proofs.normalize.ruled_copies.prefix_under_rules.Goals as goal

pub range-requires-clause-end_boundary : goal.range-requires-clause-end_boundary
range-requires-clause-end_boundary c =
    let p = components_of c.args.view.now in
    (text-before-localhost p.scheme c.before_path-before.result.now c.before_path-before.utf8
    (c.before_path-before.ensures ∙ ap (λ a. marked [] p.scheme (codes ":")
    ++ marked (codes "//") a []) (c.requires c.if-not-drops_host.false))).cut

pub returns : goal.returns
returns c =
    let p = components_of c.args.view.now in
    let text = c.before_path-before.result.now in
    let drops = c.if-not-drops_host.false in
    c.range.ensures.value ∙ slice_range-from-start text (length text - 9)
    ∙ (text-before-localhost p.scheme text c.before_path-before.utf8 (c.before_path-before.ensures
    ∙ ap (λ a. marked [] p.scheme (codes ":") ++ marked (codes "//") a [])
    (c.requires drops))).holds ∙ ap (λ b. marked [] p.scheme (codes ":")
    ++ marked (codes "//") (cond b (Some []) p.authority) []) (sym drops)
