use Rattle.uri_ops.proofs.Common.{ap, subst, sym, take, ◌+◌, ◌∙◌, IsCharBoundary, IsUtf8, ArePositionsOf, slice_range-from-start}
use Rattle.uri_ops.proofs.Targeting.TextViews.{through_slash}
use Rattle.uri_ops.proofs.resolve.text_view.TextView.through_slash.Goals as goal

pub range-requires-clause-end_boundary : goal.range-requires-clause-end_boundary
range-requires-clause-end_boundary c =
    let text = c.args.self.now.text.now in
    let p = c.unpack-positions.result in
    let same = c.as_str-text.ensures.text in
    let at : ArePositionsOf text p =
    subst (λ t. ArePositionsOf t p) same c.unpack-positions.ensures in
    subst (λ t. IsCharBoundary t (p.path_start + c.args.slash + 1)) (sym same) (through_slash text p
    (subst IsUtf8 same c.as_str-text.utf8) at c.args.slash c.requires.absolute c.requires.place).0

pub returns : goal.returns
returns c =
    let text = c.args.self.now.text.now in
    let p = c.unpack-positions.result in
    let end = p.path_start + c.args.slash + 1 in
    let same = c.as_str-text.ensures.text in
    let at : ArePositionsOf text p =
    subst (λ t. ArePositionsOf t p) same c.unpack-positions.ensures in
    c.range.ensures.value ∙ slice_range-from-start c.as_str-text.result.now end
    ∙ ap (take end) same ∙ (through_slash text p
    (subst IsUtf8 same c.as_str-text.utf8) at c.args.slash c.requires.absolute c.requires.place).1
