use Rattle.uri_mend.proofs.Common.{◌≡◌, ◌++◌, ◌-◌, sym, ap, ◌∙◌, length, take, arith, slice_range, not-true, not-false, IsCharBoundary-at_seam, IsCharBoundary-start, after_authority, components, before_path, link_components}
use Rattle.uri_mend.proofs.LinkPieces.{prefix-with-false-scheme, prefix-without-false-scheme, text-with-false-scheme-is-mended, text-is-cut-before-path, text-without-false-scheme-is-mended, boundary-before-piece, piece-before-cut, piece-after-cut-is-no-longer, path-with-false-scheme, path-without-false-scheme, query-with-false-scheme, query-without-false-scheme}
use Rattle.uri_mend.proofs.link.cut_link.Goals as goal

pub returns-in_default-clause-prefix : goal.returns-in_default-clause-prefix
returns-in_default-clause-prefix c =
    sym (prefix-with-false-scheme c.args.text.now (not-false _ (sym c.in_default.ensures.some)))

pub returns-in_default-clause-pieces : goal.returns-in_default-clause-pieces
returns-in_default-clause-pieces c =
    text-with-false-scheme-is-mended c.args.text.now (not-false _ (sym c.in_default.ensures.some))

tail-of-text : (c : goal.After-after_authority-tail) → c.args.text.now
    ≡ before_path (components c.args.text.now) ++ c.after_authority-tail.result.now
tail-of-text c = grind (arith, text-is-cut-before-path, components)

pub overflow_sub-text : goal.overflow_sub-text
overflow_sub-text c = piece-after-cut-is-no-longer c.args.text.now
    (before_path (components c.args.text.now)) c.after_authority-tail.result.now (tail-of-text c)

pub range-requires-clause-end_boundary : goal.range-requires-clause-end_boundary
range-requires-clause-end_boundary c = boundary-before-piece c.args.text.now
    (before_path (components c.args.text.now)) c.after_authority-tail.result.now (tail-of-text c)
    c.after_authority-tail.utf8

prefix-of-text : (c : goal.After-tail-1)
    → c.range.result.now ≡ before_path (link_components c.args.text.now)
prefix-of-text c =
    let text = c.args.text.now in
    let tail = c.after_authority-tail.result.now in
    let prefix = before_path (components text) in
    let whole : text ≡ prefix ++ tail = text-is-cut-before-path text ∙ ap (λ t. prefix ++ t)
    (sym (c.after_authority-tail.ensures ∙ ap after_authority c.in-Some.ensures.rest)) in
    let cut : slice_range text 0 (length text - length tail)
    ≡ take (length text - length tail) text = grind arith in
    c.range.ensures.value ∙ cut ∙ piece-before-cut text prefix tail whole
    ∙ sym (prefix-without-false-scheme text (not-true _ (sym c.in-Some.ensures.some)))

pub returns-clause-prefix : goal.returns-clause-prefix
returns-clause-prefix c = prefix-of-text c

pub returns-clause-pieces : goal.returns-clause-pieces
returns-clause-pieces c = grind (arith, text-without-false-scheme-is-mended, prefix-of-text)

pub returns-in_default-clause-path : goal.returns-in_default-clause-path
returns-in_default-clause-path c =
    path-with-false-scheme c.args.text.now (not-false _ (sym c.in_default.ensures.some))

pub returns-in_default-clause-query : goal.returns-in_default-clause-query
returns-in_default-clause-query c =
    query-with-false-scheme c.args.text.now (not-false _ (sym c.in_default.ensures.some))

pub returns-clause-path : goal.returns-clause-path
returns-clause-path c = grind (arith, path-without-false-scheme)

pub returns-clause-query : goal.returns-clause-query
returns-clause-query c = grind (arith, query-without-false-scheme)

pub returns-clause-whole : goal.returns-clause-whole
returns-clause-whole c =
    let text = c.args.text.now in
    let tail = c.after_authority-tail.result.now in
    text-is-cut-before-path text ∙ ap (λ t. before_path (components text) ++ t)
    (sym (c.after_authority-tail.ensures ∙ ap after_authority c.in-Some.ensures.rest)) ∙ ap
    (λ t. t ++ tail) (sym (prefix-of-text c
    ∙ prefix-without-false-scheme text (not-true _ (sym c.in-Some.ensures.some))))

pub returns-in_default-clause-boundary : goal.returns-in_default-clause-boundary
returns-in_default-clause-boundary c = IsCharBoundary-start c.args.text.now c.utf8.text

pub returns-clause-boundary : goal.returns-clause-boundary
returns-clause-boundary c = IsCharBoundary-at_seam c.args.text.now c.range.result.now
    c.after_authority-tail.result.now (returns-clause-whole c) c.after_authority-tail.utf8
