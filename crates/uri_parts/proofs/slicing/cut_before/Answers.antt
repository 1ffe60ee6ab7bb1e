use Rattle.uri_parts.proofs.Common.{◌≡◌, ap, sym, ◌∙◌, rules, subst, IsCharBoundary, AreAscii-by-test, first_mark_is_at_boundary, length_before_marks}
use Rattle.uri_parts.proofs.slicing.cut_before.Goals as goal

pub split_at-requires : goal.split_at-requires
split_at-requires c =
    let text = c.args.text.now in
    let marks = c.args.marks.now in
    let same : length_before_marks marks text ≡ c.length_before.result =
    sym (c.length_before.ensures ∙ ap (length_before_marks marks) c.as_bytes.ensures.value) in
    subst (IsCharBoundary text) same
    (first_mark_is_at_boundary marks (AreAscii-by-test marks (search rules)) text)
