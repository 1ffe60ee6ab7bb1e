use Rattle.uri_ops.proofs.Common.{◌≡◌, ◌-◌, length, take, sym, ap, ◌∙◌, arith, string_bytes, IsCharBoundary-after_ascii, IsUtf8-string_bytes}
use Rattle.uri_ops.proofs.Paths.LastSlashes.{popped-directory-is-parent, slash-before-popped-segment, root-directory-has-no-segment}
use Rattle.uri_ops.proofs.path.dot_segments.pop_segment.Goals as goal

pub truncate-requires : goal.truncate-requires
truncate-requires c =
    let text = string_bytes c.args.out.now in
    let all = take (c.len-end.result - 1) c.as_bytes.result.now in
    let end_is : c.len-end.result ≡ length text = c.len-end.ensures ∙ sym c.as_bytes.ensures.len
    ∙ ap length c.as_bytes.ensures.value in
    let all_is : all ≡ take (length text - 1) text =
    ap (λ n. take (n - 1) c.as_bytes.result.now) end_is
    ∙ ap (take (length text - 1)) c.as_bytes.ensures.value in
    let slash = slash-before-popped-segment text c.args.start c.requires
    all all_is c.last_slash_before-slash.result c.last_slash_before-slash.ensures.place in
    let place = IsCharBoundary-after_ascii text c.last_slash_before-slash.result
    (IsUtf8-string_bytes c.args.out.now) slash.0 (omega (arith, slash.1)) in
    λ _. (place.0, λ _. place.1)

pub returns-clause-bytes : goal.returns-clause-bytes
returns-clause-bytes c = grind (arith, popped-directory-is-parent)

pub returns-clause-none : goal.returns-clause-none
returns-clause-none c = grind (arith, root-directory-has-no-segment)
