use Rattle.uri_basic.proofs.Common.{◌≡◌, ◌++◌, ap, append_assoc, drop, length, string_bytes, subst, sym, ◌∙◌, OnOk, IsUtf8, IsUtf8-string_bytes, up_to_last_slash, string_len-is-length-of-bytes, path_left, remove_dot_segments}
use Rattle.uri_basic.proofs.Places.{appended-path-is-without-dots, whole-prefix-is-utf8}
use Rattle.uri_basic.proofs.dots.push_merged.Goals as goal

pub push_directories-requires-clause-prefix : goal.push_directories-requires-clause-prefix
push_directories-requires-clause-prefix c = whole-prefix-is-utf8 (string_bytes c.args.out.now)
    c.len-start.result (c.len-start.ensures ∙ string_len-is-length-of-bytes c.args.out.now)
    (IsUtf8-string_bytes c.args.out.now)

pub push_directories-requires-2-clause-prefix : goal.push_directories-requires-2-clause-prefix
push_directories-requires-2-clause-prefix c = subst IsUtf8
    (sym c.in_ok-_base_segment.ensures.before) (whole-prefix-is-utf8 (string_bytes c.args.out.now)
    c.len-start.result (c.len-start.ensures ∙ string_len-is-length-of-bytes c.args.out.now)
    (IsUtf8-string_bytes c.args.out.now))

pub push_segment-requires-clause-prefix : goal.push_segment-requires-clause-prefix
push_segment-requires-clause-prefix c =
    subst IsUtf8 (sym (c.in_ok-last.ensures.before ∙ c.in_ok-_base_segment.ensures.before))
    (whole-prefix-is-utf8 (string_bytes c.args.out.now) c.len-start.result
    (c.len-start.ensures ∙ string_len-is-length-of-bytes c.args.out.now)
    (IsUtf8-string_bytes c.args.out.now))

pub returns : goal.returns
returns c =
    let old = string_bytes c.args.out.now in
    let directory = up_to_last_slash c.args.base.now in
    let before = up_to_last_slash c.args.reference.now in
    let start = c.len-start.result in
    let at : start ≡ length old =
    c.len-start.ensures ∙ string_len-is-length-of-bytes c.args.out.now in
    subst (λ t. OnOk c.push_segment.result (string_bytes c.push_segment.new.out ≡ t))
    (appended-path-is-without-dots old (string_bytes c.push_directories-2.new.out)
    (directory ++ before) c.in_ok-last.last.now start at
    (c.in_ok-last.ensures.before ∙ c.in_ok-_base_segment.ensures.before)
    c.in_ok-last.ensures.kept c.in_ok-last.ensures.lacks
    (λ rest. c.in_ok-last.ensures.left rest ∙ c.in_ok-_base_segment.ensures.left (before ++ rest)
    ∙ ap (path_left (drop start old)) (sym (append_assoc directory before rest)))
    ∙ ap (λ t. old ++ remove_dot_segments t)
    (append_assoc directory before c.in_ok-last.last.now
    ∙ ap (λ t. directory ++ t) (sym c.in_ok-last.ensures.last)))
    c.push_segment.ensures
