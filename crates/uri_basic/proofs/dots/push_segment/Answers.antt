use Rattle.uri_basic.proofs.Common.{◌≡◌, ◌++◌, ap, append_assoc, drop, rules, string_bytes, subst, sym, take, ◌∙◌, OnOk, take-append-drop}
use Rattle.uri_basic.proofs.Segments.{after-segment-by-test}
use Rattle.uri_basic.proofs.dots.push_segment.Goals as goal

pub returns-then-is_single_dot : goal.returns-then-is_single_dot
returns-then-is_single_dot c =
    let text = string_bytes c.args.out.now in
    let after = after-segment-by-test (drop c.args.start text) c.args.segment.now
    c.args.piece.now in
    sym (take-append-drop c.args.start text) ∙ ap (λ t. take c.args.start text ++ t)
    (sym (after.0 (sym c.is_single_dot.ensures ∙ c.if-is_single_dot.true)))

pub returns-then-is_double_dot : goal.returns-then-is_double_dot
returns-then-is_double_dot c =
    let text = string_bytes c.args.out.now in
    let after = after-segment-by-test (drop c.args.start text) c.args.segment.now
    c.args.piece.now in
    subst (λ t.
    OnOk c.pop_segment.result (string_bytes c.pop_segment.new.out ≡ take c.args.start text ++ t))
    (sym (after.1 (sym c.is_double_dot.ensures ∙ c.if-is_double_dot.true))) c.pop_segment.ensures

pub returns : goal.returns
returns c =
    let text = string_bytes c.args.out.now in
    let piece = c.args.piece.now in
    let after = after-segment-by-test (drop c.args.start text) c.args.segment.now piece in
    let pushed : OnOk c.push_str.result (string_bytes c.push_str.new.self ≡ text ++ piece) =
    search rules in
    subst (λ t. OnOk c.push_str.result (string_bytes c.push_str.new.self ≡ t))
    (ap (λ t. t ++ piece) (sym (take-append-drop c.args.start text))
    ∙ append_assoc (take c.args.start text) (drop c.args.start text) piece ∙ ap
    (λ t. take c.args.start text ++ t) (sym (after.2
    (sym c.is_single_dot.ensures ∙ c.if-is_single_dot.false)
    (sym c.is_double_dot.ensures ∙ c.if-is_double_dot.false)))) pushed
