use Rattle.uri_mend.proofs.Common.{◌++◌, ◌∙◌, ap, sym, list_any, false≢true, is_one_of, tab_and_newlines, trimmed_link, without_any}
use Rattle.uri_mend.proofs.TrimmedLinks.{text-without-marks-is-unchanged, trimmed-text-is-without-outer-space}
use Rattle.uri_mend.proofs.trimming.trim_link.Goals as goal

pub returns-then-not-has_tab_or_newline-clause-text :
    goal.returns-then-not-has_tab_or_newline-clause-text
unfolding trimmed_link
returns-then-not-has_tab_or_newline-clause-text c =
    let link = c.trim_ascii-link.result.now in
    sym (text-without-marks-is-unchanged tab_and_newlines link
    (sym c.has_tab_or_newline.ensures ∙ c.if-not-has_tab_or_newline.true))
    ∙ ap (without_any tab_and_newlines) (trimmed-text-is-without-outer-space c.args.text.now link
    c.trim_ascii-link.ensures.value)

pub returns-in_err-made-clause-unrequested : goal.returns-in_err-made-clause-unrequested
returns-in_err-made-clause-unrequested c = λ none. absurd (false≢true (sym none
    ∙ ap (list_any (is_one_of tab_and_newlines)) (sym (trimmed-text-is-without-outer-space
    c.args.text.now c.trim_ascii-link.result.now c.trim_ascii-link.ensures.value))
    ∙ sym c.has_tab_or_newline.ensures ∙ c.if-not-has_tab_or_newline.false))

pub returns-in_err-push_without_newlines-clause-unrequested :
    goal.returns-in_err-push_without_newlines-clause-unrequested
returns-in_err-push_without_newlines-clause-unrequested c = λ none. absurd (false≢true (sym none
    ∙ ap (list_any (is_one_of tab_and_newlines)) (sym (trimmed-text-is-without-outer-space
    c.args.text.now c.trim_ascii-link.result.now c.trim_ascii-link.ensures.value))
    ∙ sym c.has_tab_or_newline.ensures ∙ c.if-not-has_tab_or_newline.false))

pub returns-clause-text : goal.returns-clause-text
unfolding trimmed_link
returns-clause-text c = c.in_ok-push_without_newlines.ensures ∙ ap
    (λ t. t ++ without_any tab_and_newlines c.trim_ascii-link.result.now) c.in_ok-made.ensures.bytes
    ∙ ap (without_any tab_and_newlines) (trimmed-text-is-without-outer-space c.args.text.now
    c.trim_ascii-link.result.now c.trim_ascii-link.ensures.value)

pub returns-clause-borrowed : goal.returns-clause-borrowed
returns-clause-borrowed c = λ none. false≢true (sym none
    ∙ ap (list_any (is_one_of tab_and_newlines)) (sym (trimmed-text-is-without-outer-space
    c.args.text.now c.trim_ascii-link.result.now c.trim_ascii-link.ensures.value))
    ∙ sym c.has_tab_or_newline.ensures ∙ c.if-not-has_tab_or_newline.false)
