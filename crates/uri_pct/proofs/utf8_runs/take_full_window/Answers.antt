use Rattle.uri_pct.proofs.Common.{◌≡◌, ◌-◌, ◌∙◌, ℕ, map, length, take, drop, refl, sym, ap, subst, unfinished_len, window_bytes, Decoded, parts_from, utf8_pieces}
use Rattle.uri_pct.proofs.Unicode.Unfinished.{parts_from_are_cut_before_unfinished_end}
use Rattle.uri_pct.proofs.utf8_runs.take_full_window.Goals as goal

pub returns-clause-taken : goal.returns-clause-taken
returns-clause-taken g c = λ u suffix h.
    let took = g.T.TakeParts.took in
    let bytes = window_bytes c.args.window.now in
    let n : ℕ = length bytes - unfinished_len bytes in
    let start = c.args.taker.now in
    let middle = c.take_run.new.taker in
    let kept : c.unfinished_len-kept.result ≡ unfinished_len bytes =
    c.unfinished_len-kept.ensures.value ∙ ap unfinished_len c.as_slice-bytes.ensures.value in
    let prefix : take (length c.as_slice-bytes.result.now - c.unfinished_len-kept.result)
    c.as_slice-bytes.result.now ≡ take n bytes = rw (kept, c.as_slice-bytes.ensures.value) refl in
    let first : took start (map Decoded (utf8_pieces (take n bytes))) middle = subst (λ items.
    took start (map Decoded (utf8_pieces items)) middle) prefix c.in_ok-take_run.ensures in
    let rest : took middle (parts_from (drop n bytes) suffix) u =
    subst (λ items. took middle (parts_from items suffix) u)
    (c.keep_last.ensures ∙ ap (λ k. drop (length bytes - k) bytes) kept) h in
    subst (λ ps. took start ps u) (sym (parts_from_are_cut_before_unfinished_end bytes suffix))
    (g.met.T.TakeParts.takes_appended_parts start middle u _ _ first rest)
