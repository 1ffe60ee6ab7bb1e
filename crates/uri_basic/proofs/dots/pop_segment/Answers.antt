use Rattle.uri_basic.proofs.Common.{◌≡◌, ◌+◌, ◌<◌, ◌-◌, ◌++◌, ℕ, List, ap, arith, get_or, length, rules, string_bytes, subst, sym, take, ◌∙◌, codes, IsUtf8-string_bytes, EndsInSlash, before_last_slash, up_to_last_slash, string_len-is-length-of-bytes}
use Rattle.uri_basic.proofs.Places.{nothing-to-pop, pop-of-last-segment, pop-of-only-segment, position-of-last-segment-is-boundary, slice-to-end, something-kept-is-directory}
use Rattle.uri_basic.proofs.dots.pop_segment.Goals as goal

pub returns-then-len-start : goal.returns-then-len-start
returns-then-len-start c =
    let same : c.len.result ≡ c.args.start = search rules in
    nothing-to-pop (string_bytes c.args.out.now) c.args.start
    (sym same ∙ (c.len.ensures ∙ string_len-is-length-of-bytes c.args.out.now))

pub last_segment_start-kept-requires : goal.last_segment_start-kept-requires
last_segment_start-kept-requires c =
    let text = string_bytes c.args.out.now in
    let long : c.len.result ≡ length text =
    c.len.ensures ∙ string_len-is-length-of-bytes c.args.out.now in
    subst EndsInSlash
    (sym (slice-to-end text c.as_bytes.result.now c.args.start c.as_bytes.ensures.value))
    (something-kept-is-directory text c.args.start c.requires.start
    (λ e. omega (arith, e, long, c.if-len-start.false)) c.requires.kept)

pub truncate-requires : goal.truncate-requires
truncate-requires c =
    let text = string_bytes c.args.out.now in
    let slice = slice-to-end text c.as_bytes.result.now c.args.start c.as_bytes.ensures.value in
    let n = c.last_segment_start-kept.result in
    let place = position-of-last-segment-is-boundary text c.args.start n
    (IsUtf8-string_bytes c.args.out.now) c.requires.prefix c.requires.start
    (subst (λ (d : List ℕ). n < length d) slice c.last_segment_start-kept.ensures.within)
    (subst (λ (d : List ℕ). 0 < n → get_or d (n - 1) 0 ≡ 47) slice
    c.last_segment_start-kept.ensures.slash) in
    λ _. (place.0, λ _. place.1)

pub returns-in_ok-push : goal.returns-in_ok-push
returns-in_ok-push c =
    let text = string_bytes c.args.out.now in
    let start = c.args.start in
    let slice = slice-to-end text c.as_bytes.result.now start c.as_bytes.ensures.value in
    let n = c.last_segment_start-kept.result in
    let long : c.len.result ≡ length text =
    c.len.ensures ∙ string_len-is-length-of-bytes c.args.out.now in
    let ends = something-kept-is-directory text start c.requires.start
    (λ e. omega (arith, e, long, c.if-len-start.false)) c.requires.kept in
    let pushed : string_bytes c.push.new.self ≡ string_bytes c.truncate.new.self ++ codes "/" =
    search rules in
    let cut : string_bytes c.truncate.new.self ≡ take (start + n) text = c.truncate.ensures.bytes in
    pushed ∙ ap (λ t. t ++ codes "/") cut ∙ pop-of-only-segment text start n ends
    (subst (λ (d : List ℕ). n < length d) slice c.last_segment_start-kept.ensures.within) (subst
    (λ (d : List ℕ). take n d ≡ up_to_last_slash (before_last_slash d)) slice
    c.last_segment_start-kept.ensures.before) (omega (arith, c.if-kept-eq0.true))

pub returns-else-kept-eq0 : goal.returns-else-kept-eq0
returns-else-kept-eq0 c =
    let text = string_bytes c.args.out.now in
    let start = c.args.start in
    let slice = slice-to-end text c.as_bytes.result.now start c.as_bytes.ensures.value in
    let n = c.last_segment_start-kept.result in
    let long : c.len.result ≡ length text =
    c.len.ensures ∙ string_len-is-length-of-bytes c.args.out.now in
    let ends = something-kept-is-directory text start c.requires.start
    (λ e. omega (arith, e, long, c.if-len-start.false)) c.requires.kept in
    let cut : string_bytes c.truncate.new.self ≡ take (start + n) text = c.truncate.ensures.bytes in
    cut ∙ pop-of-last-segment text start n ends
    (subst (λ (d : List ℕ). n < length d) slice c.last_segment_start-kept.ensures.within) (subst
    (λ (d : List ℕ). take n d ≡ up_to_last_slash (before_last_slash d)) slice
    c.last_segment_start-kept.ensures.before)
    (λ e. omega (arith, e, c.if-kept-eq0.false))
