use Rattle.std.proofs.Common.{◌≡◌, ◌+◌, ◌-◌, ◌++◌, take, drop, ap, append_assoc, ◌∙◌, arith}
use Rattle.uri_mend.proofs.ComponentProgress.{run-goes-on}
use Rattle.uri_mend.proofs.buffer.place_run.Goals as goal

pub returns-then-len-clause-text : goal.returns-then-len-clause-text
returns-then-len-clause-text c =
    let bytes = c.args.bytes.now in
    let start = c.args.start in
    let end = c.args.end in
    let before = take c.args.at c.args.out.now in
    let last = take 16 (drop (end - 16) bytes) in
    let first : end - start - 16 ≡ end - 16 - start = omega arith in
    let both : end - 16 + 16 - start ≡ end - start = omega arith in
    c.place_lanes-then-len.ensures.text ∙ ap (λ t. t ++ last) c.place_lanes-last.ensures.text
    ∙ append_assoc before (take (end - start - 16) (drop start bytes)) last ∙ ap (λ t. before ++ t)
    (ap (λ n. take n (drop start bytes) ++ last) first
    ∙ run-goes-on bytes start (end - 16) 16 (omega arith)
    ∙ ap (λ n. take n (drop start bytes)) both)
