use Rattle.uri_mend.proofs.Common.{◌+◌, ◌-◌, ◌++◌, take, drop, length, map, ap, sym, ◌∙◌, arith, length-take-le, take_all, Octet, print}
use Rattle.uri_mend.proofs.Buffers.{octets-of-fewer-bytes, octets-of-more-bytes}
use Rattle.uri_mend.proofs.octets.place_all.Goals as goal

pub loop-done-preserved : goal.loop-done-preserved
loop-done-preserved c = grind (arith, Octet, octets-of-more-bytes)

pub returns-clause-text : goal.returns-clause-text
returns-clause-text c =
    let bytes = c.args.bytes.now in
    let last = length bytes - 16 in
    let done = c.loop-done.done in
    let before = take c.args.start c.args.out.now in
    c.place_block.ensures.text ∙ ap (λ t. t ++ print (map Octet (take 16 (drop last bytes))))
    (octets-of-fewer-bytes last done c.args.start bytes before c.loop-done.out
    (omega (arith, c.loop-done-test.false))
    (length-take-le c.args.start c.args.out.now (omega arith))
    (sym (ap (λ k. take k c.loop-done.out) c.loop-done.invariant.at) ∙ c.loop-done.invariant.text))
    ∙ octets-of-more-bytes last 16 bytes before
    ∙ ap (λ t. before ++ print (map Octet t)) (take_all (last + 16) bytes (omega arith))
