use Rattle.uri_ops.proofs.Common.{◌≡◌, ◌<◌, ◌+◌, ◌*◌, ◌++◌, ◌∷◌, [], false, inr, slice_set, drop, take, sym, ap, ◌∙◌, subst, arith, digit_value, encode_utf8, IsAscii, ltb-true, true≢false, take_more_set, encode_ascii, IsAscii-push, decoded_text, lowered_code_if}
use Rattle.uri_ops.proofs.Meanings.DecodedPrefixes.{octet-is-decoded-alone, decoded-octet-is-pushed}
use Rattle.uri_ops.proofs.Meanings.UnreservedCodes.{unreserved-octet-prints-its-code, lowered-code-of-ascii-is-ascii}
use Rattle.uri_ops.proofs.normalize.octet_runs.decode_block.Goals as goal

pub loop-count-init : goal.loop-count-init
loop-count-init c = grind arith

pub octet_digits-high-requires-clause-within : goal.octet_digits-high-requires-clause-within
octet_digits-high-requires-clause-within c =
    omega (arith, c.requires.long, c.loop-count-test.true, c.loop-count.invariant.position)

pub loop-count-preserved : goal.loop-count-preserved
loop-count-preserved c =
    let lowers = c.args.lowers in
    let count = c.loop-count.count in
    let block = c.loop-count.block in
    let ch = c.in-Some.ch in
    let holds = c.loop-count.invariant in
    let at = c.octet_digits-high.ensures in
    let value = 16 * digit_value c.octet_digits-high.result.0
    + digit_value c.octet_digits-high.result.1 in
    let small : value < 128 =
    ltb-true _ _ (octet-is-decoded-alone at false (inr c.in-Some.ensures.2)) in
    let same : ch ≡ lowered_code_if lowers value = c.in-Some.ensures.0 in
    let ascii : ch < 128 =
    subst (λ v. v < 128) (sym same) (lowered-code-of-ascii-is-ascii lowers value small) in
    let grown : take (count + 1) (slice_set block count ch) ≡ take count block ++ ch ∷ [] =
    take_more_set block count ch (omega arith) in
    let printed = unreserved-octet-prints-its-code lowers value c.in-Some.ensures.1
    ∙ ap encode_utf8 (sym same) ∙ encode_ascii ch ascii in
    record {
      few = omega arith;
      position = omega (arith, holds.position);
      ascii = subst IsAscii (sym grown) (IsAscii-push (take count block) ch holds.ascii ascii);
      boundary = at.boundary;
      valid = at.valid;
      decoded = λ set. decoded-octet-is-pushed at lowers set (take count block)
          (take (count + 1) (slice_set block count ch))
          (decoded_text lowers set (drop c.args.start c.args.text.now)) false
          (λ never. absurd (true≢false (sym never))) (inr c.in-Some.ensures.2)
          (grown ∙ ap (λ x. take count block ++ x) (sym printed)) (holds.decoded set);
    }
