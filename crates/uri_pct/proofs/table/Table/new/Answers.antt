use Rattle.uri_pct.proofs.Common.{◌≡◌, ◌∙◌, ◌||◌, take, get_or, eqb, sym, ap, arith, take_all, list_any_more, is_one_of, has_bit}
use Rattle.uri_pct.proofs.TableSets.Masks.{has_bit_of_percent_is_bit_of_low, has_bit-zero-masks, has_bit_after_low_bit_is_set, has_bit_after_high_bit_is_set}
use Rattle.uri_pct.proofs.TableSets.Tables.{byte_unlike_all_is_not_one_of_them, unencoded_ascii_is_below_128_and_no_percent}
use Rattle.uri_pct.proofs.table.Table.new.Goals as goal
use Rattle.uri_pct.proofs.table.Table.new.Goals.{then-byte-lt64, else-byte-lt64}

pub loop-byte-init : goal.loop-byte-init
loop-byte-init c = has_bit-zero-masks

pub loop-byte-preserved : goal.loop-byte-preserved
loop-byte-preserved c = λ code.
    let here = get_or c.args.bytes.now c.loop-byte.byte-index 0 in
    let step : has_bit c.if-byte-lt64.low c.if-byte-lt64.high code
    ≡ (has_bit c.loop-byte.low c.loop-byte.high code || eqb here code) = grind (
      arith,
      then-byte-lt64,
      has_bit_after_low_bit_is_set,
      else-byte-lt64,
      has_bit_after_high_bit_is_set,
      unencoded_ascii_is_below_128_and_no_percent,
    ) in
    step ∙ ap (λ b. b || eqb here code) (c.loop-byte.invariant code) ∙ sym (list_any_more
    (λ x. eqb x code) c.args.bytes.now c.loop-byte.byte-index 0 c.loop-byte-test.true)

pub invariant_of-result : goal.invariant_of-result
invariant_of-result c =
    let all : take c.loop-byte.byte-index c.args.bytes.now ≡ c.args.bytes.now =
    take_all c.loop-byte.byte-index c.args.bytes.now c.loop-byte-test.false in
    record {
      lacks_percent = sym (has_bit_of_percent_is_bit_of_low c.loop-byte.low c.loop-byte.high)
          ∙ c.loop-byte.invariant 37 ∙ ap (λ bs. is_one_of bs 37) all
          ∙ byte_unlike_all_is_not_one_of_them c.args.bytes.now 37 (λ k d within.
          (unencoded_ascii_is_below_128_and_no_percent c.args.bytes.now c.requires k d within).1);
    }
