use Rattle.uri_pct.proofs.Common.{◌∙◌, sym, not, arith, and_left, has_bit}
use Rattle.uri_pct.proofs.TableSets.Masks.{has_bit_of_mask_difference_is_and_not, has_bit_of_percent_is_bit_of_low}
use Rattle.uri_pct.proofs.TableSets.Percent.{lacks_percent}
use Rattle.uri_pct.proofs.TableSets.Tables.{sets_equal_by_agreement}
use Rattle.uri_pct.proofs.table.Table.sub.Goals as goal

pub invariant_of-result : goal.invariant_of-result
invariant_of-result c =
    let s = c.args.self in
    let t = c.args.other.now in
    record {
      lacks_percent = sym (has_bit_of_percent_is_bit_of_low _ _)
          ∙ has_bit_of_mask_difference_is_and_not s.low s.high t.low t.high 37
          (omega arith) (omega arith)
          ∙ and_left (has_bit s.low s.high 37) (not (has_bit t.low t.high 37)) (lacks_percent s);
    }

pub returns : goal.returns
returns c = grind (arith, sets_equal_by_agreement, has_bit_of_mask_difference_is_and_not)
