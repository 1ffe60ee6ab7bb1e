use Rattle.uri_pct.proofs.Common.{◌∙◌, sym, arith, or_from, has_bit}
use Rattle.uri_pct.proofs.TableSets.Masks.{has_bit_of_joined_masks_is_or, has_bit_of_percent_is_bit_of_low}
use Rattle.uri_pct.proofs.TableSets.Percent.{lacks_percent}
use Rattle.uri_pct.proofs.TableSets.Tables.{sets_equal_by_agreement}
use Rattle.uri_pct.proofs.table.Table.or.Goals as goal

pub invariant_of-result : goal.invariant_of-result
invariant_of-result c =
    let s = c.args.self in
    let t = c.args.other.now in
    record {
      lacks_percent = sym (has_bit_of_percent_is_bit_of_low _ _)
          ∙ has_bit_of_joined_masks_is_or s.low s.high t.low t.high 37 ∙ or_from
          (has_bit s.low s.high 37) (has_bit t.low t.high 37) (lacks_percent s) (lacks_percent t);
    }

pub returns : goal.returns
returns c = grind (arith, sets_equal_by_agreement, has_bit_of_joined_masks_is_or)
