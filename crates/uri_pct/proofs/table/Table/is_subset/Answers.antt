use Rattle.uri_pct.proofs.Common.{◌∙◌, sym, set_of}
use Rattle.uri_pct.proofs.TableSets.Tables.{subset_if_difference_is_empty, difference_from_superset_is_empty}
use Rattle.uri_pct.proofs.table.Table.is_subset.Goals as goal

pub returns : goal.returns
returns c =
    let s = set_of c.args.self.now in
    let t = set_of c.args.other.now in (
      λ h. subset_if_difference_is_empty s t (sym c.sub.ensures ∙ c.is_empty.ensures.0 h),
      λ h. c.is_empty.ensures.1 (c.sub.ensures ∙ difference_from_superset_is_empty s t h),
    )
