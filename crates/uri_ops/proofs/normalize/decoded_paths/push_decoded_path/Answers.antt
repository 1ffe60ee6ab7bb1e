use Rattle.uri_ops.proofs.Common.{arith, widest_set, set_of, every_set_is_subset_of_widest, valid_for_superset}
use Rattle.uri_ops.proofs.Paths.DotLaws.{remove-dots-of-dotless, dotless-path-does-not-underflow}
use Rattle.uri_ops.proofs.normalize.decoded_paths.push_decoded_path.Goals as goal

pub push_decoded-requires : goal.push_decoded-requires
push_decoded-requires c =
    let set = set_of c.args.table.now in
    valid_for_superset set widest_set c.args.path.now
    (every_set_is_subset_of_widest set c.requires.set.percent) c.requires.valid

pub returns-clause-text : goal.returns-clause-text
returns-clause-text c = grind (arith, remove-dots-of-dotless)

pub returns-clause-underflow : goal.returns-clause-underflow
returns-clause-underflow c = grind (arith, dotless-path-does-not-underflow)
