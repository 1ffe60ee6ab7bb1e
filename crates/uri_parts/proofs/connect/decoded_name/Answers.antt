use Rattle.uri_parts.proofs.Common.{rules}
use Rattle.uri_pct.specs.Chunks.{widest_set}
use Rattle.uri_pct.proofs.Offered.{every_set_is_subset_of_widest, valid_for_superset}
use Rattle.uri_parts.proofs.connect.decoded_name.Goals as goal

pub of_text-requires : goal.of_text-requires
of_text-requires g c =
    let set = g.R.Encoder.set in
    valid_for_superset set widest_set c.as_str.result.now
    (every_set_is_subset_of_widest set g.met.R.Encoder.lacks_percent) c.as_str.ensures.valid

pub returns-in-Ok-clause-text : goal.returns-in-Ok-clause-text
returns-in-Ok-clause-text g c = search rules
