use Rattle.uri_pct.proofs.Common.{arith, widest_set}
use Rattle.uri_pct.proofs.Decodings.Counts.{chunks_are_no_more_than_bytes}
use Rattle.uri_pct.proofs.ValidTexts.EStrs.{valid_for_superset}
use Rattle.uri_pct.proofs.Decodings.Decoding.{every_set_is_subset_of_widest}
use Rattle.uri_pct.proofs.pct_enc.EStr.decode.Goals as goal

pub of_text-requires : goal.of_text-requires
of_text-requires g c =
    let set = g.E.Encoder.set in
    valid_for_superset set widest_set c.as_str.result.now
    (every_set_is_subset_of_widest set g.met.E.Encoder.lacks_percent) c.as_str.ensures.valid

pub returns-clause-fits : goal.returns-clause-fits
returns-clause-fits g c = rw c.of_text.ensures
    (omega (arith, chunks_are_no_more_than_bytes c.as_str.result.now c.as_str.utf8))
