use Rattle.uri_pct.proofs.Common.{ap, sym, ◌∙◌, ◌==◌, position_or_len}
use Rattle.uri_pct.specs.Delimiters.{percent_sign}
use Rattle.uri_pct.proofs.LaneScans.FirstPlaces.{first_match_ends_run}
use Rattle.uri_pct.proofs.decode.unencoded_len.Goals as goal

pub returns : goal.returns
returns c =
    sym (first_match_ends_run (λ b. b == percent_sign) c.as_bytes.result.now _ c.find_byte.ensures)
    ∙ ap (position_or_len (λ b. b == percent_sign)) c.as_bytes.ensures.value
