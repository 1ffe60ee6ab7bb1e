use Rattle.uri_ops.proofs.Common.{common_steps, arith, ap, ◌∙◌, underflows_if_absolute, is_some-option_map}
use Rattle.uri_ops.proofs.Builders.BuilderGrowth.{string_len-is-length-of-bytes}
use Rattle.uri_ops.proofs.Normal.WrittenPlaces.{pushed-prefix-and-path-have-positions}
use Rattle.uri_ops.proofs.Targeting.JoinedPieces.{prefix-path-and-suffix-recompose}
use Rattle.uri_ops.proofs.resolve.target_text.written_target.Goals as goal

pub returns-clause-text : goal.returns-clause-text
returns-clause-text c =
    grind (arith, common_steps, is_some-option_map, prefix-path-and-suffix-recompose)

pub returns-clause-places : goal.returns-clause-places
returns-clause-places c =
    grind (
      arith,
      common_steps,
      is_some-option_map,
      pushed-prefix-and-path-have-positions,
      string_len-is-length-of-bytes,
    )

pub returns-clause-underflow : goal.returns-clause-underflow
returns-clause-underflow c = λ t d.
    c.in_ok-underflowed.ensures.underflow ∙ ap underflows_if_absolute d.path
