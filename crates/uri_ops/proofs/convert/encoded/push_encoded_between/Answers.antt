use Rattle.uri_ops.proofs.Common.{length, ap, ◌∙◌}
use Rattle.uri_ops.proofs.AsciiForms.EncodedPlaces.{encoded-prefix-grows-by-encoded-slice}
use Rattle.uri_ops.proofs.convert.encoded.push_encoded_between.Goals as goal

pub returns-clause-text : goal.returns-clause-text
returns-clause-text c = encoded-prefix-grows-by-encoded-slice _ _ _ _ _ c.requires.ordered
    c.requires.before c.in_ok-push_past_ascii_encoded.ensures

pub returns-clause-place : goal.returns-clause-place
returns-clause-place c = c.len.ensures ∙ c.push_past_ascii_encoded.new.out.ok.0 ∙ ap length
    (encoded-prefix-grows-by-encoded-slice _ _ _ _ _ c.requires.ordered c.requires.before
    c.in_ok-push_past_ascii_encoded.ensures)
