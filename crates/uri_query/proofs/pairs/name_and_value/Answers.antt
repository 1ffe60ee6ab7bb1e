use Rattle.std.proofs.Common.{◌∙◌}
use Rattle.fluent_uri.specs.EncodedTexts.{text_of}
use Rattle.uri_query.proofs.Cuts.{text_after_equals-of-whole}
use Rattle.uri_query.proofs.pairs.name_and_value.Goals as goal

pub returns-in-None-clause-value : goal.returns-in-None-clause-value
returns-in-None-clause-value g c =
    c.default.ensures ∙ text_after_equals-of-whole (text_of c.args.piece) c.in-None.ensures
