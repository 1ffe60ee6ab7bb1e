use Rattle.std.proofs.Common.{◌∙◌}
use Rattle.uri_streams.proofs.Tests.{equal-if-true-together}
use Rattle.uri_streams.proofs.results.is_of_kind.Goals as goal

pub returns : goal.returns
returns g c = c.is_ok.ensures.value ∙ equal-if-true-together _ _ c.parse.ensures.accepts
