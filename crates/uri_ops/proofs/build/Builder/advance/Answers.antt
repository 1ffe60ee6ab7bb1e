use Rattle.uri_ops.proofs.Common.{rules}
use Rattle.uri_ops.proofs.build.Builder.advance.Goals as goal

pub returns : goal.returns
returns g c = search rules
