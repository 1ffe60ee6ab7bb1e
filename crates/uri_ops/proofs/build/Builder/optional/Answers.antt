use Rattle.uri_ops.proofs.Common.{rules}
use Rattle.uri_ops.proofs.build.Builder.optional.Goals as goal

pub returns-in-Some : goal.returns-in-Some
returns-in-Some g c = search rules
