-- A path without dot segments is what the removal of them leaves.
use Rattle.uri_ops.proofs.Common.{arith}
use Rattle.uri_ops.proofs.Paths.DotLaws.{remove-dots-of-dotless}
use Rattle.uri_ops.proofs.read_back.path_back.put_decoded_path.Goals as goal

pub returns-clause-text : goal.returns-clause-text
returns-clause-text c = grind (arith, remove-dots-of-dotless)
