-- A block is hashed, and what is left of the text gives the rest.
use Rattle.std.proofs.Common.{arith}
use Rattle.uri_order.proofs.Hashes.{hash_ends, hash_goes_on}
use Rattle.uri_order.proofs.hashing.hash_back.Goals as goal

pub loop-block-preserved : goal.loop-block-preserved
loop-block-preserved g c = grind (arith, hash_goes_on)

pub returns-then-start-gt0 : goal.returns-then-start-gt0
returns-then-start-gt0 g c = grind (arith, hash_ends)
