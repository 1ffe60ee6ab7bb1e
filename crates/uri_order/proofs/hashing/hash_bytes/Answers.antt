use Rattle.std.proofs.Common.{arith}
use Rattle.uri_order.proofs.Hashes.{short_text_is_hashed_whole}
use Rattle.uri_order.proofs.hashing.hash_bytes.Goals as goal

pub returns : goal.returns
returns g c = grind (arith, short_text_is_hashed_whole)
