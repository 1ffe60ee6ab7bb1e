use Rattle.uri_pct.proofs.Common.{arith}
use Rattle.uri_pct.proofs.Unicode.PartPieces.{chunks_have_bytes_of_their_tokens}
use Rattle.uri_pct.proofs.decode.Decode.decoded_bytes.Goals as goal

pub loop-chunk-init : goal.loop-chunk-init
loop-chunk-init c = grind (arith, chunks_have_bytes_of_their_tokens)
