use Rattle.uri_ops.proofs.Common.{arith}
use Rattle.uri_ops.proofs.Meanings.Decodable.{valid-text-is-decodable}
use Rattle.uri_ops.proofs.Paths.WrittenPieces.{text-of-one-byte-slash-is-slash, slash-decodes-to-slash}
use Rattle.uri_ops.proofs.normalize.decoded_paths.DecodedSegmentMode.push.Goals as goal

pub returns-then-is_slash : goal.returns-then-is_slash
returns-then-is_slash c = grind (arith, text-of-one-byte-slash-is-slash, slash-decodes-to-slash)

pub push_decoded-requires : goal.push_decoded-requires
push_decoded-requires c = grind (arith, valid-text-is-decodable)
