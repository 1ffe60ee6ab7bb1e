use Rattle.uri_ops.proofs.Common.{arith}
use Rattle.uri_ops.proofs.Meanings.DecodedPrefixes.{percent-in-valid-text-begins-octet}
use Rattle.uri_ops.proofs.normalize.octets.octet_digits.Goals as goal

pub bounds-bytes-at : goal.bounds-bytes-at
bounds-bytes-at c = grind (arith, percent-in-valid-text-begins-octet)

pub bounds-bytes-at-2 : goal.bounds-bytes-at-2
bounds-bytes-at-2 c = grind (arith, percent-in-valid-text-begins-octet)

pub returns : goal.returns
returns c = grind (arith, percent-in-valid-text-begins-octet)
