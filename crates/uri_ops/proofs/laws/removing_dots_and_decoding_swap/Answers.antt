use Rattle.uri_ops.proofs.Common.{print_decoded}
use Rattle.uri_ops.proofs.Meanings.AllowedParts.{set-text-from-utf8}
use Rattle.uri_ops.proofs.Paths.DecodedPaths.{removing-dots-and-decoding-swap, decoding-keeps-underflow}
use Rattle.uri_ops.proofs.laws.removing_dots_and_decoding_swap.Goals as goal

pub returns-clause-removed : goal.returns-clause-removed
unfolding print_decoded
returns-clause-removed c = λ set path lacks wide h u v.
    removing-dots-and-decoding-swap set lacks wide path h (set-text-from-utf8 set path u v)

pub returns-clause-underflow : goal.returns-clause-underflow
unfolding print_decoded
returns-clause-underflow c = λ set path lacks wide h u v.
    decoding-keeps-underflow set lacks wide path h (set-text-from-utf8 set path u v)
