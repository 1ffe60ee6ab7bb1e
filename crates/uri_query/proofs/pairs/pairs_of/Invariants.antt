use Rattle.std.proofs.Common.{◌≡◌, ◌++◌, map}
use Rattle.fluent_uri.specs.EncodedTexts.{text_of, substrings_left}
use Rattle.uri_query.specs.Pairs.{pair_texts, decode_pairs, decode_nonempty_substrings}
use Rattle.uri_query.proofs.pairs.pairs_of.Given as goal

-- the decoded pairs, and those of the remaining substrings
abbrev pub invariant-loop-piece : goal.invariant-loop-piece
invariant-loop-piece g l =
    map pair_texts l.pairs.items ++ decode_nonempty_substrings (substrings_left l.piece-iterator)
    ≡ decode_pairs (text_of l.fn.query)
