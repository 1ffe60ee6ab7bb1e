-- What was written, and what is left to write.
use Rattle.uri_streams.proofs.Common.{◌≡◌, ◌++◌, map, string_bytes, take, pair_texts, following_pairs_json}
use Rattle.uri_streams.proofs.queries.push_following_pairs.Given as goal

abbrev pub invariant-loop-pair : goal.invariant-loop-pair
invariant-loop-pair l = string_bytes l.out ≡ string_bytes l.initial.out
    ++ following_pairs_json (map pair_texts (take l.pair-index l.pairs))
