use Rattle.std.proofs.Common.{◌≡◌, drop, map}
use Rattle.fluent_uri.specs.EStrings.{owned_text}
use Rattle.uri_query.specs.Pairs.{pair_texts, query_from, query_text}
use Rattle.uri_query.proofs.pairs.query_of.Given as goal

abbrev pub invariant-loop-pair : goal.invariant-loop-pair
invariant-loop-pair l =
    query_from (owned_text l.query) (map pair_texts (drop l.pair-index l.pairs))
    ≡ query_text (map pair_texts l.pairs)
