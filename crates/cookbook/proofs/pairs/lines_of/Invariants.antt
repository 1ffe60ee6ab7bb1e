use Rattle.std.proofs.Common.{◌≡◌, drop, map, string_bytes}
use Rattle.uri_query.specs.Pairs.{pair_texts}
use Rattle.cookbook.specs.PairLines.{lines_from, lines_text}
use Rattle.cookbook.proofs.pairs.lines_of.Given as goal

abbrev pub invariant-loop-pair : goal.invariant-loop-pair
invariant-loop-pair l =
    lines_from (string_bytes l.lines) (map pair_texts (drop l.pair-index l.pairs))
    ≡ lines_text (map pair_texts l.pairs)
