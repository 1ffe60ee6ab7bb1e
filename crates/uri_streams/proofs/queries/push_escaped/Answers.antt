use Rattle.uri_streams.proofs.Common.{◌++◌, ◌∙◌, List, ℕ, ap, string_bytes, sym, map-id, flat_map, escaped_char}
use Rattle.std.proofs.lemmas.Iterator.{YieldsList-from_chars}
use Rattle.std.proofs.lemmas.Iterator.Consumers.{YieldsList-end}
use Rattle.uri_streams.proofs.queries.push_escaped.Goals as goal

pub returns : goal.returns
returns c =
    let all = YieldsList-end (YieldsList-from_chars c.args.text.now c.utf8.text cc)
    c.loop-character.yielded _ c.loop-character.yielded_by _ _ c.in-None.is c.next.ensures.steps in
    c.loop-character.invariant
    ∙ ap (λ (l : List ℕ). string_bytes c.args.out.now ++ flat_map escaped_char l)
    (sym (map-id c.loop-character.yielded) ∙ all.0)
