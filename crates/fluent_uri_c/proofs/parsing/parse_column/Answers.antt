use Rattle.fluent_uri_c.proofs.Common.{◌<◌, length, rules, IsSomeAnd, column_of, text_in, kind_numbered, ArePartsOf}
use Rattle.fluent_uri_c.proofs.Batches.{holds-up-to-set-item, later-items-unchanged}
use Rattle.fluent_uri_c.proofs.parsing.parse_column.Goals as goal

pub loop-index-preserved : goal.loop-index-preserved
loop-index-preserved g c =
    let n = c.loop-index.index in
    let before = c.loop-index.invariant in
    let column = column_of g.O.Offset.value g.O.Offset.limit c.args.texts.now c.args.offsets.now in
    let inside : n < length c.loop-index.parts = search rules in (
      holds-up-to-set-item (λ i o. IsSomeAnd (text_in column i)
          (λ text. IsSomeAnd o (ArePartsOf (kind_numbered c.args.kind) text))) c.loop-index.parts n
          c.parse.new.parts inside (rw (← c.in-Some.ensures) c.parse.ensures.parts) before.0,
      later-items-unchanged c.args.parts.now c.loop-index.parts n c.parse.new.parts before.1,
    )
