use Rattle.fluent_uri_c.proofs.Common.{◌+◌, ◌<◌, ◌∙◌, sym, ap, length, rules, below_more, is_some, option_and_then, buffers, bytes_of, column_of, call_result_bytes, number_of_bool, result_in, text_in}
use Rattle.uri_pct.proofs.Offered.{is_some-option_map}
use Rattle.fluent_uri_c.proofs.Batches.{IsColumn-of-one-more-result, end-of-one-more-result, equal-to-Some-is-some}
use Rattle.fluent_uri_c.proofs.batch.fill.Goals as goal

pub loop-index-preserved : goal.loop-index-preserved
loop-index-preserved g c =
    let value = g.O.Offset.value in
    let call = (g.C.Call.definition c.args.call.now).result in
    let texts = column_of value g.O.Offset.limit c.args.texts.now c.args.offsets.now in
    let at = result_in call texts in
    let n = c.loop-index.index in
    let before = c.loop-index.invariant in
    let made = c.in-Ok.ensures.made ∙ ap (option_and_then call) c.in-Some.ensures in
    let bytes = c.bytes_of.ensures ∙ ap bytes_of made in
    let append = c.in-Ok-append.ensures in
    let bit = c.mark.ensures.marked ∙ ap number_of_bool (c.is_some.ensures
    ∙ sym (is_some-option_map call_result_bytes c.in-Ok.made) ∙ ap is_some made) in
    let inside : n + 1 < length c.loop-index.ends = search rules in
    let now = buffers c.loop-index.out c.loop-index.ends c.loop-index.valid in
    let column = IsColumn-of-one-more-result value at n _ now _ _ _ _ append.offset.0 before.0
    before.1 bytes
    append.written inside (append.offset.1.0 ∙ append.end) bit c.mark.ensures.others in (
      rw append.offset.1.1 column,
      end-of-one-more-result at n _ _ before.1 bytes _ append.end,
      append.inside,
      append.below,
      below_more _ _ before.4 (equal-to-Some-is-some (text_in texts n) _ c.in-Some.ensures),
    )
