-- The last block of the text is that of the other one, and what is left of both is compared.
use Rattle.uri_ops.proofs.Common.{◌∙◌, ◌-◌, ◌++◌, Some, None, take, drop, length, sym, ap, arith, false≢true, nil_from_length, take_all}
use Rattle.std.proofs.lemmas.Bool.Decides.{Decides-eqb}
use Rattle.std.proofs.lemmas.Slice.Eq.{strip_suffix_is}
use Rattle.uri_ops.proofs.FromEnd.Blocks.{last_block_is_taken_off_both}
use Rattle.uri_ops.proofs.read_back.is_read_as.Goals as goal

pub returns-in_default : goal.returns-in_default
returns-in_default g c =
    let start = c.take_last_block-start.result in
    let block = drop start c.take_last_block-start.new.block in
    let all = take_all (1024 - start) block (omega (arith, c.take_last_block-start.ensures.length)) in (
      λ r. absurd (false≢true r),
      λ e. absurd (strip_suffix_is Decides-eqb c.loop-rest.left.now (take (1024 - start) block) None
          c.in_default.ensures.cases (g.A.ReadBack.unread c.take_last_block-start.new.text)
          (sym (c.loop-rest.invariant.0 e) ∙ c.take_last_block-start.ensures.block.whole
          ∙ ap (λ t. g.A.ReadBack.unread c.take_last_block-start.new.text ++ t) (sym all))),
    )

pub loop-rest-preserved : goal.loop-rest-preserved
loop-rest-preserved g c =
    let start = c.take_last_block-start.result in
    let block = drop start c.take_last_block-start.new.block in
    let all = take_all (1024 - start) block (omega (arith, c.take_last_block-start.ensures.length)) in
    let both = last_block_is_taken_off_both 1024 _ _ block _ _ c.take_last_block-start.ensures.block
    (strip_suffix_is Decides-eqb c.loop-rest.left.now (take (1024 - start) block)
    (Some c.in-Some.rest) c.in-Some.ensures.cases ∙ ap (λ t. c.in-Some.rest.now ++ t) all) in
    (λ e. both.0 (c.loop-rest.invariant.0 e), λ e. c.loop-rest.invariant.1 (both.1 e))

pub returns-then-start-gt0 : goal.returns-then-start-gt0
returns-then-start-gt0 g c =
    let start = c.take_last_block-start.result in
    let block = drop start c.take_last_block-start.new.block in
    let all = take_all (1024 - start) block (omega (arith, c.take_last_block-start.ensures.length)) in
    let none = c.take_last_block-start.ensures.block.last
    (omega (arith, c.take_last_block-start.ensures.length)) in
    let both = last_block_is_taken_off_both 1024 _ _ block _ _ c.take_last_block-start.ensures.block
    (strip_suffix_is Decides-eqb c.loop-rest.left.now (take (1024 - start) block)
    (Some c.in-Some.rest) c.in-Some.ensures.cases ∙ ap (λ t. c.in-Some.rest.now ++ t) all) in (
      λ r. c.loop-rest.invariant.1 (both.1 (none ∙ sym (nil_from_length c.in-Some.rest.now
          ((Decides-eqb _ 0).0 (sym c.is_empty.ensures ∙ r))))),
      λ e. c.is_empty.ensures ∙ (Decides-eqb _ 0).1 (ap length (sym (both.0
          (c.loop-rest.invariant.0 e)) ∙ none)),
    )
