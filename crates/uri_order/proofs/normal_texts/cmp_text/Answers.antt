use Rattle.std.proofs.Common.{ap, ◌∙◌, arith}
use Rattle.std.specs.Cmp.Lexicographic.{slice_cmp}
use Rattle.std.specs.Ordering.{nat_cmp}
use Rattle.uri_ops.proofs.Offered.{rest_of_block_is_text}
use Rattle.uri_order.proofs.normal_texts.cmp_text.Goals as goal

pub returns : goal.returns
returns g c =
    c.cmp.ensures ∙ ap (λ t. slice_cmp nat_cmp t c.args.text.now)
    (rest_of_block_is_text c.put_normal_text-start.result _ c.put_normal_text-start.new.block
    (omega arith) (c.put_normal_text-start.ensures.text (omega arith)))
