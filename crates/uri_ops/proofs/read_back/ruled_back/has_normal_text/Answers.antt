use Rattle.uri_ops.proofs.Common.{sym, ◌∙◌, arith}
use Rattle.std.proofs.lemmas.Slice.Eq.{bytes_eq-Decides}
use Rattle.uri_ops.proofs.FromEnd.Blocks.{rest_of_block_is_text}
use Rattle.uri_ops.proofs.read_back.ruled_back.has_normal_text.Goals as goal

pub returns : goal.returns
returns g c =
    let text = rest_of_block_is_text c.put_normal_text-start.result _ c.put_normal_text-start.new.block
    (omega arith) (c.put_normal_text-start.ensures.text (omega arith)) in
    let decides = bytes_eq-Decides _ c.args.text.now in (
      λ r. sym text ∙ decides.0 (sym c.eq.ensures ∙ r),
      λ same. c.eq.ensures ∙ decides.1 (text ∙ same),
    )
