use Rattle.std.proofs.Common.{ap, ◌∙◌, arith}
use Rattle.std.specs.List.{fold}
use Rattle.uri_ops.proofs.Offered.{rest_of_block_is_text}
use Rattle.uri_order.specs.HashedTexts.{hashed_text}
use Rattle.uri_order.proofs.normal_texts.hash_normal.Goals as goal

pub returns-then-start-gt0 : goal.returns-then-start-gt0
returns-then-start-gt0 g c =
    c.hash_bytes-then-start-gt0.ensures ∙ ap (λ t. fold g.H.Hasher.write c.args.state.now (hashed_text t))
    (rest_of_block_is_text c.put_normal_text-start.result _ c.put_normal_text-start.new.block
    (omega arith) (c.put_normal_text-start.ensures.text (omega arith)))
