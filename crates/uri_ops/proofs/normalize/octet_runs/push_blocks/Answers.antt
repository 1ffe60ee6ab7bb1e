use Rattle.uri_ops.proofs.Common.{common_steps, ◌≡◌, ◌++◌, List, ℕ, ap, ◌∙◌, append_assoc, arith, IsUtf8-from_ascii}
use Rattle.uri_ops.proofs.normalize.octet_runs.push_blocks.Goals as goal

-- general fact on lists, for decoding: after the first part of what is left was appended, what is
-- appended and the rest still make the whole
whole-is-kept : (out new part left rest whole : List ℕ) → new ≡ out ++ part → part ++ rest ≡ left
    → out ++ left ≡ whole → new ++ rest ≡ whole
whole-is-kept out new part left rest whole pushed split total = ap (λ x. x ++ rest) pushed
    ∙ append_assoc out part rest ∙ ap (λ x. out ++ x) split ∙ total

pub loop-end-init : goal.loop-end-init
loop-end-init c = grind arith

pub from_utf8_unchecked-requires : goal.from_utf8_unchecked-requires
from_utf8_unchecked-requires c = IsUtf8-from_ascii _ c.decode_block-count.ensures.ascii

pub loop-end-preserved : goal.loop-end-preserved
loop-end-preserved c = grind (arith, common_steps, whole-is-kept)

pub returns-then-count-lt-BLOCK-clause-text : goal.returns-then-count-lt-BLOCK-clause-text
returns-then-count-lt-BLOCK-clause-text c = grind (arith, common_steps, whole-is-kept)
