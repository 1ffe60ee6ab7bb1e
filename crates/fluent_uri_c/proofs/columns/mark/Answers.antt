use Rattle.fluent_uri_c.proofs.Common.{◌%◌, ◌∙◌, arith, w8, ap, sym, number_of_bool}
use Rattle.std.proofs.lemmas.Nat.Bits.{bit_at_set_same, bit_at_set_other, bit_at_clear_same, bit_at_clear_other}
use Rattle.fluent_uri_c.proofs.Bits.{bit_of-same, bit_of-other}
use Rattle.fluent_uri_c.proofs.columns.mark.Goals as goal

pub returns-then-is_valid-clause-marked : goal.returns-then-is_valid-clause-marked
returns-then-is_valid-clause-marked c = bit_of-same c.args.valid.now c.args.index _ c.requires
    ∙ bit_at_set_same w8 _ (c.args.index % 8) (omega arith)
    ∙ ap number_of_bool (sym c.if-is_valid.true)

pub returns-then-is_valid-clause-others : goal.returns-then-is_valid-clause-others
returns-then-is_valid-clause-others c = λ i apart.
    bit_of-other c.args.valid.now c.args.index _ i c.requires apart
    (λ bit small ne. bit_at_set_other w8 _ (c.args.index % 8) (omega arith) bit ne)

pub returns-else-is_valid-clause-marked : goal.returns-else-is_valid-clause-marked
returns-else-is_valid-clause-marked c = bit_of-same c.args.valid.now c.args.index _ c.requires
    ∙ bit_at_clear_same w8 _ (c.args.index % 8) (omega arith)
    ∙ ap number_of_bool (sym c.if-is_valid.false)

pub returns-else-is_valid-clause-others : goal.returns-else-is_valid-clause-others
returns-else-is_valid-clause-others c = λ i apart.
    bit_of-other c.args.valid.now c.args.index _ i c.requires apart
    (λ bit small ne. bit_at_clear_other w8 _ (c.args.index % 8) (omega arith) bit small ne)
