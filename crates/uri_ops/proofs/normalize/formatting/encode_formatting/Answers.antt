use Rattle.uri_ops.proofs.Common.{common_steps, arith}
use Rattle.uri_ops.proofs.Meanings.WrittenFormatting.{text-without-formatting-is-unchanged}
use Rattle.uri_ops.proofs.normalize.formatting.encode_formatting.Goals as goal

pub returns-then-not-has_formatting : goal.returns-then-not-has_formatting
returns-then-not-has_formatting c =
    grind (arith, common_steps, text-without-formatting-is-unchanged)
