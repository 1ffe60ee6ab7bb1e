-- A formatting character is held as octets.
use Rattle.uri_ops.proofs.Common.{sym, ◌∙◌, set_of}
use Rattle.uri_ops.proofs.FromEnd.NormalTokens.{never_literal_char_is_written_as_octets}
use Rattle.uri_ops.proofs.read_back.normal_tokens.normal_char.Goals as goal

pub returns-then-is_never_literal : goal.returns-then-is_never_literal
returns-then-is_never_literal c = c.octets.ensures ∙ sym (never_literal_char_is_written_as_octets
    (set_of c.args.table.now) c.args.lowers c.args.ch (sym c.if-is_never_literal.ensures))
