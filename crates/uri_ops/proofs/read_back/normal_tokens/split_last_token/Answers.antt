-- The last token is a character, the octets of one, or an octet, and is written last.
use Rattle.uri_ops.proofs.Common.{common_steps, arith, set_of}
use Rattle.uri_ops.proofs.FromEnd.LastAscii.{last_ascii_octet_is_written_last}
use Rattle.uri_ops.proofs.FromEnd.NormalTokens.{last_char_is_written_last, char_has_text, last_decodable_is_written_last, last_octet_is_written_last}
use Rattle.uri_ops.proofs.read_back.normal_tokens.split_last_token.Goals as goal

pub returns-in_default-clause-text : goal.returns-in_default-clause-text
returns-in_default-clause-text c = grind (arith, last_char_is_written_last)

pub returns-then-is_ascii-clause-text : goal.returns-then-is_ascii-clause-text
returns-then-is_ascii-clause-text c = grind (arith, common_steps, last_ascii_octet_is_written_last)

pub returns-in_default-clause-some : goal.returns-in_default-clause-some
returns-in_default-clause-some c = char_has_text (set_of c.args.table.now) c.args.lowers
    c.split_last_char-ch.result.1 _ c.normal_char.ensures

pub returns-in-Some-split_last_decodable-clause-text :
    goal.returns-in-Some-split_last_decodable-clause-text
returns-in-Some-split_last_decodable-clause-text c = grind (arith, last_decodable_is_written_last)

pub returns-in-Some-split_last_decodable-clause-some :
    goal.returns-in-Some-split_last_decodable-clause-some
returns-in-Some-split_last_decodable-clause-some c = grind (arith, char_has_text)

pub returns-clause-text : goal.returns-clause-text
returns-clause-text c = grind (arith, last_octet_is_written_last)
