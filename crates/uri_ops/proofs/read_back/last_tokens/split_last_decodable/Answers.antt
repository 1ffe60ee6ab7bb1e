-- Octets are passed from the end until they are a decodable character, or there are four of them.
use Rattle.uri_ops.proofs.Common.{common_steps, drop, arith, length-drop, set_of, tokens}
use Rattle.uri_ops.proofs.FromEnd.LastDecodables.{no_decodable_ends_after_no_octet, none_ends_no_bytes, no_decodable_ends_with_four_octets}
use Rattle.uri_ops.proofs.read_back.last_tokens.split_last_decodable.Goals as goal

pub loop-start-init : goal.loop-start-init
loop-start-init c = grind (arith, common_steps, tokens, none_ends_no_bytes)

pub returns-in_default : goal.returns-in_default
returns-in_default c = no_decodable_ends_after_no_octet (set_of c.args.table.now)
    (tokens c.args.text.now) (tokens c.loop-start.before.now)
    (drop c.loop-start.start c.loop-start.bytes) c.loop-start.invariant.ends.tokens
    c.in_default.ensures c.loop-start.invariant.none

pub returns : goal.returns
returns c = no_decodable_ends_with_four_octets (set_of c.args.table.now)
    (tokens c.args.text.now) (tokens c.loop-start.before.now)
    (drop c.loop-start.start c.loop-start.bytes) c.loop-start.invariant.ends.tokens
    (omega (arith, length-drop c.loop-start.start c.loop-start.bytes)) c.loop-start.invariant.none
