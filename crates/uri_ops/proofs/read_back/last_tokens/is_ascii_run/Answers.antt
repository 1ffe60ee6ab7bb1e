-- A byte of the block is one of the text.
use Rattle.std.proofs.lemmas.List.{get_or-drop, get_or-take}
use Rattle.uri_ops.proofs.Common.{◌+◌, ◌-◌, common_steps, arith}
use Rattle.uri_ops.proofs.read_back.last_tokens.is_ascii_run.Goals as goal

pub returns-clause-ascii : goal.returns-clause-ascii
returns-clause-ascii c = λ run k from to.
    let low = c.loop-i.invariant.ascii run (k + c.args.len - c.args.end) (omega arith) in
    grind (arith, common_steps, get_or-drop, get_or-take)

pub returns-clause-outside : goal.returns-clause-outside
returns-clause-outside c = λ run k from to percent.
    let other = c.loop-i.invariant.outside run (k + c.args.len + 2 - c.args.end) (omega arith) in
    grind (arith, common_steps, get_or-drop, get_or-take)
