-- The last bytes that are held are put into the block, and the others stay.
use Rattle.uri_ops.proofs.Common.{◌-◌, ◌≤◌, ◌++◌, length, take, drop, ap, ◌∙◌, arith, length-take, take-take, false}
use Rattle.uri_ops.proofs.FromEnd.Blocks.{literal_is_read}
use Rattle.uri_ops.proofs.read_back.held.Held.read_back.Goals as goal

pub returns-clause-text : goal.returns-clause-text
returns-clause-text c =
    let held = take c.args.self.now.len c.args.self.now.bytes in
    let left = length held - c.min.result in
    let fewer : left ≤ c.args.self.now.len =
    omega (arith, length-take c.args.self.now.len c.args.self.now.bytes) in
    literal_is_read false left held _ _ c.put_back-start.ensures.text
    ∙ ap (λ t. t ++ drop c.put_back-start.result c.put_back-start.new.block)
    (take-take left c.args.self.now.len c.args.self.now.bytes fewer)
