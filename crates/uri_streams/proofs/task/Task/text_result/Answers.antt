use Rattle.std.proofs.Common.{refl}
use Rattle.uri_streams.proofs.Tasks.{GivesText-of-unique}
use Rattle.uri_streams.proofs.task.Task.text_result.Goals as goal

pub returns-in-Unique : goal.returns-in-Unique
returns-in-Unique c = GivesText-of-unique c.in-Unique.unique c.result_for.new.self c.args.self.now _
    c.args.text.now c.result_for.result c.in-Unique.is refl c.result_for.ensures.output
    c.result_for.ensures.kind c.result_for.ensures.rules
