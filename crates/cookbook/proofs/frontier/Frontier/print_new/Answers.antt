use Rattle.std.proofs.Common.{◌++◌, codes}
use Rattle.cookbook.specs.Frontiers.{has_met, normal_of}
use Rattle.cookbook.proofs.Printed.{no-answer-prints-nothing}
use Rattle.cookbook.proofs.frontier.Frontier.print_new.Goals as goal

pub returns-in-None-clause-printed : goal.returns-in-None-clause-printed
returns-in-None-clause-printed g c =
    no-answer-prints-nothing c.in_ok-normal.field-0
    (has_met c.args.self.now (normal_of c.args.text.now))
    (normal_of c.args.text.now ++ codes "\n") (g.O.Write.contents c.args.out.now)
    c.in-None.is c.in_ok-normal.ensures.new
