use Rattle.std.proofs.Common.{rules}
use Rattle.uri_commands.proofs.LinkLines.{outcome_lines-of-one-more}
use Rattle.uri_commands.proofs.links.NotedLinks.write_lines.Goals as goal

pub loop-outcome-preserved : goal.loop-outcome-preserved
loop-outcome-preserved g c = search (rules, outcome_lines-of-one-more)
