use Rattle.uri_streams.proofs.Common.{arith}
use Rattle.uri_streams.proofs.Tasks.{command-of-each, no_text_result-of-links, no_text_result-of-unique}
use Rattle.uri_streams.proofs.task.Task.no_text_result.Goals as goal

pub returns-in-Each : goal.returns-in-Each
returns-in-Each c = grind (arith, command-of-each)

pub returns-in-Unique : goal.returns-in-Unique
returns-in-Unique c = grind (arith, no_text_result-of-unique)

pub returns-in-Links : goal.returns-in-Links
returns-in-Links c = grind (arith, no_text_result-of-links)
