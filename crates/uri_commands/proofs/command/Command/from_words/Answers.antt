use Rattle.uri_commands.proofs.Common.{arith}
use Rattle.uri_commands.proofs.Commands.{last-form-decides}
use Rattle.uri_commands.proofs.command.Command.from_words.Goals as goal

pub returns : goal.returns
returns c = grind (arith, last-form-decides)
