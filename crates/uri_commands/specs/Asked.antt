-- The command of contracts that a command of the program is.
use Rattle.uri_commands.specs.Commands.{Command, Parse, Normalize, Mend, Resolve, Links, texts}
use Rattle.uri_commands.specs.declared.command.Command.{Command as Words}
use Rattle.uri_commands.specs.declared.command.Command.TheVariants as words

-- the command as contracts name it, with its texts as bytes, for one that `uritool` parsed
abbrev pub contract_command : Words → Command
contract_command (words.Parse name text) = Parse name text.now
contract_command (words.Normalize name text set) = Normalize set name text.now
contract_command (words.Mend name text) = Mend name text.now
contract_command (words.Resolve name base reference) = Resolve name base.now reference.now
contract_command (words.Links base reference others set) =
    Links set base.now reference.now (texts others.now)
