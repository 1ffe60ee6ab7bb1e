use Rattle.std.proofs.Common.{refl}
use Rattle.uri_commands.proofs.Outputs.{failed-output-is-error-of-parse}
use Rattle.uri_commands.proofs.run.parse.Goals as goal

pub returns-clause-refused : goal.returns-clause-refused
returns-clause-refused g c = failed-output-is-error-of-parse c.args.kind c.args.text.now
    c.written.result (c.in_ok-parse_components.ensures.accepts.0 refl) c.written.ensures.failed
