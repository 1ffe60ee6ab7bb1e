use Rattle.uri_streams.proofs.JsonComponents.{component-names-are-distinct}
use Rattle.uri_streams.proofs.JsonLines.{parse-line-is-json-object}
use Rattle.uri_streams.proofs.laws.parse_lines_are_json_objects.Goals as goal

pub returns-clause-object : goal.returns-clause-object
returns-clause-object c = parse-line-is-json-object

pub returns-clause-names : goal.returns-clause-names
returns-clause-names c = component-names-are-distinct
