use Rattle.uri_streams.proofs.JsonLines.{query-line-is-json-array}
use Rattle.uri_streams.proofs.laws.query_lines_are_json_arrays.Goals as goal

pub returns : goal.returns
returns c = query-line-is-json-array
