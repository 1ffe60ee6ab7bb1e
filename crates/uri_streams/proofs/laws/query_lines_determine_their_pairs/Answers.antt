use Rattle.uri_streams.proofs.JsonLines.{query-lines-of-one-value-have-same-pairs}
use Rattle.uri_streams.proofs.laws.query_lines_determine_their_pairs.Goals as goal

pub returns : goal.returns
returns c = query-lines-of-one-value-have-same-pairs
