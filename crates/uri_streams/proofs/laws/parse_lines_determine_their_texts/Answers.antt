use Rattle.uri_streams.proofs.JsonLines.{parse-lines-of-one-value-have-one-text}
use Rattle.uri_streams.proofs.laws.parse_lines_determine_their_texts.Goals as goal

pub returns : goal.returns
returns c = parse-lines-of-one-value-have-one-text
