use Rattle.uri_streams.proofs.JsonReading.{json-text-represents-one-value}
use Rattle.uri_streams.proofs.laws.a_json_text_represents_one_value.Goals as goal

pub returns : goal.returns
returns c = json-text-represents-one-value
