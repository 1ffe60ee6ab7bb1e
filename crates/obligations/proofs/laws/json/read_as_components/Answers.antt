use Rattle.fluent_uri.specs.Components.{components}
use Rattle.uri_streams.specs.Json.{json_of}
use Rattle.uri_streams.specs.JsonValues.{components_value}
use Rattle.obligations.proofs.laws.json.read_as_components.Goals as goal

pub returns-clause-alone : goal.returns-clause-alone
returns-clause-alone c = λ value is.
    let p = components c.args.text.now in
    c.a_json_text_represents_one_value.ensures (json_of p) value (components_value p) is
    (c.parse_lines_are_json_objects.ensures.object c.args.name c.args.text.now c.requires)
