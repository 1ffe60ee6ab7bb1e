use Rattle.fluent_uri_c.proofs.Common.{to_uri_result}
use Rattle.fluent_uri_c.proofs.single.fluent_uri_to_uri.Goals as goal

pub returns : goal.returns
returns c =
    c.put_value_or_report.ensures _ (to_uri_result c.args.kind c.args.text.now) c.as_uri.ensures
