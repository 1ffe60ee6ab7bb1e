use Rattle.fluent_uri_c.proofs.Common.{encode_result}
use Rattle.fluent_uri_c.proofs.single.fluent_uri_encode.Goals as goal

pub returns : goal.returns
returns c = c.put_or_report.ensures (encode_result c.args.component c.args.bytes.now)
    c.encoded.ensures
