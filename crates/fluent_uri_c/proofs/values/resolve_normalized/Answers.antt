use Rattle.fluent_uri_c.specs.Results.{normal_target_from, rejection_or_result, text_error}
use Rattle.fluent_uri_c.proofs.values.resolve_normalized.Goals as goal

pub returns : goal.returns
returns g c = c.put_value_or_report.ensures _ (rejection_or_result
    (text_error g.K.Base.Kind.kind c.args.base.now)
    (normal_target_from c.args.rules g.K.Base.Kind.kind c.args.base.now c.args.reference.now))
    c.normal_target.ensures
