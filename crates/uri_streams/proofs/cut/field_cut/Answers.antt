use Rattle.uri_streams.proofs.Common.{◌∙◌, arith, refl, take_rest}
use Rattle.uri_streams.proofs.Fields.{field_cut-found, field_cut-none}
use Rattle.uri_streams.proofs.cut.field_cut.Goals as goal

pub returns-in-Some : goal.returns-in-Some
returns-in-Some c = field_cut-found c.args.field.delimiter c.args.field.before c.in-Some.start
    c.field_end-end.result c.args.line.now _ _ _ c.in-Some.ensures c.field_end-end.ensures.field
    c.field_end-end.ensures.after (grind arith) refl
    (take_rest c.args.line.now c.field_end-end.result)

pub returns-in-None : goal.returns-in-None
returns-in-None c = c.cut_without_other_fields.ensures
    ∙ field_cut-none c.args.field.delimiter c.args.field.before c.args.line.now c.in-None.ensures
