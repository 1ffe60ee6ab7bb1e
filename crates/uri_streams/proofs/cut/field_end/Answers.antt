use Rattle.uri_streams.proofs.Fields.{after_found, after_last, field_found, field_last}
use Rattle.uri_streams.proofs.cut.field_end.Goals as goal

pub returns-in-Some-clause-field : goal.returns-in-Some-clause-field
returns-in-Some-clause-field c = field_found c.args.delimiter c.args.before c.args.line.now
    c.args.start c.requires c.in-Some.index c.in-Some.ensures.0 c.in-Some.ensures.1

pub returns-in-Some-clause-after : goal.returns-in-Some-clause-after
returns-in-Some-clause-after c = after_found c.args.delimiter c.args.before c.args.line.now
    c.args.start c.requires c.in-Some.index c.in-Some.ensures.0 c.in-Some.ensures.1

pub returns-in-None-clause-field : goal.returns-in-None-clause-field
returns-in-None-clause-field c = field_last c.args.delimiter c.args.before c.args.line.now
    c.args.start c.requires c.in-None.ensures

pub returns-in-None-clause-after : goal.returns-in-None-clause-after
returns-in-None-clause-after c = after_last c.args.delimiter c.args.before c.args.line.now
    c.args.start c.requires c.in-None.ensures
