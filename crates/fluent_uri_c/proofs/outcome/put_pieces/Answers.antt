use Rattle.fluent_uri_c.proofs.WrittenValues.{pieces-are-prefix-of-buffer, pieces-are-written}
use Rattle.fluent_uri_c.proofs.outcome.put_pieces.Goals as goal

pub returns-clause-written : goal.returns-clause-written
returns-clause-written c = pieces-are-written c.args.out.now c.write_at.new.out _ c.args.prefix.now
    c.args.suffix.now c.requires c.write_at.ensures c.write_at-2.ensures

pub returns-clause-text : goal.returns-clause-text
returns-clause-text c = pieces-are-prefix-of-buffer c.args.out.now c.write_at.new.out _
    c.args.prefix.now c.args.suffix.now c.requires c.write_at.ensures c.write_at-2.ensures
