use Rattle.obligations.proofs.laws.printed_rules.derived_components.Goals as goal

pub returns : goal.returns
returns c = c.components_are_derived_in_one_way.ensures.uri c.args.text.now
