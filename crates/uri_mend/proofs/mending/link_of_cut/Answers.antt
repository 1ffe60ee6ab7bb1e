use Rattle.uri_mend.proofs.Common.{arith}
use Rattle.uri_mend.proofs.LinkPrefixes.{link-of-cut}
use Rattle.uri_mend.proofs.Unchanged.{prefix-is-of-kind-iff-mendable}
use Rattle.uri_mend.proofs.mending.link_of_cut.Goals as goal

pub returns-in-Some-clause-link : goal.returns-in-Some-clause-link
returns-in-Some-clause-link g c =
    let cut = c.cut_link-cut.ensures in
    link-of-cut c.args.text.now c.cut_link-cut.result.prefix.now c.cut_link-cut.result.tail.now
    c.cut_link-cut.result.has_false_scheme c.in-Some.before c.utf8.text cut.whole
    cut.boundary cut.alone cut.prefix cut.pieces cut.path cut.query c.in-Some.ensures.positions

pub returns-in-Some-clause-mendable : goal.returns-in-Some-clause-mendable
returns-in-Some-clause-mendable g c = grind (arith, prefix-is-of-kind-iff-mendable)

pub returns-in-None-clause-mendable : goal.returns-in-None-clause-mendable
returns-in-None-clause-mendable g c = grind (arith, prefix-is-of-kind-iff-mendable)
