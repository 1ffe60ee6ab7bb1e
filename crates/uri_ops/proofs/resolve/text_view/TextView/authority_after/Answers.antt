use Rattle.uri_ops.proofs.Common.{arith, ap, length, sym, ◌∙◌}
use Rattle.uri_ops.proofs.Targeting.TextViews.{authority-positions-after-scheme, authority-positions-are-in-prefix}
use Rattle.uri_ops.proofs.resolve.text_view.TextView.authority_after.Goals as goal

pub shift_authority-requires-clause-start : goal.shift_authority-requires-clause-start
shift_authority-requires-clause-start c = grind (arith, authority-positions-are-in-prefix)

pub shift_authority-requires-clause-host_start : goal.shift_authority-requires-clause-host_start
shift_authority-requires-clause-host_start c = grind (arith, authority-positions-are-in-prefix)

pub shift_authority-requires-clause-host_end : goal.shift_authority-requires-clause-host_end
shift_authority-requires-clause-host_end c = grind (arith, authority-positions-are-in-prefix)

pub shift_authority-requires-clause-end : goal.shift_authority-requires-clause-end
shift_authority-requires-clause-end c =
    (authority-positions-are-in-prefix c.args.self.now.text.now c.positions.result
    c.in_ok-places.places c.positions.ensures c.args.self.now.host c.in_ok-places.was).end
    ∙ sym (ap length c.before_path.ensures)

pub returns : goal.returns
returns c = grind (arith, authority-positions-after-scheme)
