use Rattle.uri_ops.proofs.Common.{rules, ◌≡◌, false, is_some, components_of}
use Rattle.uri_ops.proofs.Targeting.CopiedTargets.{copied_target, copied_taken, copied_underflow}
use Rattle.uri_ops.proofs.resolve.found_target.found_target.Goals as goal

pub returns-then-is_rootless_with_scheme-clause-found
    : goal.returns-then-is_rootless_with_scheme-clause-found
returns-then-is_rootless_with_scheme-clause-found c =
    let b = components_of c.args.base.now in
    let r = components_of c.args.reference.now in
    let none : is_some b.fragment ≡ false = search rules in
    let scheme = c.is_rootless_with_scheme.ensures.scheme c.if-is_rootless_with_scheme.true in
    let rootless = c.is_rootless_with_scheme.ensures.rootless c.if-is_rootless_with_scheme.true in
    record {
      none = none;
      taken = copied_taken b r scheme rootless;
      made = (copied_target b r scheme rootless, copied_underflow b r scheme rootless);
    }
