use Rattle.fluent_uri_c.proofs.Common.{◌≡◌, ◌++◌, Ok, refl, subst, sym, reference_text, Returned, resolution, LeavesValueOrDenied}
use Rattle.fluent_uri_c.proofs.Targets.{resolution-of-target}
use Rattle.fluent_uri_c.proofs.WrittenValues.{value-is-left}
use Rattle.fluent_uri_c.proofs.values.put_pieces_of_target.Goals as goal

pub returns-clause-written : goal.returns-clause-written
returns-clause-written g c = λ _ takes_memory.
    let base = reference_text c.args.base.now in
    let reference = reference_text c.args.reference.now in
    let text = c.in-Some.target.prefix.now ++ c.in-Some.target.suffix.now in
    let found : resolution base reference ≡ Ok text = resolution-of-target base _ reference text
    c.strip_fragment-base.ensures c.in-Some.ensures.resolved.target.0 in
    let put = c.put_target.ensures in
    subst (λ (r : Returned). LeavesValueOrDenied takes_memory r c.args.out.now c.put_target.new.out
    c.args.parts.now c.put_target.new.parts c.put_target.new.outcome 0) (sym found)
    (value-is-left takes_memory text text _ _ _ _ _ refl put.outcome put.written put.parts)
