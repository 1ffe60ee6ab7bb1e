use Rattle.uri_ops.proofs.Common.{arith, subst, sym, IsCaseOf, IsAbemptyPath, components_of, merged}
use Rattle.uri_ops.proofs.Targeting.JoinedPieces.{base-of-merged-path-is-rooted}
use Rattle.uri_ops.proofs.Targeting.TargetCases.{case-gives-line}
use Rattle.uri_ops.proofs.resolve.dotted_target.dotted_target.Goals as goal

pub returns-in-WithScheme : goal.returns-in-WithScheme
returns-in-WithScheme c = grind (arith, case-gives-line)

pub with_authority-requires : goal.with_authority-requires
with_authority-requires c =
    (subst (IsCaseOf (components_of c.args.reference.now)) c.in-WithAuthority.is c.requires.case).0

pub returns-in-WithAuthority : goal.returns-in-WithAuthority
returns-in-WithAuthority c = grind (arith, case-gives-line)

pub returns-in-EmptyPath : goal.returns-in-EmptyPath
returns-in-EmptyPath c = grind (arith, case-gives-line)

pub returns-in-AbsolutePath : goal.returns-in-AbsolutePath
returns-in-AbsolutePath c = grind (arith, case-gives-line)

pub with_base_authority-requires-in-MergedPath : goal.with_base_authority-requires-in-MergedPath
with_base_authority-requires-in-MergedPath c =
    let r = components_of c.args.reference.now in
    let has = subst (IsCaseOf r) c.in-MergedPath.is c.requires.case in
    subst IsAbemptyPath (sym c.path-in-MergedPath.ensures)
    (base-of-merged-path-is-rooted c.args.base.now.text.now r c.requires.taken has.0.scheme has.1)

pub returns-in-MergedPath : goal.returns-in-MergedPath
returns-in-MergedPath c = grind (arith, case-gives-line, merged)
