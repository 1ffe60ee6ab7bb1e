use Rattle.uri_ops.proofs.Common.{arith, subst, IfSome, IsAbemptyPath, merged}
use Rattle.uri_ops.proofs.Targeting.JoinedPieces.{merged-path-loses-dots-as-target-path, merged-path-underflows-as-target-path}
use Rattle.uri_ops.proofs.resolve.target_text.push_path.Goals as goal

pub push_merged-requires : goal.push_merged-requires
push_merged-requires c = subst (λ base. IfSome base (λ path. IsAbemptyPath path.now)) c.in-Some.is
    c.requires

pub returns-in-Some-clause-text : goal.returns-in-Some-clause-text
returns-in-Some-clause-text c = grind (arith, merged-path-loses-dots-as-target-path, merged)

pub returns-in-Some-clause-underflow : goal.returns-in-Some-clause-underflow
returns-in-Some-clause-underflow c = grind (arith, merged-path-underflows-as-target-path, merged)
