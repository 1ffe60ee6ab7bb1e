-- What the target of a base and a reference is made of: RFC 3986, section 5.2.2.
use Rattle.std.specs.Prelude.{Bool, ◌≡◌, false, is_some}
use Rattle.uri_parts.specs.Prelude.{Components}
use Rattle.uri_ops.specs.Models.TargetCases.{IsDottedTarget}
use Rattle.uri_ops.specs.Models.TargetPieces.{ArePiecesOfTarget}
use Rattle.uri_ops.specs.Resolving.{with_final_path}
use Rattle.uri_ops.specs.Target.{dotted_target, is_opaque_rejection, underflows_if_absolute}
use Rattle.uri_ops.specs.declared.resolve.found_target.FoundTarget.{FoundTarget}
use Rattle.uri_ops.specs.declared.resolve.found_target.FoundTarget.TheVariants.{Reference, Pieces, Dotted}

-- the target of a base and a reference `r` is made of this; the Bool is whether underflow is
-- allowed: if it is not, two pieces have none
abbrev pub IsMadeOf : Bool → Components → Components → FoundTarget → Type 0
IsMadeOf allowed base r Reference =
    (with_final_path (dotted_target base r) ≡ r)
    × (underflows_if_absolute (dotted_target base r).path ≡ false)
IsMadeOf allowed base r (Pieces pieces) =
    ArePiecesOfTarget base r pieces × (allowed ≡ false → pieces.underflows ≡ false)
IsMadeOf allowed base r (Dotted dotted) = IsDottedTarget (dotted_target base r) dotted

-- a base and a reference have a target, which is made of this
pub record IsFoundTarget (allowed : Bool) (base r : Components) (found : FoundTarget) : Type 0 where
  pub none : is_some base.fragment ≡ false
  pub taken : is_opaque_rejection base r ≡ false
  pub made : IsMadeOf allowed base r found
