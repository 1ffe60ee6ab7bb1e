-- Targets that are a prefix of the base and a suffix of the reference: RFC 3986, section 5.2.2.
use Rattle.std.specs.Prelude.{Bool, ◌≡◌, true, false, List, ◌++◌, ℕ, is_some}
use Rattle.uri_parts.specs.Prelude.{Components, packed, positions_of, recompose}
use Rattle.uri_ops.specs.Dots.{directory}
use Rattle.uri_ops.specs.Models.Directories.{BeginsWith, IsDotlessDirectory}
use Rattle.uri_ops.specs.Models.Places.{before_path}
use Rattle.uri_ops.specs.Resolving.{with_final_path}
use Rattle.uri_ops.specs.Target.{dotted_target, is_opaque_rejection, underflows_if_absolute}
use Rattle.uri_ops.specs.declared.resolve.target_pieces.TargetPieces.{TargetPieces}

-- the directory of the path of a base, which has an authority, is this prefix of the path, and has
-- no dot segments (section 5.2.3)
pub record IsDirectoryOfBase (base : Components) (prefix : List ℕ) : Type 0 where
  pub authority : is_some base.authority ≡ true
  pub dotless : IsDotlessDirectory prefix
  pub text : prefix ≡ directory base.path
  pub place : BeginsWith base.path prefix

-- The target of a base and a reference `r` has the base's scheme and authority, and the query and
-- the fragment of the reference. Its path is a stem, which ends the prefix of the base, and the
-- rest, which is what follows of the reference's path.
-- The Bool is whether removing dot segments underflows.
pub record HasJoinedPath (base r : Components) (prefix rest : List ℕ) (underflows : Bool)
    : Type 0 where
  pub taken : is_opaque_rejection base r ≡ false
  pub underflow : underflows_if_absolute (dotted_target base r).path ≡ underflows
  pub stem : List ℕ
  pub before : prefix ≡ before_path base ++ stem
  pub target : with_final_path (dotted_target base r)
      ≡ record base { path = stem ++ rest; query = r.query; fragment = r.fragment }

-- The target of a base and a reference `r` is these two pieces. Its components are where the value
-- says, and it says whether removing dot segments underflows.
pub record ArePiecesOfTarget (base r : Components) (pieces : TargetPieces) : Type 0 where
  pub taken : is_opaque_rejection base r ≡ false
  pub underflow : underflows_if_absolute (dotted_target base r).path ≡ pieces.underflows
  pub text : pieces.prefix.now ++ pieces.suffix.now
      ≡ recompose (with_final_path (dotted_target base r))
  pub places : pieces.positions ≡ packed (positions_of (with_final_path (dotted_target base r)))
