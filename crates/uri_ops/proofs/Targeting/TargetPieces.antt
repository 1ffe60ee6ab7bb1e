-- Targets that are a prefix of the base and a suffix of the reference.
use Rattle.uri_ops.proofs.Common.{common_steps, ◌≡◌, ℕ, ◌+◌, true, false, Bool, List, [], ◌++◌, length, take, drop, ap, inr, subst, sym, ◌∙◌, ◌&&◌, append_assoc, arith, length-append, codes, Option, is_some, append-nil, nat_tests, Components, marked, recompose, starts, packed, positions_of, length-before_hash, EndsInSlash, IsAbsolute, directory, has_slash, is_double_dot, is_empty, lacks_dot_segments, underflows, IsDotlessDirectory, RemovalState, IsSlashOrStart, before_path, IsCaseOf, HasJoinedPath, IsDirectoryOfBase, AbsolutePath, with_final_path, dotless_if_absolute, underflows_if_absolute, guarded, is_opaque_rejection, dotted_target, query_or, equal-to-true-is-IsTrue, some_is_not_none}
use Rattle.uri_ops.proofs.Normal.WrittenPlaces.{length-before_path-is-path_start}
use Rattle.uri_ops.proofs.Paths.ClimbedDirectories.{first-bytes-are-prefix}
use Rattle.uri_ops.proofs.Paths.DotLaws.{directory-is-absolute, directory-ends-in-slash, remove-dots-of-dotless, dotless-path-does-not-underflow}
use Rattle.uri_ops.proofs.Paths.LastSlashes.{prefix-with-last-slash-is-directory}
use Rattle.uri_ops.proofs.Paths.LeftPaths.{dotless-path-after-directory-is-dotless}
use Rattle.uri_ops.proofs.Targeting.TargetCases.{case-gives-line}

pub prefix-with-last-slash-is-directory-of-base : (b : Components) (slash : ℕ) (prefix : List ℕ)
    → IsAbsolute b.path → IsSlashOrStart b.path 0 slash → has_slash (drop (slash + 1) b.path)
    ≡ false → is_double_dot (drop (slash + 1) b.path) ≡ false → lacks_dot_segments prefix ≡ true
    → is_some b.authority ≡ true → prefix ≡ take (slash + 1) b.path → IsDirectoryOfBase b prefix
prefix-with-last-slash-is-directory-of-base b slash prefix absolute place last dots dotless some
    text =
    let same : prefix ≡ directory b.path = text
    ∙ prefix-with-last-slash-is-directory b.path slash absolute place last dots in
    record {
      authority = some;
      dotless = record {
        absolute = subst IsAbsolute (sym same) (directory-is-absolute b.path (inr absolute));
        closed = subst EndsInSlash (sym same) (directory-ends-in-slash b.path (inr absolute));
        dotless = dotless;
      };
      text = same;
      place = first-bytes-are-prefix b.path prefix (slash + 1) text;
    }

dotless-path-after-authority-is-unchanged : (authority : Option (List ℕ)) (path : List ℕ)
    → is_some authority ≡ true → IsAbsolute path
    → lacks_dot_segments path ≡ true → guarded authority (dotless_if_absolute path) ≡ path
dotless-path-after-authority-is-unchanged authority path some absolute dotless =
    grind (arith, remove-dots-of-dotless)

base-with-authority-rejects-no-reference : (b r : Components) → is_some b.authority ≡ true
    → is_opaque_rejection b r ≡ false
base-with-authority-rejects-no-reference b r some = grind (arith, nat_tests, some_is_not_none)

-- positions in a target: the text up to the end of the path is as long as the positions say
length-through-path-is-path_end : (r : Components) → length (before_path r ++ r.path) ≡
    (positions_of r).path_end
length-through-path-is-path_end r = omega
    (arith, length-append (before_path r) r.path, length-before_path-is-path_start r)

-- the reference's path and query after a prefix of the base
module _ (b r : Components) (prefix rest : List ℕ) (underflows : Bool)
    (h : HasJoinedPath b r prefix rest underflows) where
  -- the target's components
  joined : Components
  joined = record b { path = h.stem ++ rest; query = r.query; fragment = r.fragment }

  pub joined-pieces-are-target-text : (suffix : List ℕ)
      → suffix ≡ rest ++ (marked (codes "?") r.query [] ++ marked (codes "#") r.fragment [])
      → prefix ++ suffix ≡ recompose (with_final_path (dotted_target b r))
  joined-pieces-are-target-text suffix e = grind (arith, append_assoc, h.before, h.target)

  pub joined-pieces-have-target-positions : (path_end query_end : ℕ)
      → path_end ≡ length prefix + length rest
      → query_end ≡ length prefix + (length rest + length (marked (codes "?") r.query []))
      → record (packed (positions_of b)) { path_end = path_end; query_end = query_end }
      ≡ packed (positions_of (with_final_path (dotted_target b r)))
  unfolding joined
  joined-pieces-have-target-positions path_end query_end e f =
      grind (arith, common_steps, joined, length-through-path-is-path_end, length-before_hash)

-- resolving: a relative path follows the directory of a base with an authority; what its dot
-- segments leave of both is kept and rest
module _ (b r : Components) (s : is_some r.scheme ≡ false) (a : is_some r.authority ≡ false)
    (e : is_empty r.path ≡ false) (n : starts 47 r.path ≡ false) (base kept rest : List ℕ)
    (underflowed : Bool) (d : IsDirectoryOfBase b base)
    (h : RemovalState (base ++ r.path) kept rest underflowed) (k : IsDotlessDirectory kept)
    (dotless : lacks_dot_segments rest ≡ true) where
  pub relative-path-after-directory-is-joined : (prefix : List ℕ) → prefix ≡ before_path b ++ kept
      → HasJoinedPath b r prefix rest underflowed
  relative-path-after-directory-is-joined prefix f =
      grind (
        arith,
        dotless-path-after-directory-is-dotless,
        remove-dots-of-dotless,
        dotless-path-does-not-underflow,
      )

-- resolving: a path without dot segments that begins with `/` (47) is after the base's authority
pub absolute-path-after-authority-is-joined : (b r : Components) (prefix : List ℕ)
    → IsCaseOf r AbsolutePath → is_some b.authority ≡ true → lacks_dot_segments r.path ≡ true
    → prefix ≡ before_path b → HasJoinedPath b r prefix r.path false
absolute-path-after-authority-is-joined b r prefix (h, e, n) some dotless f =
    let absolute : IsAbsolute r.path = equal-to-true-is-IsTrue _ n in
    let t = case-gives-line AbsolutePath b r (h, e, n) in
    record {
      taken = base-with-authority-rejects-no-reference b r some;
      underflow = ap (λ (c : Components). underflows_if_absolute c.path) t ∙ ap
          (λ x. x && underflows r.path) n ∙ dotless-path-does-not-underflow r.path absolute dotless;
      stem = [];
      before = f ∙ sym (append-nil (before_path b));
      target = ap with_final_path t ∙ (λ i. record b {
        path = dotless-path-after-authority-is-unchanged b.authority r.path some absolute dotless i;
        query = r.query;
        fragment = r.fragment;
      });
    }

-- a reference without a path, of a base whose path is unchanged
module _ (b r : Components) (prefix : List ℕ) (s : is_some r.scheme ≡ false)
    (a : is_some r.authority ≡ false)
    (e : is_empty r.path ≡ true) (some : is_some b.authority ≡ true) (absolute : IsAbsolute b.path)
    (dotless : lacks_dot_segments b.path ≡ true) where
  dotted_target-without-path-keeps-base-path : dotted_target b r
      ≡ record b { query = query_or b.query r.query; fragment = r.fragment }
  dotted_target-without-path-keeps-base-path = grind (arith, nat_tests)

  -- a base's path without dot segments after an authority is unchanged in the target
  kept : guarded b.authority (dotless_if_absolute b.path) ≡ b.path
  kept = dotless-path-after-authority-is-unchanged b.authority b.path some absolute dotless

  pub dotless-base-path-does-not-underflow : underflows_if_absolute (dotted_target b r).path ≡ false
  dotless-base-path-does-not-underflow = grind (arith, dotless-path-does-not-underflow)

  -- a reference that begins with `?` is after the base's path in the target
  pub query-after-base-path-is-joined : is_some r.query ≡ true → prefix ≡ before_path b ++ b.path
      → HasJoinedPath b r prefix r.path false
  query-after-base-path-is-joined q f =
      grind (arith, common_steps, dotless-base-path-does-not-underflow, kept)

  -- an empty reference, or one that begins with `#`, is after all but the base's fragment
  pub fragment-after-base-is-target-text : is_some r.query ≡ false
      → prefix ≡ (before_path b ++ b.path) ++ marked (codes "?") b.query []
      → prefix ++ recompose r ≡ recompose (with_final_path (dotted_target b r))
  fragment-after-base-is-target-text q f = grind (arith, kept, append_assoc)

  -- it has the base's positions
  pub fragment-after-base-keeps-positions : is_some r.query ≡ false
      → positions_of b ≡ positions_of (with_final_path (dotted_target b r))
  fragment-after-base-keeps-positions q =
      grind (arith, nat_tests, dotted_target-without-path-keeps-base-path, kept)

  pub base-rejects-no-reference : is_opaque_rejection b r ≡ false
  base-rejects-no-reference = base-with-authority-rejects-no-reference b r some
