-- A merged path decodes to the same if the base's path and the reference's are replaced by those of
-- their normal texts.
use Rattle.uri_ops.proofs.Common.{common_steps, arith, ◌≡◌, ℕ, true, List, ◌++◌, codes, Option, TableSet, decode_unreserved, IsAbemptyPath, remove_dot_segments, directory, IsAbsolute, EndsInSlash, dotless_if_absolute, guarded, IsComponentSet, print_decoded, eq_true_from_IsTrue}
use Rattle.uri_ops.proofs.Paths.DotLaws.{directory-is-absolute, directory-ends-in-slash, base-dots-may-be-removed-before-merging}
use Rattle.uri_ops.proofs.Targeting.Targets.{appended-absolute-path-is-absolute, dotless-abempty-path-is-abempty}
use Rattle.uri_ops.proofs.Meanings.AllowedParts.{is_set_text, set-text-is-utf8, print_decoded-of-nil-is-nil, decoding-splits-at-slash, decode_unreserved-is-idempotent}
use Rattle.uri_ops.proofs.Paths.DecodedPaths.{set-text-splits, set-texts-join-at-slash, dotless-set-text-is-set-text, directory-of-set-text-is-set-text, directory-and-decoding-swap, removing-dots-and-decoding-swap}
use Rattle.uri_ops.proofs.Paths.PathMeanings.{guard-is-removed-as-dot-segment, path-without-dots-is-set-text}
use Rattle.uri_ops.proofs.Normal.NormalComponents.{decoded-abempty-path-is-abempty}

-- merged paths: the directory of a path with any text after it begins with `/`
pub merged-path-is-absolute : (path y : List ℕ) → IsAbemptyPath path
    → IsAbsolute (directory path ++ y)
merged-path-is-absolute path y h = appended-absolute-path-is-absolute (directory path) y
    (directory-is-absolute path h)

base-dots-do-not-change-merged-path : (path y : List ℕ) → IsAbemptyPath path → remove_dot_segments
    (directory path ++ y) ≡ remove_dot_segments (directory (dotless_if_absolute path) ++ y)
base-dots-do-not-change-merged-path path y h =
    grind (arith, directory, base-dots-may-be-removed-before-merging, eq_true_from_IsTrue)

base-guard-does-not-change-merged-path : (authority : Option (List ℕ)) (path y : List ℕ)
    → IsAbemptyPath path → remove_dot_segments (directory (guarded authority path) ++ y)
    ≡ remove_dot_segments (directory path ++ y)
base-guard-does-not-change-merged-path authority path y h =
    grind (arith, base-dots-do-not-change-merged-path, guard-is-removed-as-dot-segment)

module _ (set : TableSet) (w : IsComponentSet (codes "?#[]") set)
    (slash : set.ascii 47 ≡ true) where
  -- what follows a path that ends in `/` is decoded by itself
  decoding-splits-after-slash : (prefix y : List ℕ) → is_set_text set (prefix ++ codes "/") ≡ true
      → print_decoded set ((prefix ++ codes "/") ++ y)
      ≡ print_decoded set (prefix ++ codes "/") ++ print_decoded set y
  decoding-splits-after-slash prefix y e =
      grind (
        arith,
        common_steps,
        set-text-is-utf8,
        set-text-splits,
        decoding-splits-at-slash,
        print_decoded-of-nil-is-nil,
      )

  set-texts-join-after-slash : (path y : List ℕ) → EndsInSlash path → is_set_text set path ≡ true
      → is_set_text set y ≡ true → is_set_text set (path ++ y) ≡ true
  set-texts-join-after-slash path y ends e f =
      grind (arith, common_steps, set-texts-join-at-slash, set-text-splits)

  pub merged-set-text-is-set-text : (path y : List ℕ) → IsAbemptyPath path → is_set_text set path
      ≡ true → is_set_text set y ≡ true → is_set_text set (directory path ++ y) ≡ true
  merged-set-text-is-set-text path y h e f = set-texts-join-after-slash (directory path) y
      (directory-ends-in-slash path h)
      (directory-of-set-text-is-set-text set w.percent w.unreserved slash path h e) f

  merging-and-decoding-swap : (path y : List ℕ) → IsAbemptyPath path → is_set_text set path ≡ true
      → directory (print_decoded set path) ++ print_decoded set y
      ≡ print_decoded set (directory path ++ y)
  merging-and-decoding-swap path y h e =
      grind (
        arith,
        directory-and-decoding-swap,
        decoding-splits-after-slash,
        directory-ends-in-slash,
        directory-of-set-text-is-set-text,
      )

  -- the merged path of normal texts
  merged-normal-paths-decode-as-merged-paths : (authority : Option (List ℕ)) (path y : List ℕ)
      → IsAbemptyPath path → is_set_text set path ≡ true → is_set_text set y ≡ true
      → decode_unreserved set (remove_dot_segments (directory (guarded authority
      (print_decoded set (dotless_if_absolute path))) ++ print_decoded set y))
      ≡ decode_unreserved set (remove_dot_segments (directory path ++ y))
  merged-normal-paths-decode-as-merged-paths authority path y h e f =
      grind (
        arith,
        dotless-abempty-path-is-abempty,
        merged-set-text-is-set-text,
        merged-path-is-absolute,
        base-guard-does-not-change-merged-path,
        merging-and-decoding-swap,
        removing-dots-and-decoding-swap,
        decode_unreserved-is-idempotent,
        dotless-set-text-is-set-text,
        base-dots-do-not-change-merged-path,
      )

  pub merged-normal-paths-decode-as-merged : (authority : Option (List ℕ)) (path y : List ℕ)
      → IsAbemptyPath path → is_set_text set path ≡ true → is_set_text set y ≡ true
      → decode_unreserved set (dotless_if_absolute (directory (guarded authority
      (print_decoded set (dotless_if_absolute path))) ++ print_decoded set y))
      ≡ decode_unreserved set (dotless_if_absolute (directory path ++ y))
  merged-normal-paths-decode-as-merged authority path y h e f =
      grind (
        arith,
        decoded-abempty-path-is-abempty,
        path-without-dots-is-set-text,
        dotless-abempty-path-is-abempty,
        merged-path-is-absolute,
        merged-normal-paths-decode-as-merged-paths,
      )
