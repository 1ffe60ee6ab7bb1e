-- The path of a meaning: removing its dot segments, guarding and decoding it again change nothing.
use Rattle.uri_ops.proofs.Common.{◌≡◌, ℕ, true, List, [], ◌∷◌, ◌++◌, refl, sym, ap, subst, ◌∙◌, arith, lit<, codes, Option, IsUtf8, chars, low_scalar, IsUtf8-encode, encode_ascii, and_from, eqb-true, TableSet, tokens_from_chars, is_valid_for, decode_unreserved, ascii_char_is_allowed_iff_in_set, starts, has_authority, remove_dot_segments, IsAbsolute, dotless_if_absolute, guarded, IsComponentSet, print_decoded, equal-to-true-is-IsTrue, common_steps}
use Rattle.uri_ops.proofs.Paths.Segments.{is_none, next_output, step_of, steps, dotless_of, dotless_of-prefix-first}
use Rattle.uri_ops.proofs.Paths.SlashedSegments.{slashed, remove-dots-by-segments}
use Rattle.uri_ops.proofs.Paths.DotLaws.{property-of-absolute-path-by-segments, removing-dots-keeps-absolute, removing_dots_is_idempotent}
use Rattle.uri_ops.proofs.Meanings.AllowedParts.{is_set_text, set-text-from-utf8, empty-text-is-set-text, decode_unreserved-is-idempotent}
use Rattle.uri_ops.proofs.Paths.DecodedPaths.{set-texts-join-at-slash, set-text-splits, removing-dots-and-decoding-swap, dotless-set-text-is-set-text}
use Rattle.uri_ops.proofs.Paths.DecodedStarts.{decoding-keeps-leading-slash}

-- paths: one with its dot segments removed begins with `/` (47) exactly if it does before
pub removing-dots-keeps-leading-slash : (path : List ℕ) → starts 47 (dotless_if_absolute path)
    ≡ starts 47 path
removing-dots-keeps-leading-slash path = grind (arith, removing-dots-keeps-absolute)

-- removing dot segments: twice is the same as once for an absolute path; any other path is
-- unchanged
pub dotless_if_absolute-is-idempotent : (path : List ℕ)
    → dotless_if_absolute (dotless_if_absolute path) ≡ dotless_if_absolute path
dotless_if_absolute-is-idempotent path = grind (arith, removing_dots_is_idempotent)

-- dot segments: a guard `/.` before a path makes no difference to what is left of it
dotless_of-leading-dot-drops-it : (s : List ℕ) (rest : List (List ℕ))
    → dotless_of (codes "." ∷ s ∷ rest) ≡ dotless_of (s ∷ rest)
unfolding is_none steps step_of next_output
dotless_of-leading-dot-drops-it s rest = dotless_of-prefix-first (codes "." ∷ []) (s ∷ rest) refl

removing-dots-removes-guard : (path : List ℕ) → IsAbsolute path
    → remove_dot_segments (codes "/." ++ path) ≡ remove_dot_segments path
unfolding slashed
removing-dots-removes-guard = property-of-absolute-path-by-segments
    (λ path. remove_dot_segments (codes "/." ++ path) ≡ remove_dot_segments path)
    (λ s rest e. remove-dots-by-segments (codes "." ∷ s ∷ rest) e ∙ ap slashed
    (dotless_of-leading-dot-drops-it s rest) ∙ sym (remove-dots-by-segments (s ∷ rest) e))

-- paths: what begins with `//` begins with `/` (47)
pub two-slashes-begin-with-slash : (path : List ℕ) → has_authority path ≡ true
    → starts 47 path ≡ true
two-slashes-begin-with-slash path e = grind (arith, common_steps, e)

-- removing dot segments: the guard `/.` is removed as one
pub guard-is-removed-as-dot-segment : (authority : Option (List ℕ)) (path : List ℕ)
    → dotless_if_absolute (guarded authority path) ≡ dotless_if_absolute path
guard-is-removed-as-dot-segment authority path = grind (arith, removing-dots-removes-guard)

module _ (set : TableSet) (w : IsComponentSet (codes "?#[]") set)
    (slash : set.ascii 47 ≡ true) where
  path-set-allows-dot : is_valid_for set (codes ".") ≡ true
  unfolding is_valid_for chars tokens_from_chars
  path-set-allows-dot = and_from _ true (ascii_char_is_allowed_iff_in_set set 46 (lit< tt)
      ∙ w.unreserved.ascii 46 refl) refl

  pub dot-is-set-text : is_set_text set (codes ".") ≡ true
  dot-is-set-text = set-text-from-utf8 set (codes ".") (subst IsUtf8 (encode_ascii 46 (lit< tt))
      (IsUtf8-encode 46 (low_scalar 46 (omega arith)))) path-set-allows-dot

  path-with-guard-is-set-text : (path : List ℕ) → starts 47 path ≡ true
      → is_set_text set path ≡ true → is_set_text set (codes "/." ++ path) ≡ true
  path-with-guard-is-set-text [] e f = set-texts-join-at-slash set slash [] (codes ".")
      (empty-text-is-set-text set) dot-is-set-text
  path-with-guard-is-set-text (c ∷ path) e f =
      let slashed_path : c ∷ path ≡ 47 ∷ path = ap (λ d. d ∷ path) (eqb-true c 47 e) in
      let rest = (set-text-splits set [] path (ap (is_set_text set) (sym slashed_path) ∙ f)).1 in
      ap (λ t. is_set_text set (codes "/." ++ t)) slashed_path
      ∙ set-texts-join-at-slash set slash (codes "/.") path (set-texts-join-at-slash set slash []
      (codes ".") (empty-text-is-set-text set) dot-is-set-text) rest

  pub guarded-set-text-is-set-text : (authority : Option (List ℕ)) (path : List ℕ)
      → is_set_text set path ≡ true → is_set_text set (guarded authority path) ≡ true
  guarded-set-text-is-set-text authority path f =
      grind (arith, path-with-guard-is-set-text, two-slashes-begin-with-slash)

  pub path-without-dots-is-set-text : (path : List ℕ) → is_set_text set path ≡ true
      → is_set_text set (dotless_if_absolute path) ≡ true
  path-without-dots-is-set-text path f =
      grind (arith, starts, dotless-set-text-is-set-text, equal-to-true-is-IsTrue)

  pub dotless_if_absolute-and-decoding-swap : (path : List ℕ) → is_set_text set path ≡ true
      → dotless_if_absolute (print_decoded set path) ≡ print_decoded set (dotless_if_absolute path)
  dotless_if_absolute-and-decoding-swap path f =
      grind (arith, decoding-keeps-leading-slash, removing-dots-and-decoding-swap)

  -- the path of a normal text decodes as the path
  pub normal-path-decodes-as-path : (authority : Option (List ℕ)) (path : List ℕ)
      → is_set_text set path ≡ true → decode_unreserved set (dotless_if_absolute (guarded authority
      (print_decoded set (dotless_if_absolute path))))
      ≡ decode_unreserved set (dotless_if_absolute path)
  normal-path-decodes-as-path authority path f =
      grind (
        arith,
        path-without-dots-is-set-text,
        guard-is-removed-as-dot-segment,
        dotless_if_absolute-and-decoding-swap,
        dotless_if_absolute-is-idempotent,
        decode_unreserved-is-idempotent,
      )
