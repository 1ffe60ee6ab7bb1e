-- The segments of a path as they are appended, decoded.
use Rattle.uri_ops.proofs.Common.{◌≡◌, ℕ, true, List, [], ◌∷◌, ◌++◌, length, drop, refl, sym, ap, ◌∙◌, ◌&&◌, arith, codes, slice_index, ◌==◌, ne_eqb, decode_unreserved, TableSet, print, IsComponentSet, IsAbsolute, remove_dot_segments, underflows, IsDotlessDirectory, print_decoded, common_steps}
use Rattle.uri_ops.proofs.Meanings.AllowedParts.{is_set_text, print_decoded-of-nil-is-nil}
use Rattle.uri_ops.proofs.Paths.LeftPaths.{slashed-dotless-segments-are-directory}
use Rattle.uri_ops.proofs.Paths.DecodedPaths.{set-text-splits, removing-dots-and-decoding-swap, decoding-keeps-first-slash, decoding-keeps-underflow}
use Rattle.uri_ops.proofs.Paths.SlashedSegments.{slashed}
use Rattle.uri_ops.proofs.Paths.TakenSegments.{absolute-path-is-slash-and-rest}

pub text-of-one-byte-slash-is-slash : (text : List ℕ)
    → (length text == 1 && slice_index text 0 == 47) ≡ true → text ≡ codes "/"
text-of-one-byte-slash-is-slash text e = grind (arith, common_steps, ne_eqb)

pub slash-decodes-to-slash : (set : TableSet) → print (decode_unreserved set (codes "/"))
    ≡ codes "/"
unfolding print_decoded
slash-decodes-to-slash set = decoding-keeps-first-slash set []
    ∙ ap (λ t. 47 ∷ t) (print_decoded-of-nil-is-nil set)

-- paths: `/` is a directory without dot segments
pub root-is-dotless-directory : IsDotlessDirectory (codes "/")
unfolding slashed
root-is-dotless-directory = slashed-dotless-segments-are-directory [] refl refl

-- a decoded path that begins with `/`: the `/`, and then the segments

module _ (set : TableSet) (w : IsComponentSet (codes "?#[]") set) (slash : set.ascii 47 ≡ true)
    (path rest : List ℕ) (absolute : IsAbsolute path) (e : is_set_text set path ≡ true)
    (is : rest ≡ drop 1 path) where
  absolute-path-is-root-and-rest : path ≡ 47 ∷ rest
  absolute-path-is-root-and-rest = absolute-path-is-slash-and-rest path absolute
      ∙ ap (λ t. 47 ∷ t) (sym is)

  pub path-after-root-is-set-text : is_set_text set rest ≡ true
  path-after-root-is-set-text = (set-text-splits set [] rest
      (ap (is_set_text set) (sym absolute-path-is-root-and-rest) ∙ e)).1

  root-and-decoded-rest-are-decoded-path : codes "/" ++ print (decode_unreserved set rest)
      ≡ print_decoded set path
  unfolding print_decoded
  root-and-decoded-rest-are-decoded-path = sym
      (ap (print_decoded set) absolute-path-is-root-and-rest ∙ decoding-keeps-first-slash set rest)

  pub root-and-decoded-rest-lose-dots-as-path : remove_dot_segments (codes "/" ++ print
      (decode_unreserved set rest)) ≡ print (decode_unreserved set (remove_dot_segments path))
  unfolding print_decoded
  root-and-decoded-rest-lose-dots-as-path =
      grind (arith, root-and-decoded-rest-are-decoded-path, removing-dots-and-decoding-swap)

  pub root-and-decoded-rest-underflow-as-path : underflows (codes "/"
      ++ print (decode_unreserved set rest)) ≡ underflows path
  root-and-decoded-rest-underflow-as-path = ap underflows root-and-decoded-rest-are-decoded-path
      ∙ decoding-keeps-underflow set w.percent w.unreserved path absolute e
