-- The positions in a mended text: those of what is before the path, and two ends.
use Rattle.uri_mend.proofs.Common.{common_steps, ◌≡◌, ℕ, ◌+◌, List, [], drop, length, sym, ap, ◌∙◌, arith, length-append, codes, option_map, IsUtf8, append-nil, length-take-le, Components, components, from_any, marked, Kind, ArePackedPositionsOf, packed, HasComponentSets, before_path, IsLink, with_ends_at, mended, link_components, mended_components, mended_text, dot_segment_if, mended_path, mended_query, Link}
use Rattle.uri_parts.specs.Positions.{delimited_length, positions_of}
use Rattle.uri_mend.proofs.MendedReferences.{components-of-mended-text}

-- positions: what is before the path is as long as the path's position says
pub length-before-path : (p : Components)
    → length (before_path p) ≡ delimited_length 1 p.scheme + delimited_length 2 p.authority
length-before-path p = grind (arith, common_steps, length-append)

-- positions: with the ends of path and query, those of a prefix are those of the whole
ends-complete-positions : (kind : Kind) (p : Components) (path_end query_end : ℕ)
    → path_end ≡ delimited_length 1 p.scheme + delimited_length 2 p.authority
    + length (mended kind.path p.path)
    → query_end ≡ path_end + length (marked (codes "?") (option_map (mended kind.query) p.query) [])
    → with_ends_at (packed (positions_of p)) path_end query_end
    ≡ packed (positions_of (mended_components kind p))
ends-complete-positions kind p path_end query_end e f = grind (arith, append-nil, codes)

pub positions-of-mended-text : (kind : Kind) → HasComponentSets kind
    → (text made : List ℕ) (link : Link) (path_end query_end : ℕ) → IsUtf8 text → IsLink text link
    → made ≡ mended_text kind text → path_end ≡ link.path_start
    + length (dot_segment_if link.has_false_scheme)
    + length (mended_path kind (drop link.path_start text)) → query_end ≡ path_end
    + length (mended_query kind.query (from_any (codes "?#") (drop link.path_start text)))
    → ArePackedPositionsOf made (with_ends_at link.before path_end query_end)
positions-of-mended-text kind sets text made link path_end query_end u h same ends last =
    let p = link_components text in
    let dot = link.has_false_scheme in
    let tail = drop link.path_start text in
    let size : link.path_start ≡ delimited_length 1 p.scheme + delimited_length 2 p.authority =
    sym (length-take-le link.path_start text h.boundary.0) ∙ ap length h.prefix
    ∙ length-before-path p in
    let whole : length (mended kind.path p.path)
    ≡ length (dot_segment_if dot) + length (mended_path kind tail) =
    ap length (h.path kind sets) ∙ length-append (dot_segment_if dot) (mended_path kind tail) in
    let first : path_end ≡ delimited_length 1 p.scheme + delimited_length 2 p.authority
    + length (mended kind.path p.path) = omega (arith, ends, size, whole) in
    let second : query_end
    ≡ path_end + length (marked (codes "?") (option_map (mended kind.query) p.query) []) =
    last ∙ ap (λ o. path_end + length (marked (codes "?") (option_map (mended kind.query) o) []))
    (sym h.query) in
    h.before path_end query_end ∙ ends-complete-positions kind p path_end query_end first second
    ∙ sym (ap (λ t. packed (positions_of (components t))) same
    ∙ ap (λ c. packed (positions_of c)) (components-of-mended-text kind sets text u))
