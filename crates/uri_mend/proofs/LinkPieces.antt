-- A text, cut before its path, and the pieces of the text that it is mended to.
use Rattle.uri_mend.proofs.Common.{common_steps, ◌≡◌, ℕ, true, false, not, List, [], ◌∷◌, ◌++◌, length, take, drop, refl, sym, ap, ◌∙◌, arith, append_assoc, ◌&&◌, ◌≤◌, ◌-◌, length-append, IsUtf8, IsCharBoundary, IsCharBoundary-from_drop, IsCharBoundary-at_seam, has_authority, components, marked, starts, when, before_any, from_any, after_scheme, after_authority, after_query, codes, both_ways, Kind, before_any-past-other, from_any-past-other, recompose-components, HasComponentSets, before_path, mended, has_false_scheme, link_components, mended_text, mended_tail, IsMendedByPieces, IsPathMendedByPieces, query_of_tail}
use Rattle.uri_parts.proofs.Offered.{utf8_after_slashes}
use Rattle.uri_mend.proofs.MendedMarks.{allowed-ascii-before-text-is-unchanged}
use Rattle.uri_mend.proofs.LinkComponents.{false-scheme-gets-dot-segment, no-false-scheme-gets-nothing}

-- links: what follows a path, as the components have it
end_text : List ℕ → List ℕ
end_text end = marked (codes "?") (when (starts 63 end) (before_any (codes "#") (drop 1 end))) []
    ++ marked (codes "#") (when (starts 35 (after_query end)) (drop 1 (after_query end))) []

-- links: the path before its end in a text after `./`
path-after-dot-segment : (text : List ℕ)
    → before_any (codes "?#") (46 ∷ 47 ∷ text) ≡ 46 ∷ 47 ∷ before_any (codes "?#") text
path-after-dot-segment text = before_any-past-other (codes "?#") 46 (47 ∷ text) refl
    ∙ ap (λ t. 46 ∷ t) (before_any-past-other (codes "?#") 47 text refl)

-- links: what follows the path in a text after `./`
end-after-dot-segment : (text : List ℕ)
    → from_any (codes "?#") (46 ∷ 47 ∷ text) ≡ from_any (codes "?#") text
end-after-dot-segment text = from_any-past-other (codes "?#") 46 (47 ∷ text) refl
    ∙ from_any-past-other (codes "?#") 47 text refl

-- links: a path and what follows it, as the components have them, are what was cut
path-and-end-are-tail : (tail : List ℕ)
    → before_any (codes "?#") tail ++ end_text (from_any (codes "?#") tail) ≡ tail
unfolding end_text
path-and-end-are-tail tail =
    let whole : before_any (codes "?#") (46 ∷ 47 ∷ tail)
    ++ end_text (from_any (codes "?#") (46 ∷ 47 ∷ tail)) ≡ 46 ∷ 47 ∷ tail =
    recompose-components (46 ∷ 47 ∷ tail) in
    ap (drop 2) (sym (ap (λ p. p ++ end_text (from_any (codes "?#") (46 ∷ 47 ∷ tail)))
    (path-after-dot-segment tail) ∙ ap (λ e. (46 ∷ 47 ∷ before_any (codes "?#") tail) ++ end_text e)
    (end-after-dot-segment tail)) ∙ whole)

pub text-is-cut-before-path : (text : List ℕ)
    → text ≡ before_path (components text) ++ after_authority (after_scheme text)
unfolding end_text
text-is-cut-before-path text =
    let p = components text in
    let s = marked [] p.scheme (codes ":") in
    let a = marked (codes "//") p.authority [] in
    let tail = after_authority (after_scheme text) in
    sym (append_assoc s a tail ∙ ap (λ t. s ++ (a ++ t)) (sym (path-and-end-are-tail tail))
    ∙ recompose-components text)

pub text-without-false-scheme-is-mended : (text : List ℕ) → has_false_scheme text ≡ false
    → IsMendedByPieces text (before_path (link_components text)) false
    (after_authority (after_scheme text))
unfolding link_components mended_text mended_tail
text-without-false-scheme-is-mended text e kind sets =
    grind (arith, common_steps, components, no-false-scheme-gets-nothing)

pub prefix-without-false-scheme : (text : List ℕ) → has_false_scheme text ≡ false
    → before_path (link_components text) ≡ before_path (components text)
unfolding link_components
prefix-without-false-scheme text e =
    ap (λ t. before_path (components t)) (no-false-scheme-gets-nothing text e)

pub prefix-with-false-scheme : (text : List ℕ) → has_false_scheme text ≡ true
    → before_path (link_components text) ≡ []
unfolding link_components
prefix-with-false-scheme text e =
    ap (λ t. before_path (components t)) (false-scheme-gets-dot-segment text e)

dot-segment-is-unchanged : (kind : Kind) → HasComponentSets kind → (path : List ℕ)
    → mended kind.path (46 ∷ 47 ∷ path) ≡ 46 ∷ 47 ∷ mended kind.path path
dot-segment-is-unchanged kind sets path = grind (arith, allowed-ascii-before-text-is-unchanged)

pub text-with-false-scheme-is-mended : (text : List ℕ) → has_false_scheme text ≡ true
    → IsMendedByPieces text [] true text
unfolding link_components mended_text mended_tail
text-with-false-scheme-is-mended text e kind sets =
    grind (arith, false-scheme-gets-dot-segment, path-after-dot-segment, dot-segment-is-unchanged)

-- links: the text before a `:` that is first is no scheme
pub has_false_scheme-by-mark : (text : List ℕ) → starts 58 (from_any (codes ":/?#") text) ≡ false
    → has_false_scheme text ≡ false
unfolding has_false_scheme
has_false_scheme-by-mark text e = Rattle.std.proofs.lemmas.Bool.and_left _ _ e

-- links: what is before the first `:` decides whether there is a false scheme
pub has_false_scheme-by-scheme : (text : List ℕ) → starts 58 (from_any (codes ":/?#") text) ≡ true
    → has_false_scheme text
    ≡ not (Rattle.uri_parts.specs.Grammar.is_scheme (before_any (codes ":/?#") text))
unfolding has_false_scheme
has_false_scheme-by-scheme text e =
    ap (λ b. b && not (Rattle.uri_parts.specs.Grammar.is_scheme (before_any (codes ":/?#") text))) e

-- links: after two slashes a text may be cut
pub boundary-after-two-slashes : (rest : List ℕ) → IsUtf8 rest → has_authority rest ≡ true
    → IsCharBoundary rest 2
boundary-after-two-slashes rest u e =
    IsCharBoundary-from_drop rest 2 (two-slashes-are-two-bytes rest e) (utf8_after_slashes rest e u)
  where
    two-slashes-are-two-bytes : (rest : List ℕ) → has_authority rest ≡ true → 2 ≤ length rest
    two-slashes-are-two-bytes [] e = absurd (both_ways _ refl e)
    two-slashes-are-two-bytes (a ∷ []) e =
        absurd (both_ways _ (Rattle.std.proofs.lemmas.Bool.and_right _ _ refl) e)
    two-slashes-are-two-bytes (a ∷ b ∷ rest) e = omega arith

-- links: a text is cut where the piece after the cut begins
pub boundary-before-piece : (text before after : List ℕ) → text ≡ before ++ after → IsUtf8 after
    → IsCharBoundary text (length text - length after)
boundary-before-piece text before after e u = grind (arith, length-append, IsCharBoundary-at_seam)

pub piece-before-cut : (text before after : List ℕ) → text ≡ before ++ after
    → take (length text - length after) text ≡ before
piece-before-cut text before after e = grind (arith, common_steps)

pub piece-after-cut-is-no-longer : (text before after : List ℕ) → text ≡ before ++ after
    → length after ≤ length text
piece-after-cut-is-no-longer text before after e =
    omega (arith, ap length e, length-append before after)

pub path-without-false-scheme : (text : List ℕ) → has_false_scheme text ≡ false
    → IsPathMendedByPieces (link_components text).path false (after_authority (after_scheme text))
unfolding link_components
path-without-false-scheme text e kind sets =
    ap (λ t. mended kind.path (components t).path) (no-false-scheme-gets-nothing text e)

pub path-with-false-scheme : (text : List ℕ) → has_false_scheme text ≡ true
    → IsPathMendedByPieces (link_components text).path true text
unfolding link_components
path-with-false-scheme text e kind sets =
    grind (arith, false-scheme-gets-dot-segment, path-after-dot-segment, dot-segment-is-unchanged)

pub query-without-false-scheme : (text : List ℕ) → has_false_scheme text ≡ false
    → (link_components text).query ≡ query_of_tail (after_authority (after_scheme text))
unfolding link_components
query-without-false-scheme text e =
    ap (λ t. (components t).query) (no-false-scheme-gets-nothing text e)

pub query-with-false-scheme : (text : List ℕ) → has_false_scheme text ≡ true
    → (link_components text).query ≡ query_of_tail text
unfolding link_components
query-with-false-scheme text e =
    grind (arith, components, false-scheme-gets-dot-segment, starts, end-after-dot-segment)
