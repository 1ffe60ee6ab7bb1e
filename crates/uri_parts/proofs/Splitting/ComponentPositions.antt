-- The components of a text at their positions, as callers cut them out.
use Rattle.uri_parts.proofs.Common.{◌≡◌, ℕ, ◌+◌, ◌-◌, ◌<◌, ◌≤◌, List, length, take, drop, sym, ap, subst, ◌∙◌, arith, Some, None, nat_lt, is_some, IsUtf8, take_all, length-drop, le-ltb, MatchOption-at_some, Positions, AuthorityPositions, components, ArePositionsOf, positions_of, before_fragment, None-from-not-is_some}
use Rattle.uri_parts.proofs.Splitting.Recompose.{components-are-split-of-text}
use Rattle.uri_parts.proofs.Splitting.Places.{IsComponentAt, authority-of-split-is-at-positions, path-of-split-is-at-positions, before_hash, query-of-split-is-at-positions, length-before_hash, split-text-is-before-fragment-and-fragment, fragment-is-slice-to-end, longer_than_before_fragment_if_some}

-- positions: the path of a text is between path_start and path_end
pub path_is_at_positions : (text : List ℕ) (p : Positions) → IsUtf8 text → ArePositionsOf text p
    → IsComponentAt text p.path_start p.path_end (Some (components text).path)
path_is_at_positions text p utf8 at =
    let Lies : Positions → Type 0 =
    λ q. IsComponentAt text q.path_start q.path_end (Some (components text).path) in
    subst Lies (sym at) (path-of-split-is-at-positions text (components text)
    (components-are-split-of-text text) utf8)

-- positions: the authority of a text is between its start and its end
pub authority_is_at_positions : (text : List ℕ) (p : Positions)
    → IsUtf8 text → ArePositionsOf text p → (a : AuthorityPositions)
    → p.authority ≡ Some a → IsComponentAt text a.start a.end (components text).authority
authority_is_at_positions text p utf8 at a here =
    let c = components text in
    let split = components-are-split-of-text text in
    let found = sym (ap (λ (q : Positions). q.authority) at) ∙ here in
    MatchOption-at_some (Unit {0}) (λ a. IsComponentAt text a.start a.end c.authority) a found
    (authority-of-split-is-at-positions text c.scheme c.authority c.path c.query c.fragment
    split utf8)

-- positions: the query of a text is from after the path and its `?` to query_end
pub query_is_at_positions : (text : List ℕ) (p : Positions) → IsUtf8 text → ArePositionsOf text p
    → (end : ℕ)
    → p.query_end ≡ Some end → IsComponentAt text (p.path_end + 1) end (components text).query
query_is_at_positions text p utf8 at end here =
    let c = components text in
    let split = components-are-split-of-text text in
    let found = sym (ap (λ (q : Positions). q.query_end) at) ∙ here in
    let Lies : Positions → Type 0 = λ q. IsComponentAt text (q.path_end + 1) end c.query in
    subst Lies (sym at) (MatchOption-at_some (Unit {0})
    (λ end. IsComponentAt text ((positions_of c).path_end + 1) end c.query) end found
    (query-of-split-is-at-positions text c.scheme c.authority c.path c.query c.fragment split utf8))

-- positions: a text goes on after the position before its fragment exactly if it has one
pub has_fragment : (text : List ℕ) (p : Positions) → ArePositionsOf text p → (mark : ℕ)
    → mark ≡ before_fragment p → nat_lt mark (length text) ≡ is_some (components text).fragment
has_fragment text p at mark here =
    let c = components text in
    let n = length-before_hash c ∙ sym (here ∙ ap before_fragment at) in
    let Has : ℕ → Type 0 = λ k. nat_lt k (length text) ≡ is_some c.fragment in
    subst Has n (longer_than_before_fragment_if_some text (before_hash c) c.fragment
    (split-text-is-before-fragment-and-fragment text c (components-are-split-of-text text)))

-- positions: the fragment of a text is from after its `#`, at mark, to the end of the text
pub fragment_is_at_positions : (text : List ℕ) (p : Positions)
    → IsUtf8 text → ArePositionsOf text p → (mark : ℕ) → mark ≡ before_fragment p
    → mark < length text → IsComponentAt text (mark + 1) (length text) (components text).fragment
fragment_is_at_positions text p utf8 at mark here less =
    let c = components text in
    let n = length-before_hash c ∙ sym (here ∙ ap before_fragment at) in
    let Lies : ℕ → Type 0 = λ k. k < length text
    → IsComponentAt text (k + 1) (length text) c.fragment in
    subst Lies n (fragment-is-slice-to-end text (before_hash c) c.fragment
    (split-text-is-before-fragment-and-fragment text c (components-are-split-of-text text)) utf8)
    less

-- positions: the fragment is the slice from after its `#` to the end
pub fragment_is_rest_of_text : (text : List ℕ) (p : Positions)
    → IsUtf8 text → ArePositionsOf text p → (mark : ℕ) → mark ≡ before_fragment p
    → mark < length text → Some (drop (mark + 1) text) ≡ (components text).fragment
fragment_is_rest_of_text text p utf8 at mark here less =
    let all : take (length text - (mark + 1)) (drop (mark + 1) text) ≡ drop (mark + 1) text =
    take_all (length text - (mark + 1)) (drop (mark + 1) text)
    (omega (arith, length-drop {A = ℕ})) in
    ap Some (sym all) ∙ (fragment_is_at_positions text p utf8 at mark here less).holds

-- positions: a text that ends before a fragment's `#` has no fragment
pub no_fragment_at_end : (text : List ℕ) (p : Positions) → ArePositionsOf text p → (mark : ℕ)
    → mark ≡ before_fragment p → length text ≤ mark → (components text).fragment ≡ None
no_fragment_at_end text p at mark here more = None-from-not-is_some (components text).fragment
    (sym (has_fragment text p at mark here) ∙ le-ltb mark (length text) more)
