-- A search, a step at a time.
use Rattle.uri_links.proofs.Common.{◌≡◌, ◌+◌, ◌<◌, ℕ, zero, suc, Bool, true, false, cond, List, [], ◌∷◌, length, get_or, nat_eq, ap, arith, sym, ◌∙◌, map, subst, bytes_eq, nat_tests, get_or-map, length-map, descends_right, next_node, search_from, ChildrenFollow, HaveHashes, hash_of, search, Node}
use Rattle.uri_links.specs.declared.search_tree.SearchEnd.{SearchEnd}
use Rattle.uri_links.specs.declared.search_tree.SearchEnd.TheVariants.{Found, Missing}

module _ (nodes : List Node) (texts : List (List ℕ)) (text : List ℕ) where
  -- what a node leads to: itself, an end, or the rest of the search
  abbrev choice : Bool → Bool → ℕ → ℕ → SearchEnd → SearchEnd
  choice here ends id depth rest = cond here (Found id)
      (cond ends (Missing id (descends_right text depth)) rest)

  pub search_from-found-here : (steps id depth : ℕ) → bytes_eq text (get_or texts id []) ≡ true
      → search_from (suc steps) nodes texts text id depth ≡ Found id
  unfolding search_from
  search_from-found-here steps id depth e = grind (arith, nat_tests)

  pub search_from-ends-here : (steps id depth : ℕ) → bytes_eq text (get_or texts id []) ≡ false
      → nat_eq (next_node nodes text id depth) 0 ≡ true
      → search_from (suc steps) nodes texts text id depth ≡ Missing id (descends_right text depth)
  unfolding search_from
  search_from-ends-here steps id depth e f = λ i. choice (e i) (f i) id depth
      (search_from steps nodes texts text (next_node nodes text id depth) (depth + 1))

  pub search_from-descends : (steps id depth : ℕ) → bytes_eq text (get_or texts id []) ≡ false
      → nat_eq (next_node nodes text id depth) 0 ≡ false
      → search_from (suc steps) nodes texts text id depth
      ≡ search_from steps nodes texts text (next_node nodes text id depth) (depth + 1)
  unfolding search_from
  search_from-descends steps id depth e f = λ i. choice (e i) (f i) id depth
      (search_from steps nodes texts text (next_node nodes text id depth) (depth + 1))

  -- a search that ends at a node found the text there
  pub found-text-is-equal : (steps id depth at : ℕ) → search_from steps nodes texts text id depth
      ≡ Found at
      → bytes_eq text (get_or texts at []) ≡ true
  unfolding search_from
  found-text-is-equal zero id depth at e = cc
  found-text-is-equal (suc steps) id depth at e = grind (
    arith,
    nat_tests,
    found-text-is-equal steps (next_node nodes text id depth) (depth + 1) at,
  )

  -- the same for a number of steps that is not 0
  pub search_from-found-here-at : (steps fewer id depth : ℕ) → steps ≡ suc fewer
      → bytes_eq text (get_or texts id []) ≡ true
      → search_from steps nodes texts text id depth ≡ Found id
  search_from-found-here-at steps fewer id depth s e =
      ap (λ n. search_from n nodes texts text id depth) s ∙ search_from-found-here fewer id depth e

  pub search_from-ends-here-at : (steps fewer id depth : ℕ) → steps ≡ suc fewer
      → bytes_eq text (get_or texts id []) ≡ false → nat_eq (next_node nodes text id depth) 0 ≡ true
      → search_from steps nodes texts text id depth ≡ Missing id (descends_right text depth)
  search_from-ends-here-at steps fewer id depth s e f =
      ap (λ n. search_from n nodes texts text id depth) s ∙ search_from-ends-here fewer id depth e f

  pub search_from-descends-at : (steps fewer id depth : ℕ) → steps ≡ suc fewer
      → bytes_eq text (get_or texts id []) ≡ false → nat_eq (next_node nodes text id depth) 0
      ≡ false
      → search_from steps nodes texts text id depth
      ≡ search_from fewer nodes texts text (next_node nodes text id depth) (depth + 1)
  search_from-descends-at steps fewer id depth s e f =
      ap (λ n. search_from n nodes texts text id depth) s ∙ search_from-descends fewer id depth e f

-- register of links: a search goes on to a node with a larger index, if it goes on
pub next-node-in-range : (nodes : List Node) → ChildrenFollow nodes → (text : List ℕ) (id depth : ℕ)
    → id < length nodes → nat_eq (next_node nodes text id depth) 0 ≡ false
    → (id < next_node nodes text id depth) × (next_node nodes text id depth < length nodes)
next-node-in-range nodes follow text id depth l e =
    follow id (descends_right text depth) l (λ none. grind (arith, nat_tests, none))

-- register of links: the index at which a search in the tree finds a text is that of a node
search_from-found-in-range : (nodes : List Node) (texts : List (List ℕ)) (text : List ℕ)
    → ChildrenFollow nodes → (steps id depth at : ℕ)
    → search_from steps nodes texts text id depth ≡ Found at → id < length nodes → at < length nodes
unfolding search_from
search_from-found-in-range nodes texts text follow zero id depth at e l = absurd (cc)
search_from-found-in-range nodes texts text follow (suc steps) id depth at e l =
    let e' : choice nodes texts text (bytes_eq text (get_or texts id []))
    (nat_eq (next_node nodes text id depth) 0) id depth
    (search_from steps nodes texts text (next_node nodes text id depth) (depth + 1))
    ≡ Found at = e in
    let rest = search_from-found-in-range nodes texts text follow steps
    (next_node nodes text id depth) (depth + 1) at in
    let within = next-node-in-range nodes follow text id depth l in
    grind (arith, rest, within)

-- register of links: what the search tree finds for a text is the index of a node
pub found-index-in-range : (nodes : List Node) (texts : List (List ℕ)) (text : List ℕ)
    → ChildrenFollow nodes → (at : ℕ) → search nodes texts text ≡ Found at → at < length nodes
unfolding search_from
found-index-in-range [] texts text tree at e = absurd (cc)
found-index-in-range (node ∷ nodes) texts text tree at e = search_from-found-in-range (node ∷ nodes)
    texts text tree (length (node ∷ nodes)) 0 0 at e (omega arith)

pub as-many-nodes-as-texts : (nodes : List Node) (texts : List (List ℕ)) → HaveHashes nodes texts
    → length nodes ≡ length texts
as-many-nodes-as-texts nodes texts h = grind (arith, nat_tests, length-map)

-- general fact on lists, for texts of links:
-- the element at an index of a mapped list is the mapped element
pub get_or-of-mapped : {X : Type 0} (text_of : X → List ℕ) (items : List X) (id : ℕ) (item : X)
    → id < length items → item ≡ get_or items id item
    → get_or (map text_of items) id [] ≡ text_of item
get_or-of-mapped text_of items id item l e = get_or-map text_of items id item [] l
    ∙ ap text_of (sym e)

pub node-hash-is-text-hash : (nodes : List Node) (texts : List (List ℕ)) → HaveHashes nodes texts
    → (id : ℕ) (d : Node) (e : List ℕ) → id < length nodes
    → (get_or nodes id d).hash ≡ hash_of (get_or texts id e)
node-hash-is-text-hash nodes texts h id d e l =
    sym (get_or-map (λ (node : Node). node.hash) nodes id d 0 l)
    ∙ (λ i. get_or (h i) id 0)
    ∙ get_or-map hash_of texts id e 0 (subst (λ n. id < n) (as-many-nodes-as-texts nodes texts h) l)
