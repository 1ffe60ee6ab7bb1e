-- Which texts a search tree finds after one more was added.
use Rattle.uri_links.proofs.Common.{◌≡◌, ◌+◌, ◌<◌, ◌≤◌, ◌++◌, ◌∷◌, ℕ, zero, suc, Bool, true, false, List, [], length, get_or, nat_eq, ap, arith, refl, sym, ◌∙◌, length-append, add-one, subst, Option, Some, None, true≢false, position, bytes_eq, nat_tests, get_or_append_left, position-Some, any_passes_from_place, child, descends_right, next_node, node_at, search_from, search, ChildrenFollow, with_node_added, leaf, FindsEach, hash_of, IsSearchTree, found_id, Node}
use Rattle.std.proofs.Math.Seq.{get_or-append_seam}
use Rattle.std.proofs.lemmas.Slice.Eq.{bytes_eq-Decides}
use Rattle.std.proofs.lemmas.Option.{slice_get-get_or}
use Rattle.uri_links.proofs.Places.{position-None-no-element-passes}
use Rattle.uri_links.specs.declared.search_tree.SearchEnd.{SearchEnd}
use Rattle.uri_links.specs.declared.search_tree.SearchEnd.TheVariants.{Found, Missing}
use Rattle.uri_links.proofs.Searches.{search_from-found-here, search_from-ends-here, search_from-descends, found-text-is-equal, as-many-nodes-as-texts, found-index-in-range, next-node-in-range}
use Rattle.uri_links.proofs.GrownTrees.{leaf-has-no-child, length_grown, new-node-is-child-of-parent, other-children-unchanged, children_follow, hashes_grown}

-- a search ends at a node that has no child on that side
module _ (nodes : List Node) (texts : List (List ℕ)) (text : List ℕ)
    (follow : ChildrenFollow nodes) where
  search-ends-at-free-side : (steps id depth parent : ℕ) (right : Bool) → id < length nodes
      → length nodes ≤ id + steps
      → search_from steps nodes texts text id depth ≡ Missing parent right
      → (parent < length nodes) × (child (node_at nodes parent) right ≡ 0)
  unfolding search_from
  search-ends-at-free-side zero id depth parent right l m e = absurd (omega arith)
  search-ends-at-free-side (suc steps) id depth parent right l m e = grind (
    arith,
    nat_tests,
    search_from-found-here,
    search_from-ends-here,
    position-None-no-element-passes,
    next-node-in-range,
    search_from-descends,
    search-ends-at-free-side steps (next_node nodes text id depth) (depth + 1) parent right,
  )

module _ (nodes : List Node) (hash parent : ℕ) (right : Bool) (texts : List (List ℕ))
    (text : List ℕ) (many : length nodes ≡ length texts) (follow : ChildrenFollow nodes)
    (in_range : parent < length nodes) (free : child (node_at nodes parent) right ≡ 0) where
  abbrev after : List Node
  after = with_node_added nodes hash parent right

  abbrev texts_after : List (List ℕ)
  texts_after = texts ++ text ∷ []

  old-text-at-index : (id : ℕ) → id < length nodes → get_or texts_after id [] ≡ get_or texts id []
  old-text-at-index id l = get_or_append_left texts (text ∷ []) [] id (subst (λ n. id < n) many l)

  new-text-is-last : get_or texts_after (length nodes) [] ≡ text
  new-text-is-last = ap (λ n. get_or texts_after n []) many ∙ get_or-append_seam texts text [] []

  -- a text that was found is found at the same index in the larger tree
  found-texts-stay-found : (other : List ℕ) (steps id depth at : ℕ) → id < length nodes
      → search_from steps nodes texts other id depth ≡ Found at
      → search_from (suc steps) after texts_after other id depth ≡ Found at
  unfolding search_from
  found-texts-stay-found other zero id depth at l e = absurd (cc)
  found-texts-stay-found other (suc steps) id depth at l e = grind (
    arith,
    nat_tests,
    search_from-found-here,
    old-text-at-index,
    search_from-ends-here,
    other-children-unchanged,
    search_from-descends,
    next-node-in-range,
    found-texts-stay-found other steps (next_node nodes other id depth) (depth + 1) at,
  )

  -- a search that missed the text at the new node's side finds the new node
  new-text-is-found : (steps id depth : ℕ) → id < length nodes → length nodes ≤ id + steps
      → search_from steps nodes texts text id depth ≡ Missing parent right
      → search_from (suc steps) after texts_after text id depth ≡ Found (length nodes)
  unfolding search_from
  new-text-is-found zero id depth l m e = absurd (omega arith)
  new-text-is-found (suc steps) id depth l m e =
      let Goal : Type 0 = search_from (suc (suc steps)) after texts_after text id depth
      ≡ Found (length nodes) in
      let Here : Bool → Type 0 = λ b. bytes_eq text (get_or texts id []) ≡ b → Goal in
      let Ends : Bool → Type 0 = λ b. nat_eq (next_node nodes text id depth) 0 ≡ b → Goal in
      let rest = new-text-is-found steps (next_node nodes text id depth) (depth + 1) in
      (elim (bytes_eq text (get_or texts id [])) as Here [
        | true ↦ λ h. let wrong = sym (search_from-found-here nodes texts text steps id depth h)
            ∙ e in absurd (cc)
        | false ↦ λ h.
            (elim (nat_eq (next_node nodes text id depth) 0) as Ends [
              | true ↦ λ f.
                  let place = sym (search_from-ends-here nodes texts text steps id depth h f) ∙ e in
                  let at : id ≡ parent = cc in
                  let side : descends_right text depth ≡ right = cc in
                  let same : next_node after text id depth ≡ length nodes =
                  (λ i. child (node_at after (at i)) (side i))
                  ∙ new-node-is-child-of-parent nodes hash parent right in_range in
                  search_from-descends after texts_after text (suc steps) id depth
                  (ap (bytes_eq text) (old-text-at-index id l) ∙ h)
                  (ap (λ n. nat_eq n 0) same ∙ grind (arith, nat_tests, in_range))
                  ∙ ap (λ n. search_from (suc steps) after texts_after text n (depth + 1)) same
                  ∙ search_from-found-here after texts_after text steps (length nodes) (depth + 1)
                  (ap (bytes_eq text) new-text-is-last ∙ (bytes_eq-Decides text text).1 refl)
              | false ↦ λ f.
                  let within = next-node-in-range nodes follow text id depth l f in
                  let same : next_node after text id depth ≡ next_node nodes text id depth =
                  other-children-unchanged nodes hash parent right in_range id
                  (descends_right text depth) l free
                  (λ z. grind (arith, nat_tests, z)) in
                  search_from-descends after texts_after text (suc steps) id depth
                  (ap (bytes_eq text) (old-text-at-index id l) ∙ h) (ap (λ n. nat_eq n 0) same ∙ f)
                  ∙ ap (λ n. search_from (suc steps) after texts_after text n (depth + 1)) same
                  ∙ rest within.1 (omega (arith, within.0, m))
                  (sym (search_from-descends nodes texts text steps id depth h f) ∙ e)
            ]) refl
      ]) refl

  -- each text is found
  grown-tree-finds-each-text : FindsEach nodes texts
      → search nodes texts text ≡ Missing parent right → FindsEach after texts_after
  grown-tree-finds-each-text finds e id l = grind (
    arith,
    nat_tests,
    length_grown,
    add-one,
    length-append,
    new-text-is-last,
    new-text-is-found,
    old-text-at-index,
    found-texts-stay-found,
  )

no_texts : (texts : List (List ℕ)) → 0 ≡ length texts → texts ≡ []
no_texts [] e = refl
no_texts (text ∷ texts) e = absurd (omega arith)

single-text-is-found : (hash : ℕ) (text : List ℕ) (id : ℕ) → id ≡ 0
    → search_from 1 (leaf hash ∷ []) (text ∷ []) (get_or (text ∷ []) id []) 0 0 ≡ Found id
single-text-is-found hash text id e =
    grind (arith, nat_tests, search_from-found-here, bytes_eq-Decides)

single-node-is-search-tree : (hash : ℕ) (text : List ℕ) → hash ≡ hash_of text
    → IsSearchTree (leaf hash ∷ []) (text ∷ [])
single-node-is-search-tree hash text h =
    grind (arith, nat_tests, leaf-has-no-child, single-text-is-found)

grown-tree-is-search-tree : (nodes : List Node) (hash parent : ℕ) (right : Bool)
    (texts : List (List ℕ)) (text : List ℕ) → IsSearchTree nodes texts
    → search nodes texts text ≡ Missing parent right → hash ≡ hash_of text
    → IsSearchTree (with_node_added nodes hash parent right) (texts ++ text ∷ [])
unfolding search_from
grown-tree-is-search-tree [] hash parent right texts text is e h =
    let position-None-no-element-passes = no_texts texts
    (as-many-nodes-as-texts [] texts is.hashes) in
    let at : 0 ≡ parent = cc in
    let side : false ≡ right = cc in
    grind (arith, nat_tests, position-None-no-element-passes, single-node-is-search-tree)
grown-tree-is-search-tree (node ∷ nodes) hash parent right texts text is e h =
    let first : 0 < length (node ∷ nodes) = omega arith in
    let ends = search-ends-at-free-side (node ∷ nodes) texts text is.children
    (length (node ∷ nodes)) 0 0 parent right first (omega arith) e in
    record {
      hashes = hashes_grown (node ∷ nodes) hash parent right texts text is.hashes h;
      children = children_follow (node ∷ nodes) hash parent right ends.0 is.children;
      finds = grown-tree-finds-each-text (node ∷ nodes) hash parent right texts text
          (as-many-nodes-as-texts (node ∷ nodes) texts is.hashes) is.children ends.0 ends.1
          is.finds e;
    }

-- register of links: the search tree with a node for a new text
-- is a search tree of the texts with it; right: on which side
pub search-tree-after-adding : (nodes nodes_after : List Node) (hash parent : ℕ) (right : Bool)
    (texts texts_after : List (List ℕ)) (text : List ℕ) → IsSearchTree nodes texts
    → search nodes texts text ≡ Missing parent right → hash ≡ hash_of text
    → nodes_after ≡ with_node_added nodes hash parent right → texts_after ≡ texts ++ text ∷ []
    → IsSearchTree nodes_after texts_after
search-tree-after-adding nodes nodes_after hash parent right texts texts_after text is e h n t =
    subst (λ it. IsSearchTree it texts_after) (sym n)
    (subst (IsSearchTree (with_node_added nodes hash parent right)) (sym t)
    (grown-tree-is-search-tree nodes hash parent right texts text is e h))

pub search-finds-position : (nodes : List Node) (texts : List (List ℕ)) → IsSearchTree nodes texts
    → (text : List ℕ) → found_id (search nodes texts text) ≡ position (bytes_eq text) texts
search-finds-position nodes texts is text = by_position (position (bytes_eq text) texts) refl where
  by_position : (at : Option ℕ) → position (bytes_eq text) texts ≡ at
      → found_id (search nodes texts text) ≡ at
  by_position (Some at) e =
      let found = position-Some (bytes_eq text) texts at [] e in
      ap (λ it. found_id (search nodes texts it))
      ((bytes_eq-Decides text (get_or texts at [])).0 found.1)
      ∙ ap found_id (is.finds at found.0)
  by_position None e = by_search (search nodes texts text) refl e where
    by_search : (search_from-ends-here : SearchEnd) → search nodes texts text
        ≡ search_from-ends-here
        → position (bytes_eq text) texts ≡ None → found_id (search nodes texts text) ≡ None
    by_search (Missing parent right) p e = ap found_id p
    by_search (Found at) p e =
        let many = as-many-nodes-as-texts nodes texts is.hashes in
        let at_text = found-text-is-equal nodes texts text (length nodes) 0 0 at p in
        let bound : at < length texts = subst (λ n. at < n) many
        (found-index-in-range nodes texts text is.children at p) in
        let passes = any_passes_from_place (bytes_eq text) texts at (get_or texts at [])
        (slice_get-get_or texts at [] bound) at_text in
        let fails = position-None-no-element-passes (bytes_eq text) texts e in
        absurd (true≢false (sym passes ∙ fails))

-- register of links: the node at which a search misses a text
-- has an index of at most the number of nodes
pub missing-parent-in-range : (nodes : List Node) (texts : List (List ℕ)) → IsSearchTree nodes texts
    → (text : List ℕ) (parent : ℕ) (right : Bool)
    → search nodes texts text ≡ Missing parent right → parent ≤ length nodes
unfolding search_from
missing-parent-in-range [] texts is text parent right e = let first : 0
    ≡ parent = cc in omega (arith, first)
missing-parent-in-range (node ∷ nodes) texts is text parent right e =
    let ends = search-ends-at-free-side (node ∷ nodes) texts text is.children
    (length (node ∷ nodes)) 0 0 parent right (omega arith) (omega arith) e in
    let within = ends.0 in
    omega (arith, within)
