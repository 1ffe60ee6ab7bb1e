-- A tree with one more node.
use Rattle.uri_links.proofs.Common.{◌≡◌, ◌≢◌, ◌+◌, ◌<◌, ◌⊎◌, inl, inr, ◌++◌, ◌∷◌, ℕ, Bool, true, false, List, [], length, nat_eq, ap, arith, refl, sym, ◌∙◌, length-append, length-set, subst, map-append, get_or-set_same, get_or-set_other, get_or_append_left, nat_tests, child, node_at, ChildrenFollow, with_node_added, leaf, with_child, HaveHashes, hash_of, Node}
use Rattle.std.proofs.Math.Seq.{map-set_same, get_or-append_seam}

-- register of links: a child that is put on a side is there
child-of-with_child : (node : Node) (side : Bool) (id : ℕ) → child (with_child node side id) side
    ≡ id
child-of-with_child node true id = refl
child-of-with_child node false id = refl

with_child-keeps-other-side : (node : Node) (side right : Bool) (id : ℕ) → child node right ≡ 0
    → child node side ≢ 0 → child (with_child node right id) side ≡ child node side
with_child-keeps-other-side node true true id free some = absurd (some free)
with_child-keeps-other-side node true false id free some = refl
with_child-keeps-other-side node false true id free some = refl
with_child-keeps-other-side node false false id free some = absurd (some free)

-- register of links: a child of a tree's node to which a child
-- was added is the new one, or was one before
child-is-new-or-old : (node : Node) (side right : Bool) (id : ℕ)
    → (child (with_child node right id) side ≡ id)
    ⊎ (child (with_child node right id) side ≡ child node side)
child-is-new-or-old node true true id = inl refl
child-is-new-or-old node true false id = inr refl
child-is-new-or-old node false true id = inr refl
child-is-new-or-old node false false id = inl refl

-- register of links: a new node of the search tree has no child
pub leaf-has-no-child : (hash : ℕ) (side : Bool) → child (leaf hash) side ≡ 0
leaf-has-no-child hash true = refl
leaf-has-no-child hash false = refl

-- register of links: the id of a child of the search tree's node with this id, which comes after it
-- and before n
abbrev IsChild : ℕ → ℕ → ℕ → Type 0
IsChild n id at = at ≢ 0 → (id < at) × (at < n)

-- register of links: a child is one too where a node more follows; n: the number of nodes
is_child-of-longer-list : (n id old new : ℕ) → new ≡ old → IsChild n id old → IsChild (n + 1) id new
is_child-of-longer-list n id old new e h some = grind (arith, nat_tests)

module _ (nodes : List Node) (hash parent : ℕ) (right : Bool) where
  pub length_grown : length (with_node_added nodes hash parent right) ≡ length nodes + 1
  length_grown = length-set (nodes ++ leaf hash ∷ []) parent _
      ∙ length-append nodes (leaf hash ∷ [])

  module _ (in_range : parent < length nodes) where
    node_at-of-parent : node_at (with_node_added nodes hash parent right) parent
        ≡ with_child (node_at nodes parent) right (length nodes)
    node_at-of-parent = grind (arith, nat_tests, get_or-set_same, length-append, get_or_append_left)

    node_at-of-other : (id : ℕ) → id < length nodes → id ≢ parent
        → node_at (with_node_added nodes hash parent right) id ≡ node_at nodes id
    node_at-of-other id l n = get_or-set_other (nodes ++ leaf hash ∷ []) parent id _ (leaf 0) n
        ∙ get_or_append_left nodes (leaf hash ∷ []) (leaf 0) id l

    node_at-of-new-node : node_at (with_node_added nodes hash parent right) (length nodes)
        ≡ leaf hash
    node_at-of-new-node = grind (arith, nat_tests, get_or-set_other, get_or-append_seam)

    -- the new node is the child of its parent
    pub new-node-is-child-of-parent : child
        (node_at (with_node_added nodes hash parent right) parent) right ≡ length nodes
    new-node-is-child-of-parent = ap (λ node. child node right) node_at-of-parent
        ∙ child-of-with_child (node_at nodes parent) right (length nodes)

    -- no other child is changed
    pub other-children-unchanged : (id : ℕ) (side : Bool) → id < length nodes
        → child (node_at nodes parent) right ≡ 0 → child (node_at nodes id) side ≢ 0
        → child (node_at (with_node_added nodes hash parent right) id) side
        ≡ child (node_at nodes id) side
    other-children-unchanged id side l free some =
        grind (arith, nat_tests, node_at-of-parent, with_child-keeps-other-side, node_at-of-other)

    -- a child of the new node's parent comes after it
    child-of-parent-follows : ChildrenFollow nodes → (id : ℕ) (side : Bool) → id ≡ parent
        → (child (with_child (node_at nodes parent) right (length nodes)) side ≡ length nodes)
        ⊎ (child (with_child (node_at nodes parent) right (length nodes)) side
        ≡ child (node_at nodes parent) side) → IsChild (length nodes + 1) id
        (child (node_at (with_node_added nodes hash parent right) id) side)
    child-of-parent-follows follow id side same (inl e) some =
        grind (arith, nat_tests, node_at-of-parent)
    child-of-parent-follows follow id side same (inr e) some =
        grind (arith, nat_tests, is_child-of-longer-list, node_at-of-parent)

    pub children_follow : ChildrenFollow nodes
        → ChildrenFollow (with_node_added nodes hash parent right)
    children_follow follow id side l =
        let at : ℕ = child (node_at (with_node_added nodes hash parent right) id) side in
        let within : id < length nodes + 1 = subst (λ n. id < n) length_grown l in
        let Old : Bool → Type 0 = λ b. nat_eq id parent ≡ b → IsChild (length nodes + 1) id at in
        let Last : Bool → Type 0 = λ b. nat_eq id (length nodes) ≡ b
        → IsChild (length nodes + 1) id at in
        subst (λ n. IsChild n id at) (sym length_grown)
        ((elim (nat_eq id (length nodes)) as Last [
          | true ↦ λ e some. absurd (some
              (ap (λ it. child (node_at (with_node_added nodes hash parent right) it) side)
              (grind (arith, nat_tests))
              ∙ ap (λ node. child node side) node_at-of-new-node ∙ leaf-has-no-child hash side))
          | false ↦ λ e.
              (elim (nat_eq id parent) as Old [
                | true ↦ λ f. child-of-parent-follows follow id side (grind (arith, nat_tests))
                    (child-is-new-or-old (node_at nodes parent) side right (length nodes))
                | false ↦ λ f. let before : id < length nodes = grind (arith, nat_tests) in
                    is_child-of-longer-list (length nodes) id (child (node_at nodes id) side) at
                    (ap (λ node. child node side)
                    (node_at-of-other id before (grind (arith, nat_tests))))
                    (follow id side before)
              ]) refl
        ]) refl)

  pub hashes_grown : (texts : List (List ℕ)) (text : List ℕ) → HaveHashes nodes texts → hash
      ≡ hash_of text
      → HaveHashes (with_node_added nodes hash parent right) (texts ++ text ∷ [])
  hashes_grown texts text h e = grind (arith, nat_tests, map-set_same, map-append)
