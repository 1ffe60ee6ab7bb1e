-- A digital search tree over a list of texts, whose nodes are those of the texts at their indices.
use Rattle.std.specs.Prelude.{◌≡◌, ◌+◌, ◌-◌, ◌/◌, ◌%◌, ◌^◌, ◌<◌, ◌≢◌, ◌∷◌, ◌++◌, ℕ, zero, suc, Bool, false, Option, Some, None, List, [], length, map, get_or, if◌then◌else◌, nat_lt, nat_eq, bytes_eq, slice_set, bit_and}
use Rattle.std.specs.Hash.{str}
use Rattle.std.specs.List.{fold}
use Rattle.std.specs.Hash.FoldHasher as folding
use Rattle.uri_links.specs.declared.search_tree.Node.{Node}
use Rattle.uri_links.specs.declared.search_tree.SearchEnd.{SearchEnd}
use Rattle.uri_links.specs.declared.search_tree.SearchEnd.TheVariants.{Found, Missing}

-- the hash of a text, whose bits lead through the search tree of a register
unfoldable pub hash_of : List ℕ → ℕ
hash_of text = folding.finish (fold folding.write folding.initial (str text))

-- the bit by which a search in the tree turns left or right: that of a number, the first argument,
-- at an index from the lowest
abbrev pub bit : ℕ → ℕ → Bool
bit number index = nat_eq (bit_and (number / 2 ^ index) 1) 1

-- Whether a search for a text in the search tree goes to the right of a node at this depth.
-- It goes by the bits of the text's hash, then by those of its bytes.
unfoldable pub descends_right : List ℕ → ℕ → Bool
descends_right text depth =
    if nat_lt depth 64 then bit (hash_of text) depth
    else bit (get_or text ((depth - 64) / 8) 0) ((depth - 64) % 8)

-- a node of the search tree without children, whose text has this hash
abbrev pub leaf : ℕ → Node
leaf hash = record { hash = hash; left = 0; right = 0 }

-- the child of a node of the search tree, on the right if the Bool is true and else on the left, or
-- 0 if there is none
abbrev pub child : Node → Bool → ℕ
child node right = if right then node.right else node.left

-- the node of the search tree, with this child on the right if the Bool is true and else on the
-- left
abbrev pub with_child : Node → Bool → ℕ → Node
with_child node right id = record {
  hash = node.hash;
  left = if right then node.left else id;
  right = if right then id else node.right;
}

-- the node of the search tree for the text at this index of the register
abbrev pub node_at : List Node → ℕ → Node
node_at nodes id = get_or nodes id (leaf 0)

-- the child in the tree that a search for the text goes to from the node of this index at this
-- depth, in this order, or 0
abbrev pub next_node : List Node → List ℕ → ℕ → ℕ → ℕ
next_node nodes text id depth = child (node_at nodes id) (descends_right text depth)

-- where a search for a text ends, in so many steps, the first number, from the node of this index
-- at this depth
unfoldable pub search_from : ℕ → List Node → List (List ℕ) → List ℕ → ℕ → ℕ → SearchEnd
search_from zero nodes texts text id depth = Missing id false
search_from (suc steps) nodes texts text id depth =
    if bytes_eq text (get_or texts id []) then Found id
    else (if nat_eq (next_node nodes text id depth) 0 then Missing id (descends_right text depth)
    else search_from steps nodes texts text (next_node nodes text id depth) (depth + 1))

-- where a search for a text ends that begins at the first node of the search tree; the lists are
-- its nodes and the register's texts
abbrev pub search : List Node → List (List ℕ) → List ℕ → SearchEnd
search nodes texts text = search_from (length nodes) nodes texts text 0 0

-- the index of a text that a search in the tree found, if it found one
abbrev pub found_id : SearchEnd → Option ℕ
found_id (Found id) = Some id
found_id (Missing parent right) = None

-- the search in the tree for each text of the register ends at the node of its index
abbrev pub FindsEach : List Node → List (List ℕ) → Type 0
FindsEach nodes texts = (id : ℕ) → id < length texts
    → search nodes texts (get_or texts id []) ≡ Found id

-- each node of the search tree has the hash of the register's text at its index
abbrev pub HaveHashes : List Node → List (List ℕ) → Type 0
HaveHashes nodes texts = map (λ (node : Node). node.hash) nodes ≡ map hash_of texts

-- each child in the search tree has a larger index than its node, and is a node
abbrev pub ChildrenFollow : List Node → Type 0
ChildrenFollow nodes = (id : ℕ) (right : Bool) → id < length nodes
    → child (node_at nodes id) right ≢ 0
    → (id < child (node_at nodes id) right) × (child (node_at nodes id) right < length nodes)

-- the nodes of a search tree with one more at the end, of this hash, as a child of the node at an
-- index, on the right if the Bool is true
abbrev pub with_node_added : List Node → ℕ → ℕ → Bool → List Node
with_node_added nodes hash parent right =
    let all = nodes ++ leaf hash ∷ [] in
    slice_set all parent (with_child (node_at all parent) right (length nodes))

-- the nodes are a search tree of the texts of a register: each text is found, at its index
pub record IsSearchTree (nodes : List Node) (texts : List (List ℕ)) : Type 0 where
  pub hashes : HaveHashes nodes texts
  pub children : ChildrenFollow nodes
  pub finds : FindsEach nodes texts
