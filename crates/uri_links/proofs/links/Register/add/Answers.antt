use Rattle.uri_links.proofs.links.Register.add.Goals as goal
use Rattle.uri_links.proofs.Common.{◌∙◌, ap, map, [], ◌∷◌, arith, map-append, uri_text}
use Rattle.uri_links.proofs.FoundTexts.{search-tree-after-adding, missing-parent-in-range}
use Rattle.uri_links.proofs.Texts.{uris-after-adding, normal-after-adding, distinct-after-adding}

pub add_node-requires : goal.add_node-requires
add_node-requires g c =
    missing-parent-in-range c.args.self.now.nodes.items (map uri_text c.args.self.now.targets.items)
    c.args.self.now.tree (uri_text c.args.target) c.args.parent c.args.right c.requires.missing

pub invariant_of-self-in-Ok-clause-uris : goal.invariant_of-self-in-Ok-clause-uris
invariant_of-self-in-Ok-clause-uris g c = grind (arith, map-append, uris-after-adding)

pub invariant_of-self-in-Ok-clause-normal : goal.invariant_of-self-in-Ok-clause-normal
invariant_of-self-in-Ok-clause-normal g c = grind (arith, map-append, normal-after-adding)

pub invariant_of-self-in-Ok-clause-distinct : goal.invariant_of-self-in-Ok-clause-distinct
invariant_of-self-in-Ok-clause-distinct g c = grind (arith, map-append, distinct-after-adding)

pub invariant_of-self-in-Ok-clause-tree : goal.invariant_of-self-in-Ok-clause-tree
invariant_of-self-in-Ok-clause-tree g c =
    let e = ap (map uri_text) c.in_ok-push.ensures.items
    ∙ map-append uri_text c.args.self.now.targets.items (c.args.target ∷ []) in
    search-tree-after-adding _ c.add_node.new.nodes.items c.args.hash c.args.parent c.args.right _ _
    _ c.args.self.now.tree c.requires.missing c.requires.hash c.in-Ok.ensures.with_node_added e
