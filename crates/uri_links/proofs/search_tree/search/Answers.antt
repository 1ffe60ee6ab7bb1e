use Rattle.uri_links.proofs.Common.{◌+◌, ◌-◌, ◌∙◌, sym, ap, arith, length, map, [], uri_text, hash_of, leaf, search_from}
use Rattle.std.proofs.lemmas.Grind.{common_steps}
use Rattle.uri_links.proofs.Searches.{search_from-found-here-at, search_from-ends-here-at, search_from-descends-at, node-hash-is-text-hash, as-many-nodes-as-texts, get_or-of-mapped}
use Rattle.uri_links.proofs.search_tree.search.Goals as goal

pub has_text-requires-clause-own : goal.has_text-requires-clause-own
has_text-requires-clause-own c =
    let many = as-many-nodes-as-texts c.args.nodes.now (map uri_text c.args.targets.now)
    c.requires.hashes in
    node-hash-is-text-hash c.args.nodes.now (map uri_text c.args.targets.now) c.requires.hashes
    c.loop-depth.id (leaf 0) [] (grind (arith, common_steps)) ∙ ap hash_of (get_or-of-mapped
    uri_text c.args.targets.now c.loop-depth.id c.index-targets-id.result
    (grind (arith, common_steps, many)) c.index-targets-id.is)

pub returns-then-has_text : goal.returns-then-has_text
returns-then-has_text c =
    let many = as-many-nodes-as-texts c.args.nodes.now (map uri_text c.args.targets.now)
    c.requires.hashes in
    let is = get_or-of-mapped uri_text c.args.targets.now c.loop-depth.id c.index-targets-id.result
    (grind (arith, common_steps, many)) c.index-targets-id.is in
    sym (search_from-found-here-at c.args.nodes.now (map uri_text c.args.targets.now)
    c.args.text.now (length c.args.nodes.now - c.loop-depth.depth)
    (length c.args.nodes.now - (c.loop-depth.depth + 1)) c.loop-depth.id c.loop-depth.depth
    (omega arith) (rw is (sym c.has_text.ensures ∙ c.if-has_text.true)))
    ∙ c.loop-depth.invariant.goes_on

pub returns-then-child-eq0 : goal.returns-then-child-eq0
returns-then-child-eq0 c =
    let many = as-many-nodes-as-texts c.args.nodes.now (map uri_text c.args.targets.now)
    c.requires.hashes in
    let is = get_or-of-mapped uri_text c.args.targets.now c.loop-depth.id c.index-targets-id.result
    (grind (arith, common_steps, many)) c.index-targets-id.is in
    let ends = search_from-ends-here-at c.args.nodes.now (map uri_text c.args.targets.now)
    c.args.text.now (length c.args.nodes.now - c.loop-depth.depth)
    (length c.args.nodes.now - (c.loop-depth.depth + 1)) c.loop-depth.id c.loop-depth.depth
    (omega arith) (rw is (sym c.has_text.ensures ∙ c.if-has_text.false))
    (grind (arith, common_steps)) in
    grind (arith, ends)

pub loop-depth-preserved : goal.loop-depth-preserved
loop-depth-preserved c =
    let many = as-many-nodes-as-texts c.args.nodes.now (map uri_text c.args.targets.now)
    c.requires.hashes in
    let is = get_or-of-mapped uri_text c.args.targets.now c.loop-depth.id c.index-targets-id.result
    (grind (arith, common_steps, many)) c.index-targets-id.is in
    let child = c.requires.children c.loop-depth.id c.descends_right-right.result in
    let rest = search_from-descends-at c.args.nodes.now (map uri_text c.args.targets.now)
    c.args.text.now (length c.args.nodes.now - c.loop-depth.depth)
    (length c.args.nodes.now - (c.loop-depth.depth + 1)) c.loop-depth.id c.loop-depth.depth
    (omega arith) (rw is (sym c.has_text.ensures ∙ c.if-has_text.false))
    (grind (arith, common_steps)) in
    record { within = grind (arith, child); goes_on = grind (arith, rest) }

pub returns : goal.returns
unfolding search_from
returns c = grind arith
