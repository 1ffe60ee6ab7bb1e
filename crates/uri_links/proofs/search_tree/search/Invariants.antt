use Rattle.uri_links.proofs.Common.{◌≡◌, ◌-◌, ◌<◌, ◌⊎◌, length, map, uri_text, search_from}
use Rattle.uri_links.proofs.search_tree.search.Given as goal

-- the rest of the search ends where the whole does
abbrev pub invariant-loop-depth : goal.invariant-loop-depth
invariant-loop-depth l = record {
  within : (l.id < length l.nodes) ⊎ (length l.nodes ≡ 0);
  goes_on : search_from (length l.nodes - l.depth) l.nodes (map uri_text l.targets) l.text l.id
      l.depth ≡ search_from (length l.nodes) l.nodes (map uri_text l.targets) l.text 0 0;
}
