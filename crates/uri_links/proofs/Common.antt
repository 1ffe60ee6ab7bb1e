-- What proofs import from std, from lower crates and from `specs/`: the modules that three
-- files or more use.
pub use Rattle.std.proofs.Common.{◌≡◌, ◌+◌, ◌<◌, ◌≤◌, ◌++◌, ◌∷◌, ℕ, zero, suc, Bool, true, false, List, [], length, get_or, nat_eq, ap, arith, refl, sym, ◌∙◌, length-append, add-one, subst, Option, Some, None, true≢false, bytes_eq, ◌≢◌, ◌⊎◌, inl, inr, length-set, Ok, Err, rules, Result, Decides, cond, not, ltb, map, take, OnErr, ◌-◌}
pub use Rattle.std.proofs.lemmas.Bool.Decides.{nat_tests, same_from_decides, Decides-like}
pub use Rattle.std.proofs.lemmas.List.{get_or_append_left, map-append, get_or-set_same, get_or-set_other, get_or-map, length-map, take_more}
pub use Rattle.std.proofs.lemmas.List.Quantifiers.{position-Some}
pub use Rattle.std.proofs.lemmas.Map.Keys.{any_passes_from_place, IsDistinct-push}
pub use Rattle.std.specs.List.{All, AllByRecursion, list_all, position, list_any, position_or_len}
unfoldable pub use Rattle.std.specs.List.{IsDistinct}
pub use Rattle.fluent_uri.specs.Components.{components}
pub use Rattle.fluent_uri.specs.Grammar.{uri, IsTextOf, Kind, is_of_kind}
pub use Rattle.fluent_uri.specs.Normal.{normal_text}
pub use Rattle.fluent_uri.specs.SchemeRules.{Rules, meaning_under}
pub use Rattle.fluent_uri.specs.Uris.{uri_text, uri_ref_text}
pub use Rattle.uri_links.specs.Outcomes.{index_of_meaning, outcome_of_lookup, outcome_of_resolution}
unfoldable pub use Rattle.uri_links.specs.Outcomes.{outcome_of, outcomes_of}
pub use Rattle.uri_links.specs.Registers.{target_rules, texts_of}
pub use Rattle.uri_links.specs.SearchTrees.{child, descends_right, next_node, node_at, search, ChildrenFollow, with_node_added, leaf, FindsEach, hash_of, IsSearchTree, found_id, with_child, HaveHashes}
unfoldable pub use Rattle.uri_links.specs.SearchTrees.{search_from}
pub use Rattle.uri_links.specs.declared.links.Outcome.{Outcome}
pub use Rattle.uri_links.specs.declared.search_tree.Node.{Node}
