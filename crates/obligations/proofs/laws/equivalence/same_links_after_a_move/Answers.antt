use Rattle.std.proofs.Common.{refl, subst}
use Rattle.fluent_uri.specs.Prelude.{IsTextOf, default_rules, uri, uri_ref}
use Rattle.obligations.proofs.laws.equivalence.same_links_after_a_move.Goals as goal

pub returns : goal.returns
returns c =
    let old = subst (IsTextOf uri) c.as_str-old.ensures.text
    (record { utf8 = c.as_str-old.utf8; grammar = c.as_str-old.ensures.of_kind }) in
    let new = subst (IsTextOf uri) c.as_str-new.ensures.text
    (record { utf8 = c.as_str-new.utf8; grammar = c.as_str-new.ensures.of_kind }) in
    let link = subst (IsTextOf uri_ref) c.as_str-link.ensures.text
    (record { utf8 = c.as_str-link.utf8; grammar = c.as_str-link.ensures.of_kind }) in
    c.resolving_and_normalising_swap.ensures.alike uri default_rules _ _ _ _
    c.four_kinds_have_component_sets.ensures.uri refl old new link link c.requires refl
