use Rattle.std.proofs.Common.{refl, subst}
use Rattle.fluent_uri.specs.Grammar.{IsTextOf, uri, uri_ref}
use Rattle.obligations.proofs.laws.equivalence.target_is_a_uri.Goals as goal

pub returns : goal.returns
returns c =
    let base = subst (IsTextOf uri) c.as_str-base.ensures.text
    (record { utf8 = c.as_str-base.utf8; grammar = c.as_str-base.ensures.of_kind }) in
    let reference = subst (IsTextOf uri_ref) c.as_str-reference.ensures.text
    (record { utf8 = c.as_str-reference.utf8; grammar = c.as_str-reference.ensures.of_kind }) in
    c.targets_are_of_the_kind_of_their_base.ensures uri _ _ c.args.target.now
    c.four_kinds_have_component_sets.ensures.uri refl base reference c.requires
