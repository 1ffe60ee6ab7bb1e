use Rattle.uri_basic.proofs.Common.{◌≡◌, ◌≤◌, false, length, refl, rules, subst, sym, true, ◌∙◌, components_of}
use Rattle.uri_basic.proofs.TargetPlaces.{host-is-within-text, places-of-authority, places-of-base}
use Rattle.uri_basic.proofs.target_text.places_to_host.Goals as goal

pub returns-then-not-has_authority : goal.returns-then-not-has_authority
returns-then-not-has_authority c =
    let none : c.has_authority.result ≡ false = search rules in
    places-of-base (components_of c.args.base.now) (components_of c.args.reference.now)
    c.packed_positions-places.result c.packed_positions-places.ensures
    (sym c.has_scheme.ensures ∙ c.if-has_scheme.false) (sym c.has_authority.ensures ∙ none)

pub host_after_scheme-start-requires-clause-start
    : goal.host_after_scheme-start-requires-clause-start
host_after_scheme-start-requires-clause-start c =
    subst (λ t. c.packed_positions-own.result.host_start ≤ length t)
    (sym c.as_str-text.ensures.text)
    (host-is-within-text c.args.reference.now.text.now c.packed_positions-own.result
    c.args.reference.now.host c.packed_positions-own.ensures).0

pub host_after_scheme-start-requires-clause-end : goal.host_after_scheme-start-requires-clause-end
host_after_scheme-start-requires-clause-end c =
    subst (λ t. c.packed_positions-own.result.host_end ≤ length t)
    (sym c.as_str-text.ensures.text)
    (host-is-within-text c.args.reference.now.text.now c.packed_positions-own.result
    c.args.reference.now.host c.packed_positions-own.ensures).1

pub returns : goal.returns
returns c =
    let some : c.has_authority.result ≡ true = search rules in
    places-of-authority (components_of c.args.base.now) (components_of c.args.reference.now)
    c.packed_positions-own.result c.packed_positions-places.result _
    c.scheme_with_delimiter.result.now c.packed_positions-own.ensures
    c.packed_positions-places.ensures c.scheme_with_delimiter.ensures
    (sym c.has_scheme.ensures ∙ c.if-has_scheme.false) (sym c.has_authority.ensures ∙ some) refl
    c.host_after_scheme-start.ensures.start c.host_after_scheme-start.ensures.end
