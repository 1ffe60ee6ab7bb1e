use Rattle.uri_basic.proofs.Common.{◌≡◌, ◌-◌, ◌++◌, [], ap, arith, length, refl, rules, string_bytes, sym, ◌∙◌, codes, components, marked, packed, positions_of, components_of, string_len-is-length-of-bytes, target}
use Rattle.fluent_uri.specs.Prelude.{before_path, core_text}
use Rattle.uri_basic.proofs.TargetPlaces.{fragment-fits-in-target, fragment-of-target, written-target-is-at}
use Rattle.uri_basic.proofs.target_text.target_text.Goals as goal

pub overflow_sub-query_end : goal.overflow_sub-query_end
overflow_sub-query_end g c =
    let b = components_of c.of_core-base.result in
    let r = components_of c.of_core-reference.result in
    let long : c.len.result ≡ length (string_bytes c.push_after_path.new.out) =
    c.len.ensures ∙ string_len-is-length-of-bytes c.push_after_path.new.out in
    let fits = fragment-fits-in-target (target b r) (string_bytes c.push_to_path_end.new.out)
    (string_bytes c.push_after_path.new.out) c.fragment_with_delimiter.result.now
    c.in_ok-push_after_path.ensures (c.fragment_with_delimiter.ensures
    ∙ ap (λ f. marked (codes "#") f []) (sym (fragment-of-target b r))) in
    omega (arith, long, fits)

pub returns-clause-positions : goal.returns-clause-positions
returns-clause-positions g c =
    let b = components_of c.of_core-base.result in
    let r = components_of c.of_core-reference.result in
    let t = target b r in
    let last = c.fragment_with_delimiter.result.now in
    let empty : string_bytes c.in_ok-text.text ≡ [] = search rules in
    written-target-is-at t c.places_to_host-places.result _ (before_path t)
    (string_bytes c.push_to_path_end.new.out) (string_bytes c.push_after_path.new.out) last
    c.places_to_host-places.ensures refl
    (c.in_ok-path_start.ensures.text ∙ ap (λ o. o ++ (before_path t ++ t.path)) empty)
    c.in_ok-push_after_path.ensures (c.fragment_with_delimiter.ensures
    ∙ ap (λ f. marked (codes "#") f []) (sym (fragment-of-target b r))) refl refl refl
    (c.in_ok-path_start.ensures.start empty)
    (c.len-path_end.ensures ∙ string_len-is-length-of-bytes c.push_to_path_end.new.out) (ap
    (λ n. n - length last)
    (c.len.ensures ∙ string_len-is-length-of-bytes c.push_after_path.new.out))
    ∙ ap (λ b. packed (positions_of (target b r))) c.of_core-base.ensures.components ∙ ap
    (λ r. packed (positions_of (target (components (core_text c.args.base)) r)))
    c.of_core-reference.ensures.components
