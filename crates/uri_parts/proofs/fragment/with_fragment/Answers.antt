use Rattle.uri_parts.proofs.Common.{Some, None, ap, sym, subst, ◌∙◌, ◌++◌, ◌∷◌, arith, option_map, string_bytes, text_of, IsWithFragment}
use Rattle.uri_parts.proofs.Splitting.Fragments.{appended_is_with_fragment, stays_of_kind_with_fragment, stays_of_kind_without_fragment, positions_stay_with_fragment}
use Rattle.uri_parts.proofs.fragment.with_fragment.Goals as goal

without : (g : _) (c : goal.In_ok-push_str g)
    → IsWithFragment c.args.text.now None (string_bytes c.push_str.new.self)
without g c = grind arith

with : (g : _) (c : goal.In_ok-push_fragment g) → IsWithFragment c.args.text.now
    (Some c.as_str.result.now) (string_bytes c.push_fragment.new.text)
with g c =
    let kept = c.without_fragment-kept.result.now in
    let fragment = c.as_str.result.now in
    let start = c.in_ok-push_str-2.ensures.bytes
    ∙ ap (λ t. t ++ kept) (c.reserve.ensures.bytes ∙ c.new-made.ensures.bytes) in
    appended_is_with_fragment c.args.text.now kept (string_bytes c.push_fragment.new.text) fragment
    c.without_fragment-kept.ensures.fragment
    (c.in_ok-push_fragment.ensures.text ∙ ap (λ t. t ++ (35 ∷ fragment)) start)

pub returns-in_default-clause-of_kind : goal.returns-in_default-clause-of_kind
returns-in_default-clause-of_kind g c = grind (arith, stays_of_kind_without_fragment, without)

pub returns-in_default-clause-at : goal.returns-in_default-clause-at
returns-in_default-clause-at g c = grind (arith, positions_stay_with_fragment, without)

pub returns-clause-fragment : goal.returns-clause-fragment
returns-clause-fragment g c =
    let given = ap Some c.as_str.ensures.text ∙ sym (ap (option_map text_of) c.in-Some.is) in
    subst (λ o. IsWithFragment c.args.text.now o (string_bytes c.push_fragment.new.text)) given
    (with g c)

pub returns-clause-of_kind : goal.returns-clause-of_kind
returns-clause-of_kind g c = stays_of_kind_with_fragment g.E.Encoder.set c.args.text.now
    (string_bytes c.push_fragment.new.text) c.as_str.result.now c.as_str.ensures.valid (with g c)

pub returns-clause-at : goal.returns-clause-at
returns-clause-at g c = positions_stay_with_fragment c.args.text.now
    (string_bytes c.push_fragment.new.text)
    (Some c.as_str.result.now) c.args.positions.now c.requires (with g c)
