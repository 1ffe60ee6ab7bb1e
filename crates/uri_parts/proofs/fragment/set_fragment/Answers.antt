use Rattle.uri_parts.proofs.Common.{Some, None, ap, sym, subst, ◌∙◌, ◌++◌, ◌∷◌, take, option_map, string_bytes, IsCharBoundary, text_of, IsWithFragment}
use Rattle.uri_parts.proofs.Splitting.Fragments.{boundary-at-fragment-mark, stripped_is_without_fragment, appended_is_with_fragment, stays_of_kind_with_fragment, stays_of_kind_without_fragment, positions_stay_with_fragment}
use Rattle.uri_parts.proofs.fragment.set_fragment.Goals as goal

-- the text that is left without a fragment, and the one with another
without : (g : _) (c : goal.After-truncate g)
    → IsWithFragment (string_bytes c.args.text.now) None (string_bytes c.truncate.new.self)
without g c = stripped_is_without_fragment (string_bytes c.args.text.now)
    c.args.positions.now c.requires
    c.before_fragment-kept.result c.before_fragment-kept.ensures _ c.truncate.ensures.bytes

with : (g : _) (c : goal.After-replace_end_by_fragment g)
    → IsWithFragment (string_bytes c.args.text.now) (Some c.as_str.result.now)
    (string_bytes c.replace_end_by_fragment.new.text)
with g c =
    let text = string_bytes c.args.text.now in
    let mark = c.before_fragment-kept.result in
    let fragment = c.as_str.result.now in
    let kept = ap (take mark) c.reserve_for_fragment.ensures.same in
    appended_is_with_fragment text (take mark text)
    (string_bytes c.replace_end_by_fragment.new.text) fragment (stripped_is_without_fragment text
    c.args.positions.now c.requires mark c.before_fragment-kept.ensures (take mark text)
    (λ _. take mark text)) (c.replace_end_by_fragment.ensures ∙ ap (λ t. t ++ (35 ∷ fragment)) kept)

pub truncate-requires : goal.truncate-requires
truncate-requires g c =
    let cut = boundary-at-fragment-mark (string_bytes c.args.text.now)
    c.args.positions.now c.requires c.before_fragment-kept.result c.before_fragment-kept.ensures in
    λ _. (cut.0, λ _. cut.1)

pub reserve_for_fragment-requires : goal.reserve_for_fragment-requires
reserve_for_fragment-requires g c = boundary-at-fragment-mark (string_bytes c.args.text.now)
    c.args.positions.now c.requires c.before_fragment-kept.result c.before_fragment-kept.ensures

pub replace_end_by_fragment-requires-clause-boundary
    : goal.replace_end_by_fragment-requires-clause-boundary
replace_end_by_fragment-requires-clause-boundary g c =
    let here = boundary-at-fragment-mark (string_bytes c.args.text.now)
    c.args.positions.now c.requires c.before_fragment-kept.result c.before_fragment-kept.ensures in
    subst (λ t. IsCharBoundary t c.before_fragment-kept.result)
    (sym c.reserve_for_fragment.ensures.same) here

pub returns-in_default-clause-fragment : goal.returns-in_default-clause-fragment
returns-in_default-clause-fragment g c =
    let given = ap (option_map text_of) c.in_default.is in
    subst (λ o. IsWithFragment (string_bytes c.args.text.now) o (string_bytes c.truncate.new.self))
    (sym given) (without g c)

pub returns-in_default-clause-of_kind : goal.returns-in_default-clause-of_kind
returns-in_default-clause-of_kind g c = stays_of_kind_without_fragment g.E.Encoder.set
    (string_bytes c.args.text.now) (string_bytes c.truncate.new.self) (without g c)

pub returns-in_default-clause-at : goal.returns-in_default-clause-at
returns-in_default-clause-at g c = positions_stay_with_fragment (string_bytes c.args.text.now)
    (string_bytes c.truncate.new.self) None c.args.positions.now c.requires (without g c)

pub returns-clause-fragment : goal.returns-clause-fragment
returns-clause-fragment g c =
    let given = ap Some c.as_str.ensures.text ∙ sym (ap (option_map text_of) c.in-Some.is) in
    subst (λ o. IsWithFragment (string_bytes c.args.text.now) o
    (string_bytes c.replace_end_by_fragment.new.text)) given (with g c)

pub returns-clause-of_kind : goal.returns-clause-of_kind
returns-clause-of_kind g c = stays_of_kind_with_fragment g.E.Encoder.set
    (string_bytes c.args.text.now) (string_bytes c.replace_end_by_fragment.new.text)
    c.as_str.result.now c.as_str.ensures.valid (with g c)

pub returns-clause-at : goal.returns-clause-at
returns-clause-at g c = positions_stay_with_fragment
    (string_bytes c.args.text.now) (string_bytes c.replace_end_by_fragment.new.text)
    (Some c.as_str.result.now) c.args.positions.now c.requires (with g c)
