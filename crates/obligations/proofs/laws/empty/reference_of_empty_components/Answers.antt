use Rattle.std.proofs.Common.{◌≡◌, ◌∙◌, ℕ, false, List, [], sym, ap}
use Rattle.std.specs.Prelude.{codes}
use Rattle.fluent_uri.specs.Prelude.{AddsOrFails, BuilderParts, authority_text, contents_of, no_parts, parts_in_state, parts_text, text_of, with_authority, with_fragment, with_path, with_query}
use Rattle.fluent_uri.proofs.Outcomes.{false-from-None-is-Some}
use Rattle.obligations.proofs.laws.empty.reference_of_empty_components.Goals as goal

-- the text of the parts that the four steps add
text : (p0 p1 p2 p3 p4 : BuilderParts) (authority path query fragment : List ℕ) → p0 ≡ no_parts
    → AddsOrFails (with_authority authority) p0 p1 → AddsOrFails (with_path path) p1 p2
    → AddsOrFails (with_query query) p2 p3 → AddsOrFails (with_fragment fragment) p3 p4
    → p4.failed ≡ false
    → authority ≡ [] → path ≡ [] → query ≡ [] → fragment ≡ [] → parts_text p4 ≡ codes "//?#"
text p0 p1 p2 p3 p4 authority path query fragment e0 a1 a2 a3 a4 f4 a p q f =
    let e4 = a4.adds f4 in
    let f3 : p3.failed ≡ false = sym (ap (λ (r : BuilderParts). r.failed) e4) ∙ f4 in
    let e3 = a3.adds f3 in
    let f2 : p2.failed ≡ false = sym (ap (λ (r : BuilderParts). r.failed) e3) ∙ f3 in
    let e2 = a2.adds f2 in
    let f1 : p1.failed ≡ false = sym (ap (λ (r : BuilderParts). r.failed) e2) ∙ f2 in
    let e1 = a1.adds f1 in
    ap parts_text (e4 ∙ ap (with_fragment fragment) (e3 ∙ ap (with_query query)
    (e2 ∙ ap (with_path path) (e1 ∙ ap (with_authority authority) e0))))
    ∙ (λ i. parts_text (with_fragment (f i) (with_query (q i) (with_path (p i)
    (with_authority (a i) no_parts)))))

pub returns : goal.returns
returns c =
    let f = false-from-None-is-Some (parts_in_state (contents_of c.fragment.result)).failed
    c.in_ok-built.ensures.failed in
    c.in_ok-built.ensures.value
    ∙ text (parts_in_state (contents_of c.builder.result))
    (parts_in_state (contents_of c.authority.result))
    (parts_in_state (contents_of c.path.result)) (parts_in_state (contents_of c.query.result))
    (parts_in_state (contents_of c.fragment.result)) (authority_text c.new_empty.result)
    (text_of c.default.result) (text_of c.default-2.result) (text_of c.default-3.result)
    c.builder.ensures c.authority.ensures c.path.ensures c.query.ensures c.fragment.ensures f
    c.new_empty.ensures.text c.default.ensures c.default-2.ensures c.default-3.ensures
