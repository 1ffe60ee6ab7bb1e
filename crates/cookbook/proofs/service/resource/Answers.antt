use Rattle.std.proofs.Common.{◌≡◌, ◌∙◌, ℕ, Bool, true, false, List, refl, sym, ap}
use Rattle.std.specs.Prelude.{Option, Some, None, is_some, ◌≢◌}
use Rattle.std.proofs.lemmas.Option.{same_Some}
use Rattle.fluent_uri.specs.Prelude.{AddsOrFails, BuilderParts, Components, as_components, authority_text, components, contents_of, no_parts, parts_in_state, parts_text, scheme_text, text_of, uri, uri_text, with_authority, with_path, with_query, with_scheme}
use Rattle.fluent_uri.specs.Built.{IsTextOfParts, build_error_of_path, refusal}
use Rattle.fluent_uri.specs.declared.build.BuildError.{BuildError}
use Rattle.fluent_uri.specs.declared.build.BuildError.TheVariants.{OutOfMemory}
use Rattle.fluent_uri.proofs.Outcomes.{IfErr-of-only-error, false-from-None-is-Some}
use Rattle.cookbook.proofs.service.resource.Goals as goal

abbrev four : List ℕ → List ℕ → List ℕ → List ℕ → Components
four scheme authority path query = record {
  scheme = Some scheme;
  authority = Some authority;
  path = path;
  query = Some query;
  fragment = None;
}

parts : (p0 p1 p2 p3 p4 : BuilderParts) (scheme authority path query : List ℕ) → p0 ≡ no_parts
    → AddsOrFails (with_scheme scheme) p0 p1 → AddsOrFails (with_authority authority) p1 p2
    → AddsOrFails (with_path path) p2 p3 → AddsOrFails (with_query query) p3 p4 → p4.failed ≡ false
    → as_components p4 ≡ four scheme authority path query
parts p0 p1 p2 p3 p4 scheme authority path query e0 a1 a2 a3 a4 f4 =
    let e4 = a4.adds f4 in
    let f3 : p3.failed ≡ false = sym (ap (λ (r : BuilderParts). r.failed) e4) ∙ f4 in
    let e3 = a3.adds f3 in
    let f2 : p2.failed ≡ false = sym (ap (λ (r : BuilderParts). r.failed) e3) ∙ f3 in
    let e2 = a2.adds f2 in
    let f1 : p1.failed ≡ false = sym (ap (λ (r : BuilderParts). r.failed) e2) ∙ f2 in
    let e2 = e2 ∙ ap (with_authority authority) (a1.adds f1 ∙ ap (with_scheme scheme) e0) in
    ap as_components (e4 ∙ ap (with_query query) (e3 ∙ ap (with_path path) e2))

-- the components of what was built
whole : (text : List ℕ) (p0 p1 p2 p3 p4 : BuilderParts) (scheme authority path query : List ℕ)
    → p0 ≡ no_parts → AddsOrFails (with_scheme scheme) p0 p1
    → AddsOrFails (with_authority authority) p1 p2
    → AddsOrFails (with_path path) p2 p3 → AddsOrFails (with_query query) p3 p4 → p4.failed ≡ false
    → text ≡ parts_text p4 → IsTextOfParts uri p4
    → components text ≡ four scheme authority path query
whole text p0 p1 p2 p3 p4 scheme authority path query e0 a1 a2 a3 a4 f4 value w =
    let same = parts p0 p1 p2 p3 p4 scheme authority path query e0 a1 a2 a3 a4 f4 in
    ap components value ∙ w.components ∙ same

made : (c : goal.In_ok-made) → components (uri_text c.in_ok-made.made)
    ≡ four (scheme_text c.new_or_panic.result) (authority_text c.args.authority)
    (text_of c.args.path) (text_of c.args.query)
made c =
    let f = false-from-None-is-Some (parts_in_state (contents_of c.query.result)).failed
    c.in_ok-made.ensures.failed in
    whole (uri_text c.in_ok-made.made) (parts_in_state (contents_of c.builder.result))
    (parts_in_state (contents_of c.scheme.result)) (parts_in_state (contents_of c.authority.result))
    (parts_in_state (contents_of c.path.result)) (parts_in_state (contents_of c.query.result))
    (scheme_text c.new_or_panic.result) (authority_text c.args.authority)
    (text_of c.args.path) (text_of c.args.query) c.builder.ensures c.scheme.ensures
    c.authority.ensures c.path.ensures c.query.ensures f c.in_ok-made.ensures.value
    ((c.in_ok-made.ensures.exactly f).0 refl)

pub returns-clause-scheme : goal.returns-clause-scheme
returns-clause-scheme c =
    ap (λ (parts : Components). parts.scheme) (made c) ∙ ap Some c.new_or_panic.ensures

pub returns-clause-authority : goal.returns-clause-authority
returns-clause-authority c = ap (λ (parts : Components). parts.authority) (made c)

pub returns-clause-path : goal.returns-clause-path
returns-clause-path c = ap (λ (parts : Components). parts.path) (made c)

pub returns-clause-query : goal.returns-clause-query
returns-clause-query c = ap (λ (parts : Components). parts.query) (made c)

pub returns-clause-fragment : goal.returns-clause-fragment
returns-clause-fragment c = ap (λ (parts : Components). parts.fragment) (made c)

error_is_of_path : (p : BuilderParts) (scheme authority path query : List ℕ)
    → as_components p ≡ four scheme authority path query
    → refusal p ≡ build_error_of_path true true path
error_is_of_path p scheme authority path query e =
    ap (λ (parts : Components). build_error_of_path (is_some parts.scheme) (is_some parts.authority)
    parts.path) e

error_unless_failed : (failed : Bool) (e : BuildError) (of_parts of_path : Option BuildError)
    → (failed ≡ true → Some e ≡ Some OutOfMemory) → (failed ≡ false → Some e ≡ of_parts)
    → (failed ≡ false → of_parts ≡ of_path) → e ≢ OutOfMemory → of_path ≡ Some e
error_unless_failed true e of_parts of_path none some same other =
    absurd (other (same_Some e OutOfMemory (none refl)))
error_unless_failed false e of_parts of_path none some same other = sym (some refl ∙ same refl)

pub returns-in_err-made-clause-refused : goal.returns-in_err-made-clause-refused
returns-in_err-made-clause-refused c =
    let p = parts_in_state (contents_of c.query.result) in
    IfErr-of-only-error
    (λ e. e ≢ OutOfMemory → build_error_of_path true true (text_of c.args.path) ≡ Some e)
    c.from_residual.result _ c.from_residual.ensures.1
    (error_unless_failed p.failed _ (refusal p) _ c.in_err-made.ensures.failed
    c.in_err-made.ensures.refused
    (λ f. error_is_of_path p _ _ _ _
    (parts (parts_in_state (contents_of c.builder.result))
    (parts_in_state (contents_of c.scheme.result)) (parts_in_state (contents_of c.authority.result))
    (parts_in_state (contents_of c.path.result)) p
    (scheme_text c.new_or_panic.result) (authority_text c.args.authority)
    (text_of c.args.path) (text_of c.args.query) c.builder.ensures c.scheme.ensures
    c.authority.ensures c.path.ensures c.query.ensures f)))
