use Rattle.uri_basic.proofs.Common.{◌≡◌, string_bytes, subst, ◌∙◌, IfErr, IfOk, Ok, components, IsTextOf, basic_resolution_of_texts, target, ArePackedPositionsOf, packed, positions_of}
use Rattle.std.proofs.lemmas.Result.{IfOk-weaker}
use Rattle.uri_parts.specs.CoreTexts.{core_text}
use Rattle.uri_basic.specs.Resolving.{IsBasicError}
use Rattle.uri_basic.proofs.TargetPlaces.{basic-result-is-at, if-both-ok}
use Rattle.uri_basic.proofs.Targets.{basic-result-is-of-kind}
use Rattle.uri_basic.proofs.resolver.resolve_to_text.Goals as goal

pub returns-clause-of_kind : goal.returns-clause-of_kind
returns-clause-of_kind g c =
    let b = core_text c.borrow.result in
    let r = core_text c.borrow-2.result in
    IfOk-weaker c.target_text.result
    (λ made. basic_resolution_of_texts b r ≡ Ok (string_bytes made.text))
    (λ made. IsTextOf g.B.RiMaybeRef.kind (string_bytes made.text))
    (λ made. basic-result-is-of-kind g.B.RiMaybeRef.kind g.Q.RiMaybeRef.kind
    g.met.B.RiMaybeRef.component_sets g.met.B.Ri.needs_scheme g.met.Q.RefOf.same_tables b r
    (core_text c.core-base.result) (core_text c.core-reference.result)
    (g.B.RiMaybeRef.text c.args.base.now) (g.Q.RiMaybeRef.text c.args.reference.now)
    c.borrow.ensures.text c.borrow-2.ensures.text c.core-base.ensures.text
    c.core-reference.ensures.text c.borrow.ensures.utf8 c.borrow-2.ensures.utf8
    c.core-base.ensures.of_kind c.core-reference.ensures.of_kind (string_bytes made.text))
    c.target_text.ensures.target

pub returns-clause-target : goal.returns-clause-target
returns-clause-target g c =
    let eb = c.borrow.ensures.text ∙ c.core-base.ensures.text in
    let er = c.borrow-2.ensures.text ∙ c.core-reference.ensures.text in
    subst (λ r. IfOk c.target_text.result (λ made. basic_resolution_of_texts
    (g.B.RiMaybeRef.text c.args.base.now) r ≡ Ok (string_bytes made.text))) er
    (subst (λ b. IfOk c.target_text.result (λ made. basic_resolution_of_texts b
    (core_text c.borrow-2.result) ≡ Ok (string_bytes made.text))) eb
    c.target_text.ensures.target)

pub returns-clause-error : goal.returns-clause-error
returns-clause-error g c =
    let eb = c.borrow.ensures.text ∙ c.core-base.ensures.text in
    let er = c.borrow-2.ensures.text ∙ c.core-reference.ensures.text in
    subst (λ r. IfErr c.target_text.result
    (IsBasicError (components (g.B.RiMaybeRef.text c.args.base.now)) (components r))) er
    (subst (λ b. IfErr c.target_text.result
    (IsBasicError (components b) (components (core_text c.borrow-2.result)))) eb
    c.target_text.ensures.error)

pub returns-clause-at : goal.returns-clause-at
returns-clause-at g c =
    let b = core_text c.borrow.result in
    let r = core_text c.borrow-2.result in
    if-both-ok c.target_text.result
    (λ made. basic_resolution_of_texts b r ≡ Ok (string_bytes made.text))
    (λ made. made.positions ≡ packed (positions_of (target (components b) (components r))))
    (λ made. ArePackedPositionsOf (string_bytes made.text) made.positions)
    (λ made e at. basic-result-is-at g.B.RiMaybeRef.kind g.met.B.Ri.needs_scheme b r
    (core_text c.core-base.result) (g.B.RiMaybeRef.text c.args.base.now)
    c.borrow.ensures.text c.core-base.ensures.text c.borrow.ensures.utf8
    c.core-base.ensures.of_kind (string_bytes made.text) made.positions e at)
    c.target_text.ensures.target c.target_text.ensures.positions
