-- `outcome_of` agrees with `IsOutcome`.
use Rattle.uri_links.proofs.Common.{◌≡◌, ℕ, List, [], Option, Some, None, Ok, Err, refl, arith, Result, position-Some, any_passes_from_place, components, uri, normal_text, Rules, meaning_under, outcome_of, index_of_meaning, outcome_of_lookup, outcome_of_resolution, Outcome}
use Rattle.std.proofs.lemmas.Option.{slice_get-get_or}
use Rattle.fluent_uri.specs.Meaning.{Meaning}
use Rattle.fluent_uri.specs.SameMeanings.{same_meaning}
use Rattle.fluent_uri.specs.Target.{TargetError, resolution_of}
use Rattle.uri_links.specs.OutcomesInWords.{IsOutcome, HasMeaningAt}
use Rattle.uri_links.proofs.Noted.{ComparesMeanings}
use Rattle.uri_links.proofs.Places.{position-None-no-element-passes}

module _ (same : ComparesMeanings) (rules : Rules) (base : List ℕ)
    (texts : List (List ℕ)) (reference : List ℕ) where
  found-index-has-meaning : (meaning : Meaning) (place : ℕ)
      → index_of_meaning rules texts meaning ≡ Some place → HasMeaningAt rules texts place meaning
  found-index-has-meaning meaning place e =
      let at = position-Some (λ text. same_meaning (meaning_under uri rules text) meaning) texts
      place [] e in
      (_, (slice_get-get_or texts place [] at.0, (same _ _).0 at.1))

  meaning-at-no-index : (meaning : Meaning) → index_of_meaning rules texts meaning ≡ None
      → (place : ℕ) → ¬ (HasMeaningAt rules texts place meaning)
  meaning-at-no-index meaning e place m =
      let passes = any_passes_from_place
      (λ text. same_meaning (meaning_under uri rules text) meaning) texts place m.0 m.1.0
      ((same (meaning_under uri rules m.0) meaning).1 m.1.1) in
      let fails = position-None-no-element-passes
      (λ text. same_meaning (meaning_under uri rules text) meaning) texts e in
      cc

  outcome_of_lookup-is-outcome : (target : List ℕ) (place : Option ℕ)
      → resolution_of (components base) (components reference) ≡ Ok target
      → index_of_meaning rules texts (meaning_under uri rules target) ≡ place
      → IsOutcome rules base texts reference
      (outcome_of_lookup place texts (normal_text (meaning_under uri rules target))).0
  outcome_of_lookup-is-outcome target (Some place) e p =
      (target, (e, found-index-has-meaning (meaning_under uri rules target) place p))
  outcome_of_lookup-is-outcome target None e p =
      (target, (e, refl, meaning-at-no-index (meaning_under uri rules target) p))

  outcome_of_resolution-is-outcome : (resolution : Result (List ℕ) TargetError)
      → resolution_of (components base) (components reference) ≡ resolution
      → IsOutcome rules base texts reference (outcome_of_resolution rules texts resolution).0
  outcome_of_resolution-is-outcome (Ok target) e = outcome_of_lookup-is-outcome target
      (index_of_meaning rules texts (meaning_under uri rules target)) e refl
  outcome_of_resolution-is-outcome (Err refusal) e = (refusal, (e, refl))

  pub outcome_of-is-outcome : (outcome : Outcome) (after : List (List ℕ))
      → outcome_of rules base texts reference ≡ (outcome, after)
      → IsOutcome rules base texts reference outcome
  unfolding outcome_of
  outcome_of-is-outcome outcome after e = grind (arith, outcome_of_resolution-is-outcome)
