-- The id of an outcome is an index into the texts of the register, also after further references.
use Rattle.uri_links.proofs.Common.{◌≡◌, ℕ, ◌≤◌, List, [], ◌∷◌, length, Option, Some, None, Ok, Err, refl, subst, arith, length-append, rules, Result, All, AllByRecursion, position-Some, components, uri, normal_text, Rules, meaning_under, outcome_of, outcomes_of, index_of_meaning, outcome_of_lookup, outcome_of_resolution, Outcome}
use Rattle.std.proofs.lemmas.List.Elements.{All-from_recursion}
use Rattle.fluent_uri.specs.Target.{TargetError, resolution_of}
use Rattle.uri_links.specs.OutcomesInWords.{IdIsInRange}
use Rattle.uri_links.specs.declared.links.Outcome.TheVariants.{New, Known, Refused}

-- register of links: an outcome's id is below the number of texts that come with it, and these are
-- no fewer
abbrev IsInRangeAfter : List (List ℕ) → Outcome × List (List ℕ) → Type 0
IsInRangeAfter texts o = IdIsInRange o.1 o.0 × (length texts ≤ length o.1)

id-in-range-of-longer : (texts after : List (List ℕ)) (outcome : Outcome)
    → length texts ≤ length after → IdIsInRange texts outcome → IdIsInRange after outcome
id-in-range-of-longer texts after (New id) l h = omega arith
id-in-range-of-longer texts after (Known id) l h = omega arith
id-in-range-of-longer texts after (Refused error) l h = tt

outcome_of_lookup-fits : (rules : Rules) (texts : List (List ℕ)) (target : List ℕ)
    (place : Option ℕ) → index_of_meaning rules texts (meaning_under uri rules target) ≡ place
    → IsInRangeAfter texts
    (outcome_of_lookup place texts (normal_text (meaning_under uri rules target)))
outcome_of_lookup-fits rules texts target (Some place) e = grind (arith, position-Some)
outcome_of_lookup-fits rules texts target None e = grind (arith, length-append)

-- register of links: the outcome of a resolved reference has an id in range
outcome_of_resolution-fits : (rules : Rules) (texts : List (List ℕ))
    (resolution : Result (List ℕ) TargetError)
    → IsInRangeAfter texts (outcome_of_resolution rules texts resolution)
outcome_of_resolution-fits rules texts (Ok target) = outcome_of_lookup-fits rules texts target
    (index_of_meaning rules texts (meaning_under uri rules target)) refl
outcome_of_resolution-fits rules texts (Err refusal) = (tt, omega arith)

outcome_of-fits : (rules : Rules) (base : List ℕ) (texts : List (List ℕ)) (reference : List ℕ)
    → IsInRangeAfter texts (outcome_of rules base texts reference)
unfolding outcome_of
outcome_of-fits rules base texts reference =
    outcome_of_resolution-fits rules texts (resolution_of (components base) (components reference))

-- register of links: the outcomes of references leave as many texts at least
outcomes_of-removes-no-text : (rules : Rules) (base : List ℕ) (texts references : List (List ℕ))
    → length texts ≤ length (outcomes_of rules base texts references).1
unfolding outcomes_of
outcomes_of-removes-no-text rules base texts [] = omega arith
outcomes_of-removes-no-text rules base texts (reference ∷ references) =
    let first = (outcome_of-fits rules base texts reference).1 in
    let others = outcomes_of-removes-no-text rules base (outcome_of rules base texts reference).1
    references in
    omega arith

outcomes_of-ids-in-range : (rules : Rules) (base : List ℕ) (texts references : List (List ℕ))
    → AllByRecursion (IdIsInRange (outcomes_of rules base texts references).1)
    (outcomes_of rules base texts references).0
unfolding outcomes_of
outcomes_of-ids-in-range rules base texts [] = tt
outcomes_of-ids-in-range rules base texts (reference ∷ references) =
    let first = outcome_of rules base texts reference in (
      id-in-range-of-longer first.1 (outcomes_of rules base first.1 references).1 first.0
          (outcomes_of-removes-no-text rules base first.1 references)
          (outcome_of-fits rules base texts reference).0,
      outcomes_of-ids-in-range rules base first.1 references,
    )

pub ids-are-in-range : (rules : Rules) (base : List ℕ) (texts references : List (List ℕ))
    (outcomes : List Outcome) (after : List (List ℕ))
    → outcomes_of rules base texts references ≡ (outcomes, after) → All (IdIsInRange after) outcomes
ids-are-in-range rules base texts references outcomes after e =
    All-from_recursion (IdIsInRange after) outcomes
    (subst (λ (o : List Outcome × List (List ℕ)). AllByRecursion (IdIsInRange o.1) o.0) e
    (outcomes_of-ids-in-range rules base texts references))
