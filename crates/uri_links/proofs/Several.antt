-- The outcomes of several references, a reference at a time.
use Rattle.uri_links.proofs.Common.{◌≡◌, ℕ, ◌+◌, ◌<◌, List, [], ◌∷◌, ◌++◌, length, get_or, take, map, Ok, Err, refl, sym, ap, ◌∙◌, arith, rules, OnErr, Result, map-append, take_more, Rules, outcome_of, outcomes_of, Outcome}

-- register of links: the outcomes and texts after one more reference
abbrev with_one : Rules → List ℕ → List ℕ → List Outcome × List (List ℕ)
    → List Outcome × List (List ℕ)
with_one rules base reference before = let last = outcome_of rules base before.1 reference in
    (before.0 ++ last.0 ∷ [], last.1)

outcomes_of-one-more : (rules : Rules) (base : List ℕ) (texts references : List (List ℕ))
    (reference : List ℕ) → outcomes_of rules base texts (references ++ reference ∷ [])
    ≡ with_one rules base reference (outcomes_of rules base texts references)
unfolding outcomes_of
outcomes_of-one-more rules base texts [] reference = refl
outcomes_of-one-more rules base texts (first ∷ references) reference =
    let one = outcome_of rules base texts first in
    grind (arith, outcomes_of-one-more rules base one.1 references reference)

module _ {A : Type 0} (text_of : A → List ℕ) (base : List ℕ) (texts : List (List ℕ))
    (references : List A) where
  -- the outcomes of the first n references, and the texts after them
  abbrev pub AreFirstOutcomes : Rules → ℕ → List Outcome → List (List ℕ) → Type 0
  AreFirstOutcomes rules n outcomes after =
      outcomes_of rules base texts (map text_of (take n references)) ≡ (outcomes, after)

  pub first-outcomes-of-none : (rules : Rules) → AreFirstOutcomes rules 0 [] texts
  unfolding outcomes_of
  first-outcomes-of-none rules = refl

  one_more : (n : ℕ) (reference : A) → n < length references
      → reference ≡ get_or references n reference → map text_of (take (n + 1) references)
      ≡ map text_of (take n references) ++ text_of reference ∷ []
  one_more n reference h e = ap (map text_of) (take_more references n reference h)
      ∙ map-append text_of (take n references) (get_or references n reference ∷ [])
      ∙ ap (λ r. map text_of (take n references) ++ text_of r ∷ []) (sym e)

  pub first-outcomes-of-one-more : (rules held : Rules) (n : ℕ) (reference : A)
      (outcomes : List Outcome) (before after : List (List ℕ)) (outcome : Outcome)
      → n < length references → reference ≡ get_or references n reference → held ≡ rules
      → AreFirstOutcomes rules n outcomes before
      → outcome_of held base before (text_of reference) ≡ (outcome, after)
      → AreFirstOutcomes rules (n + 1) (outcomes ++ outcome ∷ []) after
  first-outcomes-of-one-more rules held n reference outcomes before after outcome h e p come f =
      ap (outcomes_of rules base texts) (one_more n reference h e)
      ∙ outcomes_of-one-more rules base texts (map text_of (take n references)) (text_of reference)
      ∙ ap (with_one rules base (text_of reference)) come
      ∙ ap (λ (last : Outcome × List (List ℕ)). (outcomes ++ last.0 ∷ [], last.1))
      (ap (λ q. outcome_of q base before (text_of reference)) (sym p) ∙ f)

  -- after an error, some prefix of the references was noted
  pub prefix : {X E : Type 0} (result : Result X E) (rules : Rules) (n : ℕ)
      (outcomes : List Outcome) (after : List (List ℕ)) → AreFirstOutcomes rules n outcomes after
      → OnErr result
      ((n : ℕ) × (after ≡ (outcomes_of rules base texts (map text_of (take n references))).1))
  prefix (Ok _) rules n outcomes after come = tt
  prefix (Err _) rules n outcomes after come =
      (n, sym (ap (λ (all : List Outcome × List (List ℕ)). all.1) come))
