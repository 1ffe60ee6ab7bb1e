-- The outcomes of noting references, and the texts of the register afterwards (RFC 3986, sections
-- 5.2 and 6.2).
use Rattle.std.specs.Prelude.{ℕ, List, [], ◌∷◌, ◌++◌, length, Option, Some, None, Result, Ok, Err, position}
use Rattle.fluent_uri.specs.Components.{components}
use Rattle.fluent_uri.specs.Grammar.{uri}
use Rattle.fluent_uri.specs.Meaning.{Meaning}
use Rattle.fluent_uri.specs.Normal.{normal_text}
use Rattle.fluent_uri.specs.SchemeRules.{Rules, meaning_under}
use Rattle.fluent_uri.specs.Target.{TargetError, BaseWithFragment, InvalidReferenceAgainstOpaqueBase, resolution_of}
use Rattle.fluent_uri.specs.declared.resolve.ResolveError.{ResolveError}
use Rattle.fluent_uri.specs.declared.resolve.ResolveError.TheVariants as Of
use Rattle.uri_links.specs.declared.links.Outcome.{Outcome}
use Rattle.uri_links.specs.declared.links.Outcome.TheVariants.{New, Known, Refused}
use Rattle.fluent_uri.specs.SameMeanings.{same_meaning}

-- the error in a register's outcome for the reason that a reference has no target
abbrev pub resolve_error_of : TargetError → ResolveError
resolve_error_of BaseWithFragment = Of.BaseWithFragment
resolve_error_of InvalidReferenceAgainstOpaqueBase = Of.InvalidReferenceAgainstOpaqueBase

-- the index of the first text of a register of links that has this meaning, under the rules
abbrev pub index_of_meaning : Rules → List (List ℕ) → Meaning → Option ℕ
index_of_meaning rules texts meaning =
    position (λ text. same_meaning (meaning_under uri rules text) meaning) texts

-- The outcome for a target, by the index at which it was found, and a register's texts afterwards;
-- the last text is its normal form.
-- If there is no index, the target is new, and its normal form comes last.
abbrev pub outcome_of_lookup : Option ℕ → List (List ℕ) → List ℕ → Outcome × List (List ℕ)
outcome_of_lookup (Some place) texts normal = (Known place, texts)
outcome_of_lookup None texts normal = (New (length texts), texts ++ normal ∷ [])

-- The outcome of noting what a reference resolves to in a register with these texts, and the texts
-- afterwards.
-- A target is looked up by its meaning, and an error is `Refused`.
abbrev pub outcome_of_resolution : Rules → List (List ℕ) → Result (List ℕ) TargetError
    → Outcome
    × List (List ℕ)
outcome_of_resolution rules texts (Err refusal) = (Refused (resolve_error_of refusal), texts)
outcome_of_resolution rules texts (Ok target) =
    let meaning = meaning_under uri rules target in outcome_of_lookup
    (index_of_meaning rules texts meaning)
    texts
    (normal_text meaning)

-- the outcome of noting one reference against the base, the first text, in a register with these
-- texts, and the texts afterwards
unfoldable pub outcome_of : Rules → List ℕ → List (List ℕ) → List ℕ → Outcome × List (List ℕ)
outcome_of rules base texts reference =
    outcome_of_resolution rules texts (resolution_of (components base) (components reference))

-- the outcomes of noting references against the base in order, and the register's texts afterwards;
-- the lists are these texts, and the references
unfoldable pub outcomes_of : Rules → List ℕ → List (List ℕ) → List (List ℕ) → List Outcome
    × List (List ℕ)
outcomes_of rules base texts [] = ([], texts)
outcomes_of rules base texts (reference ∷ references) =
    let first = outcome_of rules base texts reference in
    let others = outcomes_of rules base first.1 references in
    (first.0 ∷ others.0, others.1)
