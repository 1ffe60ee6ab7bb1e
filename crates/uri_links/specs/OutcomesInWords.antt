-- Outcomes, stated by equality of meanings (RFC 3986, sections 5.2 and 6.2).
use Rattle.std.specs.Prelude.{◌≡◌, ◌<◌, ℕ, List, Some, Ok, Err, length, slice_get}
use Rattle.fluent_uri.specs.Components.{components}
use Rattle.fluent_uri.specs.Grammar.{uri}
use Rattle.fluent_uri.specs.Meaning.{Meaning}
use Rattle.fluent_uri.specs.SchemeRules.{Rules, meaning_under}
use Rattle.fluent_uri.specs.Target.{TargetError, resolution_of}
use Rattle.uri_links.specs.Outcomes.{resolve_error_of}
use Rattle.uri_links.specs.declared.links.Outcome.{Outcome}
use Rattle.uri_links.specs.declared.links.Outcome.TheVariants.{New, Known, Refused}

-- the text of a register of links at this index has this meaning, under the rules
abbrev pub HasMeaningAt : Rules → List (List ℕ) → ℕ → Meaning → Type 0
HasMeaningAt rules texts place meaning =
    (text : List ℕ)
    × ((slice_get texts place ≡ Some text) × (meaning_under uri rules text ≡ meaning))

-- The outcome of noting a reference, the last text, against the base, the first, in a register with
-- these texts, stated by meanings.
-- A target is known if the text at its id has the same meaning, and new if no text has. A reference
-- without a target has the outcome `Refused`.
abbrev pub IsOutcome : Rules → List ℕ → List (List ℕ) → List ℕ → Outcome → Type 0
IsOutcome rules base texts reference (New id) =
    (target : List ℕ) × ((resolution_of (components base) (components reference) ≡ Ok target)
    × (id ≡ length texts)
    × ((place : ℕ) → ¬ (HasMeaningAt rules texts place (meaning_under uri rules target))))
IsOutcome rules base texts reference (Known id) =
    (target : List ℕ) × ((resolution_of (components base) (components reference) ≡ Ok target)
    × HasMeaningAt rules texts id (meaning_under uri rules target))
IsOutcome rules base texts reference (Refused error) =
    (refusal : TargetError) × ((resolution_of (components base) (components reference)
    ≡ Err refusal)
    × (error ≡ resolve_error_of refusal))

-- the id of the outcome, if it has one, is an index into the texts of the register
abbrev pub IdIsInRange : List (List ℕ) → Outcome → Type 0
IdIsInRange texts (New id) = id < length texts
IdIsInRange texts (Known id) = id < length texts
IdIsInRange texts (Refused error) = Unit {0}
