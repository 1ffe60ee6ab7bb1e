-- Resolving and normalising in one: RFC 3986, sections 5.2, 6.2.2 and 6.2.3.
use Rattle.std.specs.Prelude.{ℕ, Bool, List, Result, false, ◌≡◌, true, Ok, Err, is_ok}
use Rattle.std.specs.Result.{result_map_both}
use Rattle.uri_parts.specs.Prelude.{Components, IsTextOf, Kind, components}
use Rattle.uri_ops.specs.Target.{TargetError, resolution_of_texts, BaseWithFragment, InvalidReferenceAgainstOpaqueBase, resolution_of}
use Rattle.uri_ops.specs.Meaning.{Meaning}
use Rattle.uri_ops.specs.Normalizers.{IsNormalForm}
use Rattle.uri_ops.specs.Resolving.{IsErrorWithUnderflowAllowed}
use Rattle.uri_ops.specs.SchemeRules.{Rules, meaning_under}
use Rattle.uri_ops.specs.declared.resolve.error.ResolveError.{ResolveError}
use Rattle.uri_ops.specs.declared.resolve.error.ResolveError.TheVariants as Of

-- the kind of the references against bases of a kind: they need no scheme (section 4.1)
abbrev pub reference_kind : Kind → Kind
reference_kind kind = record kind { needs_scheme = false }

-- what the target of a base of the kind and a reference, in this order, means under the rules, or
-- why there is none (section 5.2)
abbrev pub resolved_meaning : Kind → Rules → List ℕ → List ℕ → Result Meaning TargetError
resolved_meaning kind rules base reference =
    result_map_both (meaning_under kind rules) (λ refusal. refusal)
    (resolution_of_texts base reference)

-- the text `other` is of the kind too, and equivalent to `text` under the rules, as its normal text
-- is
pub record HasMeaningOf (kind : Kind) (rules : Rules) (text other : List ℕ) : Type 0 where
  pub of_kind : IsTextOf kind other
  pub meaning : meaning_under kind rules other ≡ meaning_under kind rules text

-- the base and the reference, in this order, have a target, and it is equivalent to the last text
-- under the rules
abbrev pub HasTargetMeaning : Kind → Rules → List ℕ → List ℕ → List ℕ → Type 0
HasTargetMeaning kind rules base reference text =
    (target : List ℕ)
    × ((resolution_of_texts base reference ≡ Ok target)
    × (meaning_under kind rules target ≡ meaning_under kind rules text))

-- The error of resolving is one that some setting returns for the components of a base and a
-- reference.
-- A reference has a target unless one of the first two errors is returned.
abbrev pub IsErrorUnderSomeSetting : Components → Components → ResolveError → Type 0
IsErrorUnderSomeSetting base r Of.BaseWithFragment = resolution_of base r ≡ Err BaseWithFragment
IsErrorUnderSomeSetting base r Of.InvalidReferenceAgainstOpaqueBase =
    resolution_of base r ≡ Err InvalidReferenceAgainstOpaqueBase
IsErrorUnderSomeSetting base r Of.PathUnderflow = is_ok (resolution_of base r) ≡ true
IsErrorUnderSomeSetting base r Of.OutOfMemory = is_ok (resolution_of base r) ≡ true

-- the same where the setting, the Bool, is whether underflow is allowed
abbrev pub IsErrorUnderSetting : Bool → Components → Components → ResolveError → Type 0
IsErrorUnderSetting true = IsErrorWithUnderflowAllowed
IsErrorUnderSetting false = IsErrorUnderSomeSetting

-- the target of a base of the first kind and a reference of the second: an equivalent base and
-- reference have an equivalent target
pub record IsTargetOfMeanings (kind of_reference : Kind)
    (base reference target : List ℕ) : Type 0 where
  pub alike : (rules : Rules) (b r : List ℕ) → HasMeaningOf kind rules base b
      → HasMeaningOf of_reference rules reference r → HasTargetMeaning kind rules b r target

-- the error of resolving for a base of the first kind and a reference of the second, where the Bool
-- is whether underflow is allowed: it is that of an equivalent base and reference, too. Where
-- underflow is not allowed, equivalent texts may differ in whether they underflow.
pub record IsErrorOfMeanings (allowed : Bool) (kind of_reference : Kind)
    (base reference : List ℕ) (error : ResolveError) : Type 0 where
  pub alike : (rules : Rules) (b r : List ℕ) → HasMeaningOf kind rules base b
      → HasMeaningOf of_reference rules reference r
      → IsErrorUnderSetting allowed (components b) (components r) error

-- the base and the reference, in this order, have a target, and the last text is its normal form
abbrev pub IsNormalFormOfTarget : Kind → Rules → List ℕ → List ℕ → List ℕ → Type 0
IsNormalFormOfTarget kind rules base reference normal =
    (target : List ℕ)
    × ((resolution_of_texts base reference ≡ Ok target) × IsNormalForm kind rules target normal)

-- the text `normal` is what resolving and normalising makes of a base of the first kind and a
-- reference of the second (sections 5.2, 6.2.2 and 6.2.3)
pub record IsNormalTarget (kind of_reference : Kind) (rules : Rules)
    (base reference normal : List ℕ) : Type 0 where
  -- it is the normal form of the target
  pub target : IsNormalFormOfTarget kind rules base reference normal
  -- it is the normal form of the target of any equivalent base and reference, too
  pub swap : (b r : List ℕ) → HasMeaningOf kind rules base b
      → HasMeaningOf of_reference rules reference r → IsNormalFormOfTarget kind rules b r normal
  -- no other text is the normal form of the target
  pub only : (n : List ℕ) → IsNormalFormOfTarget kind rules base reference n → n ≡ normal
  -- nor is one that of the target of an equivalent base and reference, such as their normal forms
  pub same : (b r n : List ℕ) → HasMeaningOf kind rules base b
      → HasMeaningOf of_reference rules reference r → IsNormalFormOfTarget kind rules b r n
      → n ≡ normal

-- the error of resolving and normalising a base of the first kind and a reference of the second
-- (sections 5.2, 6.2.2 and 6.2.3)
pub record IsNormalTargetError (kind of_reference : Kind) (rules : Rules)
    (base reference : List ℕ) (error : ResolveError) : Type 0 where
  -- it says why there is no target, or that none could be held
  pub refusal : IsErrorWithUnderflowAllowed (components base) (components reference) error
  -- it is the error for any equivalent base and reference, too
  pub swap : (b r : List ℕ) → HasMeaningOf kind rules base b
      → HasMeaningOf of_reference rules reference r
      → IsErrorWithUnderflowAllowed (components b) (components r) error
