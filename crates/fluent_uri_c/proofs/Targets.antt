-- What resolving returns is the result that is defined.
use Rattle.fluent_uri_c.proofs.Common.{arith, ◌≡◌, ◌⊎◌, ℕ, Bool, false, List, sym, ap, ◌∙◌, subst, Result, Ok, Err, None, IsOk, IsTrue, result_map_both, false≢true, Components, components, Kind, IsNormalFormOfTarget, rules_of_set, RuleSet, Rejection, basic_resolve_rejection, rejected, resolve_rejection, IsReturnedAs, IsTargetReturned, Returned, basic_resolution, error_of_basic_target, error_of_target, normal_form_of, normal_resolution, normal_result, resolution, resolution_by, takes_memory_for_target, text_error}
use Rattle.fluent_uri.specs.Prelude.{IsErrorWithUnderflowAllowed, IsWithFragment}
use Rattle.uri_ops.specs.declared.resolve.error.ResolveError.{ResolveError}
use Rattle.uri_ops.specs.declared.resolve.error.ResolveError.TheVariants as Of
use Rattle.uri_ops.specs.Target as Target
use Rattle.uri_basic.specs.declared.error.BasicResolveError.{BasicResolveError}
use Rattle.uri_basic.specs.declared.error.BasicResolveError.TheVariants as OfBasic
use Rattle.uri_basic.specs.Resolving.{IsBasicError}
use Rattle.uri_basic.specs.Target as Basic
use Rattle.fluent_uri_c.specs.declared.errors.Error.TheVariants.{OutOfMemory}

-- exports for C: the result of resolving: a target, or the rejection
returned_of : Result (List ℕ) Target.TargetError → Returned
returned_of r = result_map_both (λ target. target) error_of_target r

-- exports for C: what resolving against the base without its fragment (bare) returns is the target
-- that the export's contract defines
pub resolution-of-target : (base bare reference target : List ℕ) → IsWithFragment base None bare
    → Target.resolution_of_texts bare reference ≡ Ok target → resolution base reference ≡ Ok target
unfolding resolution returned_of
resolution-of-target base bare reference target is e = ap returned_of
    (subst (λ b. Target.resolution_of b (components reference) ≡ Ok target) is.parts e)

-- exports for C: mapping a result keeps whether there is a value
is_ok_mapped : {A B E F : Type 0} (f : A → B) (g : E → F) (r : Result A E) → IsOk r
    → IsOk (result_map_both f g r)
is_ok_mapped f g e h = grind (arith, false≢true)

-- exports for C: an error of a call whose result is defined is that memory is out, where there is a
-- text, or the defined one
abbrev IsErrorOf : Returned → Rejection → Type 0
IsErrorOf returned why = ((why ≡ rejected OutOfMemory) × IsOk returned) ⊎ (returned ≡ Err why)

returned_of-error : (b r : Components) (error : ResolveError)
    → IsErrorWithUnderflowAllowed b r error
    → IsErrorOf (returned_of (Target.resolution_of b r)) (resolve_rejection error)
unfolding returned_of
returned_of-error b r error h = grind (arith, returned_of, is_ok_mapped)

-- exports for C: if resolving against the base without its fragment (bare) fails, memory is out or
-- the error is the one that is defined
pub resolution-of-error : (base bare reference : List ℕ) (error : ResolveError)
    → IsWithFragment base None bare
    → IsErrorWithUnderflowAllowed (components bare) (components reference) error
    → IsErrorOf (resolution base reference) (resolve_rejection error)
unfolding resolution returned_of
resolution-of-error base bare reference error is h = grind (arith, returned_of-error, components)

-- exports for C: the result of resolving, normalised; or the rejection
normal_of : RuleSet → Kind → Returned → Returned
normal_of set kind r = result_map_both (normal_form_of set kind) (λ why. why) r

-- exports for C: what resolving and normalising return is the
-- normal target that the contract defines
pub normal_resolution-of-target : (set : RuleSet) (kind : Kind)
    (base bare reference normal : List ℕ) → IsWithFragment base None bare
    → IsNormalFormOfTarget kind (rules_of_set set) bare reference normal
    → normal_resolution set kind base reference ≡ Ok normal
unfolding normal_resolution normal_of normal_form_of
normal_resolution-of-target set kind base bare reference normal is found =
    ap (normal_of set kind) (resolution-of-target base bare reference found.0 is found.1.0)
    ∙ ap Ok (sym found.1.1.text.text)

-- exports for C: an error of resolving is the one that the contract defines, or that memory is out
pub normal_resolution-of-error : (set : RuleSet) (kind : Kind) (base bare reference : List ℕ)
    (error : ResolveError) → IsWithFragment base None bare
    → IsErrorWithUnderflowAllowed (components bare) (components reference) error
    → IsErrorOf (normal_resolution set kind base reference) (resolve_rejection error)
unfolding normal_resolution normal_of
normal_resolution-of-error set kind base bare reference error is h =
    grind (arith, resolution-of-error, is_ok_mapped, normal_of)

pub returned-rejection-is-of-error : (returned : Returned) (why : Rejection) (error : ResolveError)
    → why ≡ resolve_rejection error → IsErrorOf returned (resolve_rejection error)
    → IsErrorOf returned why
returned-rejection-is-of-error returned why error e h = rw e h

pub normal_result-of-normal-form : (set : RuleSet) (kind : Kind) (bytes text normal : List ℕ)
    → None ≡ text_error kind bytes → text ≡ bytes → normal ≡ normal_form_of set kind text
    → normal_result set kind bytes ≡ Ok normal
normal_result-of-normal-form set kind bytes text normal none same is = grind arith

pub normal_result-of-own-form : (set : RuleSet) (kind : Kind) (bytes text form : List ℕ)
    → None ≡ text_error kind bytes → text ≡ bytes → normal_form_of set kind text ≡ text
    → form ≡ text → normal_result set kind bytes ≡ Ok form
normal_result-of-own-form set kind bytes text form none same own is = grind arith

-- exports for C: the result of the basic algorithm: a target, or the rejection
basic_of : Result (List ℕ) Basic.BasicTargetError → Returned
basic_of r = result_map_both (λ target. target) error_of_basic_target r

-- exports for C: what the basic algorithm returns is the target that the contract defines
pub basic_resolution-of-target : (base given reference target : List ℕ) → given ≡ base
    → Basic.basic_resolution_of_texts given reference ≡ Ok target
    → basic_resolution base reference ≡ Ok target
unfolding basic_resolution basic_of
basic_resolution-of-target base given reference target same e =
    ap basic_of (subst (λ b. Basic.basic_resolution_of_texts b reference ≡ Ok target) same e)

-- exports for C: the basic algorithm may take memory for any target
takes_memory_for_basic : (r : Result (List ℕ) Basic.BasicTargetError)
    → IsTrue (takes_memory_for_target (basic_of r))
unfolding basic_of
takes_memory_for_basic r = grind (arith, basic_of)

-- exports for C: an error of a call that resolves is that memory is out, where it takes memory, or
-- the defined one
abbrev IsTargetErrorOf : Returned → Rejection → Type 0
IsTargetErrorOf returned why =
    ((why ≡ rejected OutOfMemory) × IsTrue (takes_memory_for_target returned))
    ⊎ (returned ≡ Err why)

basic_of-error : (b r : Components) (error : BasicResolveError) → IsBasicError b r error
    → IsTargetErrorOf (basic_of (Basic.basic_resolution b r)) (basic_resolve_rejection error)
unfolding basic_of
basic_of-error b r error h = grind (arith, basic_of, takes_memory_for_basic)

-- exports for C: if the basic algorithm fails, memory is out or the error is the one that is
-- defined
pub basic_resolution-of-error : (base given reference : List ℕ) (why : Rejection)
    (error : BasicResolveError) → given ≡ base → why ≡ basic_resolve_rejection error
    → IsBasicError (components given) (components reference) error
    → IsTargetErrorOf (basic_resolution base reference) why
unfolding basic_resolution basic_of
basic_resolution-of-error base given reference why error same e h =
    grind (arith, basic_of-error, components)

-- exports for C: what is returned without the basic algorithm is what a call that resolves may
-- return
pub target-is-returned : {T : Type 0} → (bytes : T → List ℕ) (base reference : List ℕ)
    (is_basic : Bool) (made : Result T Rejection) → is_basic ≡ false
    → IsReturnedAs bytes (resolution base reference) made
    → IsTargetReturned bytes (resolution_by is_basic base reference) made
target-is-returned bytes base reference is_basic made e h = grind (arith, false≢true)
