-- The target of a reference, for the contracts of callers: from what resolving returns where
-- underflow is allowed.
use Rattle.std.proofs.Common.{◌≡◌, ℕ, List, Result, Ok, Err, true}
use Rattle.std.specs.Prelude.{IfErr, IfOk}
use Rattle.uri_parts.specs.Components.{Components, components}
use Rattle.uri_ops.specs.Resolving.{IsErrorFor, IsErrorWithUnderflowAllowed, IsTarget}
use Rattle.uri_ops.specs.Target.{resolution_of_texts}
use Rattle.uri_ops.specs.declared.resolve.error.ResolveError.{ResolveError}
use Rattle.uri_ops.proofs.Offered.{allowed-underflow-is-no-error}

-- targets for callers: a returned text is what a reference resolves to
pub target_is_resolution : {A E : Type 0} (base reference : List ℕ) (text_of : A → List ℕ)
    (result : Result A E)
    → IfOk result (λ target.
    IsTarget true (components base) (components reference) (text_of target))
    → IfOk result (λ target. resolution_of_texts base reference ≡ Ok (text_of target))
target_is_resolution base reference text_of (Ok target) is = is.0
target_is_resolution base reference text_of (Err error) is = tt

-- targets for callers: an underflow that is allowed is no error
pub error_is_without_underflow : {A : Type 0} (base reference : Components)
    (result : Result A ResolveError) → IfErr result (IsErrorFor true base reference)
    → IfErr result (IsErrorWithUnderflowAllowed base reference)
error_is_without_underflow base reference (Ok target) is = tt
error_is_without_underflow base reference (Err error) is =
    allowed-underflow-is-no-error base reference error is
