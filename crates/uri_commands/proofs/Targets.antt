-- The target that `resolve_against` returns is the one that is printed.
use Rattle.uri_commands.proofs.Common.{◌≡◌, ℕ, List, Some, ap, Result, Ok, Err, IfOk, target_text}
use Rattle.std.specs.Result.{result_ok}
use Rattle.fluent_uri.specs.Prelude.{components, resolution_of}

target_text-of-resolution : (base reference target : List ℕ)
    → resolution_of (components base) (components reference) ≡ Ok target
    → target_text base reference ≡ Some target
unfolding target_text
target_text-of-resolution base reference target is = ap result_ok is

pub target_text-of-resolved : {A B : Type 0} (text_of : A → List ℕ) (base reference : List ℕ)
    (result : Result A B) → IfOk result
    (λ target. resolution_of (components base) (components reference) ≡ Ok (text_of target))
    → IfOk result (λ target. target_text base reference ≡ Some (text_of target))
target_text-of-resolved text_of base reference (Ok target) is =
    target_text-of-resolution base reference (text_of target) is
target_text-of-resolved text_of base reference (Err error) is = is
