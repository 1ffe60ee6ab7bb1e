-- What the basic algorithm returns is the result of a text.
use Rattle.uri_streams.proofs.Common.{arith, ◌≡◌, ◌≢◌, ℕ, List, Result, Ok, sym, ap, subst, IfOk, components, Text, Error, basic_resolution_result, basic_target_result, double_slash_message, result_in, PathStartsWithDoubleSlash}
use Rattle.uri_basic.specs.declared.error.BasicResolveError.{BasicResolveError}
use Rattle.uri_basic.specs.declared.error.BasicResolveError.TheVariants as errors
use Rattle.uri_basic.specs.Resolving.{IsBasicError}
use Rattle.uri_basic.specs.Target.{basic_resolution_of_texts}
use Rattle.uri_streams.specs.declared.line_result.LineResult.{LineResult as Returned}
use Rattle.uri_streams.specs.declared.line_result.LineResult.TheVariants as returned

-- lines: what `urilines resolve --basic` writes of a target is its text
pub basic_target_result-of-target : (base given reference target : List ℕ) → given ≡ base
    → basic_resolution_of_texts given reference ≡ Ok target
    → Text target ≡ basic_target_result base reference
unfolding basic_target_result
basic_target_result-of-target base given reference target same is = ap basic_resolution_result
    (sym (subst (λ b. basic_resolution_of_texts b reference ≡ Ok target) same is))

-- lines: what `urilines resolve --basic` writes of an error is the one that is defined
basic_target_result-of-error : (base reference : List ℕ) (e : BasicResolveError)
    → IsBasicError (components base) (components reference) e → e ≢ errors.OutOfMemory
    → Error double_slash_message ≡ basic_target_result base reference
unfolding basic_target_result
basic_target_result-of-error base reference e is some = grind (arith, basic_target_result)

-- lines: an error of the basic algorithm, but for lack of memory, is the one that is defined for
-- base and reference
pub basic_target_result-of-returned-error : {E : Type 0} (base given reference : List ℕ)
    (e : BasicResolveError) (result : Result Returned E) → given ≡ base
    → IsBasicError (components given) (components reference) e
    → IfOk result (λ line_result. line_result ≡ returned.Error PathStartsWithDoubleSlash)
    → IfOk result (λ line_result. e ≢ errors.OutOfMemory)
    → IfOk result (λ line_result. result_in line_result ≡ basic_target_result base reference)
basic_target_result-of-returned-error base given reference e h same is error some =
    grind (arith, basic_target_result-of-error, components)
