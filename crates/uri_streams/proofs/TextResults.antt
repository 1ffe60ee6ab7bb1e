-- What a kind's calls return is the result of a text.
use native.Mathlib.Omega.{arith}
use Rattle.uri_streams.proofs.Common.{◌≡◌, ◌≢◌, ℕ, true, false, List, Result, Ok, [], ◌++◌, Some, refl, ap, sym, ◌∙◌, components, Kind, IsOfKind, is_of_kind, ParseError, ◌↔◌, IfOk, if◌then◌else◌, unwrap_or, option_map, false_from_ne_true, error_text, resolve_error_text, LineResult, Text, Error, parse_message, parsed_result, resolution_result, target_result, result_in, Refused}
use Rattle.fluent_uri.specs.Prelude.{IsErrorWithUnderflowAllowed, refusal, resolution_of_texts}
use Rattle.fluent_uri.specs.declared.resolve.ResolveError.{ResolveError}
use Rattle.fluent_uri.specs.declared.resolve.ResolveError.TheVariants as errors
use Rattle.uri_commands.specs.declared.refusal.CommandError.TheVariants.{Target}
use Rattle.uri_streams.specs.declared.line_result.LineResult.{LineResult as Returned}
use Rattle.uri_streams.specs.declared.line_result.LineResult.TheVariants as returned

pub error_text-is-parse_message : (kind : Kind) (text : List ℕ) (e : ParseError)
    → refusal kind text ≡ Some e → error_text e ≡ parse_message kind text
error_text-is-parse_message kind text e is = sym
    (ap (λ o. unwrap_or (option_map error_text o) []) is)

pub parsed_result-of-kind : (subject : List ℕ) (kind : Kind) (text : List ℕ)
    (line_result : LineResult) → ((true ≡ true) ↔ IsOfKind kind text)
    → line_result ≡ parsed_result subject kind text line_result
parsed_result-of-kind subject kind text line_result accepts = sym (ap
    (λ b. if b then line_result else Error (subject ++ parse_message kind text)) (accepts.0 refl))

pub parsed_result-of-error : (subject : List ℕ) (kind : Kind) (text : List ℕ)
    (line_result : LineResult) (e : ParseError) → ((false ≡ true) ↔ IsOfKind kind text)
    → refusal kind text ≡ Some e
    → Error (subject ++ error_text e) ≡ parsed_result subject kind text line_result
parsed_result-of-error subject kind text line_result e accepts is =
    ap (λ m. Error (subject ++ m)) (error_text-is-parse_message kind text e is)
    ∙ sym (ap (λ b. if b then line_result else Error (subject ++ parse_message kind text))
    (false_from_ne_true (is_of_kind kind text) (λ of_kind. cc (accepts.1 of_kind))))

-- lines: what `urilines resolve` writes of a target is its text
pub target_result-of-target : (base reference target : List ℕ)
    → resolution_of_texts base reference ≡ Ok target → Text target ≡ target_result base reference
unfolding target_result
target_result-of-target base reference target is = ap resolution_result (sym is)

-- lines: what `urilines resolve` writes of an error is the one that is defined for base and
-- reference
target_result-of-error : (base reference : List ℕ) (e : ResolveError)
    → IsErrorWithUnderflowAllowed (components base) (components reference) e
    → e ≢ errors.OutOfMemory → Error (resolve_error_text e) ≡ target_result base reference
unfolding target_result
target_result-of-error base reference e is some = grind (arith, target_result)

-- lines: an error of resolving, but for lack of memory,
-- is the one that is defined for base and reference
pub target_result-of-returned-error : {E : Type 0} (base reference : List ℕ) (e : ResolveError)
    (result : Result Returned E) → IsErrorWithUnderflowAllowed (components base)
    (components reference) e
    → IfOk result (λ line_result. line_result ≡ returned.Error (Refused (Target e)))
    → IfOk result (λ line_result. e ≢ errors.OutOfMemory)
    → IfOk result (λ line_result. result_in line_result ≡ target_result base reference)
target_result-of-returned-error base reference e h is error some =
    grind (arith, target_result-of-error)
