-- The error that is returned for a text that is not of its kind.
use Rattle.uri_commands.proofs.Common.{common_steps, arith, ◌≡◌, ◌↔◌, ◌++◌, List, ℕ, Result, Ok, Err, Some, sym, ap, ◌∙◌, codes, subst, IsOk, IfErr, MatchResult, is_ok, Kind, IsOfKind, IsErrorOf, command_error_text, error_line, CommandError}
use Rattle.std.specs.Result.{IsErrAnd}
use Rattle.fluent_uri.specs.Refusals.{refusal}
use Rattle.fluent_uri.specs.declared.ParseError.{ParseError}
use Rattle.fluent_uri.proofs.Outcomes.{IfErr-of-only-error}

-- general fact on errors: what holds of e holds of an error that can only be e;
-- used for the errors of commands
pub if_err-of-equal-error : {A B : Type 0} (P : B → Type 0) (result : Result A B) (e : B)
    → IfErr result (λ x. x ≡ e) → P e → IfErr result P
if_err-of-equal-error P (Ok a) e is p = tt
if_err-of-equal-error P (Err x) e is p = subst P (sym is) p

pub parse-error-is-of-text : {A B : Type 0} (P : B → Type 0) (shown : ParseError → B)
    (named kind : Kind) (text : List ℕ) (result : Result A B) (e : ParseError)
    → ((x : ParseError) → IsErrorOf named text x → P (shown x)) → named ≡ kind
    → refusal kind text ≡ Some e → IsErrAnd result (λ x. x ≡ shown e) → IfErr result P
parse-error-is-of-text P shown named kind text result e is same error given = IfErr-of-only-error P
    result (shown e) given (is e (subst (λ k. IsErrorOf k text e) (sym same) error))

pub mapped-parse-error-is-of-text : {A B C : Type 0} (P : B → Type 0) (shown : ParseError → B)
    (kind : Kind) (text : List ℕ) (parsed : Result A ParseError) (mapped : Result A B)
    (result : Result C B) (why : B) → ((e : ParseError) → IsErrorOf kind text e → P (shown e))
    → IfErr parsed (λ e. refusal kind text ≡ Some e)
    → MatchResult parsed (λ x. mapped ≡ Ok x) (λ e. IsErrAnd mapped (λ y. y ≡ shown e))
    → mapped ≡ Err why → IsErrAnd result (λ y. y ≡ why) → IfErr result P
mapped-parse-error-is-of-text P shown kind text (Ok x) mapped result why is error cases was given =
    cc (sym cases ∙ was)
mapped-parse-error-is-of-text P shown kind text (Err e) mapped result why is error cases was given =
    grind (arith, IfErr-of-only-error)

pub mapped-ok-is-of-kind : {A B E : Type 0} (kind : Kind) (text : List ℕ) (parsed : Result A E)
    (mapped : Result A B) (value : A) → (IsOk parsed ↔ IsOfKind kind text)
    → is_ok mapped ≡ is_ok parsed → mapped ≡ Ok value → IsOfKind kind text
mapped-ok-is-of-kind kind text parsed mapped value accepts variant was =
    accepts.0 (sym variant ∙ ap is_ok was)

pub error-line-in-parts : (subject text index : List ℕ) (why : CommandError)
    → subject ++ text ++ index ≡ command_error_text why
    → (codes "error: " ++ subject) ++ ((text ++ index) ++ codes "\n") ≡ error_line why
error-line-in-parts subject text index why is = grind (arith, common_steps)
