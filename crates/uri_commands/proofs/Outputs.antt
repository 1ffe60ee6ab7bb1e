-- A command that fails since its output cannot be written.
use Rattle.uri_commands.proofs.Common.{◌≡◌, List, ◌∷◌, ◌++◌, ℕ, true, Some, None, Result, codes, ap, IfErr, if◌then◌else◌, IsOfKind, uri, uri_ref, RuleSet, Parse, Normalize, Mend, Resolve, Links, are_of_kind, kind_of_base, kind_of_references, target_text, kind_named, normal_form_of, link_lines, IsErrorOfCommand, KindName, CommandError, OutputFailed}
use Rattle.fluent_uri.specs.Components.{components}
use Rattle.uri_commands.specs.Lines.{component_lines}
use Rattle.uri_mend.specs.Mending.{can_be_mended, mended_text}
use Rattle.uri_mend.specs.Trimming.{trimmed_link}
use Rattle.uri_commands.specs.declared.command.BaseName.{BaseName}
use Rattle.uri_commands.proofs.Refusals.{if_err-of-equal-error}

pub failed-output-is-error-of-parse : {A : Type 0} (name : KindName) (text : List ℕ)
    (result : Result A CommandError) → IsOfKind (kind_named name) text
    → IfErr result (λ why. why ≡ OutputFailed) → IfErr result (IsErrorOfCommand (Parse name text))
failed-output-is-error-of-parse name text result is given =
    let lines = component_lines (components text) in
    if_err-of-equal-error (IsErrorOfCommand (Parse name text)) result OutputFailed given
    (lines, ap (λ b. if b then Some lines else None) is)

pub failed-output-is-error-of-normalize : {A : Type 0} (set : RuleSet) (name : KindName)
    (text : List ℕ) (result : Result A CommandError) → IsOfKind (kind_named name) text
    → IfErr result (λ why. why ≡ OutputFailed)
    → IfErr result (IsErrorOfCommand (Normalize set name text))
failed-output-is-error-of-normalize set name text result is given =
    let command = Normalize set name text in
    let lines = normal_form_of set (kind_named name) text ++ codes "\n" in
    if_err-of-equal-error (IsErrorOfCommand command) result OutputFailed given
    (lines, ap (λ b. if b then Some lines else None) is)

pub failed-output-is-error-of-mend : {A : Type 0} (name : KindName) (text : List ℕ)
    (result : Result A CommandError) → can_be_mended (kind_named name) (trimmed_link text) ≡ true
    → IfErr result (λ why. why ≡ OutputFailed) → IfErr result (IsErrorOfCommand (Mend name text))
failed-output-is-error-of-mend name text result is given =
    let lines = mended_text (kind_named name) (trimmed_link text) ++ codes "\n" in
    if_err-of-equal-error (IsErrorOfCommand (Mend name text)) result OutputFailed given
    (lines, ap (λ b. if b then Some lines else None) is)

pub failed-output-is-error-of-resolve : {A : Type 0} (name : BaseName)
    (base reference target : List ℕ) (result : Result A CommandError)
    → IsOfKind (kind_of_base name) base → IsOfKind (kind_of_references name) reference
    → target_text base reference ≡ Some target → IfErr result (λ why. why ≡ OutputFailed)
    → IfErr result (IsErrorOfCommand (Resolve name base reference))
failed-output-is-error-of-resolve name base reference target result b r t given =
    if_err-of-equal-error (IsErrorOfCommand (Resolve name base reference)) result OutputFailed given
    (target ++ codes "\n", cc (b, r, t))

pub failed-output-is-error-of-links : {A : Type 0} (set : RuleSet) (base reference : List ℕ)
    (others : List (List ℕ)) (result : Result A CommandError) → IsOfKind uri base
    → are_of_kind uri_ref (reference ∷ others) ≡ true → IfErr result (λ why. why ≡ OutputFailed)
    → IfErr result (IsErrorOfCommand (Links set base reference others))
failed-output-is-error-of-links set base reference others result b r given =
    let command = Links set base reference others in
    if_err-of-equal-error (IsErrorOfCommand command) result OutputFailed given
    (link_lines set base (reference ∷ others), cc (b, r))
