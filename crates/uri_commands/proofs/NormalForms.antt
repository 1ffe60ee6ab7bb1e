-- The normal form that `normalize` returns is the one that is printed.
use Rattle.uri_commands.proofs.Common.{◌≡◌, sym, subst, ℕ, List, Result, IfErr, Kind, rules_of_set, RuleSet, Normalize, kind_named, normal_form_of, IsErrorOfCommand, IsErrorOfNormalForm, KindName, CommandError, Text, Base, Reference, Target, OutOfMemory, OutputFailed}
use Rattle.std.proofs.lemmas.Result.{IfErr-weaker}
use Rattle.fluent_uri.specs.Normalizers.{HasNormalText}

-- commands: the normal text of a text is the normal form that is written
pub normal_form_is : (set : RuleSet) (kind : Kind) (text normal : List ℕ)
    → HasNormalText kind (rules_of_set set) text normal → normal ≡ normal_form_of set kind text
unfolding normal_form_of
normal_form_is set kind text normal is = is.text

pub error_of_normal_form_is_error_of_normalize : {A : Type 0} (set : RuleSet) (name : KindName)
    (kind : Kind) (text : List ℕ) (result : Result A CommandError) → kind_named name ≡ kind
    → IfErr result (IsErrorOfNormalForm kind text)
    → IfErr result (IsErrorOfCommand (Normalize set name text))
error_of_normal_form_is_error_of_normalize set name kind text result same is =
    IfErr-weaker result _ _
    (λ why e. of-each why (subst (λ k. IsErrorOfNormalForm k text why) (sym same) e)) is
  where
    of-each : (why : CommandError) → IsErrorOfNormalForm (kind_named name) text why
        → IsErrorOfCommand (Normalize set name text) why
    of-each (Text e) is = is
    of-each (Base e) is = absurd is
    of-each (Reference e) is = absurd is
    of-each (Target e) is = absurd is
    of-each OutOfMemory is = is
    of-each OutputFailed is = absurd is
