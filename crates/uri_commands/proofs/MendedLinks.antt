-- What a call of `uri_mend` returned is what a link is mended to.
use Rattle.uri_commands.proofs.Common.{◌≡◌, List, Result, sym, subst, true, ℕ, IfErr, IfOk, Kind, Mend, kind_named, IsErrorOfCommand, IsErrorOfLink, KindName, CommandError, Text, Base, Reference, Target, OutOfMemory, OutputFailed}
use Rattle.std.proofs.lemmas.Result.{IfErr-weaker, IfOk-weaker}
use Rattle.uri_mend.specs.Mended.{IsMended}
use Rattle.uri_mend.specs.Mending.{can_be_mended, mended_text}
use Rattle.uri_mend.specs.Trimming.{trimmed_link}

pub error-of-link-is-error-of-mend : {A : Type 0} (name : KindName) (kind : Kind) (text : List ℕ)
    (result : Result A CommandError) → kind_named name ≡ kind
    → IfErr result (IsErrorOfLink kind text) → IfErr result (IsErrorOfCommand (Mend name text))
error-of-link-is-error-of-mend name kind text result same is = IfErr-weaker result _ _
    (λ why e. of-each why (subst (λ k. IsErrorOfLink k text why) (sym same) e)) is
  where
    of-each : (why : CommandError) → IsErrorOfLink (kind_named name) text why
        → IsErrorOfCommand (Mend name text) why
    of-each (Text e) is = is
    of-each (Base e) is = absurd is
    of-each (Reference e) is = absurd is
    of-each (Target e) is = absurd is
    of-each OutOfMemory is = is
    of-each OutputFailed is = absurd is

pub mended-link-can-be-mended : {A E : Type 0} (bytes : A → List ℕ) (name : KindName) (kind : Kind)
    (text : List ℕ) (result : Result A E) → kind_named name ≡ kind
    → IfOk result (λ link. IsMended kind (trimmed_link text) (bytes link))
    → IfOk result (λ link. can_be_mended (kind_named name) (trimmed_link text) ≡ true)
mended-link-can-be-mended bytes name kind text result same is = IfOk-weaker result _ _
    (λ link e. subst (λ k. can_be_mended k (trimmed_link text) ≡ true) (sym same) e.mendable) is

pub mended-link-has-mended-text : {A E : Type 0} (bytes : A → List ℕ) (name : KindName)
    (kind : Kind) (text : List ℕ) (result : Result A E) → kind_named name ≡ kind
    → IfOk result (λ link. IsMended kind (trimmed_link text) (bytes link))
    → IfOk result (λ link. bytes link ≡ mended_text (kind_named name) (trimmed_link text))
mended-link-has-mended-text bytes name kind text result same is = IfOk-weaker result _ _
    (λ link e. subst (λ k. bytes link ≡ mended_text k (trimmed_link text)) (sym same) e.text) is

-- links: what `mend` owes for each kind that a word names
pub ruleset of_each_kind = (
  error-of-link-is-error-of-mend,
  mended-link-can-be-mended,
  mended-link-has-mended-text,
)
