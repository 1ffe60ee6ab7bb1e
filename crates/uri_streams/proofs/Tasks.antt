-- The result under a task, by its command.
use Rattle.uri_streams.proofs.Common.{arith, ◌≡◌, ℕ, true, List, Result, Ok, Err, IfOk, refl, ap, subst, Some, codes, ◌++◌, IsOfKind, Kind, is_of_kind, uri_ref, ParseError, error_text, kind_named, LineResult, Error, normalize_result, IsResult, result_in, HasMet, Known, Remembers, text_if_new, link_result, no_text_result, noted_result, text_result, unique_result, no_text_message, Task, NoField, NotUtf8, TooLong}
use Rattle.fluent_uri.specs.Prelude.{Rules, refusal, rules_of_set}
use Rattle.fluent_uri.specs.declared.normalize.RuleSet.{RuleSet}
use Rattle.uri_links.specs.Outcomes.{outcome_of}
use Rattle.uri_streams.specs.declared.line_result.LineResult.{LineResult as Returned}
use Rattle.uri_streams.specs.declared.command.Command.{Command}
use Rattle.uri_streams.specs.declared.command.Command.TheVariants.{Each, Unique, Links}
use Rattle.uri_streams.specs.declared.task.Task.TheVariants as tasks
use Rattle.uri_streams.specs.declared.command.LineCommand.{LineCommand}
use Rattle.uri_streams.specs.declared.fault.NoText.{NoText}
use Rattle.uri_streams.specs.declared.task.LinksTask.{LinksTask}
use Rattle.uri_streams.specs.declared.task.UniqueTask.{UniqueTask}
use Rattle.uri_streams.proofs.TextResults.{error_text-is-parse_message}

-- lines: after a result that adds nothing, the task remembers what it did before
pub IsResult-that-remembers-the-same : (command : Command) (next : LineResult × Known)
    (known : Known) (returned : Returned) (task : Task) → (result_in returned, known) ≡ next
    → Remembers task command known → IsResult command next returned task
IsResult-that-remembers-the-same command next known returned task e remembers =
    subst (λ n. IsResult command n returned task) e (refl, remembers)

-- lines: a call returned the result of a text under the command of a task, if it returned one
abbrev pub GivesText : {E : Type 0} → Task → Task → List ℕ → Result Returned E → Type 0
GivesText task task_new text result = (command : Command) (known : Known)
    → Remembers task command known → IfOk result
    (λ line_result. IsResult command (text_result command known text) line_result task_new)

-- lines: the result of `unique` gives its text if it is new;
-- own: what the task remembers, before and after (_new)
pub GivesText-of-unique : {E : Type 0} (own own_new : UniqueTask) (task task_new : Task)
    (text : List ℕ) (result : Result Returned E) → task ≡ tasks.Unique own
    → task_new ≡ tasks.Unique own_new
    → ((known : Known) → HasMet own.met known → IfOk result (λ line_result.
    (result_in line_result
    ≡ (unique_result own.rules (kind_named own.kind) known text).0)
    × HasMet own_new.met (unique_result own.rules (kind_named own.kind) known text).1))
    → own_new.kind ≡ own.kind → own_new.rules ≡ own.rules
    → GivesText task task_new text result
GivesText-of-unique own own_new task task_new text (Err error) e e_new is k r command known
    remembers = tt
GivesText-of-unique own own_new task task_new text (Ok line_result) e e_new is k r
    (Each command) known
    remembers =
    absurd (subst (λ t. Remembers t (Each command) known) e remembers)
GivesText-of-unique own own_new task task_new text (Ok line_result) e e_new is k r
    (Unique kind set hasher) known remembers =
    grind (arith, kind_named)
GivesText-of-unique own own_new task task_new text (Ok line_result) e e_new is k r
    (Links base set) known remembers =
    absurd (subst (λ t. Remembers t (Links base set) known) e remembers)

-- lines: what `urilines unique` writes is decided by the normal form, or the error
pub unique_result-of-normalize_result : (set : RuleSet) (kind : Kind) (known : Known)
    (text : List ℕ) (line_result : LineResult) → line_result ≡ normalize_result set kind text
    → text_if_new known line_result ≡ unique_result set kind known text
unfolding unique_result
unique_result-of-normalize_result set kind known text line_result is = ap (text_if_new known) is

-- lines: what `urilines links` writes of a reference is the outcome that the register of links
-- defines
pub link_result-of-outcome : {E : Type 0} (set : RuleSet) (base : List ℕ)
    (known known_new : Known) (text reference : List ℕ)
    (rules : Rules) (result : Result Returned E) → rules ≡ rules_of_set set
    → is_of_kind uri_ref text ≡ true → reference ≡ text
    → IfOk result (λ line_result. (result_in line_result, known_new)
    ≡ noted_result (outcome_of rules base known reference))
    → IfOk result (λ line_result.
    (result_in line_result, known_new) ≡ link_result set base known text)
unfolding link_result
link_result-of-outcome set base known known_new text reference rules h p of_kind same is =
    grind (arith, link_result)

-- lines: what `urilines links` writes of a text that is no reference is the error that is defined
-- for it
pub link_result-of-error : (set : RuleSet) (base : List ℕ) (known : Known) (text : List ℕ)
    (e : ParseError) → ¬ (IsOfKind uri_ref text) → refusal uri_ref text ≡ Some e
    → (Error (codes "reference: " ++ error_text e), known) ≡ link_result set base known text
unfolding link_result
link_result-of-error set base known text e not_of_kind is =
    grind (arith, error_text-is-parse_message)

pub command-of-each : (own : LineCommand) (command : Command) (known : Known)
    → Remembers (tasks.Each own) command known → Each own ≡ command
command-of-each own command known is = grind arith

-- lines: a line without a text is an error for the task of `unique`
pub no_text_result-of-unique : (own : UniqueTask) (command : Command) (known : Known)
    (why : NoText) → Remembers (tasks.Unique own) command known
    → Error (no_text_message why) ≡ no_text_result command why
no_text_result-of-unique own (Each other) known why is = absurd is
no_text_result-of-unique own (Unique kind set hasher) known why is = at why
  where
    at : (w : NoText) → Error (no_text_message w) ≡ no_text_result (Unique kind set hasher) w
    at (TooLong most) = refl
    at (NoField before) = refl
    at (NotUtf8 index) = refl
no_text_result-of-unique own (Links base set) known why is = absurd is

-- lines: a line without a text is an error for the task of `links`
pub no_text_result-of-links : (own : LinksTask) (command : Command) (known : Known)
    (why : NoText) → Remembers (tasks.Links own) command known
    → Error (no_text_message why) ≡ no_text_result command why
no_text_result-of-links own (Each other) known why is = absurd is
no_text_result-of-links own (Unique kind set hasher) known why is = absurd is
no_text_result-of-links own (Links base set) known why is = at why
  where
    at : (w : NoText) → Error (no_text_message w) ≡ no_text_result (Links base set) w
    at (TooLong most) = refl
    at (NoField before) = refl
    at (NotUtf8 index) = refl
