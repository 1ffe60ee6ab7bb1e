-- The result of the text of a line under a command, after the lines before it.
use Rattle.std.specs.Prelude.{◌≡◌, ℕ, List, [], ◌∷◌, ◌++◌, codes, Bool, bytes_eq, decimal, Result, Ok, Err, if◌then◌else◌}
use Rattle.std.specs.HashSet.{contains_text}
use Rattle.std.specs.List.{list_any}
use Rattle.std.specs.Str.{is_utf8}
use Rattle.std.specs.Str.Lossy.{utf8_valid_len}
use Rattle.fluent_uri.specs.Prelude.{Kind, is_of_kind, rules_of_set, uri_ref, uri_text}
use Rattle.uri_commands.specs.Links.{text_at}
use Rattle.uri_commands.specs.MendedLinks.{mended_link}
use Rattle.uri_commands.specs.Messages.{resolve_error_text}
use Rattle.fluent_uri.specs.declared.normalize.RuleSet.{RuleSet}
use Rattle.uri_links.specs.Outcomes.{outcome_of}
use Rattle.uri_links.specs.Registers.{target_rules, texts_of}
use Rattle.uri_links.specs.declared.links.Outcome.{Outcome}
use Rattle.uri_links.specs.declared.links.Outcome.TheVariants as outcomes
use Rattle.uri_streams.specs.Fields.{no_text_message}
use Rattle.uri_commands.specs.Kinds.{kind_named}
use Rattle.uri_streams.specs.Results.{LineResult, Text, NoLine, Error, command_result, normalize_result, parse_message, passed_if, text_kind as line_text_kind}
use Rattle.uri_streams.specs.declared.command.Command.{Command}
use Rattle.uri_streams.specs.declared.command.Command.TheVariants.{Each, Unique, Links}
use Rattle.uri_streams.specs.declared.command.LineCommand.TheVariants.{Check}
use Rattle.uri_streams.specs.declared.fault.NoText.{NoText}
use Rattle.uri_streams.specs.declared.fault.NoText.TheVariants.{TooLong, NotUtf8}
use Rattle.uri_streams.specs.declared.job.Job.{Job}
use Rattle.uri_streams.specs.declared.met.MetTexts.{MetTexts}
use Rattle.uri_streams.specs.declared.task.Task.{Task}
use Rattle.uri_streams.specs.declared.task.Task.TheVariants as tasks

-- what is known from earlier lines of a run: the normal forms or the targets that were met, each
-- once
abbrev pub Known : Type 0
Known = List (List ℕ)

-- whether a text is among those that are known from earlier lines
abbrev pub has_met : Known → List ℕ → Bool
has_met known text = list_any (bytes_eq text) known

-- the result of a line if its text is not known from earlier lines, and otherwise no line; and what
-- is known after it
abbrev pub text_if_new : Known → LineResult → LineResult × Known
text_if_new known (Text text) =
    if has_met known text then (NoLine, known) else (Text text, known ++ text ∷ [])
text_if_new known other = (other, known)

-- The result of `urilines unique` for a line: its normal form, if that is not known, and what is
-- known after it.
-- Two texts of a kind have one normal form exactly if they mean the same (RFC 3986, section 6.2),
-- by the rules of schemes of the set.
unfoldable pub unique_result : RuleSet → Kind → Known → List ℕ → LineResult × Known
unique_result set kind known text =
    text_if_new known (normalize_result set kind text)

-- the line that `urilines links` writes for a target: a word, the id and the target's text, which
-- is known
abbrev pub link_line : List ℕ → ℕ → Known → List ℕ
link_line word id known = word ++ codes " " ++ decimal id ++ codes " " ++ text_at known id

-- the result of `urilines links` for a line whose reference has this outcome, with the texts that
-- are known after it
abbrev pub outcome_result : Outcome × Known → LineResult
outcome_result (outcomes.New id, known) = Text (link_line (codes "new") id known)
outcome_result (outcomes.Known id, known) = Text (link_line (codes "known") id known)
outcome_result (outcomes.Refused error, known) = Error (resolve_error_text error)

-- the result of `urilines links` for a line whose reference has this outcome, and what is known
-- after it
abbrev pub noted_result : Outcome × Known → LineResult × Known
noted_result noted = (outcome_result noted, noted.1)

-- the result of `urilines links` for a base, what is known, and a line: its target is known if one
-- with its meaning is, by the rules of schemes of the set; and what is known after it
unfoldable pub link_result : RuleSet → List ℕ → Known → List ℕ → LineResult × Known
link_result set base known text =
    if is_of_kind uri_ref text
    then noted_result (outcome_of (rules_of_set set) base known text)
    else (Error (codes "reference: " ++ parse_message uri_ref text), known)

-- the result of a text under a command of `urilines`, with what is known from earlier lines; and
-- what is known after it
abbrev pub text_result : Command → Known → List ℕ → LineResult × Known
text_result (Each command) known text = (command_result command text, known)
text_result (Unique kind set hasher) known text =
    unique_result set (kind_named kind) known text
text_result (Links base set) known text = link_result set (uri_text base) known text

-- The result of a line of which a command of `urilines` gets no text.
-- It is not of the kind, so `check` passes it if `--invert` is given, unless it is too long; it is
-- an error for every other command.
abbrev pub no_text_result : Command → NoText → LineResult
no_text_result command (TooLong most) = Error (no_text_message (TooLong most))
no_text_result (Each (Check kind is_inverted)) why = passed_if is_inverted
no_text_result command why = Error (no_text_message why)

-- the kind of the texts that a command of `urilines` gets of lines
abbrev pub text_kind : Command → Kind
text_kind (Each command) = line_text_kind command
text_kind (Unique kind set hasher) = kind_named kind
text_kind (Links base set) = uri_ref

-- the text that the command of a job gets for the text of a line: with `--mend` what that is mended
-- to as the link of a page, for the command's kind
abbrev pub given_text : Job → List ℕ → List ℕ
given_text job text = if job.is_mended then mended_link (text_kind job.command) text else text

-- the result of bytes, which need not be UTF-8, under a job, with what is known from earlier lines;
-- and what is known after it
abbrev pub bytes_result : Job → Known → List ℕ → LineResult × Known
bytes_result job known bytes =
    if is_utf8 bytes then text_result job.command known (given_text job bytes)
    else (no_text_result job.command (NotUtf8 (utf8_valid_len bytes)), known)

-- the result of the text that the command of a job gets of a line, or of none, with what is known;
-- and what is known after it
abbrev pub cut_result : Job → Known → Result (List ℕ) NoText → LineResult × Known
cut_result job known (Ok bytes) = bytes_result job known bytes
cut_result job known (Err why) = (no_text_result job.command why, known)

-- the set of texts that the task of a run met has exactly the texts that are known
abbrev pub HasMet : MetTexts → Known → Type 0
HasMet met known = (text : List ℕ) → contains_text met.texts text ≡ has_met known text

-- the task of a run is that of the command, and remembers what is known from earlier lines
abbrev pub Remembers : Task → Command → Known → Type 0
Remembers (tasks.Each own) (Each command) known = own ≡ command
Remembers (tasks.Unique own) (Unique kind set hasher) known =
    (own.kind ≡ kind) × (own.rules ≡ set) × HasMet own.met known
Remembers (tasks.Links own) (Links base set) known =
    (own.base ≡ base) × (texts_of own.register ≡ known)
    × (target_rules own.register ≡ rules_of_set set)
Remembers task command known = ⊥
