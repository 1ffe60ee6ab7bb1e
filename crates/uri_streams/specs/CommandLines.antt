-- The job that a command line of `urilines` asks for.
use Rattle.std.specs.Prelude.{◌≡◌, ◌<◌, ◌-◌, ◌⊎◌, ℕ, Bool, true, false, List, [], ◌∷◌, not, ◌&&◌, ◌||◌, ◌==◌, codes, nat_lt, Option, Some, None, option_map, unwrap_or, if◌then◌else◌}
use Rattle.std.specs.Borrow.{Bor}
use Rattle.std.specs.declared.hash.RandomState.{RandomState}
use Rattle.uri_pct.specs.Prelude.{allows, colon, percent_sign, query_set, reserved_set, slash, unreserved_set}
use Rattle.uri_parts.specs.Prelude.{IsWithFragment}
use Rattle.fluent_uri.specs.Prelude.{Kind, iri, iri_text, refusal, uri, uri_text}
use Rattle.fluent_uri.specs.declared.ParseError.{ParseError}
use Rattle.fluent_uri.specs.declared.normalize.RuleSet.{RuleSet}
use Rattle.fluent_uri.specs.declared.normalize.RuleSet.TheVariants as Set
use Rattle.uri_commands.specs.Refusals.{command_error_text}
use Rattle.uri_commands.specs.declared.refusal.CommandError.TheVariants as command_errors
use Rattle.uri_streams.specs.declared.command.Base.{Base}
use Rattle.uri_streams.specs.declared.command.Base.TheVariants as bases
use Rattle.uri_streams.specs.declared.command.Command.{Command}
use Rattle.uri_streams.specs.declared.command.Command.TheVariants.{Each, Unique, Links}
use Rattle.uri_commands.specs.declared.kinds.KindName.{KindName}
use Rattle.uri_commands.specs.declared.kinds.KindName.TheVariants as kinds
use Rattle.uri_streams.specs.declared.command.LineCommand.TheVariants.{Normalize, Resolve, Check, Mend, Parse, Query, Relativize}
use Rattle.uri_streams.specs.declared.command_line.CommandLine.{CommandLine}
use Rattle.uri_streams.specs.declared.command_line.CommandLineError.{CommandLineError}
use Rattle.uri_streams.specs.declared.command_line.CommandLineError.TheVariants as line_errors
use Rattle.uri_streams.specs.declared.command_line.CommandName.{CommandName}
use Rattle.uri_streams.specs.declared.command_line.CommandName.TheVariants as names
use Rattle.uri_streams.specs.declared.job.Field.{Field}
use Rattle.uri_streams.specs.declared.job.Job.{Job}
use Rattle.uri_streams.specs.declared.job.OnError.{OnError}
use Rattle.uri_streams.specs.declared.job.OnError.TheVariants as modes

-- the word for a command on the command line of `urilines`
abbrev pub word_of_command : CommandName → List ℕ
word_of_command names.Normalize = codes "normalize"
word_of_command names.Resolve = codes "resolve"
word_of_command names.Relativize = codes "relativize"
word_of_command names.Check = codes "check"
word_of_command names.Mend = codes "mend"
word_of_command names.Parse = codes "parse"
word_of_command names.Query = codes "query"
word_of_command names.Unique = codes "unique"
word_of_command names.Links = codes "links"

-- the word of `--errors` for what happens to a line that is an error
abbrev pub word_of_mode : OnError → List ℕ
word_of_mode modes.Line = codes "line"
word_of_mode modes.Drop = codes "drop"
word_of_mode modes.Stderr = codes "stderr"
word_of_mode modes.Stop = codes "stop"

-- a word of a command line of `urilines` is there, and has this text
abbrev pub IsWord : Option (Bor (List ℕ)) → List ℕ → Type 0
IsWord word text = option_map (λ w. w.now) word ≡ Some text

-- a word of a command line of `urilines` is there, and this is its text without its fragment
-- (section 5.1)
abbrev pub IsWordOfBase : Option (Bor (List ℕ)) → List ℕ → Type 0
IsWordOfBase word bare =
    (text : List ℕ) × (IsWord word text × IsWithFragment text None bare)

-- the base of a command line of `urilines`: its text without its fragment, and its kind by its name
abbrev pub IsBaseOf : CommandLine → Base → Type 0
IsBaseOf line (bases.Uri base) =
    (line.kind ≡ Some kinds.Uri) × IsWordOfBase line.base (uri_text base)
IsBaseOf line (bases.Iri base) =
    (line.kind ≡ Some kinds.Iri) × IsWordOfBase line.base (iri_text base)

-- the rules of schemes that a command line of `urilines` asks for: the standard ones if
-- `--scheme-rules` is given, and else default ports alone
abbrev pub rules_asked : CommandLine → RuleSet
rules_asked line = if line.scheme_rules then Set.StandardRules else Set.DefaultPorts

-- the command that a command line of `urilines` asks for; the other argument is the keys that
-- `unique` hashes with
abbrev pub IsCommandOf : CommandLine → RandomState → Command → Type 0
IsCommandOf line hasher (Each (Normalize kind set)) =
    (line.command ≡ names.Normalize) × (line.kind ≡ Some kind) × (rules_asked line ≡ set)
IsCommandOf line hasher (Each (Resolve base is_basic)) =
    (line.command ≡ names.Resolve) × IsBaseOf line base × (line.is_basic ≡ is_basic)
IsCommandOf line hasher (Each (Relativize base prefers)) =
    (line.command ≡ names.Relativize) × IsBaseOf line base × (line.prefers_relative ≡ prefers)
IsCommandOf line hasher (Each (Check kind is_inverted)) =
    (line.command ≡ names.Check) × (line.kind ≡ Some kind) × (line.is_inverted ≡ is_inverted)
IsCommandOf line hasher (Each (Mend kind)) =
    (line.command ≡ names.Mend) × (line.kind ≡ Some kind)
IsCommandOf line hasher (Each (Parse kind)) =
    (line.command ≡ names.Parse) × (line.kind ≡ Some kind)
IsCommandOf line hasher (Each (Query kind)) =
    (line.command ≡ names.Query) × (line.kind ≡ Some kind)
IsCommandOf line hasher (Unique kind set keys) =
    (line.command ≡ names.Unique) × (line.kind ≡ Some kind) × (rules_asked line ≡ set)
    × (keys ≡ hasher)
IsCommandOf line hasher (Links base set) =
    (line.command ≡ names.Links) × IsWordOfBase line.base (uri_text base)
    × (rules_asked line ≡ set)

-- the bytes of the delimiter of a command line of `urilines`: a tab if none is given
abbrev pub delimiter_of : CommandLine → List ℕ
delimiter_of line = unwrap_or (option_map (λ w. w.now) line.delimiter) (codes "\t")

-- whether no text of a kind and no message of `urilines` has this byte: it is of ASCII, neither
-- reserved nor of a query, no `%`, and no space, which messages have
abbrev pub is_in_no_text : ℕ → Bool
is_in_no_text b = nat_lt b 128
    && not (allows reserved_set b || allows query_set b || b == percent_sign) && not (b == 32)

-- whether a normal form, a relative reference and what a link is mended to have this byte only if
-- the text has it, and no message of theirs has it: it is of a query, not unreserved, neither `/`
-- nor `:`, and no apostrophe, which messages have
abbrev pub is_only_kept : ℕ → Bool
is_only_kept b = allows query_set b
    && not (allows unreserved_set b || b == slash || b == colon || b == 39)

-- whether a line keeps its fields if this byte is between them, whatever a command of `urilines`
-- writes for one: JSON, a text with characters of a base, or one with those of the field
unfoldable pub keeps_shape : CommandName → ℕ → Bool
keeps_shape names.Parse b = nat_lt b 32
keeps_shape names.Query b = nat_lt b 32
keeps_shape names.Resolve b = is_in_no_text b
keeps_shape names.Links b = is_in_no_text b
keeps_shape name b = is_in_no_text b || is_only_kept b

-- the delimiter of a command line of `urilines` is this byte, by which a line keeps its fields
abbrev pub IsDelimiterOf : CommandLine → ℕ → Type 0
IsDelimiterOf line b = (delimiter_of line ≡ b ∷ []) × (keeps_shape line.command b ≡ true)

-- the delimiter of a command line of `urilines` is not one by which a line keeps its fields, and
-- this is the error
abbrev pub IsErrorOfDelimiter : CommandLine → CommandLineError → Type 0
IsErrorOfDelimiter line error = (error ≡ line_errors.Delimiter)
    × ((b : ℕ) → delimiter_of line ≡ b ∷ [] → keeps_shape line.command b ≡ false)

-- the field that a command line of `urilines` asks for, if it does
abbrev pub IsFieldOf : CommandLine → Option Field → Type 0
IsFieldOf line None = (line.field ≡ None) × ((b : ℕ) × IsDelimiterOf line b)
IsFieldOf line (Some field) = (number : ℕ) × (line.field ≡ Some number) × (0 < number)
    × (field.before ≡ number - 1) × IsDelimiterOf line field.delimiter

-- what happens to a line that is an error if a command line of `urilines` doesn't say it: `check`
-- and `unique` drop it
abbrev pub default_mode : CommandName → OnError
default_mode names.Check = modes.Drop
default_mode names.Unique = modes.Drop
default_mode name = modes.Line

-- what happens to a line that is an error, by a command line of `urilines`
abbrev pub mode_of : CommandLine → OnError
mode_of line = unwrap_or line.errors (default_mode line.command)

-- the job that a command line of `urilines` asks for; the other argument is the keys that `unique`
-- hashes with
abbrev pub IsJobOf : CommandLine → RandomState → Job → Type 0
IsJobOf line hasher job =
    IsCommandOf line hasher job.command × IsFieldOf line job.field × (job.is_null ≡ line.is_null)
    × (job.is_mended ≡ line.is_mended)
    × (job.max_line ≡ unwrap_or line.max_line 1048576) × (job.errors ≡ mode_of line)

-- the base of a command line of `urilines` is missing, or is not of the kind, and this is the error
abbrev pub IsRejectedBase : CommandLine → Kind → CommandLineError → Type 0
IsRejectedBase line kind line_errors.Words = line.base ≡ None
IsRejectedBase line kind (line_errors.Base why) = (text : List ℕ) × (error : ParseError)
    × IsWord line.base text × (why ≡ command_errors.Base error)
    × (refusal kind text ≡ Some error)
IsRejectedBase line kind error = ⊥

-- whether a kind of a command line of `urilines` is that of a base
abbrev pub is_kind_of_base : Option KindName → Bool
is_kind_of_base (Some kinds.Uri) = true
is_kind_of_base (Some kinds.Iri) = true
is_kind_of_base kind = false

-- the base of a command line of `urilines`, or its kind, is rejected with this error
abbrev pub IsErrorOfBase : CommandLine → CommandLineError → Type 0
IsErrorOfBase line error = ((error ≡ line_errors.Words) × (is_kind_of_base line.kind ≡ false))
    ⊎ ((line.kind ≡ Some kinds.Uri) × IsRejectedBase line uri error)
    ⊎ ((line.kind ≡ Some kinds.Iri) × IsRejectedBase line iri error)

-- the field or the delimiter of a command line of `urilines` is rejected with this error
abbrev pub IsErrorOfField : CommandLine → CommandLineError → Type 0
IsErrorOfField line line_errors.Field = line.field ≡ Some 0
IsErrorOfField line error = IsErrorOfDelimiter line error

-- the words of a command line of `urilines` after the command are rejected with this error
abbrev pub IsErrorOfWords : CommandLine → CommandLineError → Type 0
IsErrorOfWords line error = (line.command ≡ names.Links × IsRejectedBase line uri error)
    ⊎ ((error ≡ line_errors.Words) × (line.kind ≡ None))
    ⊎ IsErrorOfBase line error

-- a command line of `urilines` asks for no job, for this reason
abbrev pub IsErrorOfLine : CommandLine → CommandLineError → Type 0
IsErrorOfLine line error = IsErrorOfWords line error ⊎ IsErrorOfField line error

-- the message of the error of a command line of `urilines`
abbrev pub command_line_message : CommandLineError → List ℕ
command_line_message line_errors.Words = codes "no command"
command_line_message (line_errors.Base why) = command_error_text why
command_line_message line_errors.Field = codes "field: the first is 1"
command_line_message line_errors.Delimiter =
    codes "delimiter: not one that the results lack"
