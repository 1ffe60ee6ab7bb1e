-- The result of the text of a line under a command, whatever the other lines are.
use Rattle.std.specs.Prelude.{ℕ, List, [], ◌++◌, codes, Bool, not, Result, Ok, Err, unwrap_or, option_map, if◌then◌else◌}
use Rattle.fluent_uri.specs.Prelude.{BaseWithFragment, InvalidReferenceAgainstOpaqueBase, Kind, TargetError, components, iri, iri_ref, iri_text, is_of_kind, refusal, resolution_of, uri, uri_ref, uri_text}
use Rattle.fluent_uri.specs.declared.normalize.RuleSet.{RuleSet}
use Rattle.fluent_uri.specs.declared.resolve.ResolveError.TheVariants as resolve_errors
use Rattle.uri_basic.specs.Target.{BasicTargetError, PathStartsWithDoubleSlash, basic_resolution_of_texts}
use Rattle.uri_commands.specs.Kinds.{kind_named, normal_form_of}
use Rattle.uri_commands.specs.Messages.{error_text, resolve_error_text}
use Rattle.uri_mend.specs.Mending.{can_be_mended, mended_text}
use Rattle.uri_mend.specs.Trimming.{trimmed_link}
use Rattle.uri_relative.specs.Rule.{reference_to}
use Rattle.uri_streams.specs.Json.{json_of}
use Rattle.uri_streams.specs.Queries.{query_json}
use Rattle.uri_streams.specs.declared.command.Base.{Base}
use Rattle.uri_streams.specs.declared.command.Base.TheVariants as bases
use Rattle.uri_streams.specs.declared.command.LineCommand.{LineCommand}
use Rattle.uri_streams.specs.declared.command.LineCommand.TheVariants.{Normalize, Resolve, Check, Relativize, Mend, Parse, Query}

-- the result of a line of an input: a text in place of the one that the command got, the line as it
-- is, no line, or an error with its message
pub data LineResult : Type 0 where
  Text : List ℕ → LineResult
  Unchanged : LineResult
  NoLine : LineResult
  Error : List ℕ → LineResult

-- the text of a base that is given on the command line of `urilines`
abbrev pub base_text : Base → List ℕ
base_text (bases.Uri base) = uri_text base
base_text (bases.Iri base) = iri_text base

-- the kind of the references to a base of `urilines`
abbrev pub reference_kind : Base → Kind
reference_kind (bases.Uri base) = uri_ref
reference_kind (bases.Iri base) = iri_ref

-- the kind of the targets from a base of `urilines`
abbrev pub target_kind : Base → Kind
target_kind (bases.Uri base) = uri
target_kind (bases.Iri base) = iri

-- the message of the parse error of a line's text that is not of the kind
abbrev pub parse_message : Kind → List ℕ → List ℕ
parse_message kind text = unwrap_or (option_map error_text (refusal kind text)) []

-- the result of a line whose text a command parses as the kind: the last argument if it is of the
-- kind, and otherwise its parse error, after what it is an error of
abbrev pub parsed_result : List ℕ → Kind → List ℕ → LineResult → LineResult
parsed_result subject kind text result =
    if is_of_kind kind text then result else Error (subject ++ parse_message kind text)

-- the result of `urilines normalize` for a line: the normal form of a text of the kind, or the
-- parse error; the set is the rules of schemes that it is by
unfoldable pub normalize_result : RuleSet → Kind → List ℕ → LineResult
normalize_result set kind text =
    parsed_result [] kind text (Text (normal_form_of set kind text))

-- the result of `urilines resolve` for a line whose reference has this resolution: the target, or
-- why there is none
abbrev pub resolution_result : Result (List ℕ) TargetError → LineResult
resolution_result (Ok target) = Text target
resolution_result (Err BaseWithFragment) =
    Error (resolve_error_text resolve_errors.BaseWithFragment)
resolution_result (Err InvalidReferenceAgainstOpaqueBase) =
    Error (resolve_error_text resolve_errors.InvalidReferenceAgainstOpaqueBase)

-- the result of `urilines resolve` for a base and a reference, in this order: the target, or why
-- there is none (section 5.2)
unfoldable pub target_result : List ℕ → List ℕ → LineResult
target_result base reference =
    resolution_result (resolution_of (components base) (components reference))

-- the message of `urilines resolve --basic` for a target that has no authority and a path that
-- begins with `//`
abbrev pub double_slash_message : List ℕ
double_slash_message = codes "target has no authority, and its path would start with '//'"

-- the result of `urilines resolve --basic` for a line whose reference has this resolution: the
-- target, or why there is none
abbrev pub basic_resolution_result : Result (List ℕ) BasicTargetError → LineResult
basic_resolution_result (Ok target) = Text target
basic_resolution_result (Err PathStartsWithDoubleSlash) = Error double_slash_message

-- the result of `urilines resolve --basic` for a base and a reference, in this order: the target by
-- the basic algorithm, or why there is none (section 5.2)
unfoldable pub basic_target_result : List ℕ → List ℕ → LineResult
basic_target_result base reference =
    basic_resolution_result (basic_resolution_of_texts base reference)

-- the result of `urilines resolve` for a base and a reference, in this order; the Bool is whether
-- `--basic` is given
abbrev pub target_result_by : Bool → List ℕ → List ℕ → LineResult
target_result_by is_basic base reference =
    if is_basic then basic_target_result base reference else target_result base reference

-- the result of `urilines resolve` for a base and a line, in this order: the target, if the line is
-- a reference of the kind; the Bool is whether `--basic` is given
unfoldable pub resolve_result : Bool → Kind → List ℕ → List ℕ → LineResult
resolve_result is_basic kind base text =
    parsed_result (codes "reference: ") kind text (target_result_by is_basic base text)

-- the result of `urilines relativize` for a base and a line, in this order: a reference that leads
-- from the base to the line, if that is of the kind; the Bool is whether a relative path is
-- preferred
unfoldable pub relativize_result : Bool → Kind → List ℕ → List ℕ → LineResult
relativize_result prefers kind base text =
    parsed_result (codes "target: ") kind text (Text (reference_to prefers base text))

-- whether `urilines check` keeps a line: it is of the kind, or with `--invert`, which the Bool is,
-- it is not
unfoldable pub passes_check : Kind → Bool → List ℕ → Bool
passes_check kind is_inverted text =
    if is_inverted then not (is_of_kind kind text) else is_of_kind kind text

-- the result of `urilines check` for a line that passes, or does not: the line as it is, or no
-- line
abbrev pub passed_if : Bool → LineResult
passed_if passes = if passes then Unchanged else NoLine

-- the result of `urilines check` for a line with this text: the line itself, or no line; the Bool
-- is whether `--invert` is given
abbrev pub check_result : Kind → Bool → List ℕ → LineResult
check_result kind is_inverted text = passed_if (passes_check kind is_inverted text)

-- the result of `urilines mend` for a line: the text of the kind that it is mended to as the link
-- of a page, or the parse error
unfoldable pub mend_result : Kind → List ℕ → LineResult
mend_result kind text =
    if can_be_mended kind (trimmed_link text) then Text (mended_text kind (trimmed_link text))
    else Error (parse_message kind (trimmed_link text))

-- the result of `urilines parse` for a line: the components of a text of the kind as JSON, or the
-- parse error
unfoldable pub parse_result : Kind → List ℕ → LineResult
parse_result kind text = parsed_result [] kind text (Text (json_of (components text)))

-- the result of `urilines query` for a line: the decoded pairs of its query as JSON, if it is a
-- text of the kind
unfoldable pub query_result : Kind → List ℕ → LineResult
query_result kind text = parsed_result [] kind text (Text (query_json (components text).query))

-- the result of a line under a command of `urilines` that does the same with each line
abbrev pub command_result : LineCommand → List ℕ → LineResult
command_result (Normalize kind set) text =
    normalize_result set (kind_named kind) text
command_result (Resolve base is_basic) text =
    resolve_result is_basic (reference_kind base) (base_text base) text
command_result (Relativize base prefers) text =
    relativize_result prefers (target_kind base) (base_text base) text
command_result (Check kind is_inverted) text = check_result (kind_named kind) is_inverted text
command_result (Mend kind) text = mend_result (kind_named kind) text
command_result (Parse kind) text = parse_result (kind_named kind) text
command_result (Query kind) text = query_result (kind_named kind) text

-- the kind of the texts that a command of `urilines` gets of lines
abbrev pub text_kind : LineCommand → Kind
text_kind (Normalize kind set) = kind_named kind
text_kind (Resolve base is_basic) = reference_kind base
text_kind (Relativize base prefers) = target_kind base
text_kind (Check kind is_inverted) = kind_named kind
text_kind (Mend kind) = kind_named kind
text_kind (Parse kind) = kind_named kind
text_kind (Query kind) = kind_named kind
