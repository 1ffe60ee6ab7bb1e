-- Why a command fails, and the line that says so.
use Rattle.std.specs.Prelude.{◌≡◌, ℕ, List, ◌∷◌, ◌++◌, codes, Some, true, slice_get, take}
use Rattle.fluent_uri.specs.Prelude.{IsErrorWithUnderflowAllowed, IsOfKind, Kind, components, refusal, uri, uri_ref}
use Rattle.uri_commands.specs.Commands.{Command, Parse, Normalize, Mend, Resolve, Links, are_of_kind, kind_of_base, kind_of_references, output_of}
use Rattle.uri_commands.specs.Kinds.{kind_named}
use Rattle.uri_mend.specs.Refusing.{IsLinkErrorOf}
use Rattle.uri_mend.specs.declared.error.MendError.TheVariants as mend_errors
use Rattle.uri_mend.specs.declared.error.MendError.TheVariants.{Unmendable}
use Rattle.uri_commands.specs.Messages.{error_text, resolve_error_text}
use Rattle.uri_commands.specs.declared.refusal.CommandError.{CommandError}
use Rattle.uri_commands.specs.declared.refusal.CommandError.TheVariants.{Text, Base, Reference, Target, OutOfMemory, OutputFailed}
use Rattle.fluent_uri.specs.declared.ParseError.{ParseError}

-- the text of an error of a command of `uritool`, without `error: ` before it
abbrev pub command_error_text : CommandError → List ℕ
command_error_text (Text e) = error_text e
command_error_text (Base e) = codes "base: " ++ error_text e
command_error_text (Reference e) = codes "reference: " ++ error_text e
command_error_text (Target e) = resolve_error_text e
command_error_text OutOfMemory = codes "out of memory"
command_error_text OutputFailed = codes "output failed"

-- the line on the error output of `uritool` that reports a command's error
abbrev pub error_line : CommandError → List ℕ
error_line why = codes "error: " ++ command_error_text why ++ codes "\n"

-- the line on the error output of `uritool` for words that make no command
abbrev pub usage_line : List ℕ
usage_line = codes "usage: uritool parse KIND TEXT | [--scheme-rules] normalize KIND TEXT "
    ++ codes "| mend KIND TEXT | resolve uri|iri BASE REF | [--scheme-rules] links BASE REF...\n"

-- a text of a command of `uritool` is not of the kind, and this is its parse error
abbrev pub IsErrorOf : Kind → List ℕ → ParseError → Type 0
IsErrorOf kind text e = refusal kind text ≡ Some e

-- one of the texts of a command of `uritool` is not of the kind, and this is the parse error of the
-- first such text
abbrev pub IsErrorOfFirst : Kind → List (List ℕ) → ParseError → Type 0
IsErrorOfFirst kind texts e = (n : ℕ) × (text : List ℕ)
    × (slice_get texts n ≡ Some text) × (are_of_kind kind (take n texts) ≡ true)
    × IsErrorOf kind text e

-- the error is right for a link of a page that is mended for the kind: the one that `mend_link` of
-- `uri_mend` returns
abbrev pub IsErrorOfLink : Kind → List ℕ → CommandError → Type 0
IsErrorOfLink kind text (Text e) = IsLinkErrorOf kind text (Unmendable e)
IsErrorOfLink kind text OutOfMemory = IsLinkErrorOf kind text mend_errors.OutOfMemory
IsErrorOfLink kind text why = ⊥

-- the error is right for a text of which the normal form of the kind is asked for
abbrev pub IsErrorOfNormalForm : Kind → List ℕ → CommandError → Type 0
IsErrorOfNormalForm kind text (Text e) = IsErrorOf kind text e
IsErrorOfNormalForm kind text OutOfMemory = IsOfKind kind text
IsErrorOfNormalForm kind text why = ⊥

-- The error is right for a base and a reference, in this order, of which the target is asked for.
-- The kinds are those of the base and of the reference.
abbrev pub IsErrorOfTarget : Kind → Kind → List ℕ → List ℕ → CommandError → Type 0
IsErrorOfTarget base_kind kind base reference (Base e) = IsErrorOf base_kind base e
IsErrorOfTarget base_kind kind base reference (Reference e) =
    IsOfKind base_kind base × IsErrorOf kind reference e
IsErrorOfTarget base_kind kind base reference (Target e) =
    IsOfKind base_kind base × IsOfKind kind reference
    × IsErrorWithUnderflowAllowed (components base) (components reference) e
IsErrorOfTarget base_kind kind base reference why = ⊥

-- The command of `uritool` fails with this error.
-- A base is parsed before its references, and all references are parsed before any is resolved or
-- noted.
abbrev pub IsErrorOfCommand : Command → CommandError → Type 0
IsErrorOfCommand (Parse name text) (Text e) = IsErrorOf (kind_named name) text e
IsErrorOfCommand (Normalize set name text) (Text e) =
    IsErrorOfNormalForm (kind_named name) text (Text e)
IsErrorOfCommand (Normalize set name text) OutOfMemory =
    IsErrorOfNormalForm (kind_named name) text OutOfMemory
IsErrorOfCommand (Mend name text) (Text e) = IsErrorOfLink (kind_named name) text (Text e)
IsErrorOfCommand (Mend name text) OutOfMemory = IsErrorOfLink (kind_named name) text OutOfMemory
IsErrorOfCommand (Resolve name base reference) (Base e) =
    IsErrorOfTarget (kind_of_base name) (kind_of_references name) base reference (Base e)
IsErrorOfCommand (Resolve name base reference) (Reference e) =
    IsErrorOfTarget (kind_of_base name) (kind_of_references name) base reference (Reference e)
IsErrorOfCommand (Resolve name base reference) (Target e) =
    IsErrorOfTarget (kind_of_base name) (kind_of_references name) base reference (Target e)
IsErrorOfCommand (Links set base reference others) (Base e) = IsErrorOf uri base e
IsErrorOfCommand (Links set base reference others) (Reference e) =
    IsOfKind uri base × IsErrorOfFirst uri_ref (reference ∷ others) e
IsErrorOfCommand (Links set base reference others) OutOfMemory =
    IsOfKind uri base × (are_of_kind uri_ref (reference ∷ others) ≡ true)
-- the command has an output, and writing it failed
IsErrorOfCommand command OutputFailed = (lines : List ℕ) × (output_of command ≡ Some lines)
IsErrorOfCommand command why = ⊥
