-- The commands that the words of a command line make, and the output of each.
use Rattle.std.specs.Prelude.{◌≡◌, ◌⊎◌, Bool, ℕ, ◌&&◌, List, [], ◌∷◌, ◌++◌, codes, map, String, string_bytes, Option, Some, None, option_map, if◌then◌else◌}
use Rattle.std.specs.Io.KnownBytes.{Appends}
use Rattle.std.specs.List.{list_all}
use Rattle.std.specs.Result.{result_ok}
use Rattle.fluent_uri.specs.Prelude.{Kind, components, iri, iri_ref, is_of_kind, resolution_of, uri, uri_ref}
use Rattle.fluent_uri.specs.declared.normalize.RuleSet.{RuleSet}
use Rattle.fluent_uri.specs.declared.normalize.RuleSet.TheVariants as Set
use Rattle.uri_commands.specs.Kinds.{kind_named, normal_form_of, word_of_kind}
use Rattle.uri_commands.specs.Lines.{component_lines}
use Rattle.uri_commands.specs.Links.{link_lines}
use Rattle.uri_mend.specs.Mending.{can_be_mended, mended_text}
use Rattle.uri_mend.specs.Trimming.{trimmed_link}
use Rattle.uri_commands.specs.declared.command.BaseName.{BaseName}
use Rattle.uri_commands.specs.declared.command.BaseName.TheVariants as bases
use Rattle.uri_commands.specs.declared.kinds.KindName.{KindName}

-- the kind of a base, by its name on the command line of `uritool`
abbrev pub kind_of_base : BaseName → Kind
kind_of_base bases.Uri = uri
kind_of_base bases.Iri = iri

-- the kind of the references to a base, by the base's name on the command line of `uritool`
abbrev pub kind_of_references : BaseName → Kind
kind_of_references bases.Uri = uri_ref
kind_of_references bases.Iri = iri_ref

-- the word for a kind of base on the command line of `uritool`
abbrev pub word_of_base : BaseName → List ℕ
word_of_base bases.Uri = codes "uri"
word_of_base bases.Iri = codes "iri"

-- A command of `uritool`, with its kind and its texts in the order of the command line.
-- They are `parse KIND TEXT`, `normalize KIND TEXT`, `mend KIND TEXT`, `resolve uri|iri BASE REF`,
-- and `links BASE REF...` with its first reference and the others. The rules of schemes are the
-- standard ones if `--scheme-rules` is before the command, and else default ports alone.
pub data Command : Type 0 where
  Parse : KindName → List ℕ → Command
  Normalize : RuleSet → KindName → List ℕ → Command
  Mend : KindName → List ℕ → Command
  Resolve : BaseName → List ℕ → List ℕ → Command
  Links : RuleSet → List ℕ → List ℕ → List (List ℕ) → Command

-- the words of a command line of `uritool`, after the option that asks for these rules of schemes:
-- `--scheme-rules` for the standard ones
abbrev pub with_option : RuleSet → List (List ℕ) → List (List ℕ)
with_option Set.DefaultPorts words = words
with_option Set.StandardRules words = codes "--scheme-rules" ∷ words

-- the words of the command line of `uritool` for a command
abbrev pub words_of : Command → List (List ℕ)
words_of (Parse name text) = codes "parse" ∷ word_of_kind name ∷ text ∷ []
words_of (Normalize set name text) =
    with_option set (codes "normalize" ∷ word_of_kind name ∷ text ∷ [])
words_of (Mend name text) = codes "mend" ∷ word_of_kind name ∷ text ∷ []
words_of (Resolve name base reference) = codes "resolve" ∷ word_of_base name ∷ base ∷ reference ∷ []
words_of (Links set base reference others) =
    with_option set (codes "links" ∷ base ∷ reference ∷ others)

-- the target of a base and a reference, in this order, if there is one (section 5.2)
unfoldable pub target_text : List ℕ → List ℕ → Option (List ℕ)
target_text base reference = result_ok (resolution_of (components base) (components reference))

-- whether each of the texts is of the kind, as the references of `uritool links`
abbrev pub are_of_kind : Kind → List (List ℕ) → Bool
are_of_kind kind texts = list_all (is_of_kind kind) texts

-- what `uritool` prints for a command, or `None` if it fails
abbrev pub output_of : Command → Option (List ℕ)
output_of (Parse name text) =
    if is_of_kind (kind_named name) text then Some (component_lines (components text)) else None
output_of (Normalize set name text) =
    if is_of_kind (kind_named name) text
    then Some (normal_form_of set (kind_named name) text ++ codes "\n")
    else None
output_of (Mend name text) =
    if can_be_mended (kind_named name) (trimmed_link text)
    then Some (mended_text (kind_named name) (trimmed_link text) ++ codes "\n") else None
output_of (Resolve name base reference) =
    if is_of_kind (kind_of_base name) base && is_of_kind (kind_of_references name) reference
    then option_map (λ target. target ++ codes "\n") (target_text base reference) else None
output_of (Links set base reference others) =
    if is_of_kind uri base && are_of_kind uri_ref (reference ∷ others)
    then Some (link_lines set base (reference ∷ others)) else None

-- the bytes of the words of a command line of `uritool`
abbrev pub texts : {Z : Type 0} → List (String Z) → List (List ℕ)
texts words = map string_bytes words

-- the words of a command line are those of a command of `uritool`
abbrev pub IsCommand : List (List ℕ) → Type 0
IsCommand words = (command : Command) × (words ≡ words_of command)

-- the name is that of a command of `uritool` on one text
abbrev pub IsNameOfTextCommand : List ℕ → Type 0
IsNameOfTextCommand name =
    (name ≡ codes "parse") ⊎ ((name ≡ codes "normalize") ⊎ (name ≡ codes "mend"))

-- the words of a command line are those of a command of `uritool` on one text
abbrev pub AreWordsOfTextCommand : List (List ℕ) → Type 0
AreWordsOfTextCommand words = (name : List ℕ) × (kind : KindName) × (text : List ℕ)
    × (words ≡ name ∷ word_of_kind kind ∷ text ∷ []) × IsNameOfTextCommand name

-- the words of a command line are those of the command `resolve` of `uritool`
abbrev pub AreWordsOfResolve : List (List ℕ) → Type 0
AreWordsOfResolve words = (name : BaseName) × (base : List ℕ) × (reference : List ℕ)
    × (words ≡ words_of (Resolve name base reference))

-- the words of a command line are those of the command `links` of `uritool`, without the option
abbrev pub AreWordsOfLinks : List (List ℕ) → Type 0
AreWordsOfLinks words =
    (base : List ℕ) × (reference : List ℕ) × (others : List (List ℕ))
    × (words ≡ words_of (Links Set.DefaultPorts base reference others))

-- the words of a command line are those of the command `normalize` of `uritool`, with the option
abbrev pub AreWordsOfRuledNormalize : List (List ℕ) → Type 0
AreWordsOfRuledNormalize words = (name : KindName) × (text : List ℕ)
    × (words ≡ words_of (Normalize Set.StandardRules name text))

-- the words of a command line are those of the command `links` of `uritool`, with the option
abbrev pub AreWordsOfRuledLinks : List (List ℕ) → Type 0
AreWordsOfRuledLinks words =
    (base : List ℕ) × (reference : List ℕ) × (others : List (List ℕ))
    × (words ≡ words_of (Links Set.StandardRules base reference others))

-- the bytes of a writer, before and after, grow by the output of the command of `uritool`, which
-- has one
abbrev pub Prints : Option (List ℕ) → Option (List ℕ) → Command → Type 0
Prints old new command = (lines : List ℕ) × (output_of command ≡ Some lines) × Appends old new lines
