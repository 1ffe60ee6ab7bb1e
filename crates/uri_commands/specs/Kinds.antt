-- The four kinds by their names on a command line.
use Rattle.std.specs.Prelude.{ℕ, List, codes}
use Rattle.fluent_uri.specs.Prelude.{Kind, iri, iri_ref, meaning_under, normal_text, rules_of_set, uri, uri_ref}
use Rattle.fluent_uri.specs.declared.normalize.RuleSet.{RuleSet}
use Rattle.uri_commands.specs.declared.kinds.KindName.{KindName}
use Rattle.uri_commands.specs.declared.kinds.KindName.TheVariants.{Uri, UriRef, Iri, IriRef}

-- the kind that a name on the command line of a program stands for
abbrev pub kind_named : KindName → Kind
kind_named Uri = uri
kind_named UriRef = uri_ref
kind_named Iri = iri
kind_named IriRef = iri_ref

-- the word for a kind on the command line of a program
abbrev pub word_of_kind : KindName → List ℕ
word_of_kind Uri = codes "uri"
word_of_kind UriRef = codes "uri-ref"
word_of_kind Iri = codes "iri"
word_of_kind IriRef = codes "iri-ref"

-- the normal form of a text of the kind that a program writes, by a set of rules (section 6.2.3)
unfoldable pub normal_form_of : RuleSet → Kind → List ℕ → List ℕ
normal_form_of set kind text = normal_text (meaning_under kind (rules_of_set set) text)
