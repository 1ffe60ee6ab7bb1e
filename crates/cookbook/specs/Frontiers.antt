-- The URIs that were met, by their normal forms: RFC 3986, section 6.2.2.
use Rattle.std.specs.Prelude.{ℕ, Bool, List}
use Rattle.std.specs.BTreeSet.{contains_text}
use Rattle.fluent_uri.specs.Prelude.{default_rules, meaning_under, normal_text, uri}
use Rattle.cookbook.specs.declared.frontier.Frontier.{Frontier}

-- whether a frontier, which has the URIs that were met, has this normal form
abbrev pub has_met : Frontier → List ℕ → Bool
has_met f text = contains_text f.seen text

-- the normal form by which a caller's program keeps a URI that it met or that was visited, under
-- the default ports of the schemes (section 6.2.2)
abbrev pub normal_of : List ℕ → List ℕ
normal_of text = normal_text (meaning_under uri default_rules text)
