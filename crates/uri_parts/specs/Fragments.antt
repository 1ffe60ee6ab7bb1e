-- A text with another fragment: RFC 3986, sections 3.5 and 5.3.
use Rattle.std.specs.Prelude.{◌≡◌, ℕ, List, [], ◌++◌, codes, Option}
use Rattle.uri_pct.specs.Prelude.{TableSet}
use Rattle.uri_parts.specs.Components.{components, before_any, marked}
use Rattle.uri_parts.specs.Grammar.{Kind, IsOfKind}

-- made is the text with this fragment instead of its own, or with none: the other components are
-- the text's, and so is all that is before the first `#` (RFC 3986, section 3.5)
pub record IsWithFragment (text : List ℕ) (fragment : Option (List ℕ))
    (made : List ℕ) : Type 0 where
  pub parts : components made ≡ record (components text) { fragment = fragment }
  pub whole : made ≡ before_any (codes "#") text ++ marked (codes "#") fragment []

-- if the fragments of a kind are of this set, and the text is of the kind, then made is of it too
pub record StaysOfKind (set : TableSet) (text made : List ℕ) : Type 0 where
  pub of_kind : (kind : Kind) → set ≡ kind.fragment → IsOfKind kind text → IsOfKind kind made
