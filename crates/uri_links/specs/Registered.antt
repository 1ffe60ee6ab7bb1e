-- The invariants of the texts of a register (RFC 3986, section 6.2).
use Rattle.std.specs.Prelude.{◌≡◌, ◌&&◌, ℕ, Bool, true, List, bytes_eq, map}
use Rattle.std.specs.List.{IsDistinct, list_all}
use Rattle.std.specs.Str.{is_utf8}
use Rattle.fluent_uri.specs.Grammar.{is_of_kind, uri}
use Rattle.fluent_uri.specs.Normal.{normal_text}
use Rattle.fluent_uri.specs.SchemeRules.{Rules, meaning_under}

-- whether a text may be in a register of links: it is valid UTF-8 and a URI
abbrev pub is_uri_text : List ℕ → Bool
is_uri_text text = is_utf8 text && is_of_kind uri text

-- each text of a register of links is a URI
abbrev pub AreUris : List (List ℕ) → Type 0
AreUris texts = list_all is_uri_text texts ≡ true

-- each text of a register of links is its own normal text, under the rules
abbrev pub AreNormal : Rules → List (List ℕ) → Type 0
AreNormal rules texts = map (λ text. normal_text (meaning_under uri rules text)) texts ≡ texts

-- no two texts of a register of links are equal
abbrev pub AreDistinct : List (List ℕ) → Type 0
AreDistinct texts = IsDistinct bytes_eq texts
