-- What a normaliser holds, returns and rejects: RFC 3986, sections 6.2.2 and 6.2.3.
use Rattle.std.specs.Prelude.{◌≡◌, ◌↔◌, ℕ, Bool, List}
use Rattle.uri_parts.specs.Prelude.{IsTextOf, Kind, components}
use Rattle.uri_ops.specs.Normal.{normal_text, path_underflows}
use Rattle.uri_ops.specs.SchemeRules.{Rules, meaning_under}
use Rattle.uri_ops.specs.declared.normalize.Normalizer.{Normalizer}

-- the setting of a normaliser: whether dot segments of a path may underflow
abbrev pub normalizer_allows_underflow : {S : Type 0} → Normalizer S → Bool
normalizer_allows_underflow n = n.allow_path_underflow

-- the setting of a normaliser: the rules of schemes that it applies
abbrev pub scheme_rules_of : {S : Type 0} → Normalizer S → S
scheme_rules_of n = n.rules

-- whether normalising the text underflows: it has a scheme, and a double dot of its path has
-- nothing left to remove
unfoldable pub text_underflows : List ℕ → Bool
text_underflows text = let p = components text in path_underflows p.scheme p.path

-- the text `normal` is the normal text of `source`, a text of the kind, under the rules
pub record HasNormalText (kind : Kind) (rules : Rules) (source normal : List ℕ) : Type 0 where
  pub text : normal ≡ normal_text (meaning_under kind rules source)

-- the text `normal` is the normal form of `source`, a text of the kind, under the rules: of the
-- kind, equivalent to it, and that of another text exactly if the two are equivalent
pub record IsNormalForm (kind : Kind) (rules : Rules) (source normal : List ℕ) : Type 0 where
  pub text : HasNormalText kind rules source normal
  pub of_kind : IsTextOf kind normal
  pub meaning : meaning_under kind rules normal ≡ meaning_under kind rules source
  pub same : (other : List ℕ) → IsTextOf kind other
      → (normal ≡ normal_text (meaning_under kind rules other)
      ↔ meaning_under kind rules source ≡ meaning_under kind rules other)
