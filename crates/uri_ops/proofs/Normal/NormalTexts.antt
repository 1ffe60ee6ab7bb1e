-- The normal text of a meaning is a text of the kind and has that meaning.
use Rattle.uri_ops.proofs.Common.{◌≡◌, ℕ, true, List, [], ◌++◌, refl, ap, ◌∙◌, codes, Option, Some, None, IfSome, IsUtf8, IsUtf8-append, IsUtf8-nil, Components, marked, components, recompose, Kind, is_scheme, is_authority, components_meet_rules, IsTextOf, components-are-split-of-text, only-split-is-components, HasComponentSets, PortFunction, components_meaning, meaning_of, normal_text, IfSome-weaken}
use Rattle.uri_ops.proofs.Meanings.AllowedParts.{is_set_text, set-text-is-utf8}
use Rattle.uri_ops.proofs.Meanings.AsciiCharacters.{ascii-bytes-are-utf8}
use Rattle.uri_ops.proofs.Meanings.TextParts.{ArePartsOfKind, components-of-utf8-are-utf8, grammar-gives-components-of-kind, components-of-kind-meet-grammar}
use Rattle.uri_ops.proofs.Normal.NormalComponents.{components_of_normal_text, normal-components-are-of-kind, normal-components-are-split, normal-components-have-same-meaning}
use Rattle.uri_ops.proofs.Meanings.AuthorityMeanings.{normal-authorities-are-authorities}

-- normal texts: a component in UTF-8, or none, with its delimiters (before, suffix) is UTF-8
delimited-utf8-component-is-utf8 : (before suffix : List ℕ) (o : Option (List ℕ))
    → IsUtf8 before → IsUtf8 suffix → IfSome o IsUtf8 → IsUtf8 (marked before o suffix)
delimited-utf8-component-is-utf8 before suffix None u v h = IsUtf8-nil
delimited-utf8-component-is-utf8 before suffix (Some x) u v h =
    IsUtf8-append (before ++ x) suffix (IsUtf8-append before x u h) v

-- normal texts: the text of components of a kind is UTF-8
pub recomposed-components-are-utf8 : (kind : Kind) (p : Components) → ArePartsOfKind kind p
    → IsUtf8 (recompose p)
recomposed-components-are-utf8 kind p parts =
    IsUtf8-append (marked [] p.scheme (codes ":")) _ (delimited-utf8-component-is-utf8 []
    (codes ":") p.scheme IsUtf8-nil (ascii-bytes-are-utf8 (codes ":") refl) (IfSome-weaken p.scheme
    (λ s. IsUtf8 s × (is_scheme s ≡ true)) IsUtf8 (λ s h. h.0) parts.scheme))
    (IsUtf8-append (marked (codes "//") p.authority []) _ (delimited-utf8-component-is-utf8
    (codes "//") [] p.authority (ascii-bytes-are-utf8 (codes "//") refl) IsUtf8-nil (IfSome-weaken
    p.authority (λ a. IsUtf8 a × (is_authority kind a ≡ true)) IsUtf8 (λ a h. h.0) parts.authority))
    (IsUtf8-append p.path _ (set-text-is-utf8 kind.path p.path parts.path)
    (IsUtf8-append (marked (codes "?") p.query []) (marked (codes "#") p.fragment [])
    (delimited-utf8-component-is-utf8 (codes "?") [] p.query (ascii-bytes-are-utf8 (codes "?") refl)
    IsUtf8-nil (IfSome-weaken p.query (λ q. is_set_text kind.query q ≡ true) IsUtf8
    (λ q h. set-text-is-utf8 kind.query q h) parts.query))
    (delimited-utf8-component-is-utf8 (codes "#") [] p.fragment (ascii-bytes-are-utf8 (codes "#")
    refl) IsUtf8-nil (IfSome-weaken p.fragment (λ f. is_set_text kind.fragment f ≡ true) IsUtf8
    (λ f h. set-text-is-utf8 kind.fragment f h) parts.fragment)))))

-- normal texts: the components of a text of a kind, each in UTF-8, meet their rules
pub text-has-parts-of-kind : (kind : Kind) (text : List ℕ) → IsTextOf kind text
    → ArePartsOfKind kind (components text)
text-has-parts-of-kind kind text w = grammar-gives-components-of-kind kind (components text)
    (components-of-utf8-are-utf8 text w.utf8) w.grammar

module _ (kind : Kind) (ports : PortFunction) (sets : HasComponentSets kind) where
  -- the components of the normal text of a text
  pub components-of-normal_text : (text : List ℕ) → IsTextOf kind text
      → components (normal_text (meaning_of kind ports text)) ≡ components_of_normal_text kind sets
      (normal-authorities-are-authorities kind sets) ports (components text)
  components-of-normal_text text w = only-split-is-components _ _ (normal-components-are-split kind
      sets (normal-authorities-are-authorities kind sets) ports text
      (components text) (components-are-split-of-text text) (text-has-parts-of-kind kind text w))

  pub normal-text-is-text-of-kind : (text : List ℕ) → IsTextOf kind text
      → IsTextOf kind (normal_text (meaning_of kind ports text))
  normal-text-is-text-of-kind text w =
      let parts = normal-components-are-of-kind kind sets
      (normal-authorities-are-authorities kind sets) ports (components text)
      (text-has-parts-of-kind kind text w) in
      record {
        utf8 = recomposed-components-are-utf8 kind _ parts;
        grammar = ap (components_meet_rules kind) (components-of-normal_text text w)
            ∙ components-of-kind-meet-grammar kind _ parts;
      }

  pub meaning_of-normal_text : (text : List ℕ) → IsTextOf kind text → meaning_of kind ports
      (normal_text (meaning_of kind ports text)) ≡ meaning_of kind ports text
  meaning_of-normal_text text w =
      ap (components_meaning kind ports) (components-of-normal_text text w)
      ∙ normal-components-have-same-meaning kind sets (normal-authorities-are-authorities kind sets)
      ports (components text) (text-has-parts-of-kind kind text w)
