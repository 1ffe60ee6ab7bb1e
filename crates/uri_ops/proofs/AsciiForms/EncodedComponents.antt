-- The components of a text without characters past ASCII are those of the text, without them.
use Rattle.uri_ops.proofs.Common.{◌≡◌, ℕ, ◌<◌, Bool, true, false, not, ltb, List, length, refl, sym, ap, ◌∙◌, ◌&&◌, option_map, arith, codes, Option, Some, None, IfSome, IfNone, list_all, IsUtf8, nat_tests, Components, IsSplitOf, Lacks, IsAbemptyPath, marked, starts, has_scheme, from_any, components, recompose, components-are-split-of-text, only-split-is-components, utf8_before_marks, encode_past_ascii, common_steps}
use Rattle.uri_ops.proofs.Meanings.TextParts.{AreUtf8, scheme-ends-are-ascii, components-of-utf8-are-utf8}
use Rattle.uri_ops.proofs.AsciiForms.EncodedPaths.{encoding-of-append-is-append, encoding-of-nil-is-nil, ascii-text-is-its-own-encoding, encoding-keeps-lacked-delimiters, encoding-keeps-leading-delimiter, encoding-keeps-emptiness, encoding-keeps-two-slashes, encoding-and-cutting-swap}
use Rattle.uri_ops.proofs.Paths.DotRuns.{not-empty-has-length}
use Rattle.uri_ops.proofs.Paths.Piecewise.{text-with-bytes-is-not-empty}

-- IRIs as URIs: the components, each with its characters past ASCII percent-encoded
abbrev pub encoded_components : Components → Components
encoded_components p = record {
  scheme = option_map encode_past_ascii p.scheme;
  authority = option_map encode_past_ascii p.authority;
  path = encode_past_ascii p.path;
  query = option_map encode_past_ascii p.query;
  fragment = option_map encode_past_ascii p.fragment;
}

-- IRIs as URIs: encoding characters past ASCII in a component
-- leaves the ASCII delimiters before and after it
pub encoding-keeps-delimiters : (before suffix : List ℕ) (o : Option (List ℕ))
    → list_all (λ c. ltb c 128) before ≡ true → list_all (λ c. ltb c 128) suffix ≡ true
    → encode_past_ascii (marked before o suffix)
    ≡ marked before (option_map encode_past_ascii o) suffix
encoding-keeps-delimiters before suffix None e f = encoding-of-nil-is-nil
encoding-keeps-delimiters before suffix (Some x) e f =
    grind (arith, nat_tests, encoding-of-append-is-append, ascii-text-is-its-own-encoding)

-- IRIs as URIs: encoding characters past ASCII in a recomposed text encodes them in each component
pub encoding-and-recomposing-swap : (p : Components)
    → encode_past_ascii (recompose p) ≡ recompose (encoded_components p)
encoding-and-recomposing-swap p =
    grind (arith, nat_tests, encoding-of-append-is-append, encoding-keeps-delimiters)

encoding-keeps-has_scheme : (text : List ℕ) → IsUtf8 text
    → has_scheme (encode_past_ascii text) ≡ has_scheme text
encoding-keeps-has_scheme text u =
    let from = (encoding-and-cutting-swap (codes ":/?#") refl text u
    (utf8_before_marks (codes ":/?#") text scheme-ends-are-ascii u)).1 in
    ap (λ t. starts 58 t && not (starts 58 (encode_past_ascii text))) from
    ∙ ap (λ t. t && not (starts 58 (encode_past_ascii text))) (encoding-keeps-leading-delimiter 58
    refl (from_any (codes ":/?#") text)) ∙ ap (λ t. starts 58 (from_any (codes ":/?#") text)
    && not t) (encoding-keeps-leading-delimiter 58 refl text)

-- IRIs as URIs: an encoded scheme, if there is one, is not empty and has no delimiter that ends it
encoded-scheme-lacks-its-ends : (o : Option (List ℕ)) → IfSome o IsUtf8
    → IfSome o (λ s. (0 < length s) × Lacks (codes ":/?#") s)
    → IfSome (option_map encode_past_ascii o) (λ s. (0 < length s) × Lacks (codes ":/?#") s)
encoded-scheme-lacks-its-ends None u h = tt
encoded-scheme-lacks-its-ends (Some s) u h = (
  not-empty-has-length _ (encoding-keeps-emptiness s ∙ text-with-bytes-is-not-empty s h.0),
  encoding-keeps-lacked-delimiters (codes ":/?#") refl s u h.1,
)

encoded-abempty-path-is-abempty : (path : List ℕ) → IsAbemptyPath path
    → IsAbemptyPath (encode_past_ascii path)
encoded-abempty-path-is-abempty path h =
    grind (arith, encoding-of-nil-is-nil, encoding-keeps-leading-delimiter)

-- IRIs as URIs: an encoded authority, if there is one, has no delimiter that ends it, and the path
-- after it is empty or begins with `/`
encoded-authority-lacks-its-ends : (o : Option (List ℕ)) (path : List ℕ) → IfSome o IsUtf8
    → IfSome o (λ a. Lacks (codes "/?#") a × IsAbemptyPath path)
    → IfSome (option_map encode_past_ascii o) (λ a. Lacks (codes "/?#") a
    × IsAbemptyPath (encode_past_ascii path))
encoded-authority-lacks-its-ends None path u h = tt
encoded-authority-lacks-its-ends (Some a) path u h = (
  encoding-keeps-lacked-delimiters (codes "/?#") refl a u h.0,
  encoded-abempty-path-is-abempty path h.1,
)

encoded-query-lacks-its-end : (o : Option (List ℕ)) → IfSome o IsUtf8 → IfSome o (λ q. Lacks
    (codes "#") q) → IfSome (option_map encode_past_ascii o) (λ q. Lacks (codes "#") q)
encoded-query-lacks-its-end None u h = tt
encoded-query-lacks-its-end (Some q) u h = encoding-keeps-lacked-delimiters (codes "#") refl q u h

-- IRIs as URIs: a test that is false for an absent component is so when the text is encoded;
-- x, y: the test before and after
absent-component-is-absent-when-encoded : (o : Option (List ℕ)) (x y : Bool)
    → y ≡ x → IfNone o (x ≡ false) → IfNone (option_map encode_past_ascii o) (y ≡ false)
absent-component-is-absent-when-encoded o x y e h = grind (arith, common_steps, h)

encoded-text-splits-into-encoded-components : (text : List ℕ) (p : Components) → IsUtf8 text
    → AreUtf8 p → IsSplitOf text p → IsSplitOf (encode_past_ascii text) (encoded_components p)
encoded-text-splits-into-encoded-components text p u v split = record {
  whole = sym (encoding-and-recomposing-swap p) ∙ ap encode_past_ascii split.whole;
  scheme = encoded-scheme-lacks-its-ends _ v.scheme split.scheme;
  authority = encoded-authority-lacks-its-ends _ _ v.authority split.authority;
  path = encoding-keeps-lacked-delimiters (codes "?#") refl p.path v.path split.path;
  query = encoded-query-lacks-its-end _ v.query split.query;
  no_scheme = absent-component-is-absent-when-encoded _ _ _ (encoding-keeps-has_scheme _ u)
      split.no_scheme;
  no_authority = absent-component-is-absent-when-encoded _ _ _ (encoding-keeps-two-slashes _)
      split.no_authority;
}

pub components-of-encoded-text-are-encoded : (text : List ℕ) → IsUtf8 text
    → components (encode_past_ascii text) ≡ encoded_components (components text)
components-of-encoded-text-are-encoded text u = only-split-is-components (encode_past_ascii text)
    (encoded_components (components text)) (encoded-text-splits-into-encoded-components text
    (components text) u (components-of-utf8-are-utf8 text u) (components-are-split-of-text text))
