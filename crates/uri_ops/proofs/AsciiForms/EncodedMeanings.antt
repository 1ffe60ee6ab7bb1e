-- A text without characters past ASCII is of the kind of URIs that goes with its kind. It is
-- equivalent to the text that it was made from.
use Rattle.uri_ops.proofs.Common.{◌≡◌, ℕ, true, false, eqb, ltb, not, List, refl, ap, ◌∙◌, ◌&&◌, ◌||◌, option_map, arith, codes, Option, Some, None, IfSome, is_some, list_all, list_any, IsUtf8, decode_unreserved, AreAscii-by-test, Components, before_any, Kind, is_scheme, is_authority, has_colon_in_first_segment, components_meet_rules, IsTextOf, utf8_before_marks, HasComponentSets, PortFunction, authority_meaning, dotless_path, components_meaning, meaning_of, Rules, meaning_under, under_rules, encode_past_ascii, ascii_kind, common_steps}
use Rattle.uri_ops.proofs.Paths.PathCharacters.{lacked-delimiters-fail-test, test-of-delimiters-gives-lacks}
use Rattle.uri_ops.proofs.Meanings.Lacking.{lacks_any-gives-lacks, lacks-gives-lacks_any}
use Rattle.uri_ops.proofs.Meanings.AllowedParts.{is_set_text, set-text-is-utf8}
use Rattle.uri_ops.proofs.Meanings.AsciiCharacters.{valid_ascii_text}
use Rattle.uri_ops.proofs.Paths.PathMeanings.{path-without-dots-is-set-text}
use Rattle.uri_ops.proofs.Meanings.TextParts.{ArePartsOfKind, components-of-kind-meet-grammar}
use Rattle.uri_ops.proofs.Normal.NormalTexts.{text-has-parts-of-kind}
use Rattle.uri_ops.proofs.AsciiForms.EncodedTokens.{encoded-text-is-utf8}
use Rattle.uri_ops.proofs.AsciiForms.EncodedDecodings.{encoded-part-is-valid-for-ascii_set, decode_unreserved-of-encoded-text}
use Rattle.uri_ops.proofs.AsciiForms.EncodedPaths.{ascii-text-is-its-own-encoding, encoding-keeps-lacked-delimiters, encoding-and-cutting-swap, dotless_if_absolute-and-encoding-swap}
use Rattle.uri_ops.proofs.AsciiForms.EncodedComponents.{encoded_components, components-of-encoded-text-are-encoded}
use Rattle.uri_ops.proofs.AsciiForms.EncodedAuthorities.{text-passing-ascii-test-is-ascii, decode_unreserved-encoded_option, encoded-authority-is-of-ascii_kind, encoding-keeps-authority-meaning}

-- IRIs as URIs: a scheme is ASCII
pub schemes-are-ascii : (s : List ℕ) → IsUtf8 s → is_scheme s ≡ true → list_all (λ c. ltb c 128) s
    ≡ true
schemes-are-ascii s u e = grind (arith, text-passing-ascii-test-is-ascii, valid_ascii_text)

-- IRIs as URIs: encoding characters past ASCII leaves a scheme
scheme-is-unchanged-when-encoded : (s : List ℕ) → IsUtf8 s → is_scheme s ≡ true
    → encode_past_ascii s ≡ s
scheme-is-unchanged-when-encoded s u e = ascii-text-is-its-own-encoding s (schemes-are-ascii s u e)

-- IRIs as URIs: encoding characters past ASCII leaves the scheme as it is
pub schemes-are-unchanged-when-encoded : (o : Option (List ℕ))
    → IfSome o (λ s. IsUtf8 s × (is_scheme s ≡ true)) → option_map encode_past_ascii o ≡ o
schemes-are-unchanged-when-encoded None h = refl
schemes-are-unchanged-when-encoded (Some s) h = ap Some (scheme-is-unchanged-when-encoded s h.0 h.1)

encoding-adds-no-colon-first : (path : List ℕ) → IsUtf8 path → has_colon_in_first_segment path
    ≡ false → has_colon_in_first_segment (encode_past_ascii path) ≡ false
encoding-adds-no-colon-first path u e =
    let v = utf8_before_marks (codes "/") path (AreAscii-by-test (codes "/") refl) u in
    ap (list_any (λ c. eqb c 58)) (encoding-and-cutting-swap (codes "/") refl path u v).0
    ∙ no_colon (before_any (codes "/") path) v e
  where
    no_colon : (s : List ℕ) → IsUtf8 s → list_any (λ c. eqb c 58) s ≡ false
        → list_any (λ c. eqb c 58) (encode_past_ascii s) ≡ false
    no_colon s v f = lacks_any-gives-lacks 58 (encode_past_ascii s) (lacked-delimiters-fail-test
        (codes ":") (encode_past_ascii s) (encoding-keeps-lacked-delimiters (codes ":") refl s v
        (test-of-delimiters-gives-lacks (codes ":") s (lacks-gives-lacks_any 58 s f))))

module _ (kind : Kind) (sets : HasComponentSets kind) where
  encoded-authority-if-some-is-of-ascii_kind : (o : Option (List ℕ)) → IfSome o (λ a. IsUtf8 a
      × (is_authority kind a ≡ true)) → IfSome (option_map encode_past_ascii o) (λ a. IsUtf8 a
      × (is_authority (ascii_kind kind) a ≡ true))
  encoded-authority-if-some-is-of-ascii_kind o h =
      grind (arith, common_steps, encoded-text-is-utf8, encoded-authority-is-of-ascii_kind)

  encoding-keeps-scheme-or-colon-rule : (scheme authority : Option (List ℕ)) (path : List ℕ)
      → is_set_text kind.path path ≡ true → (is_some scheme
      || (not kind.needs_scheme && (is_some authority || not (has_colon_in_first_segment path))))
      ≡ true → (is_some (option_map encode_past_ascii scheme)
      || (not kind.needs_scheme && (is_some (option_map encode_past_ascii authority)
      || not (has_colon_in_first_segment (encode_past_ascii path))))) ≡ true
  encoding-keeps-scheme-or-colon-rule scheme authority path part h =
      grind (arith, common_steps, encoding-adds-no-colon-first, set-text-is-utf8)

  encoded-components-are-of-ascii_kind : (p : Components) → ArePartsOfKind kind p
      → ArePartsOfKind (ascii_kind kind) (encoded_components p)
  encoded-components-are-of-ascii_kind p parts =
      grind (
        arith,
        schemes-are-unchanged-when-encoded,
        encoded-authority-if-some-is-of-ascii_kind,
        encoded-part-is-valid-for-ascii_set,
        encoding-keeps-scheme-or-colon-rule,
      )

  pub encoded-text-is-of-ascii_kind : (text : List ℕ) → IsTextOf kind text
      → IsTextOf (ascii_kind kind) (encode_past_ascii text)
  encoded-text-is-of-ascii_kind text w = record {
    utf8 = encoded-text-is-utf8 _ w.utf8;
    grammar = ap (components_meet_rules (ascii_kind kind))
        (components-of-encoded-text-are-encoded _ w.utf8) ∙ components-of-kind-meet-grammar _ _
        (encoded-components-are-of-ascii_kind _ (text-has-parts-of-kind _ _ w));
  }

  -- the meaning
  encoding-keeps-optional-authority-meaning : (default : Option ℕ) (o : Option (List ℕ))
      → IfSome o (λ a. IsUtf8 a × (is_authority kind a ≡ true))
      → option_map (authority_meaning kind default) (option_map encode_past_ascii o)
      ≡ option_map (authority_meaning kind default) o
  encoding-keeps-optional-authority-meaning default o h =
      grind (arith, common_steps, encoding-keeps-authority-meaning)

  encoding-keeps-path-meaning : (scheme : Option (List ℕ)) (path : List ℕ)
      → is_set_text kind.path path ≡ true → decode_unreserved kind.path (dotless_path scheme
      (encode_past_ascii path)) ≡ decode_unreserved kind.path (dotless_path scheme path)
  encoding-keeps-path-meaning None path part = decode_unreserved-of-encoded-text kind.path path part
  encoding-keeps-path-meaning (Some s) path part =
      grind (
        arith,
        dotless_if_absolute-and-encoding-swap,
        set-text-is-utf8,
        decode_unreserved-of-encoded-text,
        path-without-dots-is-set-text,
      )

  encoding-keeps-components_meaning : (ports : PortFunction) (p : Components)
      → ArePartsOfKind kind p
      → components_meaning kind ports (encoded_components p) ≡ components_meaning kind ports p
  encoding-keeps-components_meaning ports p parts =
      grind (
        arith,
        schemes-are-unchanged-when-encoded,
        encoding-keeps-optional-authority-meaning,
        encoding-keeps-path-meaning,
        decode_unreserved-encoded_option,
      )

  pub encoding-keeps-meaning_of-text : (ports : PortFunction) (text : List ℕ) → IsTextOf kind text
      → meaning_of kind ports (encode_past_ascii text) ≡ meaning_of kind ports text
  encoding-keeps-meaning_of-text ports text w =
      ap (components_meaning kind ports) (components-of-encoded-text-are-encoded _ w.utf8)
      ∙ encoding-keeps-components_meaning _ _ (text-has-parts-of-kind _ _ w)

  -- and under any rules of schemes
  pub encoding-keeps-meaning_under-text : (rules : Rules) (text : List ℕ) → IsTextOf kind text
      → meaning_under kind rules (encode_past_ascii text) ≡ meaning_under kind rules text
  encoding-keeps-meaning_under-text rules text w =
      ap (under_rules rules) (encoding-keeps-meaning_of-text rules.ports text w)
