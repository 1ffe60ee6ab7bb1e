-- Mending percent-encodes no more than it must: each other reference that percent-encodes
-- characters of the text percent-encodes those that mending does. And mended components decode to
-- what they did.
use Rattle.uri_mend.proofs.Common.{arith, ◌≡◌, ℕ, true, List, [], ◌∷◌, ◌++◌, map, refl, sym, ap, subst, ◌∙◌, Option, IfSome, option_map, list_all, flat_map, IsUtf8, and_parts, list_all-append, TableSet, LacksPercent, Token, Char, Octet, allows_token, tokens, is_valid_for, components, Kind, IsTextOf, HasComponentSets, components-of-utf8-are-utf8, grammar-gives-components-of-kind, mend_token, mended, link_components, mended_components}
use Rattle.uri_ops.proofs.Offered.{is_set_text, set-text-is-valid}
use Rattle.uri_mend.specs.Encodings.{decoded, DecodeAlike, IsTokenOrItsOctets, AreEncodedAs, IsPartEncodedAs, AreComponentsEncodedAs}
use Rattle.uri_mend.proofs.MendedTokens.{tokens-of-mended-text, mended-text-decodes-alike}
use Rattle.uri_mend.proofs.MendedReferences.{link-components-are-mendable}

mended-token-is-token-or-its-octets : (set : TableSet) (t : Token)
    → IsTokenOrItsOctets t (mend_token set t)
mended-token-is-token-or-its-octets set t = grind arith

mended-tokens-are-encoded : (set : TableSet) (ts : List Token)
    → AreEncodedAs ts (flat_map (mend_token set) ts)
unfolding AreEncodedAs
mended-tokens-are-encoded set [] = refl
mended-tokens-are-encoded set (t ∷ ts) = (
  mend_token set t,
  (
    flat_map (mend_token set) ts,
    (refl, mended-token-is-token-or-its-octets set t, mended-tokens-are-encoded set ts),
  ),
)

octets-before-encoded-tokens : (bytes : List ℕ) (ts us : List Token) → AreEncodedAs ts us
    → AreEncodedAs (map Octet bytes ++ ts) (map Octet bytes ++ us)
unfolding AreEncodedAs
octets-before-encoded-tokens [] ts us h = h
octets-before-encoded-tokens (b ∷ bytes) ts us h =
    let rest = octets-before-encoded-tokens bytes ts us h in
    (Octet b ∷ [], (map Octet bytes ++ us, (refl, refl, rest)))

octet-before-encoded-tokens : (value : ℕ) (ts us first : List Token) → first ≡ Octet value ∷ []
    → AreEncodedAs ts us → AreEncodedAs (Octet value ∷ ts) (first ++ us)
unfolding AreEncodedAs
octet-before-encoded-tokens value ts us first e h = (first, (us, (refl, e, h)))

allowed-char-before-encoded-tokens : (c : ℕ) (ts us first : List Token)
    → IsTokenOrItsOctets (Char c) first → AreEncodedAs ts us
    → AreEncodedAs (Char c ∷ ts) (first ++ us)
unfolding AreEncodedAs
allowed-char-before-encoded-tokens c ts us first e h = (first, (us, (refl, e, h)))

one-more-token-is-encoded : (set : TableSet) (t : Token) (first ts us : List Token)
    → IsTokenOrItsOctets t first → list_all (allows_token set) first ≡ true → AreEncodedAs ts us
    → AreEncodedAs (mend_token set t ++ ts) (first ++ us)
one-more-token-is-encoded set (Octet value) first ts us h e rest =
    octet-before-encoded-tokens value ts us first h rest
one-more-token-is-encoded set (Char c) first ts us h e rest =
    grind (arith, allowed-char-before-encoded-tokens, octets-before-encoded-tokens)

allowed-encoding-encodes-mended-tokens : (set : TableSet) (ts us : List Token) → AreEncodedAs ts us
    → list_all (allows_token set) us ≡ true → AreEncodedAs (flat_map (mend_token set) ts) us
unfolding AreEncodedAs
allowed-encoding-encodes-mended-tokens set [] us h e = h
allowed-encoding-encodes-mended-tokens set (t ∷ ts) us h e =
    let first = h.0 in
    let rest = h.1.0 in
    let all = and_parts (list_all (allows_token set) first) (list_all (allows_token set) rest)
    (sym (list_all-append (allows_token set) first rest)
    ∙ sym (ap (list_all (allows_token set)) h.1.1.0) ∙ e) in
    subst (AreEncodedAs (flat_map (mend_token set) (t ∷ ts))) (sym h.1.1.0)
    (one-more-token-is-encoded set t first (flat_map (mend_token set) ts) rest h.1.1.1 all.0
    (allowed-encoding-encodes-mended-tokens set ts rest h.1.1.2 all.1))

mended-text-is-encoded : (set : TableSet) (text : List ℕ) → LacksPercent set → IsUtf8 text
    → AreEncodedAs (tokens text) (tokens (mended set text))
mended-text-is-encoded set text lacks u = subst (AreEncodedAs (tokens text))
    (sym (tokens-of-mended-text set text lacks u)) (mended-tokens-are-encoded set (tokens text))

valid-encoding-encodes-mended-text : (set : TableSet) (text other : List ℕ) → LacksPercent set
    → IsUtf8 text → is_valid_for set other ≡ true → AreEncodedAs (tokens text) (tokens other)
    → AreEncodedAs (tokens (mended set text)) (tokens other)
unfolding is_valid_for
valid-encoding-encodes-mended-text set text other lacks u valid h =
    subst (λ ts. AreEncodedAs ts (tokens other)) (sym (tokens-of-mended-text set text lacks u))
    (allowed-encoding-encodes-mended-tokens set (tokens text) (tokens other) h valid)

-- fewest encodings: the same of a component that may be absent
mended-part-is-encoded : (set : TableSet) (o : Option (List ℕ)) → LacksPercent set
    → IfSome o IsUtf8 → IsPartEncodedAs o (option_map (mended set) o)
mended-part-is-encoded set o lacks u = grind (arith, mended-text-is-encoded)

-- fewest encodings: the same of an encoding of a component that may be absent
valid-part-encodes-mended-part : (set : TableSet) (o other : Option (List ℕ)) → LacksPercent set
    → IfSome o IsUtf8 → IfSome other (λ x. is_set_text set x ≡ true) → IsPartEncodedAs o other
    → IsPartEncodedAs (option_map (mended set) o) other
valid-part-encodes-mended-part set o other lacks u valid h =
    grind (arith, valid-encoding-encodes-mended-text, set-text-is-valid)

-- fewest encodings: a component that may be absent decodes alike
mended-part-decodes-alike : (set : TableSet) (o : Option (List ℕ)) → LacksPercent set
    → IfSome o IsUtf8 → option_map decoded (option_map (mended set) o) ≡ option_map decoded o
mended-part-decodes-alike set o lacks u = grind (arith, mended-text-decodes-alike)

module _ (kind : Kind) (sets : HasComponentSets kind) (text : List ℕ) (u : IsUtf8 text) where
  -- mended components decode to what those of the text do
  pub mended-components-decode-alike : DecodeAlike
      (mended_components kind (link_components text)) (link_components text)
  mended-components-decode-alike =
      let p = link_components text in
      let parts = (link-components-are-mendable text u).utf8 in record {
        path = mended-text-decodes-alike kind.path p.path sets.path.percent parts.path;
        query = mended-part-decodes-alike kind.query p.query sets.query.percent parts.query;
        fragment = mended-part-decodes-alike kind.fragment p.fragment sets.fragment.percent
            parts.fragment;
      }

  -- mended components are those of the text with some characters percent-encoded
  pub mended-components-are-encoded : AreComponentsEncodedAs (link_components text)
      (mended_components kind (link_components text))
  mended-components-are-encoded =
      let p = link_components text in
      let parts = (link-components-are-mendable text u).utf8 in record {
        scheme = refl;
        authority = refl;
        path = mended-text-is-encoded kind.path p.path sets.path.percent parts.path;
        query = mended-part-is-encoded kind.query p.query sets.query.percent parts.query;
        fragment = mended-part-is-encoded kind.fragment p.fragment sets.fragment.percent
            parts.fragment;
      }

  -- each text of the kind whose components are those of the text with some characters
  -- percent-encoded has the mended components with some characters percent-encoded
  pub mended-components-encode-fewest : (other : List ℕ) → IsTextOf kind other
      → AreComponentsEncodedAs (link_components text) (components other)
      → AreComponentsEncodedAs (mended_components kind (link_components text)) (components other)
  mended-components-encode-fewest other is h =
      let p = link_components text in
      let q = components other in
      let parts = (link-components-are-mendable text u).utf8 in
      let valid = grammar-gives-components-of-kind kind q
      (components-of-utf8-are-utf8 other is.utf8) is.grammar in record {
        scheme = h.scheme;
        authority = h.authority;
        path = valid-encoding-encodes-mended-text kind.path p.path q.path sets.path.percent
            parts.path (set-text-is-valid kind.path q.path valid.path) h.path;
        query = valid-part-encodes-mended-part kind.query p.query q.query sets.query.percent
            parts.query valid.query h.query;
        fragment = valid-part-encodes-mended-part kind.fragment p.fragment q.fragment
            sets.fragment.percent parts.fragment valid.fragment h.fragment;
      }
