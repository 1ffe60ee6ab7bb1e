-- A text whose host is replaced by its form in ASCII has its other components unchanged.
use Rattle.std.proofs.Common.{arith, ◌≡◌, ℕ, true, false, List, [], ◌++◌, refl, ap, sym, subst, ◌∙◌}
use Rattle.std.specs.Prelude.{Option, Some, None, IfNone, IfSome, IsSomeAnd, codes}
use Rattle.std.specs.Str.{IsUtf8}
use Rattle.std.proofs.lemmas.Str.{IsUtf8-append}
use Rattle.fluent_uri.specs.Prelude.{AuthorityParts, Components, HasComponentSets, IsAbemptyPath, IsAuthorityFor, IsOfKind, IsSplitOf, IsTextOf, Kind, Lacks, authority_parts, components, components_meet_rules, has_scheme, is_authority, marked, recompose, recompose_authority}
use Rattle.uri_parts.proofs.Offered.{authority_parts-are-unique, components-are-split-of-text, is_authority_for-complete, is_authority_for-sound, only-split-is-components, recompose-components}
use Rattle.uri_ops.specs.BuilderParts.{is_authority_text}
use Rattle.uri_ops.proofs.Offered.{authority-lacks-its-ends, authority-text-from-rule, authority-text-is-utf8, authority-text-meets-rule, ascii-bytes-are-utf8, authority-parts-are-utf8, kind-sets-lack-authority-delimiters, ArePartsOfKind, components-of-kind-meet-grammar, text-has-parts-of-kind}
use Rattle.uri_idna.specs.AsciiHosts.{ascii_host}
use Rattle.uri_idna.specs.AsciiReferences.{HasAsciiHost, IsAuthorityWithAsciiHost, IsWithAsciiHost, with_ascii_host, with_authority, with_host}
use Rattle.uri_idna.proofs.AsciiNames.{ascii-host-is-host}

host-before-port-is-utf8 : (host : List ℕ) (port : Option (List ℕ)) → IsUtf8 host
    → IfSome port IsUtf8 → IsUtf8 (host ++ marked (codes ":") port [])
host-before-port-is-utf8 host None h p = IsUtf8-append host [] h (ascii-bytes-are-utf8 [] refl)
host-before-port-is-utf8 host (Some digits) h p =
    IsUtf8-append host ((codes ":" ++ digits) ++ []) h
    (IsUtf8-append (codes ":" ++ digits) []
    (IsUtf8-append (codes ":") digits (ascii-bytes-are-utf8 (codes ":") refl) p)
    (ascii-bytes-are-utf8 [] refl))

-- replacing a host: so is an authority of which each part is UTF-8
authority-of-utf8-is-utf8 : (user : Option (List ℕ)) (host : List ℕ) (port : Option (List ℕ))
    → IfSome user IsUtf8 → IsUtf8 host → IfSome port IsUtf8
    → IsUtf8 (marked [] user (codes "@") ++ (host ++ marked (codes ":") port []))
authority-of-utf8-is-utf8 None host port u h p = host-before-port-is-utf8 host port h p
authority-of-utf8-is-utf8 (Some user) host port u h p =
    IsUtf8-append (user ++ codes "@") (host ++ marked (codes ":") port [])
    (IsUtf8-append user (codes "@") u (ascii-bytes-are-utf8 (codes "@") refl))
    (host-before-port-is-utf8 host port h p)

abbrev with_ascii : List ℕ → List ℕ → AuthorityParts
with_ascii authority host = record (authority_parts authority) { host = host }

authority-with-ascii-host : (kind : Kind) → HasComponentSets kind → (authority host : List ℕ)
    → IsUtf8 authority → is_authority kind authority ≡ true
    → ascii_host (authority_parts authority).host ≡ Some host
    → (is_authority_text kind (with_host authority host) ≡ true)
    × (authority_parts (with_host authority host) ≡ with_ascii authority host)
authority-with-ascii-host kind sets authority host utf8 rule e =
    let p : AuthorityParts = authority_parts authority in
    let new : AuthorityParts = record p { host = host } in
    let text : List ℕ = recompose_authority new in
    let apart = kind-sets-lack-authority-delimiters kind sets in
    let h = is_authority_for-sound kind.userinfo kind.reg_name authority rule in
    let u = authority-parts-are-utf8 p.userinfo p.port p.host (subst IsUtf8 (sym h.whole) utf8) in
    let made = ascii-host-is-host kind sets p.host host (record { utf8 = u.host; host = h.host }) e
    in
    let utf8' : IsUtf8 text =
    authority-of-utf8-is-utf8 p.userinfo host p.port u.userinfo made.utf8 u.port in
    let grammar : IsAuthorityFor kind.userinfo kind.reg_name text new = record {
      whole = refl;
      userinfo = h.userinfo;
      host = made.host;
      port = h.port;
    } in (
      authority-text-from-rule kind text utf8'
          (is_authority_for-complete kind.userinfo kind.reg_name apart text new utf8' grammar),
      authority_parts-are-unique kind.userinfo kind.reg_name apart text new utf8' grammar,
    )

slashes-are-no-scheme : (scheme : Option (List ℕ)) (authority rest : List ℕ)
    → IfNone scheme (has_scheme (marked [] scheme (codes ":")
    ++ (marked (codes "//") (Some authority) [] ++ rest)) ≡ false)
slashes-are-no-scheme None authority rest = refl
slashes-are-no-scheme (Some s) authority rest = tt

replaced-components-are-of-kind : (kind : Kind) (p : Components) (old new : List ℕ)
    → p.authority ≡ Some old → IsUtf8 new → is_authority kind new ≡ true → ArePartsOfKind kind p
    → ArePartsOfKind kind (with_authority p new)
replaced-components-are-of-kind kind p old new had utf8 rule w = grind arith

-- replacing a host: components with another authority of the kind are those of their text
replaced-components-are-split : (kind : Kind) → HasComponentSets kind → (text : List ℕ)
    (p : Components) (old new : List ℕ) → p.authority ≡ Some old
    → is_authority_text kind new ≡ true → IsSplitOf text p
    → IsSplitOf (recompose (with_authority p new)) (with_authority p new)
replaced-components-are-split kind sets text p old new had rule s = record {
  whole = refl;
  scheme = s.scheme;
  authority = (
    authority-lacks-its-ends kind sets new rule,
    (subst (λ (o : Option (List ℕ)). IfSome o (λ a. Lacks (codes "/?#") a
        × IsAbemptyPath p.path)) had s.authority).1,
  );
  path = s.path;
  query = s.query;
  no_scheme = slashes-are-no-scheme p.scheme new
      (p.path ++ (marked (codes "?") p.query [] ++ marked (codes "#") p.fragment []));
  no_authority = tt;
}

module _ (kind : Kind) (sets : HasComponentSets kind) (text old host : List ℕ)
    (w : IsTextOf kind text) (had : (components text).authority ≡ Some old)
    (e : ascii_host (authority_parts old).host ≡ Some host) where
  -- replacing a host: the components of a text with its host in ASCII
  replaced : Components
  replaced = with_authority (components text) (with_host old host)

  old-authority-is-of-kind : IsUtf8 old × (is_authority kind old ≡ true)
  old-authority-is-of-kind = subst (λ (o : Option (List ℕ)).
      IfSome o (λ a. IsUtf8 a × (is_authority kind a ≡ true))) had
      (text-has-parts-of-kind kind text w).authority

  new-authority : (is_authority_text kind (with_host old host) ≡ true)
      × (authority_parts (with_host old host) ≡ with_ascii old host)
  new-authority = authority-with-ascii-host kind sets old host old-authority-is-of-kind.0
      old-authority-is-of-kind.1 e

  -- they are those of the text that they make up
  components-of-replaced : components (recompose replaced) ≡ replaced
  unfolding replaced
  components-of-replaced = only-split-is-components _ _
      (replaced-components-are-split kind sets text (components text) old (with_host old host) had
      new-authority.0 (components-are-split-of-text text))

  -- which is of the kind
  pub replaced-text-is-of-kind : (made : List ℕ)
      → made ≡ recompose (with_authority (components text) (with_host old host))
      → IsOfKind kind made
  unfolding replaced
  replaced-text-is-of-kind made is =
      let rule = new-authority.0 in
      ap (λ t. components_meet_rules kind (components t)) is
      ∙ ap (components_meet_rules kind) components-of-replaced
      ∙ components-of-kind-meet-grammar kind replaced
      (replaced-components-are-of-kind kind (components text) old (with_host old host) had
      (authority-text-is-utf8 kind (with_host old host) rule)
      (authority-text-meets-rule kind (with_host old host) rule)
      (text-has-parts-of-kind kind text w))

  -- and differs from it in the host alone
  new-authority-has-ascii-host : IsWithAsciiHost old (with_host old host)
  new-authority-has-ascii-host =
      let parts = new-authority.1 in
      record {
        userinfo = ap (λ (p : AuthorityParts). p.userinfo) parts;
        port = ap (λ (p : AuthorityParts). p.port) parts;
        host = e ∙ sym (ap (λ (p : AuthorityParts). Some p.host) parts);
      }

  pub replaced-text-has-ascii-host : (made : List ℕ)
      → made ≡ recompose (with_authority (components text) (with_host old host))
      → HasAsciiHost text made
  unfolding replaced
  replaced-text-has-ascii-host made is =
      let same : components made ≡ replaced = ap components is ∙ components-of-replaced in
      record {
        scheme = ap (λ (c : Components). c.scheme) same;
        authority = subst (λ (o : Option (List ℕ)). IsAuthorityWithAsciiHost o
            (components made).authority) (sym had)
            (subst (λ (o : Option (List ℕ)). IsSomeAnd o (IsWithAsciiHost old))
            (sym (ap (λ (c : Components). c.authority) same)) new-authority-has-ascii-host);
        path = ap (λ (c : Components). c.path) same;
        query = ap (λ (c : Components). c.query) same;
        fragment = ap (λ (c : Components). c.fragment) same;
      }

pub text-without-authority-stays : (text : List ℕ) → (components text).authority ≡ None
    → with_ascii_host text ≡ Some text
text-without-authority-stays text none = grind (arith, components, recompose-components)
