-- An authority without characters past ASCII is one, and has the meaning of the authority.
use Rattle.uri_ops.proofs.Common.{◌≡◌, ℕ, Bool, true, ltb, List, [], ◌∷◌, map, refl, sym, ap, subst, ◌∙◌, inl, inr, option_map, arith, codes, Option, IfSome, is_ascii_digit, list_all, IsUtf8, IsDotted, list_all-append, list_all-from_AllPass, All-weaker, and_from, nat_tests, IsDigitOrDot, TableSet, digit_set, is_userinfo_char, IsValidFor, decode_unreserved, lower_token, excludes, HostKind, Ipv4, Ipv6, IpvFuture, RegName, IsHost, bracketed, host_kind, ipv4_value, AuthorityParts, IsAuthorityFor, LackAuthorityDelimiters, authority_parts, recompose_authority, Kind, is_authority, is_authority_for-sound, is_authority_for-complete, authority_parts-are-unique, names_exclude_delimiters, is_address_char, is_address_text, ipv6-text-is-address-text, is_host-sound, lacking_text_does_not_begin_with, address-in-brackets-is-utf8, valid_text_lacks_excluded_marks, ipv4-text-is-digits-and-dots, IsComponentSet, HasComponentSets, encode_past_ascii, ascii_set, ascii_kind, Name, host_meaning, authority_meaning, IfSome-combine, common_steps}
use Rattle.uri_ops.proofs.Meanings.AllowedParts.{is_set_text, set-text-from-utf8, set-text-is-utf8, set-text-is-valid}
use Rattle.uri_ops.proofs.Meanings.AsciiCharacters.{is_ascii_in, valid_ascii_text}
use Rattle.uri_ops.proofs.Meanings.HostMeanings.{address-characters-are-ascii, ipvfuture-has-ascii-parts, ipvfuture-is-userinfo-characters, meaning-of-name-is-lowered-decoded, unbracketed-valid-text-is-name}
use Rattle.uri_ops.proofs.Meanings.AuthorityMeanings.{PartsUtf8, authority-parts-are-utf8, kind-sets-lack-authority-delimiters}
use Rattle.uri_ops.proofs.AsciiForms.EncodedTokens.{encoded-text-is-utf8}
use Rattle.uri_ops.proofs.AsciiForms.EncodedDecodings.{encoded-part-is-valid-for-ascii_set, decode_unreserved-of-encoded-text}
use Rattle.uri_ops.proofs.AsciiForms.EncodedPaths.{encoding-of-append-is-append, ascii-text-is-its-own-encoding, encoding-keeps-leading-delimiter}
use Rattle.uri_ops.proofs.AsciiForms.EncodedComponents.{encoding-keeps-delimiters}

ascii_set-is-component-set : (marks : List ℕ) (set : TableSet) → IsComponentSet marks set
    → IsComponentSet marks (ascii_set set)
ascii_set-is-component-set marks set w = grind (arith, nat_tests)

-- IRIs as URIs: without characters past ASCII,
-- the sets of a kind still lack what ends each component
ascii_kind-has-component-sets : (kind : Kind) → HasComponentSets kind
    → HasComponentSets (ascii_kind kind)
ascii_kind-has-component-sets kind sets = grind (arith, nat_tests, ascii_set-is-component-set)

pub text-passing-ascii-test-is-ascii : (test : ℕ → Bool) (text : List ℕ)
    → list_all (is_ascii_in test) text ≡ true → list_all (λ c. ltb c 128) text ≡ true
text-passing-ascii-test-is-ascii test [] e = refl
text-passing-ascii-test-is-ascii test (c ∷ text) e =
    grind (arith, common_steps, test, (text-passing-ascii-test-is-ascii test text))

pub bracketed-ascii-address-is-ascii : (address : List ℕ) → list_all (λ c. ltb c 128) address ≡ true
    → list_all (λ c. ltb c 128) (bracketed address) ≡ true
bracketed-ascii-address-is-ascii address e = list_all-append (λ c. ltb c 128) address (codes "]")
    ∙ and_from _ _ e refl

pub address-text-is-ascii : (text : List ℕ) → is_address_text text ≡ true
    → list_all (λ c. ltb c 128) text ≡ true
unfolding is_address_text
address-text-is-ascii text e = text-passing-ascii-test-is-ascii is_address_char text
    (address-characters-are-ascii text e)

-- IRIs as URIs: an IPv4 address is ASCII
pub dotted-decimal-is-ascii : (text octets : List ℕ) → IsDotted text octets
    → list_all (λ c. ltb c 128) text ≡ true
dotted-decimal-is-ascii text octets h =
    list_all-from_AllPass (λ c. ltb c 128) text (All-weaker IsDigitOrDot
    (λ c. ltb c 128 ≡ true) below text (ipv4-text-is-digits-and-dots text octets h))
  where
    below : (c : ℕ) → IsDigitOrDot c → ltb c 128 ≡ true
    below c (inl range) = grind (arith, nat_tests)
    below c (inr dot) = grind (arith, nat_tests)

-- IRIs as URIs: the encoded host is a host, in ASCII characters, with the same meaning
record EncodingKeepsHost (names : TableSet) (text : List ℕ) : Type 0 where
  pub host : (h : HostKind) × IsHost (ascii_set names) (encode_past_ascii text) h
  pub meaning : host_meaning names (encode_past_ascii text) (host_kind (encode_past_ascii text))
      ≡ host_meaning names text (host_kind text)

-- IRIs as URIs: encoding characters past ASCII leaves a host that has none
encoding-keeps-ascii-hosts : (names : TableSet) (text : List ℕ) (h : HostKind)
    → IsHost (ascii_set names) text h
    → list_all (λ c. ltb c 128) text ≡ true → EncodingKeepsHost names text
encoding-keeps-ascii-hosts names text h is_h e =
    let same = ascii-text-is-its-own-encoding text e in
    record {
      host = (h, subst (λ t. IsHost (ascii_set names) t h) (sym same) is_h);
      meaning = ap (λ t. host_meaning names t (host_kind t)) same;
    }

module _ (names : TableSet) (w : IsComponentSet (codes "/?#[]@:") names)
    (apart : excludes names (codes "@:[") ≡ true) where
  encoding-keeps-names : (text : List ℕ) → is_set_text names text ≡ true
      → EncodingKeepsHost names text
  encoding-keeps-names text part =
      let first = lacking_text_does_not_begin_with (codes "@:[") text 91 refl
      (valid_text_lacks_excluded_marks names (codes "@:[") w.percent apart text
      (set-text-is-utf8 names text part) (set-text-is-valid names text part)) in
      let other = encoding-keeps-leading-delimiter 91 refl text ∙ first in
      let encoded_part = encoded-part-is-valid-for-ascii_set names w.octets text part in
      let at = unbracketed-valid-text-is-name (ascii_set names)
      (ascii_set-is-component-set (codes "/?#[]@:") names w) apart (encode_past_ascii text) other
      (set-text-is-valid (ascii_set names) (encode_past_ascii text) encoded_part) in
      let was = unbracketed-valid-text-is-name names w apart text first
      (set-text-is-valid names text part) in
      record {
        host = (
          host_kind (encode_past_ascii text),
          is_host-sound (ascii_set names) (encode_past_ascii text) at.1,
        );
        meaning = ap (host_meaning names (encode_past_ascii text)) at.0
            ∙ meaning-of-name-is-lowered-decoded names w apart (encode_past_ascii text)
            (ipv4_value (encode_past_ascii text))
            ∙ ap (λ ts. Name (map lower_token ts))
            (decode_unreserved-of-encoded-text names text part)
            ∙ sym (ap (host_meaning names text) was.0
            ∙ meaning-of-name-is-lowered-decoded names w apart text (ipv4_value text));
      }

  encoding-keeps-hosts : (text : List ℕ) (h : HostKind) → IsUtf8 text → IsHost names text h
      → EncodingKeepsHost names text
  encoding-keeps-hosts text (Ipv6 segments) u (address, e, groups) = encoding-keeps-ascii-hosts
      names text (Ipv6 segments) (address, e, groups) (ap (list_all (λ c. ltb c 128)) e
      ∙ bracketed-ascii-address-is-ascii address
      (address-text-is-ascii address (ipv6-text-is-address-text address segments groups)))
  encoding-keeps-hosts text IpvFuture u (address, e, future) =
      let ascii_parts = ipvfuture-has-ascii-parts address
      (address-in-brackets-is-utf8 address (subst IsUtf8 e u)) future in
      encoding-keeps-ascii-hosts names text IpvFuture (address, e, future) (ap (list_all (λ
      c. ltb c 128)) e ∙ bracketed-ascii-address-is-ascii address (text-passing-ascii-test-is-ascii
      is_userinfo_char address (ipvfuture-is-userinfo-characters address future ascii_parts)))
  encoding-keeps-hosts text (Ipv4 octets) u dotted = encoding-keeps-ascii-hosts names text
      (Ipv4 octets) dotted (dotted-decimal-is-ascii text octets dotted)
  encoding-keeps-hosts text RegName u (valid, other) = encoding-keeps-names text
      (set-text-from-utf8 names text u valid)

-- IRIs as URIs: userinfo, host and port of an authority, each encoded
abbrev pub encoded_authority_parts : AuthorityParts → AuthorityParts
encoded_authority_parts p = record {
  userinfo = option_map encode_past_ascii p.userinfo;
  host = encode_past_ascii p.host;
  port = option_map encode_past_ascii p.port;
}

-- IRIs as URIs: encoding characters past ASCII in an authority
-- encodes them in its userinfo, host and port
pub encoding-and-recomposing-authority-swap : (p : AuthorityParts)
    → encode_past_ascii (recompose_authority p) ≡ recompose_authority (encoded_authority_parts p)
encoding-and-recomposing-authority-swap p =
    grind (arith, encoding-of-append-is-append, encoding-keeps-delimiters)

port-digits-are-unchanged-when-encoded : (text : List ℕ)
    → IsUtf8 text → IsValidFor digit_set text → encode_past_ascii text ≡ text
port-digits-are-unchanged-when-encoded text u e = ascii-text-is-its-own-encoding text
    (text-passing-ascii-test-is-ascii is_ascii_digit text
    (sym (valid_ascii_text is_ascii_digit refl text u) ∙ e))

-- IRIs as URIs: encoding characters past ASCII leaves the port, if there is one
port-is-unchanged-when-encoded : (port : Option (List ℕ)) → IfSome port IsUtf8
    → IfSome port (IsValidFor digit_set) → option_map encode_past_ascii port ≡ port
port-is-unchanged-when-encoded port u h =
    grind (arith, common_steps, port-digits-are-unchanged-when-encoded)

-- IRIs as URIs: if a component, when there is one, has P, its encoded form has what P implies
encoded-component-has-property : (o : Option (List ℕ)) (P Q : List ℕ → Type 0) → ((x : List ℕ)
    → P x → Q (encode_past_ascii x)) → IfSome o P → IfSome (option_map encode_past_ascii o) Q
encoded-component-has-property o q r f h = grind (arith, common_steps)

-- IRIs as URIs: a component has the same decoded form after its characters past ASCII are encoded
pub decode_unreserved-encoded_option : (set : TableSet) (o : Option (List ℕ))
    → IfSome o (λ x. is_set_text set x ≡ true) → option_map
    (decode_unreserved set) (option_map encode_past_ascii o) ≡ option_map (decode_unreserved set) o
decode_unreserved-encoded_option set o h =
    grind (arith, common_steps, decode_unreserved-of-encoded-text)

module _ (kind : Kind) (sets : HasComponentSets kind) (a : List ℕ) (u : IsUtf8 a)
    (e : is_authority kind a ≡ true) where
  abbrev users : TableSet
  users = kind.userinfo

  abbrev names : TableSet
  names = kind.reg_name

  abbrev parts : AuthorityParts
  parts = authority_parts a

  apart : LackAuthorityDelimiters users names
  apart = kind-sets-lack-authority-delimiters kind sets

  ascii_apart : LackAuthorityDelimiters (ascii_set users) (ascii_set names)
  ascii_apart = kind-sets-lack-authority-delimiters (ascii_kind kind)
      (ascii_kind-has-component-sets kind sets)

  grammar : IsAuthorityFor users names a parts
  grammar = is_authority_for-sound users names a e

  utf8 : PartsUtf8 parts
  utf8 = authority-parts-are-utf8 parts.userinfo parts.port parts.host
      (subst IsUtf8 (sym grammar.whole) u)

  host : EncodingKeepsHost names parts.host
  host =
      grind (arith, nat_tests, encoding-keeps-hosts, names_exclude_delimiters, apart, grammar, utf8)

  user : IfSome parts.userinfo (λ x. is_set_text users x ≡ true)
  user = IfSome-combine parts.userinfo IsUtf8 (IsValidFor users) (λ x. is_set_text users x ≡ true)
      (λ x v h. set-text-from-utf8 users x v h) utf8.userinfo grammar.userinfo

  encoded-authority-follows-grammar : IsAuthorityFor
      (ascii_set users) (ascii_set names) (encode_past_ascii a) (encoded_authority_parts parts)
  encoded-authority-follows-grammar = record {
    whole = sym (encoding-and-recomposing-authority-swap _) ∙ ap encode_past_ascii grammar.whole;
    userinfo = encoded-component-has-property parts.userinfo
        (λ x. is_set_text users x ≡ true) (IsValidFor (ascii_set users)) (λ x h. set-text-is-valid
        _ _ (encoded-part-is-valid-for-ascii_set users sets.userinfo.octets x h)) user;
    host = host.host;
    port = subst (λ o. IfSome o (IsValidFor digit_set))
        (sym (port-is-unchanged-when-encoded _ utf8.port grammar.port)) grammar.port;
  }

  pub encoded-authority-is-of-ascii_kind : is_authority (ascii_kind kind) (encode_past_ascii a)
      ≡ true
  encoded-authority-is-of-ascii_kind = is_authority_for-complete _ _ ascii_apart _ _
      (encoded-text-is-utf8 a u) encoded-authority-follows-grammar

  pub parts-of-encoded-authority-are-encoded : authority_parts (encode_past_ascii a)
      ≡ encoded_authority_parts parts
  parts-of-encoded-authority-are-encoded = authority_parts-are-unique _ _ ascii_apart _ _
      (encoded-text-is-utf8 a u) encoded-authority-follows-grammar

  pub encoding-keeps-authority-meaning : (default : Option ℕ)
      → authority_meaning kind default (encode_past_ascii a) ≡ authority_meaning kind default a
  encoding-keeps-authority-meaning default =
      grind (
        arith,
        host,
        decode_unreserved-encoded_option,
        user,
        port-is-unchanged-when-encoded,
        utf8,
        grammar,
        parts-of-encoded-authority-are-encoded,
      )
