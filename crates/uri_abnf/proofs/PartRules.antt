-- The rules that parts of references are of: authorities, hosts, and the texts of a set.
use Rattle.uri_abnf.proofs.Common.{◌≡◌, ℕ, true, false, List, [], ◌∷◌, refl, sym, subst, ◌∙◌, arith, rules, ◌↔◌, IsUtf8, nat_tests, TableSet, is_unreserved, is_reserved, AuthorityParts, authority_parts, Kind, is_scheme, is_authority, Abnf, Has, IsOf, Rules, IsAuthorityDerived, scheme, reserved, gen-delims, sub-delims, unreserved, IPv4address, IPv6address, IPvFuture, ALPHA, DIGIT}
use Rattle.uri_pct.specs.DecodeUnreserved.{is_decodable}
use Rattle.uri_parts.specs.Hosts.{IsHost, Ipv4, Ipv6, IpvFuture, RegName, bracketed}
use Rattle.uri_parts.proofs.Offered.{is_authority_for-sound, is_authority_for-complete, authority_parts-are-unique, address-in-brackets-is-utf8}
use Rattle.uri_ops.proofs.Offered.{bracketed-utf8-is-utf8}
use Rattle.uri_abnf.proofs.Authorities.{authority-derives, derived-is-authority, derived-authority-follows, following-authority-derives}
use Rattle.uri_abnf.proofs.Elements.{IsElement, has_char, has_octets, class-has, char-is-had}
use Rattle.uri_abnf.proofs.Hosts.{ipv4-text-gives, ipv4-text-is-had, ipv6-text-gives, ipv6-text-is-had, future-gives, future-is-had}
use Rattle.uri_abnf.proofs.InternationalSets.{allowed_past_ascii_is_past_ascii}
use Rattle.uri_abnf.proofs.Rules.{Fit}
use Rattle.uri_abnf.proofs.Schemes.{scheme-gives, scheme-is-had}

pub schemes-are-of-rule : (t : List ℕ) → (IsOf scheme t ↔ (IsUtf8 t × (is_scheme t ≡ true)))
schemes-are-of-rule t = (λ l. (l.utf8, (scheme-gives t l).0), λ v. scheme-is-had t v.0 v.1)

module _ (r : Rules) (kind : Kind) (w : Fit r kind) where
  -- an authority has one derivation, which has its components
  pub authority-derivations-are-unique : (t : List ℕ) (p : AuthorityParts) → IsUtf8 t
      → IsAuthorityDerived r t p → authority_parts t ≡ p
  authority-derivations-are-unique t p u d = authority_parts-are-unique kind.userinfo kind.reg_name
      w.apart t p u (derived-authority-follows r kind w t p d)

  pub authority-is-derived : (t : List ℕ)
      → (IsOf r.authority t ↔ IsAuthorityDerived r t (authority_parts t))
  authority-is-derived t = (
    λ l.
        let k = authority-derives r kind w t l in
        subst (IsAuthorityDerived r t) (sym
        (authority-derivations-are-unique t k.0 l.utf8 k.1)) k.1,
    λ d. derived-is-authority r kind w t (authority_parts t) d,
  )

  pub authorities-are-of-rule : (t : List ℕ)
      → (IsOf r.authority t ↔ (IsUtf8 t × (is_authority kind t ≡ true)))
  authorities-are-of-rule t = (
    λ l.
        let k = authority-derives r kind w t l in (
          l.utf8,
          is_authority_for-complete kind.userinfo kind.reg_name w.apart t k.0 l.utf8
              (derived-authority-follows r kind w t k.0 k.1),
        ),
    λ v. derived-is-authority r kind w t (authority_parts t)
        (following-authority-derives r kind w t (authority_parts t) v.0
        (is_authority_for-sound kind.userinfo kind.reg_name t v.1)),
  )

  -- a host is a registered name if it is of its rule, and no IPv4 address
  pub names-are-of-rule : (t : List ℕ)
      → ((IsUtf8 t × IsHost kind.reg_name t RegName) ↔ (IsOf r.reg_name t × ¬ (IsOf IPv4address t)))
  names-are-of-rule t = (
    λ v. ((w.reg_name t).1 (v.0, v.1.0), λ l. let d = ipv4-text-gives t l in v.1.1 d.0 d.1),
    λ v.
        let name = (w.reg_name t).0 v.0 in
        (name.0, (name.1, λ octets d. v.1 (ipv4-text-is-had t octets d))),
  )

pub ipv6-hosts-are-of-rule : (names : TableSet) (t : List ℕ)
    → (((segments : List ℕ) × IsHost names t (Ipv6 segments))
    ↔ ((address : List ℕ) × (t ≡ bracketed address) × IsOf IPv6address address))
ipv6-hosts-are-of-rule names t = (
  λ v. (v.1.0, v.1.1, ipv6-text-is-had v.1.0 v.0 v.1.2),
  λ l. let s = ipv6-text-gives l.0 l.2 in (s.0, (l.0, l.1, s.1)),
)

pub ipv_future-hosts-are-of-rule : (names : TableSet) (t : List ℕ)
    → ((IsUtf8 t × IsHost names t IpvFuture)
    ↔ ((address : List ℕ) × (t ≡ bracketed address) × IsOf IPvFuture address))
ipv_future-hosts-are-of-rule names t = (
  λ v. (
    v.1.0,
    v.1.1,
    future-is-had v.1.0 (address-in-brackets-is-utf8 v.1.0 (subst IsUtf8 v.1.1 v.0)) v.1.2,
  ),
  λ l. (
    subst IsUtf8 (sym l.1) (bracketed-utf8-is-utf8 l.0 l.2.utf8),
    (l.0, l.1, future-gives l.0 l.2),
  ),
)

pub ipv4-hosts-are-of-rule : (names : TableSet) (t : List ℕ)
    → (((octets : List ℕ) × IsHost names t (Ipv4 octets)) ↔ IsOf IPv4address t)
ipv4-hosts-are-of-rule names t = (λ v. ipv4-text-is-had t v.0 v.1, ipv4-text-gives t)

unreserved-chars : (c : ℕ) → has_char unreserved c ≡ is_unreserved c
unfolding unreserved ALPHA DIGIT
unreserved-chars c = grind (arith, nat_tests)

reserved-chars : (c : ℕ) → has_char reserved c ≡ is_reserved c
unfolding reserved gen-delims sub-delims
reserved-chars c = grind (arith, nat_tests)

unreserved-element : IsElement unreserved × (has_octets unreserved ≡ false)
unfolding unreserved ALPHA DIGIT
unreserved-element = (search rules, refl)

reserved-element : IsElement reserved × (has_octets reserved ≡ false)
unfolding reserved gen-delims sub-delims
reserved-element = (search rules, refl)

only-char : (g : Abnf) → IsElement g → has_octets g ≡ false → (c : ℕ) → Has g (c ∷ [])
    → has_char g c ≡ true
only-char g w none c h = grind (arith, nat_tests, class-has)

pub unreserved-is-rule : (c : ℕ) → (Has unreserved (c ∷ []) ↔ (is_unreserved c ≡ true))
unreserved-is-rule c =
    grind (arith, nat_tests, unreserved-chars, only-char, unreserved-element, char-is-had)

reserved-is-not-decodable : (set : TableSet) (c : ℕ) → is_reserved c ≡ true
    → is_decodable set c ≡ false
unfolding is_decodable
reserved-is-not-decodable set c e = grind (arith, nat_tests, allowed_past_ascii_is_past_ascii)

pub reserved-octets-stay : (set : TableSet) (c : ℕ) → Has reserved (c ∷ [])
    → is_decodable set c ≡ false
reserved-octets-stay set c h = reserved-is-not-decodable set c (sym (reserved-chars c)
    ∙ only-char reserved reserved-element.0 reserved-element.1 c h)
