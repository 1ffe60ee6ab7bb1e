-- The rules on hosts: RFC 3986, section 3.2.2.
use Rattle.uri_abnf.proofs.Common.{◌≡◌, ℕ, true, List, [], ◌∷◌, ◌++◌, refl, sym, ap, subst, ◌∙◌, ⊎_elim, arith, ◌<◌, codes, IsUtf8, chars, IsColonHex, IsDotted, or_right, cond-false, nat_tests, is_one_of, hexdig_set, ipv_future_set, Lacks, Kind, valid_text_lacks_excluded_marks, utf8_around_ascii_byte, Abnf, IsOf, some, lit, ◌⋅◌, ◌∣◌, Rules, dec-octet, h16, ls32, unreserved, sub-delims, IPvFuture, IPv6address, IP-literal, IPv4address, DIGIT, HEXDIG}
use Rattle.uri_parts.specs.Hosts.{HostKind, Ipv4, Ipv6, IpvFuture, RegName, IsHost, IsIpvFuture, bracketed, is_host, host_kind}
use Rattle.uri_parts.proofs.Offered.{names_exclude_delimiters, is_host-sound, address-in-brackets-is-utf8, lacking_text_does_not_begin_with, ipv4-text-lacks-name-marks, ipv6-text-lacks-excluded-marks, ipvfuture-text-lacks-excluded-marks}
use Rattle.uri_ops.proofs.Offered.{bracketed-address-lacks-delimiters}
use Rattle.uri_abnf.proofs.Addresses4.{ipv4-gives, ipv4-is-had}
use Rattle.uri_abnf.proofs.Addresses6.{ipv6-gives, ipv6-is-had}
use Rattle.uri_abnf.proofs.AsciiTexts.{ascii_only, ascii-text-gives, ascii-text-is-had}
use Rattle.uri_abnf.proofs.Elements.{has_char, literal-gives-char, char-is-had}
use Rattle.uri_abnf.proofs.Rules.{Fit}
use Rattle.uri_abnf.proofs.Schemes.{ascii-char-gives, ascii-char-is-had}
use Rattle.uri_abnf.proofs.Sets.{hexdig-set, future-set}
use Rattle.uri_abnf.proofs.Texts.{cut-gives, cut-is-had, either-gives, left-is-had, right-is-had, mark-gives, mark-is-had, dot-mark, open-mark, close-mark, same-text, rule-gives, rule-is-had}
use Rattle.uri_abnf.proofs.Tokens.{any-is-valid, valid-is-any, some-is-any, any-is-some}

abbrev future-char : Abnf
future-char = unreserved ∣ sub-delims ∣ lit ":"

v-gives : (c : ℕ) → has_char (lit "v") c ≡ true → (is_one_of (codes "vV") c ≡ true) × (c < 128)
v-gives c e = (grind (arith, nat_tests), grind (arith, nat_tests))

v-is-had : (c : ℕ) → is_one_of (codes "vV") c ≡ true → (has_char (lit "v") c ≡ true) × (c < 128)
v-is-had c e = (grind (arith, nat_tests), grind (arith, nat_tests))

pub future-gives : (t : List ℕ) → IsOf IPvFuture t → IsIpvFuture t
unfolding IPvFuture
future-gives t l =
    let k = cut-gives (lit "v") (some HEXDIG ⋅ lit "." ⋅ some future-char) t (rule-gives l) in
    let j = cut-gives (some HEXDIG) (lit "." ⋅ some future-char) k.y k.second in
    let i = cut-gives (lit ".") (some future-char) j.y j.second in
    let v = literal-gives-char 118 (chars k.x) k.first.has in
    let p = v-gives v.c v.passes in
    let x = ascii-char-gives v.c k.x p.1 k.first.utf8 v.whole in
    let dot = mark-gives (codes ".") dot-mark i.x i.first in
    let version = some-is-any HEXDIG hexdig_set hexdig-set j.x j.first in
    let address = some-is-any future-char ipv_future_set future-set i.y i.second in
    record {
      letter = v.c;
      version = j.x;
      address = i.y;
      whole = grind (arith, nat_tests);
      is_v = p.0;
      version_digits = (version.1, any-is-valid HEXDIG hexdig_set hexdig-set j.x version.0);
      address_chars = (address.1, any-is-valid future-char ipv_future_set future-set i.y address.0);
    }

pub future-is-had : (t : List ℕ) → IsUtf8 t → IsIpvFuture t → IsOf IPvFuture t
unfolding IPvFuture
future-is-had t u f =
    let p = v-is-had f.letter f.is_v in
    let v = subst IsUtf8 f.whole u in
    let rest = (utf8_around_ascii_byte [] f.letter
    (f.version ++ (codes "." ++ f.address)) p.1 v).1 in
    let apart = utf8_around_ascii_byte f.version 46 f.address (omega arith) rest in
    let version = valid-is-any HEXDIG hexdig_set hexdig-set f.version apart.0 f.version_digits.1 in
    let address = valid-is-any future-char ipv_future_set future-set f.address apart.1
    f.address_chars.1 in
    subst (IsOf IPvFuture) (sym f.whole) (rule-is-had (cut-is-had (lit "v")
    (some HEXDIG ⋅ lit "." ⋅ some future-char) (f.letter ∷ [])
    (f.version ++ (codes "." ++ f.address))
    (ascii-char-is-had (lit "v") f.letter p.1 (char-is-had (lit "v") f.letter p.0)) (cut-is-had
    (some HEXDIG) (lit "." ⋅ some future-char) f.version (codes "." ++ f.address)
    (any-is-some HEXDIG hexdig_set hexdig-set f.version version f.version_digits.0) (cut-is-had
    (lit ".") (some future-char) (codes ".") f.address (mark-is-had (codes ".") dot-mark)
    (any-is-some future-char ipv_future_set future-set f.address address f.address_chars.0)))))

ipv4-is-ascii : ascii_only IPv4address ≡ true
unfolding IPv4address dec-octet DIGIT
ipv4-is-ascii = refl

ipv6-is-ascii : ascii_only IPv6address ≡ true
unfolding IPv6address h16 ls32 HEXDIG IPv4address dec-octet DIGIT
ipv6-is-ascii = refl

pub ipv4-text-gives : (t : List ℕ) → IsOf IPv4address t → (octets : List ℕ) × IsDotted t octets
ipv4-text-gives t l = ipv4-gives t (ascii-text-gives IPv4address ipv4-is-ascii t l)

pub ipv4-text-is-had : (t octets : List ℕ) → IsDotted t octets → IsOf IPv4address t
ipv4-text-is-had t octets d = ascii-text-is-had IPv4address ipv4-is-ascii t (ipv4-is-had t octets d)

pub ipv6-text-gives : (t : List ℕ) → IsOf IPv6address t
    → (segments : List ℕ) × IsColonHex t segments
ipv6-text-gives t l = ipv6-gives t (ascii-text-gives IPv6address ipv6-is-ascii t l)

pub ipv6-text-is-had : (t segments : List ℕ) → IsColonHex t segments → IsOf IPv6address t
ipv6-text-is-had t segments s =
    ascii-text-is-had IPv6address ipv6-is-ascii t (ipv6-is-had t segments s)

-- a host in brackets: an IPv6 address, or one of a later version
abbrev pub IsLiteral : List ℕ → HostKind → Type 0
IsLiteral t (Ipv6 segments) = (address : List ℕ) × (t ≡ bracketed address)
    × IsColonHex address segments
IsLiteral t IpvFuture = (address : List ℕ) × (t ≡ bracketed address) × IsIpvFuture address
IsLiteral t (Ipv4 octets) = ⊥
IsLiteral t RegName = ⊥

pub literal-gives : (t : List ℕ) → IsOf IP-literal t → (h : HostKind) × IsLiteral t h
unfolding IP-literal
literal-gives t l =
    let k = cut-gives (lit "[") ((IPv6address ∣ IPvFuture) ⋅ lit "]") t (rule-gives l) in
    let j = cut-gives (IPv6address ∣ IPvFuture) (lit "]") k.y k.second in
    let e : t ≡ bracketed j.x = k.whole
    ∙ ap (λ r. r ++ k.y) (mark-gives (codes "[") open-mark k.x k.first) ∙ ap (λ r. codes "[" ++ r)
    (j.whole ∙ ap (λ r. j.x ++ r) (mark-gives (codes "]") close-mark j.y j.second)) in
    ⊎_elim
    (λ a.
    let s = ipv6-text-gives j.x a in
    (Ipv6 s.0, (j.x, e, s.1)))
    (λ a. (IpvFuture, (j.x, e, future-gives j.x a)))
    (either-gives IPv6address IPvFuture j.x j.first)

bracketed-is-had : (t address : List ℕ) → t ≡ bracketed address
    → IsOf (IPv6address ∣ IPvFuture) address → IsOf IP-literal t
unfolding IP-literal
bracketed-is-had t address e l = subst (IsOf IP-literal) (sym e) (rule-is-had (cut-is-had (lit "[")
    ((IPv6address ∣ IPvFuture) ⋅ lit "]") (codes "[") (address ++ codes "]")
    (mark-is-had (codes "[") open-mark) (cut-is-had (IPv6address ∣ IPvFuture) (lit "]") address
    (codes "]") l (mark-is-had (codes "]") close-mark))))

literal-is-had : (t : List ℕ) (h : HostKind) → IsUtf8 t → IsLiteral t h → IsOf IP-literal t
literal-is-had t (Ipv6 segments) u (address, e, a) = bracketed-is-had t address e
    (left-is-had IPv6address IPvFuture address (ipv6-text-is-had address segments a))
literal-is-had t IpvFuture u (address, e, a) = bracketed-is-had t address e
    (grind (arith, nat_tests, right-is-had, future-is-had, address-in-brackets-is-utf8))
literal-is-had t (Ipv4 octets) u h = absurd h
literal-is-had t RegName u h = absurd h

module _ (r : Rules) (kind : Kind) (w : Fit r kind) where
  -- a text of registered names is a host: a name, or an IPv4 address
  name-gives : (t : List ℕ) → IsOf r.reg_name t → (h : HostKind) × IsHost kind.reg_name t h
  unfolding is_host
  name-gives t l =
      let v = (w.reg_name t).0 l in
      let lacks = valid_text_lacks_excluded_marks kind.reg_name (codes "@:[") w.apart.names_percent
      (names_exclude_delimiters kind.userinfo kind.reg_name w.apart) t l.utf8 v.1 in
      let no = lacking_text_does_not_begin_with (codes "@:[") t 91 refl lacks in
      (host_kind t, is_host-sound kind.reg_name t (cond-false _ _ _ no ∙ or_right _ _ v.1))

  literal-is-host : (t : List ℕ) (h : HostKind) → IsLiteral t h → IsHost kind.reg_name t h
  literal-is-host t (Ipv6 segments) l = l
  literal-is-host t IpvFuture l = l
  literal-is-host t (Ipv4 octets) l = absurd l
  literal-is-host t RegName l = absurd l

  pub host-gives : (t : List ℕ) → IsOf r.host t → (h : HostKind) × IsHost kind.reg_name t h
  host-gives t l = ⊎_elim
      (λ ab. ⊎_elim
      (λ a. let s = literal-gives t a in (s.0, literal-is-host t s.0 s.1))
      (λ b. let s = ipv4-text-gives t b in (Ipv4 s.0, s.1))
      (either-gives IP-literal IPv4address t ab))
      (λ c. name-gives t c) (either-gives (IP-literal ∣ IPv4address) r.reg_name t
      (same-text (λ cs. (w.made.host cs).0) l))

  alternative-is-had : (t : List ℕ) (h : HostKind) → IsUtf8 t → IsHost kind.reg_name t h
      → IsOf (IP-literal ∣ IPv4address ∣ r.reg_name) t
  alternative-is-had t (Ipv6 segments) u a = left-is-had _ r.reg_name t
      (left-is-had _ IPv4address t (literal-is-had t (Ipv6 segments) u a))
  alternative-is-had t IpvFuture u a = left-is-had _ r.reg_name t
      (left-is-had _ IPv4address t (literal-is-had t IpvFuture u a))
  alternative-is-had t (Ipv4 octets) u d = left-is-had _ r.reg_name t
      (right-is-had IP-literal IPv4address t (ipv4-text-is-had t octets d))
  alternative-is-had t RegName u v = right-is-had _ r.reg_name t ((w.reg_name t).1 (u, v.0))

  pub host-is-had : (t : List ℕ) (h : HostKind) → IsUtf8 t → IsHost kind.reg_name t h
      → IsOf r.host t
  host-is-had t h u k = same-text (λ cs. (w.made.host cs).1) (alternative-is-had t h u k)

  pub host-lacks : (t : List ℕ) (h : HostKind) → IsUtf8 t → IsHost kind.reg_name t h
      → Lacks (codes "/?#") t
  host-lacks t (Ipv6 segments) u (address, e, a) = subst (Lacks (codes "/?#")) (sym e)
      (bracketed-address-lacks-delimiters address
      (ipv6-text-lacks-excluded-marks (codes "/?#") refl address segments a))
  host-lacks t IpvFuture u (address, e, a) = subst (Lacks (codes "/?#")) (sym e)
      (bracketed-address-lacks-delimiters address (ipvfuture-text-lacks-excluded-marks (codes "/?#")
      refl address (address-in-brackets-is-utf8 address (subst IsUtf8 e u)) a))
  host-lacks t (Ipv4 octets) u d = ipv4-text-lacks-name-marks (codes "/?#") refl t octets d
  host-lacks t RegName u v = valid_text_lacks_excluded_marks kind.reg_name (codes "/?#")
      w.apart.names_percent w.reg_name_marks t u v.0
