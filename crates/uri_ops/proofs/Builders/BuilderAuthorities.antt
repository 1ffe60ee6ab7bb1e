-- The text of an authority that is built part by part is one: RFC 3986, section 3.2.
use Rattle.uri_ops.proofs.Common.{◌≡◌, ℕ, true, List, [], ◌++◌, refl, sym, ap, subst, ◌∙◌, append_assoc, append-nil, arith, codes, Some, None, is_none, IsUtf8, IsUtf8-append, IsUtf8-from_is_utf8, is_utf8-from_IsUtf8, and_parts, and_from, nat_tests, TableSet, digit_set, reg_name_set, is_valid_for, AuthorityParts, IsAuthorityFor, authority_parts, is_authority_for, excludes, Lacks, marked, Kind, is_authority, HostKind, IsHost, Ipv4, Ipv6, IpvFuture, RegName, authority_parts-are-unique, is_authority_for-complete, is_authority_for-sound, empty_is_authority, ipv4-text-lacks-name-marks, ipv6-text-lacks-excluded-marks, ipvfuture-text-lacks-excluded-marks, address-in-brackets-is-utf8, valid_text_lacks_excluded_marks, is_authority_text, lacks_host_and_port, lacks_port, HasComponentSets, is_empty, IsHostText, IfSome-combine, None-from-is_none}
use Rattle.uri_ops.proofs.Meanings.AuthorityMeanings.{kind-sets-lack-authority-delimiters, authority-text-lacks-its-ends, authority-parts-are-utf8}
use Rattle.uri_ops.proofs.Meanings.ComponentEnds.{ends-are-excluded-from-set, fewer-characters-are-excluded-too}
use Rattle.uri_ops.proofs.Meanings.HostMeanings.{bracketed-address-lacks-delimiters, ipv_future_set-excludes-delimiters}
use Rattle.uri_ops.proofs.Meanings.AsciiCharacters.{ascii-bytes-are-utf8}
use Rattle.uri_ops.proofs.Paths.DotRuns.{empty-text-is-nil}

-- building: an authority that a builder may write is UTF-8
pub authority-text-is-utf8 : (kind : Kind) (text : List ℕ) → is_authority_text kind text ≡ true
    → IsUtf8 text
unfolding is_authority_text
authority-text-is-utf8 kind text e = IsUtf8-from_is_utf8 text
    (and_parts _ (is_authority kind text) e).0

-- building: an authority that a builder may write meets the grammar of the kind
pub authority-text-meets-rule : (kind : Kind) (text : List ℕ) → is_authority_text kind text ≡ true
    → is_authority kind text ≡ true
unfolding is_authority_text
authority-text-meets-rule kind text e = (and_parts _ (is_authority kind text) e).1

-- building: an authority of the grammar, in UTF-8, is one that a builder may write
pub authority-text-from-rule : (kind : Kind) (text : List ℕ)
    → IsUtf8 text → is_authority kind text ≡ true → is_authority_text kind text ≡ true
unfolding is_authority_text
authority-text-from-rule kind text u e = and_from _ _ (is_utf8-from_IsUtf8 text u) e

pub authority-text-from-encoders : (kind : Kind) (users names : TableSet) → users ≡ kind.userinfo
    → names ≡ kind.reg_name → (text : List ℕ) → IsUtf8 text
    → is_authority_for users names text ≡ true → is_authority_text kind text ≡ true
authority-text-from-encoders kind users names u n text utf8 e =
    authority-text-from-rule kind text utf8 (sym (λ i. is_authority_for (u i) (n i) text) ∙ e)

empty-text-is-host : (names : TableSet) → (h : HostKind) × IsHost names [] h
empty-text-is-host names =
    (is_authority_for-sound names names [] (empty_is_authority names names)).host

-- building: a port for which the test of absence passes is None
port-that-is-none-is-None : (p : AuthorityParts) → is_none p.port ≡ true → p.port ≡ None
port-that-is-none-is-None p e = None-from-is_none p.port e

-- building: the text is an authority that a builder may write, and these are its parts
pub record IsAuthorityOfParts (kind : Kind) (text : List ℕ) (p : AuthorityParts) : Type 0 where
  pub rule : is_authority_text kind text ≡ true
  pub parts : authority_parts text ≡ p

module _ (kind : Kind) (sets : HasComponentSets kind) where
  text-by-grammar-has-its-parts : (text : List ℕ) (p : AuthorityParts) → IsUtf8 text
      → IsAuthorityFor kind.userinfo kind.reg_name text p → IsAuthorityOfParts kind text p
  text-by-grammar-has-its-parts text p u h = record {
    rule = authority-text-from-rule _ _ u
        (is_authority_for-complete _ _ (kind-sets-lack-authority-delimiters _ sets) _ p u h);
    parts = authority_parts-are-unique _ _ (kind-sets-lack-authority-delimiters _ sets) _ p u h;
  }

  pub userinfo-begins-authority : (user : List ℕ)
      → IsUtf8 user → is_valid_for kind.userinfo user ≡ true → IsAuthorityOfParts kind (user
      ++ codes "@") (record { userinfo = Some user; host = []; port = None })
  userinfo-begins-authority user u valid = text-by-grammar-has-its-parts
      (user ++ codes "@") (record { userinfo = Some user; host = []; port = None })
      (IsUtf8-append user (codes "@") u (ascii-bytes-are-utf8 (codes "@") refl)) (record {
        whole = append-nil (user ++ codes "@");
        userinfo = valid;
        host = empty-text-is-host kind.reg_name;
        port = tt;
      })

  authority-text-follows-grammar : (a : List ℕ) → is_authority_text kind a ≡ true
      → IsAuthorityFor kind.userinfo kind.reg_name a (authority_parts a)
  authority-text-follows-grammar a e = is_authority_for-sound kind.userinfo kind.reg_name a
      (authority-text-meets-rule kind a e)

  pub host-extends-authority : (a host : List ℕ) → is_authority_text kind a ≡ true
      → lacks_host_and_port a ≡ true → IsHostText kind.reg_name host → IsAuthorityOfParts kind (a
      ++ host) (record { userinfo = (authority_parts a).userinfo; host = host; port = None })
  host-extends-authority a host e t h =
      let p = authority_parts a in
      let both = and_parts (is_empty p.host) (lacks_port a) t in
      let old = authority-text-follows-grammar a e in
      let U : List ℕ = marked [] p.userinfo (codes "@") in
      let bare : U ++ [] ≡ a = sym (λ i. U ++ (empty-text-is-nil p.host both.0 i
      ++ marked (codes ":") (port-that-is-none-is-None p both.1 i) [])) ∙ old.whole in
      text-by-grammar-has-its-parts (a ++ host)
      (record { userinfo = p.userinfo; host = host; port = None })
      (IsUtf8-append a host (authority-text-is-utf8 kind a e) h.utf8) (record {
        whole = ap (λ t. U ++ t) (append-nil host)
            ∙ ap (λ t. t ++ host) (sym (append-nil U) ∙ bare);
        userinfo = old.userinfo;
        host = h.host;
        port = tt;
      })

  pub port-extends-authority : (a digits : List ℕ) → is_authority_text kind a ≡ true
      → lacks_port a ≡ true → IsUtf8 digits → is_valid_for digit_set digits ≡ true
      → IsAuthorityOfParts kind (a ++ (codes ":" ++ digits)) (record {
        userinfo = (authority_parts a).userinfo;
        host = (authority_parts a).host;
        port = Some digits;
      })
  port-extends-authority a digits e t u valid =
      let p = authority_parts a in
      let old = authority-text-follows-grammar a e in
      let U : List ℕ = marked [] p.userinfo (codes "@") in
      let bare : U ++ (p.host ++ []) ≡ a = sym (λ i. U
      ++ (p.host ++ marked (codes ":") (port-that-is-none-is-None p t i) [])) ∙ old.whole in
      let bare_host : U ++ p.host ≡ a = ap (λ t. U ++ t) (sym (append-nil p.host)) ∙ bare in
      text-by-grammar-has-its-parts _ _ (IsUtf8-append a _ (authority-text-is-utf8 _ a e)
      (IsUtf8-append (codes ":") digits (ascii-bytes-are-utf8 _ refl) u)) (record {
        whole = ap (λ t. U ++ (p.host ++ t)) (append-nil (codes ":" ++ digits))
            ∙ sym (append_assoc U _ _) ∙ ap (λ t. t ++ (codes ":" ++ digits)) bare_host;
        userinfo = old.userinfo;
        host = old.host;
        port = valid;
      })

pub empty-text-is-authority : (kind : Kind) → is_authority_text kind [] ≡ true
empty-text-is-authority kind = authority-text-from-rule kind [] (ascii-bytes-are-utf8 [] refl)
    (empty_is_authority kind.userinfo kind.reg_name)

-- an authority lacks the marks that would end it
module _ (kind : Kind) (sets : HasComponentSets kind) where
  userinfo-set-excludes-delimiters : excludes kind.userinfo (codes "/?#") ≡ true
  userinfo-set-excludes-delimiters =
      grind (arith, nat_tests, fewer-characters-are-excluded-too, ends-are-excluded-from-set)

  name-set-excludes-delimiters : excludes kind.reg_name (codes "/?#") ≡ true
  name-set-excludes-delimiters =
      grind (arith, nat_tests, fewer-characters-are-excluded-too, ends-are-excluded-from-set)

  reg_name_set-excludes-delimiters : excludes reg_name_set (codes "/?#") ≡ true
  reg_name_set-excludes-delimiters = refl

  host-lacks-authority-ends : (text : List ℕ) (host : HostKind)
      → IsUtf8 text → IsHost kind.reg_name text host → Lacks (codes "/?#") text
  host-lacks-authority-ends text (Ipv6 segments) u (address, e, groups) = subst (Lacks (codes
      "/?#")) (sym e) (bracketed-address-lacks-delimiters address (ipv6-text-lacks-excluded-marks
      (codes "/?#") ipv_future_set-excludes-delimiters address segments groups))
  host-lacks-authority-ends text IpvFuture u (address, e, future) = subst (Lacks (codes "/?#"))
      (sym e) (bracketed-address-lacks-delimiters address (ipvfuture-text-lacks-excluded-marks
      (codes "/?#") ipv_future_set-excludes-delimiters address
      (address-in-brackets-is-utf8 address (subst IsUtf8 e u)) future))
  host-lacks-authority-ends text (Ipv4 octets) u dotted =
      ipv4-text-lacks-name-marks (codes "/?#") reg_name_set-excludes-delimiters text octets dotted
  host-lacks-authority-ends text RegName u (valid, other) = valid_text_lacks_excluded_marks
      kind.reg_name (codes "/?#") sets.reg_name.percent name-set-excludes-delimiters text u valid

  pub authority-lacks-its-ends : (a : List ℕ) → is_authority_text kind a ≡ true
      → Lacks (codes "/?#") a
  authority-lacks-its-ends a e =
      let h = is_authority_for-sound _ _ a (authority-text-meets-rule _ a e) in
      let p = authority_parts a in
      let utf8 = authority-parts-are-utf8 _ _ _
      (subst IsUtf8 (sym h.whole) (authority-text-is-utf8 _ a e)) in
      subst (Lacks (codes "/?#")) h.whole (authority-text-lacks-its-ends p
      (IfSome-combine _ _ _ _ (λ x v w. valid_text_lacks_excluded_marks kind.userinfo (codes "/?#")
      sets.userinfo.percent userinfo-set-excludes-delimiters x v w) utf8.userinfo h.userinfo)
      (host-lacks-authority-ends _ _ utf8.host h.host.1) (IfSome-combine _ _ _ _ (λ x v
      w. valid_text_lacks_excluded_marks digit_set (codes "/?#") refl refl x v w) utf8.port h.port))
