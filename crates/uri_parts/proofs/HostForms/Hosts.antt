-- The test of a host is its grammar, and a text is a host of one kind.
use Rattle.uri_parts.proofs.Common.{◌≡◌, ℕ, true, false, eqb, List, [], ◌∷◌, ◌++◌, refl, sym, ap, subst, ◌∙◌, arith, ◌||◌, ⊎_elim, inl, inr, ◌⊎◌, Option, Some, None, codes, is_some, IsUtf8, and_parts, or_right, eqb-true, cond-true, cond-false, both_ways, cases_Bool, nat_tests, bytes_eq-Decides, none-some, TableSet, LacksPercent, is_one_of, ipv_future_set, reg_name_set, is_valid_for, excludes, Lacks, starts, HostKind, Ipv4, Ipv6, IpvFuture, RegName, IsHost, IsIpvFuture, bracketed, literal_of, literal_kind, name_kind, ipv4_value, ipv6_value, is_ipv_future, host_kind, is_host}
use Rattle.uri_parts.specs.Hosts.{IsIpv4Text}
use Rattle.uri_parts.proofs.Splitting.Cuts.{cut-at-end-of-text-without-marks}
use Rattle.uri_parts.proofs.TextKinds.GrammarTexts.{utf8_around_ascii_byte, valid_text_lacks_excluded_marks}
use Rattle.uri_parts.proofs.Parsing.ScanStops.{utf8_after_ascii_byte}
use Rattle.uri_parts.proofs.HostForms.Addresses.{is_address_char, is_address_text, ipv6-text-is-address-text, address-text-begins-with-address-char, ipv4_value-complete, ipv4_value-sound, ipv6_value-complete, ipv6_value-sound}
use Rattle.uri_parts.proofs.HostForms.Futures.{is_ipv_future-complete, is_ipv_future-sound, ipv4-text-lacks-name-marks, ipv6-text-lacks-excluded-marks, ipvfuture-text-lacks-excluded-marks}

pub option-is-none-or-some : (o : Option (List ℕ)) → (o ≡ None) ⊎ ((x : List ℕ) × (o ≡ Some x))
option-is-none-or-some None = inl refl
option-is-none-or-some (Some x) = inr (x, refl)

-- hosts: `v`, which begins an IPvFuture address, is no character of an IPv6 address
version-letter-is-no-address-char : (c : ℕ) → is_one_of (codes "vV") c ≡ true
    → is_address_char c ≡ true → ⊥
unfolding is_address_char
version-letter-is-no-address-char c e h = grind (arith, nat_tests)

ipvfuture-text-is-no-ipv6 : (text : List ℕ) → IsIpvFuture text → ipv6_value text ≡ None
ipvfuture-text-is-no-ipv6 text h = ⊎_elim (λ n. n) (λ (segments, e).
    let ok = ipv6-text-is-address-text _ segments (ipv6_value-sound text segments e) in
    absurd (version-letter-is-no-address-char h.letter h.is_v
    (address-text-begins-with-address-char h.letter _
    (subst (λ t. is_address_text t ≡ true) h.whole ok)))) (option-is-none-or-some (ipv6_value text))

text-of-no-ipv4-has-no-ipv4-value : (text : List ℕ)
    → ((octets : List ℕ) → ¬ (IsIpv4Text text octets)) → ipv4_value text ≡ None
text-of-no-ipv4-has-no-ipv4-value text h =
    ⊎_elim (λ n. n) (λ (octets, e). absurd (h octets (ipv4_value-sound text octets e)))
    (option-is-none-or-some (ipv4_value text))

pub literal_of-bracketed-is-address : (address : List ℕ) → Lacks (codes "]") address
    → literal_of (bracketed address) ≡ address
literal_of-bracketed-is-address address h =
    (cut-at-end-of-text-without-marks (codes "]") address (codes "]") h refl).0

kind-and-test-of-bracketed-host : (names : TableSet) (address : List ℕ) → Lacks (codes "]") address
    → (host_kind (bracketed address) ≡ literal_kind (ipv6_value address))
    × (is_host names (bracketed address) ≡ (is_some (ipv6_value address) || is_ipv_future address))
unfolding host_kind is_host
kind-and-test-of-bracketed-host names address h =
    grind (arith, nat_tests, literal_of-bracketed-is-address, bytes_eq-Decides)

-- hosts: for one without `[` (91), its kind and the test of it
-- depend on whether it is an IPv4 address
kind-and-test-of-unbracketed-host : (names : TableSet) (text : List ℕ) → starts 91 text ≡ false →
    (host_kind text ≡ name_kind (ipv4_value text))
    × (is_host names text ≡ (is_some (ipv4_value text) || is_valid_for names text))
unfolding host_kind is_host
kind-and-test-of-unbracketed-host names text e = (cond-false _ _ _ e, cond-false _ _ _ e)

-- hosts: a text that lacks some delimiters does not begin with one of them (c)
pub lacking_text_does_not_begin_with : (marks text : List ℕ) (c : ℕ)
    → is_one_of marks c ≡ true → Lacks marks text → starts c text ≡ false
lacking_text_does_not_begin_with marks [] c m h = refl
lacking_text_does_not_begin_with marks (d ∷ text) c m h = ⊎_elim (λ e. absurd (both_ways _
    (h 0 0 (omega arith)) (subst (λ x. is_one_of marks x ≡ true) (sym (eqb-true d c e)) m)))
    (λ e. e) (cases_Bool (eqb d c))

-- hosts: one in brackets that passes the test is of the grammar
tested-literal-is-host : (names : TableSet) (text address : List ℕ) → text ≡ bracketed address
    → (is_some (ipv6_value address) || is_ipv_future address) ≡ true
    → IsHost names text (literal_kind (ipv6_value address))
tested-literal-is-host names text address e t =
    grind (arith, nat_tests, is_ipv_future-sound, ipv6_value-sound, option-is-none-or-some)

-- hosts: one without brackets that passes the test is of the grammar
tested-name-is-host : (names : TableSet) (text : List ℕ) → (is_some (ipv4_value text)
    || is_valid_for names text) ≡ true → IsHost names text (name_kind (ipv4_value text))
tested-name-is-host names text t = ⊎_elim
    (λ n. subst (λ o. IsHost names text (name_kind o)) (sym n) (
      subst (λ o. (is_some o || is_valid_for names text) ≡ true) n t,
      λ octets dotted. none-some octets (sym n ∙ ipv4_value-complete text octets dotted),
    )) (λ (octets, s). subst (λ o. IsHost names text (name_kind o))
    (sym s) (ipv4_value-sound text octets s)) (option-is-none-or-some (ipv4_value text))

-- hosts: what passes the test is a host of its kind
pub is_host-sound : (names : TableSet) (text : List ℕ) → is_host names text ≡ true
    → IsHost names text (host_kind text)
unfolding is_host host_kind
is_host-sound names text t = ⊎_elim (λ s.
    let p = and_parts _ _ (sym (cond-true _ _ _ s) ∙ t) in
    subst (IsHost names text) (sym (cond-true _ _ _ s))
    (tested-literal-is-host names text (literal_of text) (sym ((bytes_eq-Decides _ _).0 p.0)) p.1))
    (λ s. subst (IsHost names text) (sym (cond-false _ _ _ s))
    (tested-name-is-host names text (sym (cond-false _ _ _ s) ∙ t))) (cases_Bool (starts 91 text))

ipv_future_set-excludes-closing-bracket : excludes ipv_future_set (codes "]") ≡ true
ipv_future_set-excludes-closing-bracket = refl

-- hosts: a registered name has neither `@`, `:` nor `[`
pub reg_name_set-excludes-host-delimiters : excludes reg_name_set (codes "@:[") ≡ true
reg_name_set-excludes-host-delimiters = refl

-- hosts: an address is UTF-8 if it is with its brackets
pub address-in-brackets-is-utf8 : (address : List ℕ) → IsUtf8 (bracketed address) → IsUtf8 address
address-in-brackets-is-utf8 address u = (utf8_around_ascii_byte address 93 []
    (omega arith) (utf8_after_ascii_byte 91 (address ++ codes "]") (omega arith) u)).0

module _ (names : TableSet) (percent : LacksPercent names)
    (outside : excludes names (codes "@:[") ≡ true) where
  pub record IsFound (text : List ℕ) (host : HostKind) : Type 0 where
    pub kind : host_kind text ≡ host
    pub test : is_host names text ≡ true

  -- a host passes the test, and is of no other kind
  pub is_host-complete : (text : List ℕ) (host : HostKind) → IsUtf8 text → IsHost names text host
      → IsFound text host
  is_host-complete text (Ipv6 segments) u (address, e, groups) =
      let at = kind-and-test-of-bracketed-host names address (ipv6-text-lacks-excluded-marks
      (codes "]") ipv_future_set-excludes-closing-bracket address segments groups) in
      let v = ipv6_value-complete address segments groups in
      record {
        kind = ap host_kind e ∙ at.0 ∙ ap literal_kind v;
        test = ap (is_host names) e ∙ at.1 ∙ ap (λ o. is_some o || is_ipv_future address) v;
      }
  is_host-complete text IpvFuture u (address, e, future) =
      let inner = address-in-brackets-is-utf8 address (subst IsUtf8 e u) in
      let at = kind-and-test-of-bracketed-host names address (ipvfuture-text-lacks-excluded-marks
      (codes "]") ipv_future_set-excludes-closing-bracket address inner future) in
      record {
        kind = ap host_kind e ∙ at.0 ∙ ap literal_kind (ipvfuture-text-is-no-ipv6 address future);
        test = ap (is_host names) e ∙ at.1
            ∙ or_right _ _ (is_ipv_future-complete address inner future);
      }
  is_host-complete text (Ipv4 octets) u dotted =
      let at = kind-and-test-of-unbracketed-host names text
      (lacking_text_does_not_begin_with (codes "@:[") text 91 refl (ipv4-text-lacks-name-marks
      (codes "@:[") reg_name_set-excludes-host-delimiters text octets dotted)) in
      let v = ipv4_value-complete text octets dotted in
      record {
        kind = at.0 ∙ ap name_kind v;
        test = at.1 ∙ ap (λ o. is_some o || is_valid_for names text) v;
      }
  is_host-complete text RegName u (valid, other) =
      let at = kind-and-test-of-unbracketed-host names text
      (lacking_text_does_not_begin_with (codes "@:[") text 91 refl
      (valid_text_lacks_excluded_marks names (codes "@:[") percent outside text u valid)) in
      record {
        kind = at.0 ∙ ap name_kind (text-of-no-ipv4-has-no-ipv4-value text other);
        test = at.1 ∙ or_right _ _ valid;
      }
