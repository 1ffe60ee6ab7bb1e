-- An authority has one cut, and passes its test exactly if the parts of that cut meet the grammar.
use Rattle.std.proofs.lemmas.Grind.{common_steps}
use Rattle.uri_parts.proofs.Common.{◌≡◌, ℕ, true, false, not, eqb, ltb, List, [], ◌∷◌, ◌++◌, drop, refl, sym, ap, subst, ◌∙◌, arith, ◌&&◌, inl, inr, ◌⊎◌, append_assoc, append-nil, codes, bytes_eq, Option, Some, None, IfSome, IsUtf8, list_any, list_all, is_ascii_hexdigit, option_map_or, and_from, and_parts, cond-true, cond-false, or_parts, nat_tests, bytes_eq-Decides, TableSet, is_one_of, digit_set, ipv_future_set, is_valid_for, IsValidFor, excludes, Lacks, before_any, from_any, starts, marked, when, HostKind, Ipv4, Ipv6, IpvFuture, RegName, IsHost, bracketed, is_host, AuthorityParts, recompose_authority, IsAuthorityFor, LackAuthorityDelimiters, after_userinfo, leading_host, after_host, authority_parts, is_authority_for}
use Rattle.uri_parts.proofs.Splitting.Cuts.{cut-at-end-of-text-without-marks, IsEmptyOrMarked, text-after-other-byte-lacks-marks}
use Rattle.uri_parts.proofs.TextKinds.GrammarTexts.{utf8_around_ascii_byte, valid_text_lacks_excluded_marks}
use Rattle.uri_parts.proofs.HostForms.Futures.{ipv4-text-lacks-name-marks, ipv6-text-lacks-excluded-marks, ipvfuture-text-lacks-excluded-marks, joined-texts-lack-marks}
use Rattle.uri_parts.proofs.HostForms.Hosts.{lacking_text_does_not_begin_with, address-in-brackets-is-utf8, is_host-sound, is_host-complete, reg_name_set-excludes-host-delimiters}

-- cutting authorities: a set excludes ASCII delimiters that are in neither it nor an octet
set-excludes-marks-outside-it : (set : TableSet) (marks : List ℕ)
    → list_all (λ b. ltb b 128 && (not (is_ascii_hexdigit b) && not (eqb b 37))) marks ≡ true
    → list_any set.ascii marks ≡ false → excludes set marks ≡ true
set-excludes-marks-outside-it set [] h e = refl
set-excludes-marks-outside-it set (b ∷ marks) h e =
    let p = and_parts _ _ h in
    let q = or_parts _ _ e in
    let r = and_parts _ _ p.0 in
    and_from _ _ (and_from _ _ r.0 (and_from _ _ (ap not q.0) r.1))
    (set-excludes-marks-outside-it set marks p.1 q.1)

pub Lacks-of-fewer-marks : (some all : List ℕ) → ((c : ℕ) → is_one_of some c ≡ true
    → is_one_of all c ≡ true) → (text : List ℕ) → Lacks all text → Lacks some text
Lacks-of-fewer-marks some all more text h k d l = grind (arith, nat_tests)

pub empty-text-lacks-marks : (marks : List ℕ) → Lacks marks []
empty-text-lacks-marks marks k d l = absurd (omega arith)

pub cut-of-text-without-marks : (marks text : List ℕ) → Lacks marks text
    → (before_any marks text ≡ text) × (from_any marks text ≡ [])
cut-of-text-without-marks marks text h =
    let cut = cut-at-end-of-text-without-marks marks text [] h tt in (
      ap (before_any marks) (sym (append-nil text)) ∙ cut.0,
      ap (from_any marks) (sym (append-nil text)) ∙ cut.1,
    )

port_text : Option (List ℕ) → List ℕ
port_text port = marked (codes ":") port []

port_text-is-empty-or-has-colon : (port : Option (List ℕ))
    → IsEmptyOrMarked (codes ":") (port_text port)
unfolding port_text
port_text-is-empty-or-has-colon None = tt
port_text-is-empty-or-has-colon (Some digits) = refl

port-is-found-in-port_text : (port : Option (List ℕ))
    → when (starts 58 (port_text port)) (drop 1 (port_text port)) ≡ port
unfolding port_text
port-is-found-in-port_text None = refl
port-is-found-in-port_text (Some digits) = ap Some (append-nil digits)

-- authorities: the text is a host in brackets, or has no delimiter of an authority in it
abbrev pub HasHostShape : List ℕ → Type 0
HasHostShape host = ((address : List ℕ) × (host ≡ bracketed address) × Lacks (codes "]") address)
    ⊎ Lacks (codes "@:[") host

-- authorities: a host without `[` (91), and a port after it, do not begin with `[`
unbracketed-host-begins-with-no-bracket : (host tail : List ℕ)
    → Lacks (codes "[") host → IsEmptyOrMarked (codes ":") tail → starts 91 (host ++ tail) ≡ false
unbracketed-host-begins-with-no-bracket [] tail lacks begins = grind (arith, nat_tests)
unbracketed-host-begins-with-no-bracket (c ∷ host) tail lacks begins =
    lacking_text_does_not_begin_with (codes "[") (c ∷ host) 91 refl lacks

pub host-is-cut-where-it-ends : (host tail : List ℕ) → HasHostShape host
    → IsEmptyOrMarked (codes ":") tail
    → (leading_host (host ++ tail) ≡ host) × (after_host (host ++ tail) ≡ tail)
host-is-cut-where-it-ends host tail (inl (address, e, lacks)) begins =
    let text : List ℕ = bracketed address ++ tail in
    let same : text ≡ (91 ∷ address) ++ (93 ∷ tail) = append_assoc (91 ∷ address) (codes "]")
    tail in
    let cut = cut-at-end-of-text-without-marks (codes "]") (91 ∷ address)
    (93 ∷ tail) (text-after-other-byte-lacks-marks (codes "]") 91 address refl lacks) refl in (
      ap (λ h. leading_host (h ++ tail)) e
          ∙ ap (λ t. t ++ codes "]") (ap (before_any (codes "]")) same ∙ cut.0) ∙ sym e,
      ap (λ h. after_host (h ++ tail)) e ∙ ap (drop 1) (ap (from_any (codes "]")) same ∙ cut.1),
    )
host-is-cut-where-it-ends host tail (inr lacks) begins =
    let s = unbracketed-host-begins-with-no-bracket host tail (Lacks-of-fewer-marks (codes "[")
    (codes "@:[") (λ c e. grind (arith, nat_tests)) host lacks) begins in
    let cut = cut-at-end-of-text-without-marks (codes ":") host tail (Lacks-of-fewer-marks
    (codes ":") (codes "@:[") (λ c e. grind (arith, nat_tests)) host lacks) begins in
    (cond-false _ _ _ s ∙ cut.0, cond-false _ _ _ s ∙ cut.1)

-- authorities: an IPvFuture address has neither `]` nor `@`
ipv_future_set-excludes-bracket-and-at-sign : (excludes ipv_future_set (codes "]") ≡ true)
    × (excludes ipv_future_set (codes "@") ≡ true)
ipv_future_set-excludes-bracket-and-at-sign = (refl, refl)

-- authorities: an address without `@` has none in its brackets either
pub bracketed_lacks_at_sign : (address : List ℕ) → Lacks (codes "@") address
    → Lacks (codes "@") (bracketed address)
bracketed_lacks_at_sign address h = grind (arith, common_steps)

-- authorities: the userinfo that is found before `@`, and what is left after it
user_cut : (userinfo : Option (List ℕ)) (rest : List ℕ) → IfSome userinfo (Lacks (codes "@"))
    → Lacks (codes "@") rest →
    (when (starts 64 (from_any (codes "@") (marked [] userinfo (codes "@") ++ rest)))
    (before_any (codes "@") (marked [] userinfo (codes "@") ++ rest)) ≡ userinfo)
    × (after_userinfo (marked [] userinfo (codes "@") ++ rest) ≡ rest)
user_cut None rest h lacks =
    let s : starts 64 (from_any (codes "@") rest) ≡ false =
    ap (starts 64) (cut-of-text-without-marks (codes "@") rest lacks).1 in
    (ap (λ t. when t (before_any (codes "@") rest)) s, cond-false _ _ _ s)
user_cut (Some user) rest h lacks =
    let text : List ℕ = (user ++ codes "@") ++ rest in
    let same : text ≡ user ++ (64 ∷ rest) = append_assoc user (codes "@") rest in
    let cut = cut-at-end-of-text-without-marks (codes "@") user (64 ∷ rest) h refl in
    let from : from_any (codes "@") text ≡ 64 ∷ rest = ap (from_any (codes "@")) same ∙ cut.1 in
    let s : starts 64 (from_any (codes "@") text) ≡ true = ap (starts 64) from in (
      ap (λ t. when t (before_any (codes "@") text)) s
          ∙ ap Some (ap (before_any (codes "@")) same ∙ cut.0),
      cond-true _ _ _ s ∙ ap (drop 1) from,
    )

absent-or-valid-part-passes-test : (set : TableSet) (part : Option (List ℕ))
    → IfSome part (IsValidFor set) → option_map_or (is_valid_for set) part true ≡ true
absent-or-valid-part-passes-test set None h = refl
absent-or-valid-part-passes-test set (Some text) h = h

part-that-passes-test-is-valid : (set : TableSet) (part : Option (List ℕ))
    → option_map_or (is_valid_for set) part true ≡ true → IfSome part (IsValidFor set)
part-that-passes-test-is-valid set None e = tt
part-that-passes-test-is-valid set (Some text) e = e

-- authorities: what passes the test has userinfo, host and port that meet the grammar
pub is_authority_for-sound : (users names : TableSet) (text : List ℕ)
    → is_authority_for users names text ≡ true
    → IsAuthorityFor users names text (authority_parts text)
unfolding is_authority_for
is_authority_for-sound users names text t =
    grind (arith, nat_tests, bytes_eq-Decides, part-that-passes-test-is-valid, is_host-sound)

-- authorities: userinfo, host and port are UTF-8
record AreUtf8 (p : AuthorityParts) : Type 0 where
  userinfo : IfSome p.userinfo IsUtf8
  host : IsUtf8 p.host
  port : IfSome p.port IsUtf8

-- authorities: host and port of a text in UTF-8 are UTF-8
host-and-port-are-utf8 : (host : List ℕ) (port : Option (List ℕ)) → IsUtf8 (host ++ port_text port)
    → IsUtf8 host × IfSome port IsUtf8
unfolding port_text
host-and-port-are-utf8 host None u = (subst IsUtf8 (append-nil host) u, tt)
host-and-port-are-utf8 host (Some digits) u =
    let apart = utf8_around_ascii_byte host 58 (digits ++ []) (omega arith) u in
    (apart.0, subst IsUtf8 (append-nil digits) apart.1)

-- authorities: userinfo, host and port of a text in UTF-8 are UTF-8
authority-parts-are-utf8 : (userinfo port : Option (List ℕ)) (host : List ℕ)
    → IsUtf8 (marked [] userinfo (codes "@") ++ (host ++ port_text port))
    → AreUtf8 (record { userinfo = userinfo; host = host; port = port })
authority-parts-are-utf8 None port host u =
    let suffix = host-and-port-are-utf8 host port u in
    record { userinfo = tt; host = suffix.0; port = suffix.1 }
authority-parts-are-utf8 (Some user) port host u =
    let rest : List ℕ = host ++ port_text port in
    let apart = utf8_around_ascii_byte user 64 rest (omega arith)
    (subst IsUtf8 (append_assoc user (codes "@") rest) u) in
    let suffix = host-and-port-are-utf8 host port apart.1 in
    record { userinfo = apart.0; host = suffix.0; port = suffix.1 }

valid-port-lacks-at-sign : (port : Option (List ℕ))
    → IfSome port IsUtf8 → IfSome port (IsValidFor digit_set) → Lacks (codes "@") (port_text port)
unfolding port_text
valid-port-lacks-at-sign None u h = empty-text-lacks-marks (codes "@")
valid-port-lacks-at-sign (Some digits) u h = text-after-other-byte-lacks-marks
    (codes "@") 58 (digits ++ []) refl (joined-texts-lack-marks (codes "@") digits []
    (valid_text_lacks_excluded_marks digit_set (codes "@") refl refl digits u h)
    (empty-text-lacks-marks (codes "@")))

module _ (users names : TableSet) (apart : LackAuthorityDelimiters users names) where
  userinfo-set-excludes-at-sign : excludes users (codes "@") ≡ true
  userinfo-set-excludes-at-sign = set-excludes-marks-outside-it users
      (codes "@") refl apart.users_marks

  pub names_exclude_delimiters : excludes names (codes "@:[") ≡ true
  names_exclude_delimiters = set-excludes-marks-outside-it names
      (codes "@:[") refl apart.names_marks

  valid-userinfo-lacks-at-sign : (userinfo : Option (List ℕ)) → IfSome userinfo IsUtf8
      → IfSome userinfo (IsValidFor users) → IfSome userinfo (Lacks (codes "@"))
  valid-userinfo-lacks-at-sign None u h = tt
  valid-userinfo-lacks-at-sign (Some user) u h = valid_text_lacks_excluded_marks users
      (codes "@") apart.users_percent userinfo-set-excludes-at-sign user u h

  unbracketed-host-has-host-shape : (host : List ℕ) → Lacks (codes "@:[") host → HasHostShape host
      × Lacks (codes "@") host
  unbracketed-host-has-host-shape host lacks = grind (arith, nat_tests, Lacks-of-fewer-marks)

  host-of-kind-has-host-shape : (text : List ℕ) (host : HostKind)
      → IsUtf8 text → IsHost names text host → HasHostShape text × Lacks (codes "@") text
  host-of-kind-has-host-shape text (Ipv6 segments) u (address, e, groups) = (
    inl (
      address,
      e,
      ipv6-text-lacks-excluded-marks
          (codes "]") ipv_future_set-excludes-bracket-and-at-sign.0 address segments groups,
    ),
    subst
        (Lacks (codes "@")) (sym e) (bracketed_lacks_at_sign address (ipv6-text-lacks-excluded-marks
        (codes "@") ipv_future_set-excludes-bracket-and-at-sign.1 address segments groups)),
  )
  host-of-kind-has-host-shape text IpvFuture u (address, e, future) =
      let inner = address-in-brackets-is-utf8 address (subst IsUtf8 e u) in (
        inl (
          address,
          e,
          ipvfuture-text-lacks-excluded-marks
              (codes "]") ipv_future_set-excludes-bracket-and-at-sign.0 address inner future,
        ),
        subst (Lacks (codes "@"))
            (sym e) (bracketed_lacks_at_sign address (ipvfuture-text-lacks-excluded-marks
            (codes "@") ipv_future_set-excludes-bracket-and-at-sign.1 address inner future)),
      )
  host-of-kind-has-host-shape text (Ipv4 octets) u dotted =
      unbracketed-host-has-host-shape text (ipv4-text-lacks-name-marks
      (codes "@:[") reg_name_set-excludes-host-delimiters text octets dotted)
  host-of-kind-has-host-shape text RegName
      u (valid, other) = unbracketed-host-has-host-shape text (valid_text_lacks_excluded_marks
      names (codes "@:[") apart.names_percent names_exclude_delimiters text u valid)

  -- an authority has one cut
  pub authority_parts-are-unique : (text : List ℕ) (p : AuthorityParts) → IsUtf8 text
      → IsAuthorityFor users names text p → authority_parts text ≡ p
  unfolding port_text
  authority_parts-are-unique text p u h =
      let utf8 = authority-parts-are-utf8 p.userinfo p.port p.host (subst IsUtf8 (sym h.whole) u) in
      let rest : List ℕ = p.host ++ port_text p.port in
      let formed = host-of-kind-has-host-shape p.host h.host.0 utf8.host h.host.1 in
      let lacks = joined-texts-lack-marks (codes "@") p.host (port_text p.port) formed.1
      (valid-port-lacks-at-sign p.port utf8.port h.port) in
      let user = user_cut p.userinfo rest
      (valid-userinfo-lacks-at-sign p.userinfo utf8.userinfo h.userinfo) lacks in
      let host = host-is-cut-where-it-ends p.host (port_text p.port) formed.0
      (port_text-is-empty-or-has-colon p.port) in
      let suffix : after_userinfo text ≡ rest = ap after_userinfo (sym h.whole) ∙ user.1 in
      let a = ap (λ t. when (starts 64 (from_any (codes "@") t)) (before_any (codes "@") t))
      (sym h.whole) ∙ user.0 in
      let b : leading_host (after_userinfo text) ≡ p.host = ap leading_host suffix ∙ host.0 in
      let c = ap (λ r. when (starts 58 (after_host r)) (drop 1 (after_host r))) suffix
      ∙ ap (λ r. when (starts 58 r) (drop 1 r)) host.1 ∙ port-is-found-in-port_text p.port in
      λ i. record { userinfo = a i; host = b i; port = c i }

  -- a text that has an authority's parts passes the test of an authority
  pub is_authority_for-complete : (text : List ℕ) (p : AuthorityParts) → IsUtf8 text
      → IsAuthorityFor users names text p → is_authority_for users names text ≡ true
  unfolding is_authority_for port_text
  is_authority_for-complete text p u h =
      let utf8 = authority-parts-are-utf8 p.userinfo p.port p.host (subst IsUtf8 (sym h.whole) u) in
      let found = is_host-complete
      names apart.names_percent names_exclude_delimiters p.host h.host.0 utf8.host h.host.1 in
      let passes = λ (q : AuthorityParts). bytes_eq (recompose_authority q) text
      && (option_map_or (is_valid_for users) q.userinfo true
      && (is_host names q.host && option_map_or (is_valid_for digit_set) q.port true)) in
      subst (λ q. passes q ≡ true) (sym (authority_parts-are-unique text p u h))
      (and_from _ _ ((bytes_eq-Decides (recompose_authority p) text).1 h.whole)
      (and_from _ _ (absent-or-valid-part-passes-test users p.userinfo h.userinfo)
      (and_from _ _ found.test (absent-or-valid-part-passes-test digit_set p.port h.port))))
