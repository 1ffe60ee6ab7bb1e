-- An authority that is printed from its meaning is one, lacks the marks that would end it, and has
-- that meaning.
use Rattle.uri_ops.proofs.Common.{common_steps, ◌≡◌, ℕ, Bool, true, false, cond, not, List, [], ◌∷◌, ◌++◌, refl, sym, ap, subst, ◌∙◌, ◌||◌, arith, append_assoc, append-nil, option_map, codes, Option, Some, None, IfSome, list_any, list_all, IsUtf8, IsUtf8-append, IsUtf8-nil, and_parts, and_from, or_parts, or_from, not_from_false, not-true, nat_tests, TableSet, is_one_of, digit_set, IsValidFor, decode_unreserved, excludes, test_holds_of_each, Lacks, marked, HostKind, IsHost, host_kind, AuthorityParts, IsAuthorityFor, LackAuthorityDelimiters, authority_parts, recompose_authority, Kind, is_authority, is_authority_for-sound, is_authority_for-complete, authority_parts-are-unique, names_exclude_delimiters, joined-texts-lack-marks, is_host-complete, utf8_around_ascii_byte, valid_text_lacks_excluded_marks, is_empty, is_default, HasComponentSets, AuthorityMeaning, host_meaning, port_meaning, authority_meaning, normal_parts, IfSome-combine, IfSome-weaken}
use Rattle.uri_ops.proofs.Meanings.AllowedParts.{is_set_text, set-text-from-utf8, set-text-is-utf8, set-text-is-valid}
use Rattle.uri_ops.proofs.Meanings.AsciiCharacters.{ascii-bytes-are-utf8}
use Rattle.uri_ops.proofs.Paths.PathCharacters.{test-of-delimiters-gives-lacks}
use Rattle.uri_ops.proofs.Meanings.ComponentEnds.{ends-are-excluded-from-set, fewer-characters-are-excluded-too}
use Rattle.uri_ops.proofs.Meanings.HostMeanings.{IsHostWithMeaning, normal-host-has-meaning}
use Rattle.uri_ops.proofs.Normal.NormalComponents.{NormalAuthoritiesKeepMeaning, normal-component-is-part, normal-component-decodes-as-component, part-lacks-excluded-characters}

no-delimiter-allowed-excludes-each : (set : TableSet) (marks : List ℕ)
    → list_any set.ascii marks ≡ false → list_all (λ c. not (set.ascii c)) marks ≡ true
no-delimiter-allowed-excludes-each set [] e = refl
no-delimiter-allowed-excludes-each set (m ∷ marks) e = let p = or_parts _ _ e in
    and_from _ _ (not_from_false _ p.0) (no-delimiter-allowed-excludes-each set marks p.1)

fewer-delimiters-are-excluded-too : (set : TableSet) (all some : List ℕ)
    → list_all (is_one_of all) some ≡ true
    → list_any set.ascii all ≡ false → list_any set.ascii some ≡ false
fewer-delimiters-are-excluded-too set all [] within e = refl
fewer-delimiters-are-excluded-too set all (m ∷ some) within e =
    let p = and_parts (is_one_of all m) (list_all (is_one_of all) some) within in
    or_from _ _ (not-true _ (test_holds_of_each (λ c. not (set.ascii c)) all
    (no-delimiter-allowed-excludes-each set all e) m p.0))
    (fewer-delimiters-are-excluded-too set all some p.1 e)

-- meanings of authorities: userinfo and host of a kind cannot contain what ends an authority
pub kind-sets-lack-authority-delimiters : (kind : Kind) → HasComponentSets kind
    → LackAuthorityDelimiters kind.userinfo kind.reg_name
kind-sets-lack-authority-delimiters kind sets =
    grind (arith, nat_tests, fewer-delimiters-are-excluded-too)

-- meanings of authorities: userinfo, host and port are UTF-8
pub record PartsUtf8 (p : AuthorityParts) : Type 0 where
  pub userinfo : IfSome p.userinfo IsUtf8
  pub host : IsUtf8 p.host
  pub port : IfSome p.port IsUtf8

-- meanings of authorities: host and port of a text in UTF-8 are UTF-8
host-and-port-of-utf8-are-utf8 : (host : List ℕ) (port : Option (List ℕ))
    → IsUtf8 (host ++ marked (codes ":") port []) → IsUtf8 host × IfSome port IsUtf8
host-and-port-of-utf8-are-utf8 host None u = (subst IsUtf8 (append-nil host) u, tt)
host-and-port-of-utf8-are-utf8 host (Some digits) u =
    let apart = utf8_around_ascii_byte host 58 (digits ++ []) (omega arith) u in
    (apart.0, subst IsUtf8 (append-nil digits) apart.1)

-- meanings of authorities: userinfo, host and port of an authority in UTF-8 are UTF-8
pub authority-parts-are-utf8 : (userinfo port : Option (List ℕ)) (host : List ℕ)
    → IsUtf8 (marked [] userinfo (codes "@") ++ (host ++ marked (codes ":") port []))
    → PartsUtf8 (record { userinfo = userinfo; host = host; port = port })
authority-parts-are-utf8 None port host u = let suffix = host-and-port-of-utf8-are-utf8 _ _ u in
    record { userinfo = tt; host = suffix.0; port = suffix.1 }
authority-parts-are-utf8 (Some user) port host u =
    let apart = utf8_around_ascii_byte user 64 (host ++ marked (codes ":") port []) (omega arith)
    (subst IsUtf8 (append_assoc user (codes "@") (host ++ marked (codes ":") port [])) u) in
    let suffix = host-and-port-of-utf8-are-utf8 host port apart.1 in
    record { userinfo = apart.0; host = suffix.0; port = suffix.1 }

-- meanings of authorities: a port with its `:`, if there is one, is UTF-8
port-with-colon-is-utf8 : (port : Option (List ℕ)) → IfSome port IsUtf8
    → IsUtf8 (marked (codes ":") port [])
port-with-colon-is-utf8 None u = IsUtf8-nil
port-with-colon-is-utf8 (Some digits) u = IsUtf8-append (58 ∷ digits) []
    (IsUtf8-append (codes ":") digits (ascii-bytes-are-utf8 (codes ":") refl) u) IsUtf8-nil

-- meanings of authorities: a userinfo with its `@`, if there is one, is UTF-8
userinfo-with-at-sign-is-utf8 : (userinfo : Option (List ℕ)) → IfSome userinfo IsUtf8
    → IsUtf8 (marked [] userinfo (codes "@"))
userinfo-with-at-sign-is-utf8 None u = IsUtf8-nil
userinfo-with-at-sign-is-utf8 (Some user) u = IsUtf8-append user (codes "@") u
    (ascii-bytes-are-utf8 (codes "@") refl)

-- meanings of authorities: the text of components in UTF-8 is UTF-8
recomposed-authority-is-utf8 : (p : AuthorityParts) → PartsUtf8 p → IsUtf8 (recompose_authority p)
recomposed-authority-is-utf8 p u = IsUtf8-append _ _ (userinfo-with-at-sign-is-utf8 _ u.userinfo)
    (IsUtf8-append _ _ u.host (port-with-colon-is-utf8 _ u.port))

userinfo-with-at-sign-lacks-authority-ends : (userinfo : Option (List ℕ))
    → IfSome userinfo (Lacks (codes "/?#")) → Lacks (codes "/?#") (marked [] userinfo (codes "@"))
userinfo-with-at-sign-lacks-authority-ends userinfo h =
    grind (arith, common_steps, test-of-delimiters-gives-lacks, joined-texts-lack-marks)

port-with-colon-lacks-authority-ends : (port : Option (List ℕ)) → IfSome port (Lacks (codes "/?#"))
    → Lacks (codes "/?#") (marked (codes ":") port [])
port-with-colon-lacks-authority-ends port h =
    grind (arith, common_steps, test-of-delimiters-gives-lacks, joined-texts-lack-marks)

-- meanings of authorities: if no component has a `/`, `?` or `#`, the recomposed authority has none
pub authority-text-lacks-its-ends : (p : AuthorityParts) → IfSome p.userinfo (Lacks (codes "/?#"))
    → Lacks (codes "/?#") p.host → IfSome p.port (Lacks (codes "/?#"))
    → Lacks (codes "/?#") (recompose_authority p)
authority-text-lacks-its-ends p user host port = joined-texts-lack-marks (codes "/?#")
    (marked [] p.userinfo (codes "@")) (p.host ++ marked (codes ":") p.port [])
    (userinfo-with-at-sign-lacks-authority-ends _ user) (joined-texts-lack-marks (codes "/?#")
    p.host (marked (codes ":") p.port []) host (port-with-colon-lacks-authority-ends p.port port))

port_meaning-keeps-property : (default : Option ℕ) (port : Option (List ℕ)) (P : List ℕ → Type 0)
    → IfSome port P → IfSome (port_meaning default port) P
port_meaning-keeps-property default port o h = grind (arith, common_steps)

-- meanings of ports: an unchanged port is its own meaning without a default; t: whether it is left
-- out
unchanged-port-is-its-bare-meaning : (default : Option ℕ) (digits : List ℕ) (t : Bool)
    → (is_empty digits || is_default default digits) ≡ t
    → port_meaning None (cond t None (Some digits)) ≡ cond t None (Some digits)
unchanged-port-is-its-bare-meaning default digits t e = grind (arith, common_steps)

port_meaning-is-its-own-bare-meaning : (default : Option ℕ) (port : Option (List ℕ))
    → port_meaning None (port_meaning default port) ≡ port_meaning default port
port_meaning-is-its-own-bare-meaning default port =
    grind (arith, common_steps, unchanged-port-is-its-bare-meaning)

module _ (kind : Kind) (sets : HasComponentSets kind) (default : Option ℕ) (a : List ℕ)
    (u : IsUtf8 a) (e : is_authority kind a ≡ true) where
  abbrev users : TableSet
  users = kind.userinfo

  abbrev names : TableSet
  names = kind.reg_name

  abbrev parts : AuthorityParts
  parts = authority_parts a

  abbrev normal : AuthorityParts
  normal = normal_parts (authority_meaning kind default a)

  apart : LackAuthorityDelimiters users names
  apart = kind-sets-lack-authority-delimiters kind sets

  grammar : IsAuthorityFor users names a parts
  grammar = is_authority_for-sound users names a e

  utf8 : PartsUtf8 parts
  utf8 = authority-parts-are-utf8 parts.userinfo parts.port parts.host
      (subst IsUtf8 (sym grammar.whole) u)

  host : IsHostWithMeaning names (host_meaning names parts.host (host_kind parts.host)) normal.host
  host = normal-host-has-meaning names sets.reg_name (names_exclude_delimiters users names apart)
      parts.host
      (host_kind parts.host) utf8.host (found parts.host grammar.host.0 utf8.host grammar.host.1)
    where
      found : (text : List ℕ) (h : HostKind) → IsUtf8 text → IsHost names text h
          → IsHost names text (host_kind text)
      found text h v is_h = subst (IsHost names text) (sym (is_host-complete names
          apart.names_percent (names_exclude_delimiters users names apart) text h v is_h).kind) is_h

  user : IfSome parts.userinfo (λ x. is_set_text users x ≡ true)
  user = IfSome-combine parts.userinfo IsUtf8 (IsValidFor users) (λ x. is_set_text users x ≡ true)
      (λ x v h. set-text-from-utf8 users x v h) utf8.userinfo grammar.userinfo

  normal-userinfo-is-set-text : IfSome normal.userinfo (λ x. is_set_text users x ≡ true)
  normal-userinfo-is-set-text = normal-component-is-part users (codes "/?#[]@") sets.userinfo
      parts.userinfo user

  normal-authority-parts-are-utf8 : PartsUtf8 normal
  normal-authority-parts-are-utf8 = record {
    userinfo = IfSome-weaken normal.userinfo (λ x. is_set_text users x ≡ true) IsUtf8
        (λ x h. set-text-is-utf8 users x h) normal-userinfo-is-set-text;
    host = host.utf8;
    port = port_meaning-keeps-property default parts.port IsUtf8 utf8.port;
  }

  normal-authority-is-utf8 : IsUtf8 (recompose_authority normal)
  normal-authority-is-utf8 = recomposed-authority-is-utf8 normal normal-authority-parts-are-utf8

  normal-authority-follows-grammar : IsAuthorityFor users names (recompose_authority normal) normal
  normal-authority-follows-grammar = record {
    whole = refl;
    userinfo = IfSome-weaken normal.userinfo (λ x. is_set_text users x ≡ true) (IsValidFor users)
        (λ x h. set-text-is-valid users x h) normal-userinfo-is-set-text;
    host = host.host;
    port = port_meaning-keeps-property default parts.port (IsValidFor digit_set) grammar.port;
  }

  normal-authority-is-of-kind : is_authority kind (recompose_authority normal) ≡ true
  normal-authority-is-of-kind = is_authority_for-complete users names apart
      (recompose_authority normal) normal normal-authority-is-utf8 normal-authority-follows-grammar

  pub normal-authority-has-normal-parts : authority_parts (recompose_authority normal) ≡ normal
  normal-authority-has-normal-parts = authority_parts-are-unique users names apart
      (recompose_authority normal) normal normal-authority-is-utf8 normal-authority-follows-grammar

  bare-meaning-of-normal-authority : authority_meaning kind None (recompose_authority normal)
      ≡ authority_meaning kind default a
  bare-meaning-of-normal-authority =
      let of_parts : AuthorityParts → AuthorityMeaning = λ p. record {
        userinfo = option_map (decode_unreserved users) p.userinfo;
        host = host_meaning names p.host (host_kind p.host);
        port = port_meaning None p.port;
      } in
      let user_decoded = normal-component-decodes-as-component _ _ sets.userinfo _ user in
      let host_decoded = host.meaning in
      let port_decoded = port_meaning-is-its-own-bare-meaning default parts.port in
      ap of_parts normal-authority-has-normal-parts
      ∙ (λ i. record { userinfo = user_decoded i; host = host_decoded i; port = port_decoded i })

  userinfo-set-excludes-authority-ends : excludes users (codes "/?#") ≡ true
  userinfo-set-excludes-authority-ends =
      grind (arith, nat_tests, fewer-characters-are-excluded-too, ends-are-excluded-from-set)

  normal-authority-lacks-its-ends : Lacks (codes "/?#") (recompose_authority normal)
  normal-authority-lacks-its-ends = authority-text-lacks-its-ends normal
      (part-lacks-excluded-characters users (codes "/?#[]@") sets.userinfo (codes "/?#")
      userinfo-set-excludes-authority-ends normal.userinfo normal-userinfo-is-set-text) host.lacks
      (IfSome-combine normal.port IsUtf8 (IsValidFor digit_set) (Lacks (codes "/?#"))
      (λ x v h. valid_text_lacks_excluded_marks digit_set (codes "/?#") refl refl x v h)
      normal-authority-parts-are-utf8.port normal-authority-follows-grammar.port)

pub normal-authorities-are-authorities : (kind : Kind) → HasComponentSets kind
    → NormalAuthoritiesKeepMeaning kind
normal-authorities-are-authorities kind sets =
    grind (
      arith,
      normal-authority-is-utf8,
      normal-authority-is-of-kind,
      normal-authority-lacks-its-ends,
      bare-meaning-of-normal-authority,
    )
