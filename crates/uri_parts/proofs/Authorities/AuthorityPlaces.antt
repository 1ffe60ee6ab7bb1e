-- At their positions the parts of an authority can be cut out, and what is cut out is them.
use Rattle.std.proofs.lemmas.Grind.{common_steps}
use Rattle.uri_parts.proofs.Common.{get_or, ◌≡◌, ℕ, ◌+◌, ◌-◌, ◌<◌, ◌≤◌, true, false, eqb, List, [], ◌∷◌, ◌++◌, length, take, drop, refl, sym, ap, subst, ◌∙◌, arith, not, ◌||◌, ◌⊎◌, inl, append_assoc, append-nil, length-append, codes, Some, None, Option, slice_range, is_some, drop-drop, option_map_or, IsUtf8, IsCharBoundary, chars, drop-append_seam, take-append_seam, IsCharBoundary-start, IsCharBoundary-before_ascii, ne_eqb, and_from, or_right, cond-true, cond-false, bytes_eq-Decides, TableSet, digit_set, is_valid_for, tokens_from_chars, IsValidFor, marked, starts, is_host, host_kind, name_kind, literal_kind, literal_of, ipv4_value, ipv6_value, recompose_authority, authority_parts, is_authority_for, host_start_of, host_end_of, delimited_length, nat_tests}
use Rattle.uri_parts.proofs.Splitting.Places.{get_or-after-prefix, boundary_after_mark}

-- authorities: what the test of one says of its components
pub record AuthorityMeetsRules (users names : TableSet) (text : List ℕ) : Type 0 where
  pub whole : recompose_authority (authority_parts text) ≡ text
  pub userinfo : option_map_or (is_valid_for users) (authority_parts text).userinfo true ≡ true
  pub host : is_host names (authority_parts text).host ≡ true
  pub port : option_map_or (is_valid_for digit_set) (authority_parts text).port true ≡ true

-- authorities: one that passes its test meets the rules of its components
pub holds : (users names : TableSet) (text : List ℕ) → is_authority_for users names text ≡ true
    → AuthorityMeetsRules users names text
unfolding is_authority_for
holds users names text t = grind (arith, nat_tests, bytes_eq-Decides)

boundary-before-ascii-byte : (prefix rest : List ℕ) (c : ℕ) → c < 128
    → IsCharBoundary (prefix ++ (c ∷ rest)) (length prefix)
boundary-before-ascii-byte prefix rest c ascii =
    grind (arith, get_or-after-prefix, IsCharBoundary-before_ascii, length-append)

abbrev port_text : Option (List ℕ) → List ℕ
port_text port = marked (codes ":") port []

abbrev user_text : Option (List ℕ) → List ℕ
user_text userinfo = marked [] userinfo (codes "@")

-- authorities, positions: a userinfo with its `@` is one byte longer, or nothing
length-of-userinfo-with-at-sign : (userinfo : Option (List ℕ))
    → length (user_text userinfo) ≡ delimited_length 1 userinfo
length-of-userinfo-with-at-sign None = refl
length-of-userinfo-with-at-sign (Some user) = omega (arith, length-append user (codes "@"))

-- authorities, positions: the component is from start to end in the text
pub record IsBetween (text : List ℕ) (start end : ℕ) (part : List ℕ) : Type 0 where
  pub ordered : start ≤ end
  pub starts : IsCharBoundary text start
  pub ends : IsCharBoundary text end
  pub holds : slice_range text start end ≡ part

host-begins-at-boundary-after-userinfo : (userinfo : Option (List ℕ)) (rest text : List ℕ)
    → user_text userinfo ++ rest ≡ text
    → IsUtf8 text → IsCharBoundary text (delimited_length 1 userinfo)
host-begins-at-boundary-after-userinfo None rest text whole u = IsCharBoundary-start text u
host-begins-at-boundary-after-userinfo (Some user) rest text whole u =
    grind (arith, nat_tests, append_assoc, boundary_after_mark)

host-is-between-userinfo-and-port : (userinfo port : Option (List ℕ)) (host text : List ℕ)
    → user_text userinfo ++ (host ++ port_text port) ≡ text → IsUtf8 text
    → IsBetween text (delimited_length 1 userinfo) (delimited_length 1 userinfo + length host) host
host-is-between-userinfo-and-port userinfo port host text whole u =
    grind (
      arith,
      common_steps,
      length-of-userinfo-with-at-sign,
      host-begins-at-boundary-after-userinfo,
    )

-- authorities, positions: the host is between its positions
pub host_is_at_positions : (users names : TableSet) (text : List ℕ)
    → is_authority_for users names text ≡ true → IsUtf8 text
    → IsBetween text (host_start_of text) (host_end_of text) (authority_parts text).host
host_is_at_positions users names text t u =
    let p = authority_parts text in
    host-is-between-userinfo-and-port p.userinfo p.port p.host text
    (holds users names text t).whole u

-- authorities, positions: the userinfo is before the host, which begins at start
pub record HasUserinfoBefore (users : TableSet) (text : List ℕ) (start : ℕ)
    (userinfo : Option (List ℕ)) : Type 0 where
  pub cut : IsCharBoundary text (start - 1)
  pub valid : IsValidFor users (take (start - 1) text)
  pub is : Some (take (start - 1) text) ≡ userinfo

user_lies : (users : TableSet) (userinfo : Option (List ℕ)) (rest text : List ℕ)
    → user_text userinfo ++ rest ≡ text → option_map_or (is_valid_for users) userinfo true ≡ true
    → 0 < delimited_length 1 userinfo
    → HasUserinfoBefore users text (delimited_length 1 userinfo) userinfo
user_lies users None rest text whole h l = absurd (omega arith)
user_lies users (Some user) rest text whole h l =
    grind (arith, append_assoc, take-append_seam user (64 ∷ rest), boundary-before-ascii-byte)

-- authorities: if the host starts later than at 0, userinfo and `@` are before it
pub userinfo_is_before_host : (users names : TableSet) (text : List ℕ)
    → is_authority_for users names text ≡ true → 0 < host_start_of text
    → HasUserinfoBefore users text (host_start_of text) (authority_parts text).userinfo
userinfo_is_before_host users names text t l =
    let p = authority_parts text in
    let w = holds users names text t in
    user_lies users p.userinfo (p.host ++ port_text p.port) text w.whole w.userinfo l

pub userinfo_before_later_host : (userinfo : Option (List ℕ))
    → not (eqb (delimited_length 1 userinfo) 0) ≡ is_some userinfo
userinfo_before_later_host None = refl
userinfo_before_later_host (Some user) = ap not (ne_eqb _ 0 (λ e. omega arith))

-- authorities, positions: the port is after the host, which ends at end
pub record HasPortAfter (text : List ℕ) (end : ℕ) (port : Option (List ℕ)) : Type 0 where
  pub inside : end < length text
  pub cut : IsCharBoundary text (end + 1)
  pub valid : IsValidFor digit_set (drop (end + 1) text)
  pub is : Some (drop (end + 1) text) ≡ port

text-ends-or-port-follows-prefix : (prefix : List ℕ) (port : Option (List ℕ)) (text : List ℕ)
    → prefix ++ port_text port ≡ text → IsUtf8 text
    → option_map_or (is_valid_for digit_set) port true ≡ true
    → (length prefix ≡ length text) × (None ≡ port) ⊎ HasPortAfter text (length prefix) port
text-ends-or-port-follows-prefix prefix None text whole u h = inl
    (ap length (sym (append-nil prefix) ∙ whole), refl)
text-ends-or-port-follows-prefix prefix (Some digits) text whole u h =
    grind (
      arith,
      append-nil digits,
      drop-drop 1 (length prefix) (prefix ++ (58 ∷ digits)),
      drop-append_seam prefix (58 ∷ digits),
      boundary_after_mark,
    )

-- authorities, positions: the host ends the authority, or a port follows the host
pub port_is_after_host : (users names : TableSet) (text : List ℕ)
    → is_authority_for users names text ≡ true
    → IsUtf8 text → ((host_end_of text ≡ length text) × (None ≡ (authority_parts text).port))
    ⊎ HasPortAfter text (host_end_of text) (authority_parts text).port
port_is_after_host users names text t u =
    let p = authority_parts text in
    let w = holds users names text t in
    let prefix : List ℕ = user_text p.userinfo ++ p.host in
    let l : length prefix ≡ host_end_of text = omega (
      arith,
      length-append (user_text p.userinfo) p.host,
      length-of-userinfo-with-at-sign p.userinfo,
    ) in
    let cases = text-ends-or-port-follows-prefix prefix p.port text
    (append_assoc (user_text p.userinfo) p.host (port_text p.port) ∙ w.whole) u w.port in
    subst (λ n. ((n ≡ length text) × (None ≡ p.port)) ⊎ HasPortAfter text n p.port) l cases

-- authorities: the empty text is one for all sets
pub empty_is_authority : (users names : TableSet) → is_authority_for users names [] ≡ true
unfolding is_authority_for is_host is_valid_for tokens_from_chars chars ipv4_value
empty_is_authority users names = and_from (is_some (ipv4_value []) || true) true
    (or_right (is_some (ipv4_value [])) true refl) refl

-- authorities: a name that is no IPv4 address is valid for the set of names
pub reg_name_host_is_valid : (names : TableSet) (host : List ℕ) → is_host names host ≡ true
    → starts 91 host ≡ false → ipv4_value host ≡ None → IsValidFor names host
unfolding is_host
reg_name_host_is_valid names host h s v = sym (ap (λ o. is_some o || is_valid_for names host) v)
    ∙ sym (cond-false _ _ _ s) ∙ h

-- authorities: after the `[` (91) of a host in brackets is its address, and then a `]`
pub host_in_brackets_is_closed : (names : TableSet) (host rest : List ℕ)
    → is_host names host ≡ true → starts 91 host ≡ true → rest ≡ drop 1 host
    → IsCharBoundary rest (length rest - 1) × (slice_range rest 0 (length rest - 1) ≡ literal_of host)
unfolding is_host
host_in_brackets_is_closed names host rest h s e =
    let whole : drop 1 host ≡ literal_of host ++ codes "]" =
    grind (arith, nat_tests, bytes_eq-Decides) in
    let is : rest ≡ literal_of host ++ codes "]" = e ∙ whole in
    let long : length rest ≡ length (literal_of host) + 1 = ap length is
    ∙ length-append (literal_of host) (codes "]") in
    let end : length rest - 1 ≡ length (literal_of host) = omega (arith, long) in
    let last : get_or rest (length rest - 1) 0 ≡ 93 = ap (λ t. get_or t (length rest - 1) 0) is
    ∙ ap (λ n. get_or (literal_of host ++ codes "]") n 0) end
    ∙ get_or-after-prefix (literal_of host) [] 93 in (
      IsCharBoundary-before_ascii rest (length rest - 1) (omega (arith, long))
          (omega (arith, last)),
      ap (λ n. take n rest) (omega (arith, long)) ∙ ap (take (length (literal_of host))) is
          ∙ take-append_seam (literal_of host) (codes "]"),
    )

-- authorities: a host without `[` (91) is an IPv4 address if it has the value o of one, else a name
pub kind_of_unbracketed_host : (host : List ℕ) (o : Option (List ℕ)) → starts 91 host ≡ false
    → o ≡ ipv4_value host → name_kind o ≡ host_kind host
unfolding host_kind
kind_of_unbracketed_host host o s v = ap name_kind v ∙ sym (cond-false _ _ _ s)

-- authorities: a host in brackets is an IPv6 address if it has the value o of one, else IPvFuture
pub kind_of_bracketed_host : (host address : List ℕ) (o : Option (List ℕ)) → starts 91 host ≡ true
    → address ≡ literal_of host → o ≡ ipv6_value address → literal_kind o ≡ host_kind host
unfolding host_kind
kind_of_bracketed_host host address o s a v = ap literal_kind (v ∙ ap ipv6_value a)
    ∙ sym (cond-true _ _ _ s)

-- authorities, positions: where the host does not end the authority, a port follows
pub port_follows_host : (users names : TableSet) (text : List ℕ) (end : ℕ)
    → is_authority_for users names text ≡ true → IsUtf8 text → end ≡ host_end_of text
    → (end ≡ length text → ⊥) → HasPortAfter text end (authority_parts text).port
port_follows_host users names text end t u e apart = grind (arith, nat_tests, port_is_after_host)
