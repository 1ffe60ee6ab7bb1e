-- The line of JSON for a reference represents its components.
use Rattle.uri_streams.proofs.Common.{◌≡◌, ℕ, List, [], ◌∷◌, ◌++◌, append_assoc, append-nil, refl, subst, codes, Option, Some, None, IfSome, option_map, option_and_then, Components, member, member_before, member_after, host_word, authority_members, json_of, RepresentsValue, RepresentsMembers, RepresentsMoreMembers, IsJsonTextOf, text_members, with_present, present, components_value}
use Rattle.fluent_uri.specs.Authority.{authority_parts}
use Rattle.fluent_uri.specs.Hosts.{HostKind, Ipv4, Ipv6, IpvFuture, RegName, host_kind}
use Rattle.uri_streams.proofs.JsonStringTexts.{AreTextOf, ◌and_then◌, nothing-is-text, mark-is-structural, IsPlain, ascii-is-plain, plain-string-is-text, value-is-json-text}
use Rattle.uri_streams.proofs.JsonPairs.{comma-is-structural}

-- lines of JSON: a text that is absent or needs no escape
abbrev pub IsPlainIfPresent : Option (List ℕ) → Type 0
IsPlainIfPresent text = IfSome text IsPlain

-- lines of JSON: the bytes are members of an object, which others are before
abbrev AreMoreMembers : List (List ℕ × List ℕ) → List ℕ → Type 0
AreMoreMembers named bytes = AreTextOf (RepresentsMoreMembers (text_members named)) bytes

-- lines of JSON: the bytes are members of an object, and with a comma they may be after others
record AreMembers (named : List (List ℕ × List ℕ)) (bytes : List ℕ) : Type 0 where
  first : AreTextOf (RepresentsMembers (text_members named)) bytes
  more : AreMoreMembers named (codes "," ++ bytes)

member-is-text : (name text : List ℕ) (others : List (List ℕ × List ℕ)) (bytes : List ℕ)
    → IsPlain name → IsPlain text → AreMoreMembers others bytes
    → AreMembers ((name, text) ∷ others) (member name text ++ bytes)
member-is-text name text others bytes n t more =
    let all : List (List ℕ × List ℕ) = (name, text) ∷ others in
    let first : AreTextOf (RepresentsMembers (text_members all)) (member name text ++ bytes) =
    subst (AreTextOf (RepresentsMembers (text_members all))) (simp append_assoc)
    (plain-string-is-text name n and_then (mark-is-structural 58 refl and_then
    (plain-string-is-text text t and_then more))) in
    record { first = first; more = comma-is-structural and_then first }

member_before-is-text : (name : List ℕ) (text : Option (List ℕ)) (others : List (List ℕ × List ℕ))
    (bytes : List ℕ) → IsPlain name → IsPlainIfPresent text → AreMembers others bytes
    → AreMembers (with_present name text others) (member_before name text ++ bytes)
member_before-is-text name None others bytes n t h = h
member_before-is-text name (Some text) others bytes n t h =
    subst (AreMembers ((name, text) ∷ others)) (simp append_assoc)
    (member-is-text name text others (codes "," ++ bytes) n t h.more)

-- lines of JSON: a member, if it is present, after another and before others
member_after-is-text : (name : List ℕ) (text : Option (List ℕ)) (others : List (List ℕ × List ℕ))
    (bytes : List ℕ) → IsPlain name → IsPlainIfPresent text → AreMoreMembers others bytes
    → AreMoreMembers (with_present name text others) (member_after name text ++ bytes)
member_after-is-text name None others bytes n t h = h
member_after-is-text name (Some text) others bytes n t h =
    (member-is-text name text others bytes n t h).more

-- lines of JSON: the word for a kind of host needs no escape
pub host_word-is-plain : (kind : HostKind) → IsPlain (host_word kind)
host_word-is-plain (Ipv4 octets) = ascii-is-plain _ refl refl
host_word-is-plain (Ipv6 segments) = ascii-is-plain _ refl refl
host_word-is-plain IpvFuture = ascii-is-plain _ refl refl
host_word-is-plain RegName = ascii-is-plain _ refl refl

-- lines of JSON: no component of the authority needs an escape
pub record HasPlainAuthority (authority : List ℕ) : Type 0 where
  pub whole : IsPlain authority
  pub userinfo : IsPlainIfPresent (authority_parts authority).userinfo
  pub host : IsPlain (authority_parts authority).host
  pub port : IsPlainIfPresent (authority_parts authority).port

-- lines of JSON: no component of the reference needs an escape
pub record HasPlainComponents (p : Components) : Type 0 where
  pub scheme : IsPlainIfPresent p.scheme
  pub authority : IfSome p.authority HasPlainAuthority
  pub path : IsPlain p.path
  pub query : IsPlainIfPresent p.query
  pub fragment : IsPlainIfPresent p.fragment

-- lines of JSON: an authority and its components, with their names, before other names with texts
abbrev with_authority : Option (List ℕ) → List (List ℕ × Option (List ℕ))
    → List (List ℕ × Option (List ℕ))
with_authority authority others =
    let parts = option_map authority_parts authority in
    (codes "authority", authority) ∷ (codes "userinfo", option_and_then (λ a. a.userinfo) parts)
    ∷ (codes "host", option_map (λ a. a.host) parts)
    ∷ (codes "host_kind", option_map (λ a. host_word (host_kind a.host)) parts)
    ∷ (codes "port", option_and_then (λ a. a.port) parts) ∷ others

-- general fact on lists, for the members of an authority
authority-regrouped : (a u h k p bytes : List ℕ)
    → a ++ (u ++ (h ++ (k ++ (p ++ bytes)))) ≡ a ++ u ++ (h ++ k) ++ p ++ bytes
authority-regrouped a u h k p bytes = simp append_assoc

-- general fact on lists, for the members of a reference
object-regrouped : (begin s a p q f end : List ℕ)
    → begin ++ (s ++ (a ++ (p ++ (q ++ (f ++ [])))) ++ end) ≡ begin ++ s ++ a ++ p ++ q ++ f ++ end
object-regrouped begin s a p q f end = simp (append_assoc, append-nil)

authority_members-are-text : (authority : Option (List ℕ))
    (others : List (List ℕ × Option (List ℕ))) (bytes : List ℕ) → IfSome authority HasPlainAuthority
    → AreMembers (present others) bytes
    → AreMembers (present (with_authority authority others)) (authority_members authority ++ bytes)
authority_members-are-text None others bytes h more = more
authority_members-are-text (Some a) others bytes h more =
    let p = authority_parts a in
    let word = host_word (host_kind p.host) in
    subst (AreMembers (present (with_authority (Some a) others))) (authority-regrouped
    (member_before (codes "authority") (Some a)) (member_before (codes "userinfo") p.userinfo)
    (member_before (codes "host") (Some p.host)) (member_before (codes "host_kind") (Some word))
    (member_before (codes "port") p.port) bytes) (member_before-is-text (codes "authority") (Some a)
    _ _ (ascii-is-plain _ refl refl) h.whole (member_before-is-text (codes "userinfo") p.userinfo _
    _ (ascii-is-plain _ refl refl) h.userinfo (member_before-is-text (codes "host") (Some p.host) _
    _ (ascii-is-plain _ refl refl) h.host (member_before-is-text (codes "host_kind") (Some word) _ _
    (ascii-is-plain _ refl refl) (host_word-is-plain (host_kind p.host)) (member_before-is-text
    (codes "port") p.port _ _ (ascii-is-plain _ refl refl) h.port more)))))

-- lines of JSON: the line for a reference is an object of its components
pub json_of-is-json-object : (p : Components) → HasPlainComponents p
    → IsJsonTextOf (components_value p) (json_of p)
unfolding json_of
json_of-is-json-object p h =
    let fragment = member_after-is-text (codes "fragment") p.fragment [] []
    (ascii-is-plain _ refl refl) h.fragment nothing-is-text in
    let query = member_after-is-text (codes "query") p.query _ _
    (ascii-is-plain _ refl refl) h.query fragment in
    let path = member-is-text (codes "path") p.path _ _ (ascii-is-plain _ refl refl) h.path query in
    let authority = authority_members-are-text p.authority
    ((codes "path", Some p.path) ∷ (codes "query", p.query) ∷ (codes "fragment", p.fragment)
    ∷ []) _ h.authority path in
    let scheme = member_before-is-text (codes "scheme") p.scheme _ _
    (ascii-is-plain _ refl refl) h.scheme authority in
    value-is-json-text (components_value p) (json_of p) (subst
    (AreTextOf (RepresentsValue (components_value p))) (object-regrouped (codes "{")
    (member_before (codes "scheme") p.scheme) (authority_members p.authority)
    (member (codes "path") p.path) (member_after (codes "query") p.query)
    (member_after (codes "fragment") p.fragment) (codes "}"))
    (mark-is-structural 123 refl and_then (scheme.first and_then mark-is-structural 125 refl)))
