-- The value of a reference has its components, and each under a name of its own.
use Rattle.uri_streams.proofs.Common.{arith, ◌≡◌, ℕ, Bool, true, false, List, [], ◌∷◌, refl, sym, ap, ◌∙◌, rules, codes, Option, Some, None, IfSome, option_map, option_and_then, map, ◌&&◌, bytes_eq, if◌then◌else◌, nat_lt, unwrap_or, AllByRecursion, IsDistinct, list_all, chars, encode_utf8_all, and_parts, Components, host_word, JsonValue, Object, Members, EndOfObject, Member, is_unescaped, text_members, with_present, present, named_components, components_value}
use Rattle.fluent_uri.specs.Authority.{authority_parts}
use Rattle.fluent_uri.specs.Hosts.{host_kind}
use Rattle.uri_streams.proofs.JsonStringTexts.{IsPlain, ascii-is-plain}
use Rattle.uri_streams.proofs.JsonPairs.{AreUtf8, text_in, text-is-in-its-value}
use Rattle.uri_streams.proofs.JsonObjects.{IsPlainIfPresent, host_word-is-plain, HasPlainAuthority, HasPlainComponents}

-- lines of JSON: the names of members, and the texts of their strings
abbrev named_in : Members → List (List ℕ × List ℕ)
named_in EndOfObject = []
named_in (Member name v members) = (encode_utf8_all name, text_in v) ∷ named_in members

abbrev members_in : JsonValue → Members
members_in (Object members) = members
members_in other = EndOfObject

-- lines of JSON: names and texts in UTF-8 are found in their members
names-are-in-their-members : (named : List (List ℕ × List ℕ)) → AreUtf8 named
    → named_in (text_members named) ≡ named
names-are-in-their-members [] h = refl
names-are-in-their-members (one ∷ others) (n, t, h) =
    grind (arith, chars, text-is-in-its-value, names-are-in-their-members others h)

-- lines of JSON: the text with this name
abbrev find_named : List ℕ → List (List ℕ × List ℕ) → Option (List ℕ)
find_named name [] = None
find_named name (one ∷ others) = if bytes_eq one.0 name then Some one.1 else find_named name others

-- lines of JSON: the first text, or else the other
abbrev first_present : Option (List ℕ) → Option (List ℕ) → Option (List ℕ)
first_present None other = other
first_present (Some text) other = Some text

-- lines of JSON: the text with this name, if it is present
abbrev find_present : List ℕ → List (List ℕ × Option (List ℕ)) → Option (List ℕ)
find_present name [] = None
find_present name (one ∷ others) = if bytes_eq one.0 name then first_present one.1
    (find_present name others) else find_present name others

present-text-is-found : (name : List ℕ) (named : List (List ℕ × Option (List ℕ)))
    → find_named name (present named) ≡ find_present name named
present-text-is-found name [] = refl
present-text-is-found name (one ∷ others) =
    grind (arith, present-text-is-found name others, with_present, present)

abbrev components_in : List (List ℕ × List ℕ) → Components
components_in named = record {
  scheme = find_named (codes "scheme") named;
  authority = find_named (codes "authority") named;
  path = unwrap_or (find_named (codes "path") named) [];
  query = find_named (codes "query") named;
  fragment = find_named (codes "fragment") named;
}

components-are-found-by-name : (p : Components) → components_in (present (named_components p)) ≡ p
components-are-found-by-name p = grind (arith, present-text-is-found, present)

-- lines of JSON: whether the names need no escape
abbrev are_plain_names : List (List ℕ × Option (List ℕ)) → Bool
are_plain_names [] = true
are_plain_names (one ∷ others) =
    (list_all (λ b. nat_lt b 128) one.0 && list_all is_unescaped one.0) && are_plain_names others

-- lines of JSON: texts that need no escape
abbrev ArePlain : List (List ℕ × Option (List ℕ)) → Type 0
ArePlain [] = Unit {0}
ArePlain (one ∷ others) = IsPlainIfPresent one.1 × ArePlain others

-- lines of JSON: names and texts that need no escape are UTF-8
plain-texts-are-utf8 : (named : List (List ℕ × Option (List ℕ))) → are_plain_names named ≡ true
    → ArePlain named → AreUtf8 (present named)
plain-texts-are-utf8 [] n h = tt
plain-texts-are-utf8 (one ∷ others) n (t, h) =
    let names = and_parts _ _ n in
    let name = and_parts _ _ names.0 in
    at one.1 (ascii-is-plain one.0 name.0 name.1) t (plain-texts-are-utf8 others names.1 h)
  where
    at : (o : Option (List ℕ)) → IsPlain one.0 → IsPlainIfPresent o → AreUtf8 (present others)
        → AreUtf8 (with_present one.0 o (present others))
    at None n t more = more
    at (Some text) n t more = (n.utf8, t.utf8, more)

-- lines of JSON: components that need no escape
named-components-are-plain : (p : Components) → HasPlainComponents p → ArePlain (named_components p)
named-components-are-plain p h =
    let a = at p.authority h.authority in
    (h.scheme, (a.0, (a.1, (a.2, (a.3, (a.4, (h.path, (h.query, (h.fragment, tt)))))))))
  where
    at : (authority : Option (List ℕ)) → IfSome authority HasPlainAuthority
        → let parts = option_map authority_parts authority in
        IsPlainIfPresent authority
        × IsPlainIfPresent (option_and_then (λ a. a.userinfo) parts)
        × IsPlainIfPresent (option_map (λ a. a.host) parts)
        × IsPlainIfPresent (option_map (λ a. host_word (host_kind a.host)) parts)
        × IsPlainIfPresent (option_and_then (λ a. a.port) parts)
    at None h = (tt, tt, tt, tt, tt)
    at (Some a) h = (
      h.whole,
      h.userinfo,
      h.host,
      host_word-is-plain (host_kind (authority_parts a).host),
      h.port,
    )

components-are-in-their-value : (p : Components) → HasPlainComponents p
    → components_in (named_in (members_in (components_value p))) ≡ p
components-are-in-their-value p h =
    ap components_in (names-are-in-their-members (present (named_components p))
    (plain-texts-are-utf8 (named_components p) refl (named-components-are-plain p h)))
    ∙ components-are-found-by-name p

pub equal-objects-have-equal-components : (p q : Components) → HasPlainComponents p
    → HasPlainComponents q → components_value p ≡ components_value q → p ≡ q
equal-objects-have-equal-components p q h k e = sym (components-are-in-their-value p h)
    ∙ ap (λ v. components_in (named_in (members_in v))) e ∙ components-are-in-their-value q k

present-names-hold : (P : List ℕ → Type 0) (named : List (List ℕ × Option (List ℕ)))
    → AllByRecursion P (map (λ one. one.0) named)
    → AllByRecursion P (map (λ one. one.0) (present named))
present-names-hold P [] h = h
present-names-hold P (one ∷ others) (p, h) =
    grind (arith, present-names-hold P others h, present, with_present)

present-names-are-distinct : (named : List (List ℕ × Option (List ℕ)))
    → IsDistinct bytes_eq (map (λ one. one.0) named)
    → IsDistinct bytes_eq (map (λ one. one.0) (present named))
unfolding IsDistinct
present-names-are-distinct [] h = h
present-names-are-distinct (one ∷ others) (apart, h) = at one.1
    (present-names-hold (λ name. bytes_eq one.0 name ≡ false) others apart)
    (present-names-are-distinct others h)
  where
    at : (o : Option (List ℕ))
        → AllByRecursion (λ name. bytes_eq one.0 name ≡ false)
        (map (λ one. one.0) (present others))
        → IsDistinct bytes_eq (map (λ one. one.0) (present others))
        → IsDistinct bytes_eq (map (λ one. one.0) (with_present one.0 o (present others)))
    at None apart more = more
    at (Some text) apart more = (apart, more)

-- lines of JSON: each member of a reference has a name of its own
pub component-names-are-distinct : (p : Components)
    → IsDistinct bytes_eq (map (λ one. one.0) (present (named_components p)))
unfolding IsDistinct
component-names-are-distinct p = present-names-are-distinct (named_components p) (search rules)
