-- The components of a text of a kind have no character that JSON escapes.
use Rattle.uri_streams.proofs.Common.{◌≡◌, ℕ, zero, suc, ◌<◌, ◌≤◌, ◌&&◌, ◌||◌, not, Bool, true, false, List, [], ◌∷◌, ◌++◌, refl, sym, ap, ◌∙◌, subst, arith, ⊎_elim, codes, Option, Some, None, IsScalar, encode_utf8, list_all, IsUtf8, chars, all_scalars, encode_utf8_all, and_parts, and_from, cases_lt, nat_tests, Decides-below_and, list_all-append, chars-append, IsUtf8-append, encode_ascii, encodes-chars, scalars-chars, is_unescaped, kind_named, KindName}
use Rattle.uri_pct.proofs.Offered.{IfSome-weaken, IfSome-combine, excludes}
use Rattle.fluent_uri.specs.Prelude.{AuthorityParts, HostKind, Ipv4, Ipv6, IpvFuture, IsHost, IsTextOf, IsValidFor, Kind, Lacks, LacksPercent, RegName, TableSet, authority_parts, bracketed, components, digit_set, is_authority, is_one_of, kind_by_flags, marked, scheme_set}
use Rattle.uri_parts.proofs.Offered.{is_authority_for-sound, ipv4-text-lacks-name-marks, ipv6-text-lacks-excluded-marks, ipvfuture-text-lacks-excluded-marks, address-in-brackets-is-utf8, valid_text_lacks_excluded_marks}
use Rattle.uri_ops.proofs.Offered.{is_set_text, set-text-is-utf8, set-text-is-valid, authority-parts-are-utf8, components-of-utf8-are-utf8, grammar-gives-components-of-kind, lacked-delimiters-fail-test}
use Rattle.uri_commands.specs.declared.kinds.KindName.TheVariants as kinds
use Rattle.uri_streams.proofs.JsonStringTexts.{IsPlain, ascii-is-plain}
use Rattle.uri_streams.proofs.JsonObjects.{IsPlainIfPresent, HasPlainAuthority, HasPlainComponents}

-- plain components: the characters that JSON escapes
abbrev escaped_marks : List ℕ
escaped_marks = 34 ∷ 92 ∷ 0 ∷ 1 ∷ 2 ∷ 3 ∷ 4 ∷ 5 ∷ 6 ∷ 7 ∷ 8 ∷ 9 ∷ 10 ∷ 11 ∷ 12 ∷ 13 ∷ 14 ∷ 15 ∷ 16
    ∷ 17 ∷ 18 ∷ 19 ∷ 20 ∷ 21 ∷ 22 ∷ 23 ∷ 24 ∷ 25 ∷ 26 ∷ 27 ∷ 28 ∷ 29 ∷ 30 ∷ 31 ∷ []

-- plain components: each other character of ASCII may be in a string as it is
abbrev are_unescaped_below : ℕ → Bool
are_unescaped_below zero = true
are_unescaped_below (suc n) = (is_one_of escaped_marks n || is_unescaped n) && are_unescaped_below n

-- plain components: a character of ASCII that JSON does not escape is unescaped
other-ascii-is-unescaped : (c : ℕ) → c < 128 → not (is_one_of escaped_marks c) ≡ true
    → is_unescaped c ≡ true
other-ascii-is-unescaped c l h = other (is_one_of escaped_marks c) (is_unescaped c) h
    ((Decides-below_and (λ n. is_one_of escaped_marks n || is_unescaped n)
    (λ n. (is_one_of escaped_marks n || is_unescaped n) ≡ true) are_unescaped_below
    (λ n. (λ e. e, λ e. e)) refl (λ _. refl) 128).0 refl c l)
  where
    other : (mark unescaped : Bool) → not mark ≡ true → (mark || unescaped) ≡ true
        → unescaped ≡ true
    other true unescaped h e = absurd (cc h)
    other false unescaped h e = e

past-ascii-is-unescaped : (c : ℕ) → IsScalar c → 128 ≤ c → is_unescaped c ≡ true
past-ascii-is-unescaped c s l = grind (arith, nat_tests)

-- plain components: characters whose bytes need no escape need none
characters-of-plain-bytes : (cs : List ℕ) → all_scalars cs ≡ true
    → list_all (λ b. not (is_one_of escaped_marks b)) (encode_utf8_all cs) ≡ true
    → list_all is_unescaped cs ≡ true
characters-of-plain-bytes [] s h = refl
characters-of-plain-bytes (c ∷ cs) s h =
    let test = λ (b : ℕ). not (is_one_of escaped_marks b) in
    let scalars = and_parts _ _ s in
    let plain = and_parts _ _
    (sym (list_all-append test (encode_utf8 c) (encode_utf8_all cs)) ∙ h) in
    and_from _ _ (⊎_elim
    (λ l. other-ascii-is-unescaped c l
    (and_parts _ _ (ap (list_all test) (sym (encode_ascii c l)) ∙ plain.0)).0)
    (λ l. past-ascii-is-unescaped c scalars.0 l)
    (cases_lt c 128)) (characters-of-plain-bytes cs scalars.1 plain.1)

text-without-escaped-marks-is-plain : (text : List ℕ) → IsUtf8 text → Lacks escaped_marks text
    → IsPlain text
text-without-escaped-marks-is-plain text u lacks = record {
  utf8 = u;
  unescaped = characters-of-plain-bytes (chars text) (scalars-chars text u)
      (ap (list_all (λ b. not (is_one_of escaped_marks b))) (encodes-chars text u)
      ∙ lacked-delimiters-fail-test escaped_marks text lacks);
}

-- plain components: the set has no character that JSON escapes
record HasPlainTexts (set : TableSet) : Type 0 where
  percent : LacksPercent set
  marks : excludes set escaped_marks ≡ true

valid-text-is-plain : (set : TableSet) → HasPlainTexts set → (text : List ℕ) → IsUtf8 text
    → IsValidFor set text → IsPlain text
valid-text-is-plain set plain text u valid = text-without-escaped-marks-is-plain text u
    (valid_text_lacks_excluded_marks set escaped_marks plain.percent plain.marks text u valid)

set-text-is-plain : (set : TableSet) → HasPlainTexts set → (text : List ℕ)
    → is_set_text set text ≡ true → IsPlain text
set-text-is-plain set plain text e = valid-text-is-plain set plain text
    (set-text-is-utf8 set text e) (set-text-is-valid set text e)

-- plain components: no set of the kind has a character that JSON escapes
record HasPlainSets (kind : Kind) : Type 0 where
  userinfo : HasPlainTexts kind.userinfo
  reg_name : HasPlainTexts kind.reg_name
  path : HasPlainTexts kind.path
  query : HasPlainTexts kind.query
  fragment : HasPlainTexts kind.fragment

-- plain components: no set of the four kinds has such a character, by the flags of the kind
plain-sets-by-flags : (international needs_scheme : Bool)
    → HasPlainSets (kind_by_flags international needs_scheme)
plain-sets-by-flags false needs_scheme = record {
  userinfo = record { percent = refl; marks = refl };
  reg_name = record { percent = refl; marks = refl };
  path = record { percent = refl; marks = refl };
  query = record { percent = refl; marks = refl };
  fragment = record { percent = refl; marks = refl };
}
plain-sets-by-flags true needs_scheme = record {
  userinfo = record { percent = refl; marks = refl };
  reg_name = record { percent = refl; marks = refl };
  path = record { percent = refl; marks = refl };
  query = record { percent = refl; marks = refl };
  fragment = record { percent = refl; marks = refl };
}

-- plain components: no set of a kind that has a name has such a character
plain-sets : (name : KindName) → HasPlainSets (kind_named name)
plain-sets name = grind (arith, plain-sets-by-flags)

appended-texts-are-plain : (xs ys : List ℕ) → IsPlain xs → IsPlain ys → IsPlain (xs ++ ys)
appended-texts-are-plain xs ys h k =
    grind (arith, IsUtf8-append, chars-append, list_all-append, chars, and_from)

-- plain components: the empty text is plain
nothing-is-plain : IsPlain []
nothing-is-plain = ascii-is-plain [] refl refl

marked-text-is-plain : (before : List ℕ) (text : Option (List ℕ)) (suffix : List ℕ)
    → IsPlain before → IsPlainIfPresent text → IsPlain suffix → IsPlain (marked before text suffix)
marked-text-is-plain before None suffix b t s = nothing-is-plain
marked-text-is-plain before (Some text) suffix b t s =
    appended-texts-are-plain (before ++ text) suffix (appended-texts-are-plain before text b t) s

bracketed-text-is-plain : (address : List ℕ) → IsPlain address → IsPlain (bracketed address)
bracketed-text-is-plain address h = appended-texts-are-plain (codes "[") (address ++ codes "]")
    (ascii-is-plain _ refl refl)
    (appended-texts-are-plain address (codes "]") h (ascii-is-plain _ refl refl))

host-is-plain : (names : TableSet) → HasPlainTexts names → (text : List ℕ) (host : HostKind)
    → IsUtf8 text → IsHost names text host → IsPlain text
host-is-plain names plain text (Ipv6 segments) u (address, e, groups) =
    let inner = address-in-brackets-is-utf8 address (subst IsUtf8 e u) in
    subst IsPlain (sym e) (bracketed-text-is-plain address (text-without-escaped-marks-is-plain
    address inner (ipv6-text-lacks-excluded-marks escaped_marks refl address segments groups)))
host-is-plain names plain text IpvFuture u (address, e, future) =
    let inner = address-in-brackets-is-utf8 address (subst IsUtf8 e u) in
    subst IsPlain (sym e) (bracketed-text-is-plain address (text-without-escaped-marks-is-plain
    address inner (ipvfuture-text-lacks-excluded-marks escaped_marks refl address inner future)))
host-is-plain names plain text (Ipv4 octets) u dotted = text-without-escaped-marks-is-plain text u
    (ipv4-text-lacks-name-marks escaped_marks refl text octets dotted)
host-is-plain names plain text RegName u (valid, other) =
    valid-text-is-plain names plain text u valid

authority-is-plain : (kind : Kind) → HasPlainSets kind → (text : List ℕ) → IsUtf8 text
    → is_authority kind text ≡ true → HasPlainAuthority text
authority-is-plain kind plain text u e =
    let p : AuthorityParts = authority_parts text in
    let h = is_authority_for-sound kind.userinfo kind.reg_name text e in
    let utf8 = authority-parts-are-utf8 p.userinfo p.port p.host (subst IsUtf8 (sym h.whole) u) in
    let userinfo : IsPlainIfPresent p.userinfo =
    IfSome-combine p.userinfo IsUtf8 (IsValidFor kind.userinfo) IsPlain
    (valid-text-is-plain kind.userinfo plain.userinfo) utf8.userinfo h.userinfo in
    let host = host-is-plain kind.reg_name plain.reg_name p.host h.host.0 utf8.host h.host.1 in
    let port : IsPlainIfPresent p.port = IfSome-combine p.port IsUtf8 (IsValidFor digit_set) IsPlain
    (valid-text-is-plain digit_set (record { percent = refl; marks = refl })) utf8.port h.port in
    record {
      whole = subst IsPlain h.whole (appended-texts-are-plain
          (marked [] p.userinfo (codes "@")) (p.host ++ marked (codes ":") p.port [])
          (marked-text-is-plain [] p.userinfo (codes "@") nothing-is-plain userinfo
          (ascii-is-plain _ refl refl))
          (appended-texts-are-plain p.host (marked (codes ":") p.port []) host
          (marked-text-is-plain (codes ":") p.port [] (ascii-is-plain _ refl refl) port
          nothing-is-plain)));
      userinfo = userinfo;
      host = host;
      port = port;
    }

pub text-has-plain-components : (name : KindName) (text : List ℕ)
    → IsTextOf (kind_named name) text → HasPlainComponents (components text)
text-has-plain-components name text h =
    let kind = kind_named name in
    let p = components text in
    let plain = plain-sets name in
    let parts = grammar-gives-components-of-kind kind p
    (components-of-utf8-are-utf8 text h.utf8) h.grammar in
    record {
      scheme = IfSome-weaken p.scheme _ IsPlain
          (λ s w. valid-text-is-plain scheme_set (record { percent = refl; marks = refl }) s w.0
          (and_parts _ _ w.1).1) parts.scheme;
      authority = IfSome-weaken p.authority _ HasPlainAuthority
          (λ a w. authority-is-plain kind plain a w.0 w.1) parts.authority;
      path = set-text-is-plain kind.path plain.path p.path parts.path;
      query = IfSome-weaken p.query _ IsPlain
          (set-text-is-plain kind.query plain.query) parts.query;
      fragment = IfSome-weaken p.fragment _ IsPlain
          (set-text-is-plain kind.fragment plain.fragment) parts.fragment;
    }
