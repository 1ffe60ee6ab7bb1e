-- What a step inside an authority makes of a draft: the authority, which ends the text, goes on.
use Rattle.uri_ops.proofs.Common.{common_steps, ◌≡◌, ℕ, ◌+◌, ◌-◌, Bool, true, false, ◌&&◌, List, [], ◌∷◌, ◌++◌, length, ap, arith, string_bytes, codes, is_none, option_map, IsUtf8, IsUtf8-from_is_utf8, false≢true, nat_tests, digit_set, is_valid_for, Kind, Draft, Lengths, BuilderParts, is_authority_text, is_text_for, lacks_host_and_port, lacks_port, with_more_authority, any_authority, draft_parts, ends_in_authority, HasComponentSets, is_empty, after_part, parts_in, IsHostText}
use Rattle.std.specs.String.{string_len}
use Rattle.std.specs.declared.string.String.{String}
use Rattle.uri_ops.proofs.Builders.BuilderAuthorities.{host-extends-authority, port-extends-authority, userinfo-begins-authority}
use Rattle.uri_ops.proofs.Builders.Drafting.{IsDraftOfParts}

-- building: an authority that passes the test `takes`, with x appended, is one, and passes `then`
abbrev pub ExtendsAuthority : Kind → (List ℕ → Bool) → (List ℕ → Bool) → List ℕ → Type 0
ExtendsAuthority kind takes then x = (a : List ℕ) → is_authority_text kind a ≡ true → takes a ≡ true
    → (is_authority_text kind (a ++ x) ≡ true) × (then (a ++ x) ≡ true)

pub userinfo-extends-authority : (kind : Kind)
    → HasComponentSets kind → (user : List ℕ) → IsUtf8 user → is_valid_for kind.userinfo user ≡ true
    → ExtendsAuthority kind is_empty lacks_host_and_port (user ++ codes "@")
userinfo-extends-authority kind sets user u valid [] e t =
    let h = userinfo-begins-authority kind sets user u valid in
    (h.rule, ap (λ (p : _). is_empty p.host && is_none p.port) h.parts)
userinfo-extends-authority kind sets user u valid (c ∷ a) e t = absurd (false≢true t)

-- building: a host continues an authority that has neither host nor port
pub host-extends-open-authority : (kind : Kind) → HasComponentSets kind → (host : List ℕ)
    → IsHostText kind.reg_name host → ExtendsAuthority kind lacks_host_and_port lacks_port host
host-extends-open-authority kind sets host h = λ a e t. let p = host-extends-authority kind sets a
    host e t h in
    (p.rule, ap (λ (q : _). is_none q.port) p.parts)

authority-with-port-is-authority : (kind : Kind) → HasComponentSets kind → (digits : List ℕ)
    → IsUtf8 digits → is_valid_for digit_set digits ≡ true → (a : List ℕ) → is_authority_text kind a
    ≡ true → lacks_port a ≡ true → is_authority_text kind (a ++ (codes ":" ++ digits)) ≡ true
authority-with-port-is-authority kind sets digits u valid a e t =
    (port-extends-authority kind sets a digits e t u valid).rule

pub port-extends-open-authority : (kind : Kind) → HasComponentSets kind → (digits : List ℕ)
    → is_text_for digit_set digits ≡ true
    → ExtendsAuthority kind lacks_port any_authority (codes ":" ++ digits)
unfolding is_text_for
port-extends-open-authority kind sets digits d =
    grind (arith, nat_tests, authority-with-port-is-authority, IsUtf8-from_is_utf8)

-- general fact on strings, for positions in a builder's draft: a length is that of the bytes
pub string_len-is-length-of-bytes : {Z : Type 0} (s : String Z) → string_len s
    ≡ length (string_bytes s)
string_len-is-length-of-bytes s = s.bytes.ok.0

module _ (a : Draft) (x new : List ℕ) (g : Bool) (kept : g ≡ false → a.failed ≡ false) (m n : ℕ)
    (before_len : m ≡ length (string_bytes a.text)) (after_len : n ≡ length new) where
  abbrev text : List ℕ
  text = string_bytes a.text

  abbrev parts : BuilderParts
  parts = parts_in a.lengths text false

  abbrev suffix : List ℕ
  suffix = after_part 1 a.lengths.scheme text

  abbrev from_path : List ℕ
  from_path = after_part 2 a.lengths.authority suffix

  abbrev from_query : List ℕ
  from_query = after_part 0 a.lengths.path from_path

  abbrev from_fragment : List ℕ
  from_fragment = after_part 1 a.lengths.query from_query

  abbrev longer : Lengths
  longer = record a.lengths { authority = option_map (λ k. k + (n - m)) a.lengths.authority }

  text-with-longer-authority-is-draft : (a.failed ≡ false
      → ends_in_authority any_authority (draft_parts a) ≡ true) → g ≡ false
      → new ≡ text ++ x → IsDraftOfParts (with_more_authority x parts) longer new
  text-with-longer-authority-is-draft ends e appended = grind (arith, common_steps)

  pub draft-with-longer-authority : (a.failed ≡ false
      → ends_in_authority any_authority (draft_parts a) ≡ true)
      → (lengths : Lengths) → (g ≡ false → lengths ≡ longer) → (g ≡ false → new ≡ text ++ x)
      → g ≡ false → IsDraftOfParts (with_more_authority x parts) lengths new
  draft-with-longer-authority ends lengths grown appended e =
      grind (arith, nat_tests, text-with-longer-authority-is-draft)
