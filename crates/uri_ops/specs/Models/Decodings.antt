-- What a `Decoding` appends for the parts of a component, one part after the other: RFC 3986,
-- section 6.2.2.2.
use Rattle.std.specs.Prelude.{take, drop, length, if◌then◌else◌}
use Rattle.std.proofs.Common.{◌≡◌, ℕ, Bool, true, false, List, [], ◌++◌, map, refl, sym, ap, ◌∙◌, ◌+◌, ◌*◌, ◌≤◌, ◌∷◌, append_assoc, string_bytes}
use Rattle.std.specs.List.{flat_map}
use Rattle.std.specs.Char.{digit_value, is_ascii_hexdigit, to_ascii_lowercase}
use Rattle.std.specs.Str.{IsCharBoundary, chars, str_to_ascii_lowercase}
use Rattle.std.proofs.lemmas.List.{append-nil, map-append}
use Rattle.std.proofs.lemmas.List.Concat.{flat_map-append}
use Rattle.uri_pct.specs.Prelude.{Char, Decoded, IsValidFor, Literal, Octet, Part, TableSet, Token, decode_piece, decode_tokens, lower_token, print, set_of, text_of_token, tokens, widest_set}
use Rattle.uri_ops.specs.declared.normalize.decode_unreserved.Decoding.{Decoding}

-- the tokens that normalising makes of a part of a component: a literal text, or octets that are
-- decoded
abbrev pub decoded_part : TableSet → Part → List Token
decoded_part set (Literal text) = map Char (chars text)
decoded_part set (Decoded piece) = decode_piece set piece

-- the tokens that normalising makes of the parts of a component, one part after the other
abbrev pub decoded_parts : TableSet → List Part → List Token
decoded_parts set ps = flat_map (decoded_part set) ps

-- the tokens of a component that is normalised, with their letters in lower case if `lowers`
abbrev pub lowered_if : Bool → List Token → List Token
lowered_if lowers ts = if lowers then map lower_token ts else ts

-- the text of a component that is normalised, with its letters in lower case if `lowers`
abbrev pub lowered_text_if : Bool → List ℕ → List ℕ
lowered_text_if lowers text = if lowers then str_to_ascii_lowercase text else text

-- the character that a `Decoding` appends for an unreserved one: an ASCII letter in lower case if
-- `lowers`, any other as it is
abbrev pub lowered_code_if : Bool → ℕ → ℕ
lowered_code_if lowers ch = if lowers then to_ascii_lowercase ch else ch

-- the text of a component that is normalised: its unreserved octets decoded, and its letters in
-- lower case if `lowers`
abbrev pub decoded_text : Bool → TableSet → List ℕ → List ℕ
decoded_text lowers set text = print (lowered_if lowers (decode_tokens set (tokens text)))

-- normalising a component's text leaves its first n bytes, but for letters in lower case if
-- `lowers`, and decodes what is after them by itself
abbrev pub KeepsPrefixWhenDecoded : Bool → TableSet → List ℕ → ℕ → Type 0
KeepsPrefixWhenDecoded lowers set text n =
    decoded_text lowers set text
    ≡ lowered_text_if lowers (take n text) ++ decoded_text lowers set (drop n text)

-- an octet with these digits is at index i of a text, and what is after it is valid
pub record IsOctetAt (text : List ℕ) (i high low : ℕ) : Type 0 where
  pub split : drop i text ≡ 37 ∷ high ∷ low ∷ drop (i + 3) text
  pub high_digit : is_ascii_hexdigit high ≡ true
  pub low_digit : is_ascii_hexdigit low ≡ true
  pub token : tokens (drop i text)
      ≡ Octet (16 * digit_value high + digit_value low) ∷ tokens (drop (i + 3) text)
  pub within : i + 3 ≤ length text
  pub boundary : IsCharBoundary text (i + 3)
  pub valid : IsValidFor widest_set (drop (i + 3) text)

-- the `Decoding` `t` is `s` after these parts of a component, decoded, were appended to its text
pub record AppendsDecodedParts (s : Decoding) (ps : List Part) (t : Decoding) : Type 0 where
  pub set : set_of t.table ≡ set_of s.table
  pub lowers : t.lowers ≡ s.lowers
  pub same : t.text.ghost_name ≡ s.text.ghost_name
  pub text : string_bytes t.text.now
      ≡ string_bytes s.text.now ++ print (lowered_if s.lowers (decoded_parts (set_of s.table) ps))

-- the text of two lists of tokens, in lower case if `lowers`, is that of the first and that of the
-- second
pub cased_append : (lowers : Bool) (ts us : List Token)
    → print (lowered_if lowers (ts ++ us)) ≡ print (lowered_if lowers ts) ++ print
    (lowered_if lowers us)
cased_append true ts us = ap print (map-append lower_token ts us)
    ∙ flat_map-append text_of_token (map lower_token ts) (map lower_token us)
cased_append false ts us = flat_map-append text_of_token ts us

-- the text of no tokens is empty, in lower case or not
nothing_cased : (lowers : Bool) → print (lowered_if lowers []) ≡ []
nothing_cased true = refl
nothing_cased false = refl

-- a `Decoding` is what it is after no parts were appended to it
pub took_nothing : (s : Decoding) → AppendsDecodedParts s [] s
took_nothing s = record {
  set = refl;
  lowers = refl;
  same = refl;
  text = sym (append-nil (string_bytes s.text.now))
      ∙ ap (λ x. string_bytes s.text.now ++ x) (sym (nothing_cased s.lowers));
}

-- parts appended to a `Decoding`, and then more parts, are both appended one after the other
pub took_on : (s t u : Decoding) (ps qs : List Part) → AppendsDecodedParts s ps t
    → AppendsDecodedParts t qs u
    → AppendsDecodedParts s (ps ++ qs) u
took_on s t u ps qs first next =
    let grown : TableSet → Bool → List Part → List ℕ =
    λ set lowers parts. print (lowered_if lowers (decoded_parts set parts)) in
    let before = grown (set_of s.table) s.lowers ps in
    let suffix = grown (set_of s.table) s.lowers qs in
    let moved = ap (λ set. grown set t.lowers qs) first.set
    ∙ ap (λ lowers. grown (set_of s.table) lowers qs) first.lowers in
    let joined = ap (λ ts. print (lowered_if s.lowers ts))
    (flat_map-append (decoded_part (set_of s.table)) ps qs)
    ∙ cased_append s.lowers (decoded_parts (set_of s.table) ps) (decoded_parts (set_of s.table) qs)
    in
    record {
      set = next.set ∙ first.set;
      lowers = next.lowers ∙ first.lowers;
      same = next.same ∙ first.same;
      text = next.text ∙ ap (λ x. string_bytes t.text.now ++ x) moved
          ∙ ap (λ x. x ++ suffix) first.text ∙ append_assoc (string_bytes s.text.now) before suffix
          ∙ ap (λ x. string_bytes s.text.now ++ x) (sym joined);
    }
