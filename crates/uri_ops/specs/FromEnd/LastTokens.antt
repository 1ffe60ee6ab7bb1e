-- The last token of a text that normalising decodes, and the tokens before it: RFC 3986, section
-- 6.2.2.2; RFC 3987, section 5.3.2.3.
use Rattle.std.specs.Prelude.{◌≡◌, ◌≢◌, ◌≤◌, ◌<◌, ℕ, ◌+◌, true, List, [], ◌∷◌, ◌++◌, length, map, slice_index}
use Rattle.std.specs.Char.{IsScalar, encode_utf8}
use Rattle.uri_pct.specs.Prelude.{IsValidFor, Octet, TableSet, Token, is_decodable, percent_sign, tokens, widest_set}

-- the tokens of the text are those of the text before, which is valid too, and then these
pub record EndsIn (text before : List ℕ) (ts : List Token) : Type 0 where
  pub tokens : tokens text ≡ tokens before ++ ts
  pub valid : IsValidFor widest_set before

-- the third byte from the end, if there is one, is not `%`
abbrev pub LacksPercentThird : List ℕ → Type 0
LacksPercentThird text = (n : ℕ) → n + 3 ≡ length text → slice_index text n ≢ percent_sign

-- the bytes from the index on are ASCII, and the second byte before each of them is not `%`: so in a
-- valid text they are in no octet
pub record IsAsciiSuffix (text : List ℕ) (start : ℕ) : Type 0 where
  pub within : start ≤ length text
  pub ascii : (k : ℕ) → start ≤ k → k < length text → slice_index text k < 128
  pub outside : (k : ℕ) → start ≤ k + 2 → k + 2 < length text → slice_index text k ≢ percent_sign

-- the last token, if there is one, is a character
abbrev pub EndInNoOctet : List Token → Type 0
EndInNoOctet ts = (before : List Token) (value : ℕ) → ts ≡ before ++ Octet value ∷ [] → ⊥

-- no decodable character ends the bytes: none of their suffixes is its UTF-8
abbrev pub EndInNoDecodable : TableSet → List ℕ → Type 0
EndInNoDecodable set bytes =
    (before : List ℕ) (c : ℕ) → IsScalar c → is_decodable set c ≡ true
    → bytes ≡ before ++ encode_utf8 c → ⊥

-- no decodable character ends the tokens as octets: none of their suffixes is the octets of its
-- UTF-8
abbrev pub TokensEndInNoDecodable : TableSet → List Token → Type 0
TokensEndInNoDecodable set ts =
    (before : List Token) (c : ℕ) → IsScalar c → is_decodable set c ≡ true
    → ts ≡ before ++ map Octet (encode_utf8 c) → ⊥

-- the bytes are not the UTF-8 of a decodable character
abbrev pub AreNoDecodable : TableSet → List ℕ → Type 0
AreNoDecodable set bytes =
    (c : ℕ) → IsScalar c → is_decodable set c ≡ true → bytes ≡ encode_utf8 c → ⊥

-- the bytes are the UTF-8 of the character, which is decodable
abbrev pub AreDecodable : TableSet → List ℕ → ℕ → Type 0
AreDecodable set bytes c = (is_decodable set c ≡ true) × (bytes ≡ encode_utf8 c)

-- the octets of the decodable character end the text, and the text before is before them
abbrev pub EndsInDecodable : TableSet → List ℕ → List ℕ → ℕ → Type 0
EndsInDecodable set text before c =
    (is_decodable set c ≡ true) × EndsIn text before (map Octet (encode_utf8 c))
