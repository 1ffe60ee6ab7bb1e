-- What a text holds, by its bytes: RFC 3986, section 2.1.
use Rattle.std.specs.Prelude.{◌≡◌, ℕ, Bool, IsTrue, not, ◌==◌, List, ◌∷◌, ◌++◌, slice_index, ◌<◌, length, false, ◌+◌, ◌&&◌, string_bytes}
use Rattle.std.specs.List.{list_all}
use Rattle.std.specs.Char.{is_ascii_hexdigit}
use Rattle.std.specs.declared.string.String.{String}
use Rattle.uri_pct.specs.Delimiters.{percent_sign, slash}

-- the byte, such as a delimiter at which texts are split, is nowhere in the text
abbrev pub lacks : ℕ → List ℕ → Bool
lacks byte text = list_all (λ b. not (b == byte)) text

-- no `%` is in the text, and so no percent-encoded octet (RFC 3986, section 2.1)
abbrev pub is_unencoded : List ℕ → Bool
is_unencoded text = lacks percent_sign text

-- the path, a percent-encoded text, begins with `/` (RFC 3986, section 3.3)
abbrev pub is_absolute : List ℕ → Bool
is_absolute text = slice_index text 0 == slash

-- the text is cut as `split_once` does: at the first such byte,
-- into what is before it and what is after it
abbrev pub IsCutAtFirst : ℕ → List ℕ → List ℕ → List ℕ → Type 0
IsCutAtFirst byte text before after = (text ≡ before ++ byte ∷ after) × IsTrue (lacks byte before)

-- the text is cut as `rsplit_once` does: at the last such byte,
-- into what is before it and what is after it
abbrev pub IsCutAtLast : ℕ → List ℕ → List ℕ → List ℕ → Type 0
IsCutAtLast byte text before after = (text ≡ before ++ byte ∷ after) × IsTrue (lacks byte after)

-- two hexadecimal digits are in the text after the index i, as after the `%` of a percent-encoded
-- octet (RFC 3986, section 2.1)
unfoldable pub has_hex_digits_after : List ℕ → ℕ → Bool
has_hex_digits_after text i =
    is_ascii_hexdigit (slice_index text (i + 1)) && is_ascii_hexdigit (slice_index text (i + 2))

-- at the index i of the text is a `%` that two hexadecimal digits do not follow (RFC 3986,
-- section 2.1)
pub record IsStrayPercent (text : List ℕ) (i : ℕ) : Type 0 where
  pub inside : i < length text
  pub percent : slice_index text i ≡ percent_sign
  pub stray : has_hex_digits_after text i ≡ false

-- the new string is the old one with this text appended, as after a call that pushes it
abbrev pub Pushes : {A : Type 0} → String A → String A → List ℕ → Type 0
Pushes old new text = string_bytes new ≡ string_bytes old ++ text
