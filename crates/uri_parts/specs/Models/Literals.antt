-- What the parser takes of an address in brackets, after the `[`: RFC 3986, section 3.2.2.
use Rattle.std.specs.Prelude.{◌≡◌, ℕ, ◌+◌, ◌<◌, ◌≤◌, ◌||◌, false, List, length, take, codes, [], ◌∷◌, Option, option_map, slice_index}
use Rattle.std.specs.Borrow.{Bor}
use Rattle.std.specs.Char.{digit_value}
use Rattle.std.specs.Str.Parse.{AllDigits, digits_value}
use Rattle.std.specs.Net.Addr.{segments_of}
use Rattle.std.specs.Net.Reader.{Read, read_ipv4}
use Rattle.uri_parts.specs.Components.{before_any, starts}

-- the text begins with `count` hexadecimal digits, and perhaps more, which write the number
pub record BeginsNumber (text : List ℕ) (count value : ℕ) : Type 0 where
  pub digits : AllDigits 16 (take count text)
  pub within : count ≤ length text
  pub is : value ≡ digits_value 16 (take count text)

-- the text begins with `count` hexadecimal digits: all that come first, or five of them
pub record AreLeadingHexDigits (text : List ℕ) (count : ℕ) : Type 0 where
  pub digits : AllDigits 16 (take count text)
  pub most : count ≤ 5
  pub within : count ≤ length text
  pub stop : count < 5 → 16 ≤ digit_value (slice_index text count)

-- what was read of an IPv4 address: its two segments, and the text after it
abbrev pub two_segments : Option (ℕ × ℕ × Bor (List ℕ)) → Read (List ℕ)
two_segments r = option_map (λ p. (p.0 ∷ p.1 ∷ [], p.2.now)) r

-- the IPv4 address that the text begins with, as the last two segments of an IPv6 address
abbrev pub segments_of_ipv4 : List ℕ → Read (List ℕ)
segments_of_ipv4 text = option_map (λ p. (segments_of p.0, p.1)) (read_ipv4 text)

-- the text begins neither with `v` (118) nor with `V` (86), so with no IPvFuture address
abbrev pub LacksVersionLetter : List ℕ → Type 0
LacksVersionLetter text = (starts 118 text || starts 86 text) ≡ false

-- the text before its first `]`, or all of it if it has none
abbrev pub text_before_bracket : List ℕ → List ℕ
text_before_bracket rest = before_any (codes "]") rest

-- the length of the text before its first `]`, and of the `]`: of an IP literal after its `[`
-- (RFC 3986, section 3.2.2)
unfoldable pub literal_length : List ℕ → ℕ
literal_length rest = length (text_before_bracket rest) + 1
