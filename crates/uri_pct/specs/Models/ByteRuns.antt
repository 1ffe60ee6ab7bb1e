-- Runs of bytes that pass a test, and of such bytes and octets: RFC 3986, section 2.1.
use Rattle.std.specs.Prelude.{◌≡◌, ◌≤◌, ◌<◌, ℕ, Bool, true, false, List, ◌+◌, ◌-◌, length, slice_index, ◌==◌, ◌&&◌, ◌||◌, not, nat_le}
use Rattle.std.specs.Char.{is_ascii_hexdigit}
use Rattle.uri_pct.specs.Texts.{has_hex_digits_after}
use Rattle.uri_pct.specs.Delimiters.{percent_sign}

-- the byte is a character of ASCII that passes the test, or in a text a part of one of the
-- characters from U+00C0 to U+D7FF: C3 to ED begin these, and 80 to BF continue a character
abbrev pub is_char_byte : (ℕ → Bool) → ℕ → Bool
is_char_byte ascii b = ascii b || (nat_le b 0xED && not (nat_le b 0x7F) && not (b == 0xC2))

-- from start to end is the longest run of bytes, from start on, that pass the test of a scan
pub record IsLongestRun (test : ℕ → Bool) (bytes : List ℕ) (start end : ℕ) : Type 0 where
  pub from : start ≤ end
  pub within : end ≤ length bytes
  pub pass : (k : ℕ) → start ≤ k → k < end → test (slice_index bytes k) ≡ true
  pub stop : end < length bytes → test (slice_index bytes end) ≡ false

-- each of n bytes from start on passes the test or is a part of a percent-encoded octet, and octets
-- that begin there end there (RFC 3986, section 2.1)
pub record AreCharactersOrOctets (test : ℕ → Bool) (bytes : List ℕ) (start n : ℕ) : Type 0 where
  pub octet : ℕ → Bool
  pub pass : (k : ℕ) → k < n → octet k ≡ false → ((j : ℕ) → j < k → k ≤ j + 2 → octet j ≡ false)
      → test (slice_index bytes (start + k)) ≡ true
  pub percent : (k : ℕ) → octet k ≡ true → slice_index bytes (start + k) ≡ percent_sign
  pub digits : (k : ℕ) → octet k ≡ true → has_hex_digits_after bytes (start + k) ≡ true
  pub whole : (k : ℕ) → k < n → octet k ≡ true → k + 3 ≤ n

-- byte i passes the test or is a `%`, and it is a hexadecimal digit where one of the two bytes
-- before it is a `%` (RFC 3986, section 2.1)
pub record IsByteOfEncodedText (test : ℕ → Bool) (bytes : List ℕ) (i : ℕ) : Type 0 where
  pub no_octet : (slice_index bytes i == percent_sign) ≡ false → test (slice_index bytes i) ≡ true
  pub first : slice_index bytes (i - 1) ≡ percent_sign
      → is_ascii_hexdigit (slice_index bytes i) ≡ true
  pub second : slice_index bytes (i - 2) ≡ percent_sign
      → is_ascii_hexdigit (slice_index bytes i) ≡ true
