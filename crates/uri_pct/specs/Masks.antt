-- Two words as a set of ASCII characters, in place of the rules of RFC 3986, appendix A.
use Rattle.std.specs.Prelude.{◌≡◌, ℕ, ◌-◌, Bool, true, not, ◌&&◌, ◌==◌, nat_lt, if◌then◌else◌}
use Rattle.std.specs.Int.{bit_at}
use Rattle.std.specs.Char.{is_ascii_hexdigit}
use Rattle.uri_pct.specs.Delimiters.{percent_sign}

-- the character c is in the set of two words: bit n of `low` is character n, and bit n of `high` is
-- character 64 + n
unfoldable pub has_bit : ℕ → ℕ → ℕ → Bool
has_bit low high c =
    if nat_lt c 64 then bit_at low c == 1 else (nat_lt c 128 && bit_at high (c - 64) == 1)

-- the character may be in a table: it is one of ASCII other than `%`
abbrev pub is_unencoded_ascii : ℕ → Bool
is_unencoded_ascii c = nat_lt c 128 && not (c == percent_sign)

-- each hexadecimal digit is in the set of two words
abbrev pub HasHexDigits : ℕ → ℕ → Type 0
HasHexDigits low high = (c : ℕ) → is_ascii_hexdigit c ≡ true → has_bit low high c ≡ true
