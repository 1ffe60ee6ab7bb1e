-- The longest prefix of a text that is valid for a set: RFC 3986, section 2.1. It is found byte by
-- byte; the law `valid_prefixes_are_longest` says what it is.
use Rattle.std.specs.Prelude.{ℕ, zero, suc, ◌+◌, Bool, ◌&&◌, ◌==◌, nat_lt, List, [], ◌∷◌, drop, slice_index, if◌then◌else◌}
use Rattle.std.specs.Char.{is_ascii_hexdigit}
use Rattle.std.specs.Str.{chars, continuation_len}
use Rattle.uri_pct.specs.Sets.{TableSet, allows_past_ascii}
use Rattle.uri_pct.specs.Delimiters.{percent_sign}

-- the text begins with two hexadecimal digits, as after the `%` of a percent-encoded octet
-- (RFC 3986, section 2.1)
unfoldable pub begins_with_hex_digits : List ℕ → Bool
begins_with_hex_digits text = is_ascii_hexdigit (slice_index text 0) && is_ascii_hexdigit
    (slice_index text 1)

-- the character that begins the text, as its code
unfoldable pub first_char : List ℕ → ℕ
first_char text = slice_index (chars text) 0

-- the set allows the character that begins a text, of which b is the first byte and rest are the
-- others
unfoldable pub allows_first : TableSet → ℕ → List ℕ → Bool
allows_first set b rest =
    if nat_lt b 128 then set.ascii b else allows_past_ascii set (first_char (b ∷ rest))

-- the length of the longest prefix that is valid for the set, where `skip` bytes of a token are
-- still to pass
unfoldable pub valid_prefix_from : TableSet → ℕ → List ℕ → ℕ
valid_prefix_from set skip [] = 0
valid_prefix_from set zero (b ∷ rest) =
    if set.pct_encoded && b == percent_sign
    then (if begins_with_hex_digits rest then valid_prefix_from set 2 rest + 1 else 0)
    else (if allows_first set b rest then valid_prefix_from set (continuation_len b) rest
    + 1 else 0)
valid_prefix_from set (suc k) (b ∷ rest) = valid_prefix_from set k rest + 1

-- the length of the longest prefix of the text that is valid for the set (RFC 3986, section 2.1)
abbrev pub valid_prefix : TableSet → List ℕ → ℕ
valid_prefix set text = valid_prefix_from set 0 text

-- the text after its longest prefix that is valid for the set (RFC 3986, section 2.1)
abbrev pub after : TableSet → List ℕ → List ℕ
after set text = drop (valid_prefix set text) text
