-- A host that begins with neither a digit nor a `[` is a name.
use Rattle.fluent_uri_c.proofs.Common.{◌≡◌, ℕ, ◌<◌, ◌≤◌, ◌==◌, false, not, List, length, arith, lit≤, None, IsTrue, slice_index, not-true, RegName, host_kind, ipv4_value}
use Rattle.std.specs.Char.{digit_value, is_ascii_digit}
use Rattle.std.specs.Net.Reader.{read_ipv4, read_octet}
use Rattle.std.proofs.NetLemmas.Numbers.{NoDigit, read_number_empty}
use Rattle.std.proofs.lemmas.Bool.Decides.{nat_tests}

no_ipv4 : (host : List ℕ) → NoDigit 10 host → ipv4_value host ≡ None
unfolding ipv4_value read_ipv4 read_octet
no_ipv4 host h = rw (read_number_empty 10 255 host h)

no_digit : (c : ℕ) → is_ascii_digit c ≡ false → 10 ≤ digit_value c
no_digit c e = grind arith

pub empty_is_name : (host : List ℕ) → length host < 1 → host_kind host ≡ RegName
unfolding host_kind
empty_is_name host h = grind (arith, no_ipv4, lit≤, host_kind)

-- exports for C: a host that begins with neither a digit nor `[` (91) is a registered name
pub begins_as_name : (host : List ℕ) → is_ascii_digit (slice_index host 0) ≡ false
    → IsTrue (not (slice_index host 0 == 91)) → host_kind host ≡ RegName
unfolding host_kind
begins_as_name host digit bracket = grind (arith, no_ipv4, lit≤, host_kind, not-true, no_digit)

-- exports for C: so is one that begins with a byte after `[` (91), as a letter in lower case
pub begins_after_bracket : (host : List ℕ) → 91 < slice_index host 0 → host_kind host ≡ RegName
begins_after_bracket host h = grind (arith, begins_as_name, nat_tests)
