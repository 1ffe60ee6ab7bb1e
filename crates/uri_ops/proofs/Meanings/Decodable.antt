-- Texts in which each `%` begins an octet.
use Rattle.uri_ops.proofs.Common.{◌≡◌, ℕ, Bool, true, false, not, eqb, List, refl, subst, arith, Option, Some, None, IsDotted, All-weaker, list_all-from_AllPass, IsDigitOrDot, widest_set, TableSet, LacksPercent, set_of, IsValidFor, every_set_is_subset_of_widest, valid_for_superset, starts, ipv4_value, is_host, reg_name_host_is_valid, ipv4_value-sound, ipv4-text-is-digits-and-dots, common_steps}
use Rattle.uri_pct.specs.declared.table.Table.{Table}
use Rattle.uri_pct.proofs.Offered.{lacks_percent}
use Rattle.uri_ops.proofs.Meanings.AllowedParts.{set-text-is-valid}
use Rattle.uri_ops.proofs.Meanings.AsciiCharacters.{is_ascii_in, ascii-in-test-is-set-text}

-- meanings, decoded: in a text that a table allows each `%` begins an octet
pub valid-text-is-decodable : (table : Table) (set : TableSet) (text : List ℕ) → set_of table ≡ set
    → IsValidFor set text → IsValidFor widest_set text
valid-text-is-decodable table set text e valid = valid_for_superset set widest_set text
    (every_set_is_subset_of_widest set (subst LacksPercent e (lacks_percent table))) valid

-- meanings of hosts: the character is not `%`, as in an IPv4 address
abbrev is_no_percent : ℕ → Bool
is_no_percent c = not (eqb c 37)

-- meanings of hosts: the characters of an IPv4 address are not `%`
digit-or-dot-is-no-percent : (c : ℕ) → IsDigitOrDot c → is_ascii_in is_no_percent c ≡ true
digit-or-dot-is-no-percent c o = grind (arith, common_steps)

-- meanings of hosts: an IPv4 address may be decoded, as it has no `%`
dotted-decimal-is-decodable : (text octets : List ℕ) → IsDotted text octets
    → IsValidFor widest_set text
dotted-decimal-is-decodable text octets h =
    set-text-is-valid widest_set text (ascii-in-test-is-set-text widest_set is_no_percent refl refl
    (λ c e. e) text (list_all-from_AllPass (is_ascii_in is_no_percent) text
    (All-weaker IsDigitOrDot (λ c. is_ascii_in is_no_percent c ≡ true)
    (λ c d. digit-or-dot-is-no-percent c d) text (ipv4-text-is-digits-and-dots text octets h))))

-- meanings of hosts: each `%` begins an octet in a host that doesn't begin with `[` (91), so in an
-- IPv4 address or a name
pub unbracketed-host-is-decodable : (table : Table) (names : TableSet) (host : List ℕ)
    → set_of table ≡ names
    → is_host names host ≡ true → starts 91 host ≡ false → IsValidFor widest_set host
unbracketed-host-is-decodable table names host e h s = by_value (ipv4_value host) refl
  where
    by_value : (value : Option (List ℕ)) → ipv4_value host ≡ value → IsValidFor widest_set host
    by_value (Some octets) v = dotted-decimal-is-decodable host octets
        (ipv4_value-sound host octets v)
    by_value None v = valid-text-is-decodable table names host e
        (reg_name_host_is_valid names host h s v)
