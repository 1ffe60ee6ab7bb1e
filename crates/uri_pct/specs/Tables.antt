-- The set of characters that a `Table` represents: RFC 3986, appendix A, and RFC 3987, section 2.2.
use Rattle.std.specs.Prelude.{false}
use Rattle.uri_pct.specs.Sets.{TableSet, characters_only}
use Rattle.uri_pct.specs.Masks.{has_bit}
use Rattle.uri_pct.specs.declared.table.Table.{Table}

-- the set that a `Table` represents, its ASCII characters as the bits of two words
abbrev pub set_of : Table → TableSet
set_of t = record {
  ascii = has_bit t.low t.high;
  pct_encoded = t.pct_encoded;
  ucschar = t.ucschar;
  iprivate = t.iprivate;
}

-- the set without characters, and without percent-encoded octets
abbrev pub empty_set : TableSet
empty_set = characters_only (λ c. false)
