-- Where a scan that stopped may go on: RFC 3986, section 2.1.
use Rattle.std.specs.Prelude.{ℕ, Bool, not, ◌&&◌, ◌||◌, ◌==◌, nat_lt, if◌then◌else◌}
use Rattle.uri_pct.specs.Sets.{TableSet}
use Rattle.uri_pct.specs.Delimiters.{percent_sign}

-- a scan by the set that stopped at the byte may go on: the set allows percent-encoded octets, or
-- characters past ASCII, and the byte may begin one
unfoldable pub may_begin_octet_or_past_ascii : TableSet → ℕ → Bool
may_begin_octet_or_past_ascii set b =
    if b == percent_sign then set.pct_encoded else
    (not (nat_lt b 128) && (set.ucschar || set.iprivate))
