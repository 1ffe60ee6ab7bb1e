-- Whether what is before an error begins some text of the kind. Each text does that is not one
-- of three exceptions, in which the error is returned later than it might be: this library's own
-- choice, since no RFC says which error a text has.
use Rattle.std.specs.Prelude.{ℕ, ◌+◌, ◌==◌, Bool, false, not, ◌&&◌, ◌||◌, nat_lt, List, ◌++◌, length, drop, codes, slice_index, Ok, Err, if◌then◌else◌}
use Rattle.std.specs.Char.{is_ascii_alphabetic}
use Rattle.std.specs.Option.{option_map_or}
use Rattle.uri_pct.specs.Prelude.{at_sign, colon, digit_set, left_bracket, percent_sign, scheme_set, slash}
use Rattle.uri_parts.specs.Prelude.{IsTextOf, Kind, ScanResult, has_authority, ipv6_end, is_at_end, is_next, literal, scan_end}

-- the prefix before an error begins some text of the kind: it is one with something appended
abbrev pub IsViablePrefix : Kind → List ℕ → Type 0
IsViablePrefix kind prefix = (more : List ℕ) × IsTextOf kind (prefix ++ more)

-- for the law of viable prefixes: whether a scan succeeded, and the test holds for the index where
-- it ended
abbrev pub holds_at_end : (ℕ → Bool) → ScanResult → Bool
holds_at_end test (Ok end) = test end
holds_at_end test (Err e) = false

module _ (text : List ℕ) where
  -- exception 1 to the law of viable prefixes: a scheme is needed, and the text begins with so many
  -- characters of one, but with no letter.
  -- The error is at their end: `3ab` at 3.
  abbrev pub begins_without_letter : ℕ → Bool
  begins_without_letter scheme = nat_lt 0 scheme && not (is_ascii_alphabetic (slice_index text 0))

  -- exception 2 to the law of viable prefixes: the IPv6 address that begins at index i is parsed up
  -- to the end of the text, but not if `]` follows.
  -- The digits at the end of the text are not counted. The error is there: `//[:::1` at 7.
  abbrev pub is_ipv6_end_uncounted : ℕ → Bool
  is_ipv6_end_uncounted i =
      option_map_or (is_at_end text) (ipv6_end text i) false
      && not (option_map_or (λ end. end == length text) (ipv6_end (text ++ codes "]") i) false)

module _ (kind : Kind) (text : List ℕ) where
  -- exception 3 to the law of viable prefixes: the path that begins at index i has a stray `%`, and
  -- should begin with `/`, since a host and a port are before it.
  -- The error is at the `%`: `//[::1]a%zz` at 8.
  abbrev pub is_unrooted : ℕ → Bool
  is_unrooted i =
      let end = scan_end text kind.path i in
      nat_lt i end && not (is_next text slash i) && is_next text percent_sign end

  -- the text's error is later than it might be, if a port may begin at index i: the path after it
  -- has a stray `%`, and should begin with `/` (exception 3)
  unfoldable pub is_late_from_port : ℕ → Bool
  is_late_from_port i =
      is_unrooted (if is_next text colon i then scan_end text digit_set (i + 1) else i)

  -- the text's error is later than it might be, if a host begins at index i: at the end of an IPv6
  -- address (exception 2), or in the path (exception 3)
  unfoldable pub is_late_from_host : ℕ → Bool
  is_late_from_host i =
      if is_next text left_bracket i
      then is_ipv6_end_uncounted text (i + 1) || holds_at_end is_late_from_port
      (literal text (i + 1))
      else is_late_from_port (scan_end text kind.reg_name i)

  -- the text's error is later than it might be, if an authority begins at index i: only in
  -- brackets, or after userinfo (exceptions 2 and 3)
  unfoldable pub is_late_from_authority : ℕ → Bool
  is_late_from_authority i =
      let end = scan_end text kind.userinfo i in
      if is_next text at_sign end then is_late_from_host (end + 1)
      else is_next text left_bracket i && is_late_from_host i

  -- the text's error is later than it might be, if what is after a scheme begins at index i
  -- (exceptions 2 and 3)
  abbrev pub is_late_from_hier : ℕ → Bool
  is_late_from_hier i = has_authority (drop i text) && is_late_from_authority (i + 2)

  -- the text's error as one of the kind is later than it might be: it is one of the three
  -- exceptions to the law of viable prefixes
  unfoldable pub has_late_error : Bool
  has_late_error =
      let scheme = scan_end text scheme_set 0 in
      if is_next text colon scheme
      then is_ascii_alphabetic (slice_index text 0) && is_late_from_hier (scheme + 1)
      else (if kind.needs_scheme then begins_without_letter text scheme else is_late_from_hier 0)
