-- Where an address in brackets and its `]` end, or which error it has: RFC 3986, section 3.2.2,
-- says which addresses there are; the error is this library's own choice.
use Rattle.std.specs.Prelude.{ℕ, zero, suc, ◌+◌, ◌-◌, ◌==◌, min, Bool, true, false, not, ◌&&◌, ◌||◌, List, drop, codes, nat_lt, nat_le, slice_index, slice_range, Option, Some, None, Ok, Err, option_and_then, if◌then◌else◌}
use Rattle.std.specs.Str.Parse.{digits_value}
use Rattle.std.specs.Net.Reader.{digit_count, digit_zero}
use Rattle.uri_pct.specs.Prelude.{colon, full_stop, hexdig_set, ipv_future_set, is_one_of, right_bracket}
use Rattle.uri_parts.specs.Errors.{malformed_ipv6, unexpected}
use Rattle.uri_parts.specs.Scanning.{ScanResult, is_next, is_at_end, scan_to_mark}

-- how groups of an IPv6 address end that are joined by `:`: at an index; with a `::` that ends at
-- an index; or they are malformed. Before the index is how many more groups there might have been.
pub data Groups : Type 0 where
  Groups_end : ℕ → ℕ → Groups
  Elision : ℕ → ℕ → Groups
  Malformed : Groups

module _ (text : List ℕ) where
  -- where the digits of the radix that begin at index i of the text end; at most `most` of them are
  -- passed
  abbrev pub digits_end : ℕ → ℕ → ℕ → ℕ
  digits_end radix most i = i + min most (digit_count radix (drop i text))

  -- where the octet of an IPv4 address that begins at index i of the text ends, or `None`: a number
  -- of at most 255, in three digits at most; a `0` is a number by itself
  unfoldable pub octet_end : ℕ → Option ℕ
  octet_end i =
      let end = digits_end 10 3 i in
      if is_next text digit_zero i then Some (i + 1)
      else (if nat_lt i end && nat_le (digits_value 10 (slice_range text i end)) 255 then Some end
      else None)

  -- where n octets of an IPv4 address end, each with a `.` before it, that begin at index i of the
  -- text; or `None` if they are not there
  unfoldable pub octets_end : ℕ → ℕ → Option ℕ
  octets_end zero i = Some i
  octets_end (suc n) i =
      if is_next text full_stop i then option_and_then (octets_end n) (octet_end (i + 1)) else None

  -- where the IPv4 address that begins at index i of the text ends, or `None`: four octets, joined
  -- by `.`
  abbrev pub ipv4_end : ℕ → Option ℕ
  ipv4_end i = option_and_then (octets_end 3) (octet_end i)

  -- how the groups of an IPv6 address end if an IPv4 address is the last, by where that ends
  -- (`None`: it is malformed); room: how many more groups there might be
  abbrev pub after_ipv4 : ℕ → Option ℕ → Groups
  after_ipv4 room None = Malformed
  after_ipv4 room (Some end) = Groups_end room end

  -- how the groups of an IPv6 address that begin at index i of the text end: at most `room`, joined
  -- by `:`; is_first: no group is before index i.
  -- An IPv4 address is two groups, and the last. One to three digits at the end of the text are
  -- passed and not counted.
  unfoldable pub groups_from : ℕ → Bool → ℕ → Groups
  groups_from zero is_first i = Groups_end 0 i
  groups_from (suc room) is_first i =
      let group = if is_next text colon i then i + 1 else i in
      let end = digits_end 16 4 group in
      let is_short = nat_lt end (group + 4) in
      if end == group
      then (if not (is_next text colon i) then Groups_end (suc room) i
      else (if is_next text colon group then Elision (suc room) (group + 1) else Malformed))
      else (if is_short && is_at_end text end then Groups_end (suc room) end
      else (if is_next text colon i && is_first || not (is_next text colon i) && not is_first
      then Malformed
      else (if is_short && is_next text full_stop end
      then (if room == 0 then Malformed
      else after_ipv4 (room - 1) (ipv4_end group))
      else groups_from room false end)))

  -- where an IPv6 address ends, by how its groups after the `::` end; or `None` if these are
  -- malformed or too many
  abbrev pub after_elision : Groups → Option ℕ
  after_elision (Groups_end room end) = if room == 0 then None else Some end
  after_elision _ = None

  -- where an IPv6 address ends, by how its first groups end, or `None`: it has eight groups, or
  -- fewer, some or none before a `::` and the others after it
  abbrev pub after_groups : Groups → Option ℕ
  after_groups (Groups_end room end) = if room == 0 then Some end else None
  after_groups (Elision room end) = after_elision (groups_from room true end)
  after_groups Malformed = None

  -- where the IPv6 address that begins at index i of the text ends, or `None` if it is malformed
  -- (RFC 3986, section 3.2.2)
  unfoldable pub ipv6_end : ℕ → Option ℕ
  ipv6_end i = after_groups (groups_from 8 true i)

  -- no IPv6 address begins at index i of the text: neither `:` nor a group of hexadecimal digits is
  -- there
  unfoldable pub cannot_begin_ipv6 : ℕ → Bool
  cannot_begin_ipv6 i =
      let end = digits_end 16 4 i in
      not (is_next text colon i) && (end == i || nat_lt end (i + 4) && is_next text full_stop end)

  -- the result for an IPv6 address in brackets that begins at index i, by where it ends (`None`: it
  -- is malformed): the index after its `]`, or the error
  abbrev pub closed : ℕ → Option ℕ → ScanResult
  closed i None = Err (malformed_ipv6 i)
  closed i (Some end) = if is_next text right_bracket end then Ok (end + 1) else Err
      (unexpected end)

  -- the index after the `]` of the IP literal whose address begins at index i of the text, or its
  -- error (RFC 3986, section 3.2.2)
  unfoldable pub literal : ℕ → ScanResult
  literal i =
      if not (cannot_begin_ipv6 i) then closed i (ipv6_end i)
      else (if is_one_of (codes "vV") (slice_index text i)
      then scan_to_mark text hexdig_set full_stop
      (scan_to_mark text ipv_future_set right_bracket (λ end. Ok end)) (i + 1)
      else Err (unexpected i))
