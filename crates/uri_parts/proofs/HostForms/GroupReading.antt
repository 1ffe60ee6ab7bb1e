-- One turn of reading the groups of an IPv6 address into their numbers.
use Rattle.uri_parts.proofs.Common.{◌≡◌, ◌≢◌, ℕ, zero, suc, ◌+◌, ◌-◌, ◌<◌, ◌≤◌, ◌==◌, ◌⊎◌, nat_lt, max, Bool, true, false, List, [], ◌∷◌, ◌++◌, length, take, drop, get_or, Some, None, replicate, refl, sym, ◌∙◌, arith, inl, inr, ne_eqb, append-nil, append_assoc, length-append, length-take-le, get_or-take, get_or-drop, cases_lt, at_drop_more, at_drop_all, get_or_past, ext_get_or, get_or_append_left, get_or-append_right, get_or-append-add, get_or-replicate, length-replicate, digits_value, read_segments, read_separator, read_ipv4, read_ipv4_if, read_segment, read_byte, read_octet, read_number_empty, read_ipv4_sound, map_some, none-some, nat_tests, AreLeadingHexDigits, segments_of_ipv4}
use Rattle.std.specs.Net.Reader.{after}
use Rattle.uri_parts.proofs.HostForms.AddressParsing.{hex_digits_are_read_as_segment, five_digits_begin_no_ipv4, no_dot_means_no_ipv4, no_digits_are_no_segment, IsSuffix, text-after-prefix-is-suffix, too-long-number-is-no-segment}

pub no-dot-after-digits-is-no-ipv4 : (fits : Bool) (text : List ℕ) (count : ℕ)
    → AreLeadingHexDigits text count → get_or text count 0 ≢ 46 → read_ipv4_if fits text ≡ None
no-dot-after-digits-is-no-ipv4 false text count h other = refl
no-dot-after-digits-is-no-ipv4 true text count h other = elim (cases_lt count 5) [
  | inl few ↦ no_dot_means_no_ipv4 text count h few other
  | inr five ↦ five_digits_begin_no_ipv4 text count h (let most = h.most in omega arith)
]

pub colon-at-position-is-read : (s : List ℕ) (i : ℕ) → get_or s i 0 ≡ 58 → read_byte 58 (drop i s)
    ≡ Some (drop (i + 1) s)
colon-at-position-is-read s i e = elim (cases_lt i (length s)) [
  | inl inside ↦ at_drop_more (read_byte 58) s i 0 inside ∙ rw e refl
  | inr past ↦ cc (get_or_past s i 0 past)
]

pub colon-at-position-is-inside : (s : List ℕ) (i : ℕ) → get_or s i 0 ≡ 58 → i + 1 ≤ length s
colon-at-position-is-inside s i e = grind (arith, nat_tests, get_or_past)

other-byte-at-position-is-no-colon : (s : List ℕ) (i : ℕ) → get_or s i 0 ≢ 58
    → read_byte 58 (drop i s) ≡ None
other-byte-at-position-is-no-colon s i other = elim (cases_lt i (length s)) [
  | inl inside ↦ at_drop_more (read_byte 58) s i 0 inside ∙ rw (ne_eqb _ _ other) refl
  | inr past ↦ at_drop_all (read_byte 58) s i past
]

no-segment-is-read-without-colon : (room : ℕ) (rest : List ℕ) → read_byte 58 rest ≡ None
    → read_segments room false rest ≡ ([], false, rest)
unfolding read_segments
no-segment-is-read-without-colon zero rest e = refl
no-segment-is-read-without-colon (suc room) rest e = rw e

no-digits-begin-no-ipv4 : (text : List ℕ) → AreLeadingHexDigits text 0 → read_ipv4 text ≡ None
unfolding read_ipv4 read_octet
no-digits-begin-no-ipv4 text h = grind (arith, nat_tests, read_number_empty)

-- reading IPv6: no group begins where no digit or five come first
module _ (text : List ℕ) (count : ℕ) (are : AreLeadingHexDigits text count)
    (none : (count ≡ 0) ⊎ (count ≡ 5)) where
  no-ipv4-without-group : (fits : Bool) → read_ipv4_if fits text ≡ None
  no-ipv4-without-group false = refl
  no-ipv4-without-group true =
      grind (arith, nat_tests, no-digits-begin-no-ipv4, five_digits_begin_no_ipv4)

  no-segment-without-group : read_segment text ≡ None
  no-segment-without-group =
      grind (arith, nat_tests, no_digits_are_no_segment, too-long-number-is-no-segment)

pub text-after-ipv4-is-suffix : (text two rest : List ℕ) → Some (two, rest) ≡ segments_of_ipv4 text
    → IsSuffix rest text
text-after-ipv4-is-suffix text two rest e =
    grind (arith, nat_tests, map_some, read_ipv4_sound, text-after-prefix-is-suffix)

-- reading IPv6: no IPv4 address is read where none is parsed, or where it does not fit
pub unparsed-ipv4-is-not-read : (fits : Bool) (text : List ℕ) → None ≡ segments_of_ipv4 text
    → read_ipv4_if fits text ≡ None
unparsed-ipv4-is-not-read false text e = refl
unparsed-ipv4-is-not-read true text e = grind (arith, none-some)

-- at the index i of n, where `group` begins
module _ (n i : ℕ) (text s prefix group : List ℕ) (within : i < n)
    (so_far : read_segments n true text ≡ after prefix (read_segments (n - i) (i == 0) s))
    (led : Some group ≡ read_separator (i == 0) s) (count : ℕ)
    (are : AreLeadingHexDigits group count) where
  room-is-one-more-than-room-after : n - i ≡ suc (n - (i + 1))
  room-is-one-more-than-room-after = omega arith

  pub reading-ends-without-group : (count ≡ 0) ⊎ (count ≡ 5)
      → read_segments n true text ≡ (prefix, false, s)
  unfolding read_segments
  reading-ends-without-group none = so_far ∙ rw (
    room-is-one-more-than-room-after,
    ← led,
    no-ipv4-without-group group count are none (nat_lt 0 (n - (i + 1))),
    no-segment-without-group group count are none,
    append-nil,
  )

  pub ipv4-ends-reading : (two rest : List ℕ) → i + 1 < n → Some
      (two, rest) ≡ segments_of_ipv4 group → read_segments n true text ≡ (prefix ++ two, true, rest)
  unfolding read_segments
  ipv4-ends-reading two rest fits e =
      grind (arith, nat_tests, map_some, nat_lt, room-is-one-more-than-room-after)

  module _ (some : count ≢ 0) (few : count ≢ 5)
      (no_ipv4 : read_ipv4_if (nat_lt 0 (n - (i + 1))) group ≡ None) where
    group-has-fewer-than-five-digits : count < 5
    group-has-fewer-than-five-digits = let most = are.most in omega arith

    pub reading-appends-value-of-group : read_segments n true text
        ≡ after (prefix ++ digits_value 16 (take count group) ∷ [])
        (read_segments (n - (i + 1)) (i + 1 == 0) (drop count group))
    unfolding read_segments
    reading-appends-value-of-group =
        let later : (i + 1 == 0) ≡ false = ne_eqb _ _ (omega arith) in
        so_far ∙ rw (
          room-is-one-more-than-room-after,
          ← led,
          no_ipv4,
          hex_digits_are_read_as_segment group count are (omega arith)
              group-has-fewer-than-five-digits,
          later,
          append_assoc,
        ) refl

    pub reading-ends-after-group-without-colon : get_or group count 0 ≢ 58
        → read_segments n true text
        ≡ (prefix ++ digits_value 16 (take count group) ∷ [], false, drop count group)
    reading-ends-after-group-without-colon other =
        let later : (i + 1 == 0) ≡ false = ne_eqb _ _ (omega arith) in
        reading-appends-value-of-group ∙ rw (
          later,
          no-segment-is-read-without-colon (n - (i + 1)) (drop count group)
              (other-byte-at-position-is-no-colon group count other),
          append-nil,
        ) refl

    pub colon-separates-next-group : get_or group count 0 ≡ 58
        → Some (drop (count + 1) group) ≡ read_separator (i + 1 == 0) (drop count group)
    colon-separates-next-group colon =
        let later : (i + 1 == 0) ≡ false = ne_eqb _ _ (omega arith) in
        rw (later, colon-at-position-is-read group count colon) refl

pub byte-after-digits-at-position : (text : List ℕ) (group count byte : ℕ)
    → byte ≡ get_or text (group + count) 0 → byte ≡ get_or (drop group text) count 0
byte-after-digits-at-position text group count byte here = rw (get_or-drop group text count 0) here

-- reading IPv6: the groups after a `::` are the last of the eight, and zeros are before them.
-- `window` has them from 8 on; `h` groups are before the `::`, `t` after it
module _ (head part new window : List ℕ) (h t g : ℕ) (eight : length head ≡ 8)
    (size : length new ≡ 8) (few : h + t ≤ 7) (within : t ≤ length part) (gap : g ≡ 8 - h - t)
    (zeros : drop h head ≡ drop h (replicate 8 0))
    (put : take (8 + length part) window ≡ replicate 8 0 ++ part)
    (each : (k : ℕ) → k < 8
    → get_or new k 0 ≡ max (get_or head k 0) (get_or window (t + k) 0)) where
  length-before-tail : length (take h head ++ replicate g 0) ≡ 8 - t
  length-before-tail = grind (arith, length-take-le, head, length-replicate, length-append)

  length-of-segments : length (take h head ++ replicate g 0 ++ take t part) ≡ 8
  length-of-segments =
      grind (arith, length-take-le, part, within, length-before-tail, length-append, head)

  segments-agree-at-index : (k : ℕ) → k < 8
      → get_or new k 0 ≡ get_or (take h head ++ replicate g 0 ++ take t part) k 0
  segments-agree-at-index k less =
      grind (
        arith,
        get_or_append_left,
        length-before-tail,
        length-take-le,
        get_or-take,
        get_or-replicate,
        get_or-append_right,
        get_or-drop,
        get_or-append-add,
      )

  pub tail-groups-are-placed-last : new ≡ take h head ++ replicate g 0 ++ take t part
  tail-groups-are-placed-last = ext_get_or 0 new (take h head ++ replicate g 0 ++ take t part)
      (size ∙ sym length-of-segments) λ k inside. segments-agree-at-index k (omega (arith, size))
