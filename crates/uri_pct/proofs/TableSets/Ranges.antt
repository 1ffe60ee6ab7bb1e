-- The ranges of `ucschar` and `iprivate`, in the cases that the code has: below plane 1, planes 1
-- to 13, and above.
use Rattle.uri_pct.proofs.Common.{◌≡◌, ℕ, zero, suc, ◌+◌, ◌*◌, ◌%◌, ◌<◌, ◌≤◌, Bool, false, leb, refl, ap, ◌∙◌, arith, ◌||◌, ⊎_elim, is_in_range, or-false, cases_lt, and_left, and_right, or_from, lt-leb, nat_tests, is_ucschar, is_iprivate}

char_below_range_is_not_in_it : (low high c : ℕ) → c < low → is_in_range low high c ≡ false
char_below_range_is_not_in_it low high c h = and_left (leb low c) (leb c high) (lt-leb low c h)

char_above_range_is_not_in_it : (low high c : ℕ) → high < c → is_in_range low high c ≡ false
char_above_range_is_not_in_it low high c h = and_right (leb low c) (leb c high) (lt-leb c high h)

-- `others`, or a character of one of the planes 1 to n that is not among the last two of its plane
unfoldable in_planes : Bool → ℕ → ℕ → Bool
in_planes others zero c = others
in_planes others (suc n) c = in_planes others n c
    || is_in_range (65536 * (n + 1)) (65536 * (n + 1) + 65533) c

-- sets, for `ucschar`: below plane 1, the ranges are the others; n: the last plane
in_planes_below_plane_1_is_the_others : (others : Bool) (n c : ℕ) → c < 65536
    → in_planes others n c ≡ others
unfolding in_planes
in_planes_below_plane_1_is_the_others others zero c h = refl
in_planes_below_plane_1_is_the_others others (suc n) c h = ap (λ b. in_planes others n c || b)
    (char_below_range_is_not_in_it (65536 * (n + 1)) (65536 * (n + 1) + 65533) c (omega arith))
    ∙ or-false (in_planes others n c) ∙ in_planes_below_plane_1_is_the_others others n c h

-- sets, for `ucschar`: above the last plane n, no range is left
in_planes_above_last_plane_is_false : (n c : ℕ) → 65536 * (n + 1) ≤ c → in_planes false n c ≡ false
unfolding in_planes
in_planes_above_last_plane_is_false zero c h = refl
in_planes_above_last_plane_is_false (suc n) c h =
    or_from (in_planes false n c) (is_in_range (65536 * (n + 1)) (65536 * (n + 1) + 65533) c)
    (in_planes_above_last_plane_is_false n c (omega arith))
    (char_above_range_is_not_in_it (65536 * (n + 1)) (65536 * (n + 1) + 65533) c (omega arith))

range_of_plane_lacks_only_last_two : (n c : ℕ) → 65536 * n ≤ c → c < 65536 * n + 65536
    → is_in_range (65536 * n) (65536 * n + 65533) c ≡ leb (c % 65536) 65533
range_of_plane_lacks_only_last_two n c from below = grind (arith, nat_tests)

planes_lack_only_last_two_of_each : (n c : ℕ) → 65536 ≤ c → c < 65536 * (n + 1)
    → in_planes false n c ≡ leb (c % 65536) 65533
unfolding in_planes
planes_lack_only_last_two_of_each zero c from below = absurd (omega arith)
planes_lack_only_last_two_of_each (suc n) c from below =
    ⊎_elim (λ (lower : c < 65536 * (n + 1)). ap (λ b. in_planes false n c
    || b) (char_below_range_is_not_in_it (65536 * (n + 1)) (65536 * (n + 1) + 65533) c lower)
    ∙ or-false (in_planes false n c) ∙ planes_lack_only_last_two_of_each n c from lower)
    (λ (here : 65536 * (n + 1) ≤ c). ap (λ b. b || is_in_range
    (65536 * (n + 1)) (65536 * (n + 1) + 65533) c) (in_planes_above_last_plane_is_false n c here)
    ∙ range_of_plane_lacks_only_last_two (n + 1) c here (omega arith))
    (cases_lt c (65536 * (n + 1)))

-- sets: the ranges of `ucschar` in plane 0
abbrev pub is_low_ucschar : ℕ → Bool
is_low_ucschar c = is_in_range 0xA0 0xD7FF c || is_in_range 0xF900 0xFDCF c
    || is_in_range 0xFDF0 0xFFEF c

ucschar_is_planes_0_to_13_and_range_in_14 : (c : ℕ)
    → is_ucschar c ≡ (in_planes (is_low_ucschar c) 13 c || is_in_range 0xE1000 0xEFFFD c)
unfolding is_ucschar in_planes
ucschar_is_planes_0_to_13_and_range_in_14 c = refl

-- sets: `ucschar` below U+10000, as the code tests it (RFC 3987, section 2.2)
pub ucschar_below_plane_1_is_low_ucschar : (c : ℕ) → c < 65536 → is_ucschar c ≡ is_low_ucschar c
ucschar_below_plane_1_is_low_ucschar c h =
    grind (arith, ucschar_is_planes_0_to_13_and_range_in_14, in_planes_below_plane_1_is_the_others)

ucschar_from_plane_1_is_by_planes : (c : ℕ) → 65536 ≤ c
    → is_ucschar c ≡ (in_planes false 13 c || is_in_range 0xE1000 0xEFFFD c)
ucschar_from_plane_1_is_by_planes c h =
    grind (arith, ucschar_is_planes_0_to_13_and_range_in_14, nat_tests)

pub ucschar_of_planes_1_to_13_lacks_last_two : (c : ℕ) → 65536 ≤ c → c < 0xE0000 → is_ucschar c
    ≡ leb (c % 65536) 65533
ucschar_of_planes_1_to_13_lacks_last_two c from below =
    grind (arith, ucschar_from_plane_1_is_by_planes, planes_lack_only_last_two_of_each)

pub ucschar_from_plane_14_is_one_range : (c : ℕ) → 0xE0000 ≤ c → is_ucschar c
    ≡ is_in_range 0xE1000 0xEFFFD c
ucschar_from_plane_14_is_one_range c h = ucschar_from_plane_1_is_by_planes c (omega arith)
    ∙ ap (λ b. b || is_in_range 0xE1000 0xEFFFD c) (in_planes_above_last_plane_is_false 13 c h)

-- sets: `iprivate` is three ranges (RFC 3987, section 2.2)
pub iprivate_is_three_ranges : (c : ℕ)
    → is_iprivate c ≡ (is_in_range 0xE000 0xF8FF c || is_in_range 0xF0000 0xFFFFD c
    || is_in_range 0x100000 0x10FFFD c)
unfolding is_iprivate
iprivate_is_three_ranges c = refl

-- for the functions that test a character
pub ruleset ucschar_ranges = (
  nat_tests,
  ucschar_below_plane_1_is_low_ucschar,
  ucschar_of_planes_1_to_13_lacks_last_two,
  ucschar_from_plane_14_is_one_range,
)

pub ruleset iprivate_ranges = (nat_tests, iprivate_is_three_ranges)
