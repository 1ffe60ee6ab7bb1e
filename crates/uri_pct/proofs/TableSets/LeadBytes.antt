-- First bytes that decide membership: each character from U+00C0 to U+D7FF is in `ucschar`.
use Rattle.uri_pct.proofs.Common.{◌≡◌, ℕ, ◌+◌, ◌/◌, ◌<◌, ◌≤◌, true, cond, ltb, List, [], ◌∷◌, ◌++◌, length, get_or, drop, sym, ap, subst, ◌∙◌, arith, get_or-drop, length-drop, encode_utf8, len_utf8, IsScalar, is_in_range, encode_utf8_all, all_scalars, IsUtf8, IsCharBoundary, cond-true, and_parts, and_from, or_left, leb-true, nat_tests, IsUtf8-drop, IsCharBoundary-past_char, drop_past_char, TableSet, allows_past_ascii, is_ucschar, valid_prefix}
use Rattle.uri_pct.proofs.ValidTexts.PrefixSteps.{valid_prefix_by_char_past_ascii_at_index}
use Rattle.uri_pct.proofs.TableSets.Ranges.{ucschar_below_plane_1_is_low_ucschar}

-- tables, lead bytes: the character that begins a text
record FirstChar (text : List ℕ) : Type 0 where
  code : ℕ
  suffix : List ℕ
  scalar : IsScalar code
  joined : text ≡ encode_utf8 code ++ suffix

-- tables, lead bytes: a text that is not empty begins with a character
nonempty_text_has_first_char : (text cs : List ℕ)
    → all_scalars cs ≡ true → encode_utf8_all cs ≡ text → 0 < length text → FirstChar text
nonempty_text_has_first_char text [] s e h = grind arith
nonempty_text_has_first_char text (c ∷ cs) s e h = grind arith

-- tables, lead bytes: the first byte of a character in UTF-8
abbrev lead_byte : ℕ → ℕ
lead_byte c = cond (ltb c 128) c
    (cond (ltb c 2048) (192 + c / 64) (cond (ltb c 65536) (224 + c / 4096) (240 + c / 262144)))

first_byte_of_char_is_lead_byte : (c : ℕ) (rest : List ℕ) → get_or (encode_utf8 c ++ rest) 0 0
    ≡ lead_byte c
unfolding encode_utf8
first_byte_of_char_is_lead_byte c rest = grind (arith, nat_tests)

lead_byte_past_ascii_is_char_past_ascii : (c : ℕ) → 128 ≤ lead_byte c → 128 ≤ c
lead_byte_past_ascii_is_char_past_ascii c h = grind (arith, nat_tests)

-- tables, lead bytes: a lead byte from E0 (224) begins a character from U+0800 (2048)
lead_byte_from_224_is_char_from_2048 : (c : ℕ) → 224 ≤ lead_byte c → 2048 ≤ c
lead_byte_from_224_is_char_from_2048 c h = grind (arith, nat_tests)

-- tables, lead bytes: a lead byte past ASCII is C2 (194) at least
lead_byte_past_ascii_is_at_least_c2 : (c : ℕ) → 128 ≤ lead_byte c → 194 ≤ lead_byte c
lead_byte_past_ascii_is_at_least_c2 c h = grind (arith, nat_tests)

abbrev IsContinuationByte : ℕ → Type 0
IsContinuationByte b = (128 ≤ b) × (b < 192)

second_byte_of_char_continues : (c : ℕ) (rest : List ℕ) → 128 ≤ c
    → IsContinuationByte (get_or (encode_utf8 c ++ rest) 1 0)
unfolding encode_utf8
second_byte_of_char_continues c rest past = (grind (arith, nat_tests), grind (arith, nat_tests))

third_byte_of_char_continues : (c : ℕ) (rest : List ℕ) → 2048 ≤ c
    → IsContinuationByte (get_or (encode_utf8 c ++ rest) 2 0)
unfolding encode_utf8
third_byte_of_char_continues c rest big = (grind (arith, nat_tests), grind (arith, nat_tests))

-- tables, lead bytes: the character is from U+00A0 to U+D7FF and has n bytes, as its lead byte says
record HasLengthByLead (c n : ℕ) : Type 0 where
  from : 160 ≤ c
  to : c ≤ 55295
  size : len_utf8 c ≡ n

-- tables, lead bytes: a lead byte from C3 (195)
-- to DF (223) begins a character of two bytes, from U+00C0
lead_from_195_to_223_has_two_bytes : (c : ℕ) → 195 ≤ lead_byte c → lead_byte c < 224
    → HasLengthByLead c 2
lead_from_195_to_223_has_two_bytes c h l = grind (arith, nat_tests)

-- tables, lead bytes: a lead byte from E0 (224)
-- to ED (237) begins a character of three bytes, up to U+D7FF
lead_from_224_to_237_has_three_bytes : (c : ℕ) → IsScalar c → 224 ≤ lead_byte c → lead_byte c ≤ 237
    → HasLengthByLead c 3
lead_from_224_to_237_has_three_bytes c s h l = grind (arith, nat_tests)

-- tables, lead bytes: a character from U+00A0 to U+D7FF is in `ucschar`
char_from_a0_to_d7ff_is_ucschar : (c : ℕ) → 160 ≤ c → c ≤ 55295 → is_ucschar c ≡ true
char_from_a0_to_d7ff_is_ucschar c from to =
    grind (arith, ucschar_below_plane_1_is_low_ucschar, nat_tests)

-- tables, lead bytes: a set with `ucschar` has each
-- character whose lead byte tells its length n here
char_with_length_by_lead_is_allowed : (set : TableSet) (c n : ℕ) → set.ucschar ≡ true
    → HasLengthByLead c n → allows_past_ascii set c ≡ true
unfolding allows_past_ascii
char_with_length_by_lead_is_allowed set c n flag told = or_left _ _
    (and_from _ _ flag (char_from_a0_to_d7ff_is_ucschar c told.from told.to))

pub byte_in_lead_range_is_c3_to_ed : (b : ℕ) → is_in_range 0xC3 0xED b ≡ true → (195 ≤ b)
    × (b ≤ 237)
byte_in_lead_range_is_c3_to_ed b e = let p =
    and_parts _ _ e in (leb-true 195 b p.0, leb-true b 237 p.1)

pub scan_passes_char : (set : TableSet) (bs rest : List ℕ) (i c n : ℕ) → IsUtf8 bs
    → IsCharBoundary bs i → i < length bs → 128 ≤ get_or bs i 0 → drop i bs ≡ encode_utf8 c ++ rest
    → allows_past_ascii set c ≡ true → len_utf8 c ≡ n → (valid_prefix set (drop i bs)
    ≡ valid_prefix set (drop (i + n) bs) + n) × IsCharBoundary bs (i + n)
scan_passes_char set bs rest i c n u here inside past joined allowed size =
    let whole : drop i bs ≡ encode_utf8 c ++ drop (i + len_utf8 c) bs = joined
    ∙ ap (λ t. encode_utf8 c ++ t) (sym (drop_past_char bs rest i c joined)) in
    subst (λ k. (valid_prefix set (drop i bs) ≡ valid_prefix set (drop (i + k) bs) + k)
    × IsCharBoundary bs (i + k)) size (
      valid_prefix_by_char_past_ascii_at_index set bs i c u here whole past
          ∙ cond-true _ _ _ allowed,
      IsCharBoundary-past_char bs rest i c (omega arith) (IsUtf8-drop bs i u here) joined,
    )

byte_at_char_is_its_lead_byte : (bs rest : List ℕ) (i c : ℕ) → drop i bs ≡ encode_utf8 c ++ rest
    → get_or bs i 0 ≡ lead_byte c
byte_at_char_is_its_lead_byte bs rest i c joined =
    let z : i + 0 ≡ i = omega arith in
    ap (λ k. get_or bs k 0) (sym z) ∙ sym (get_or-drop i bs 0 0) ∙ ap (λ t. get_or t 0 0) joined
    ∙ first_byte_of_char_is_lead_byte c rest

module _ (set : TableSet) (bs : List ℕ) (i : ℕ) (u : IsUtf8 bs) (here : IsCharBoundary bs i)
    (inside : i < length bs) (flag : set.ucschar ≡ true) where
  first_char : FirstChar (drop i bs)
  first_char = grind (arith, IsUtf8-drop, here, nonempty_text_has_first_char, length-drop)

  byte_is_lead_byte : get_or bs i 0 ≡ lead_byte first_char.code
  byte_is_lead_byte =
      byte_at_char_is_its_lead_byte bs first_char.suffix i first_char.code first_char.joined

  -- no character past ASCII begins with a byte below C2
  pub past_ascii_lead_is_at_least_c2 : 128 ≤ get_or bs i 0 → 194 ≤ get_or bs i 0
  past_ascii_lead_is_at_least_c2 past = subst (λ b. 194 ≤ b) (sym byte_is_lead_byte)
      (lead_byte_past_ascii_is_at_least_c2 first_char.code
      (subst (λ b. 128 ≤ b) byte_is_lead_byte past))

  -- the second byte of a character past ASCII is a continuation byte
  pub second_byte_past_ascii_continues : 128 ≤ get_or bs i 0
      → (128 ≤ get_or bs (i + 1) 0) × (get_or bs (i + 1) 0 < 192)
  second_byte_past_ascii_continues past = subst IsContinuationByte
      (ap (λ t. get_or t 1 0) (sym first_char.joined) ∙ get_or-drop i bs 1 0)
      (second_byte_of_char_continues first_char.code first_char.suffix
      (lead_byte_past_ascii_is_char_past_ascii first_char.code
      (subst (λ b. 128 ≤ b) byte_is_lead_byte past)))

  pub third_byte_from_e0_continues : 224 ≤ get_or bs i 0
      → (128 ≤ get_or bs (i + 2) 0) × (get_or bs (i + 2) 0 < 192)
  third_byte_from_e0_continues high = subst IsContinuationByte
      (ap (λ t. get_or t 2 0) (sym first_char.joined) ∙ get_or-drop i bs 2 0)
      (third_byte_of_char_continues first_char.code first_char.suffix
      (lead_byte_from_224_is_char_from_2048 first_char.code
      (subst (λ b. 224 ≤ b) byte_is_lead_byte high)))

  scan_passes_length_by_lead : (n : ℕ) → 195 ≤ get_or bs i 0 → HasLengthByLead first_char.code n
      → (valid_prefix set (drop i bs) ≡ valid_prefix set (drop (i + n) bs) + n)
      × IsCharBoundary bs (i + n)
  scan_passes_length_by_lead n high told = scan_passes_char
      set bs first_char.suffix i first_char.code n u here inside (omega arith) first_char.joined
      (char_with_length_by_lead_is_allowed set first_char.code n flag told) told.size

  pub scan_passes_two_bytes : 195 ≤ get_or bs i 0 → get_or bs i 0 < 224
      → (valid_prefix set (drop i bs) ≡ valid_prefix set (drop (i + 2) bs) + 2)
      × IsCharBoundary bs (i + 2)
  scan_passes_two_bytes high low = scan_passes_length_by_lead 2 high
      (lead_from_195_to_223_has_two_bytes first_char.code
      (subst (λ b. 195 ≤ b) byte_is_lead_byte high) (subst (λ b. b < 224) byte_is_lead_byte low))

  pub scan_passes_three_bytes : 224 ≤ get_or bs i 0 → get_or bs i 0 ≤ 237
      → (valid_prefix set (drop i bs) ≡ valid_prefix set (drop (i + 3) bs) + 3)
      × IsCharBoundary bs (i + 3)
  scan_passes_three_bytes high low = scan_passes_length_by_lead 3 (omega arith)
      (lead_from_224_to_237_has_three_bytes first_char.code first_char.scalar
      (subst (λ b. 224 ≤ b) byte_is_lead_byte high) (subst (λ b. b ≤ 237) byte_is_lead_byte low))
