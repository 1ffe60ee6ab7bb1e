-- One step of the longest prefix that a set allows: an octet, a character, and where it stops.
use Rattle.std.proofs.lemmas.Grind.{common_steps}
use Rattle.uri_pct.proofs.Common.{◌≡◌, ℕ, suc, ◌+◌, ◌<◌, ◌≤◌, true, false, cond, eqb, List, [], ◌∷◌, ◌++◌, length, get_or, drop, sym, subst, ap, ◌∙◌, arith, ◌&&◌, ◌||◌, ⊎_elim, add-one, encode_utf8, len_utf8, continuation_len, IsUtf8, IsCharBoundary, length-encode, chars_past_char, IsUtf8-drop, at_drop_more, get_or-drop, drop_all, cases_Bool, cond-true, cond-false, and_from, and_left, and_right, and_parts, eq-eqb, ne_eqb, TableSet, LacksPercent, allows, allows_past_ascii, begins_with_hex_digits, first_char, allows_first, valid_prefix_from, valid_prefix, has_hex_digits_after, nat_tests}
use Rattle.uri_pct.specs.Models.Scans.{may_begin_octet_or_past_ascii}
use Rattle.uri_pct.proofs.Unicode.Characters.{char_has_encoding, hexdigit_is_ascii, char_past_ascii_begins_past_ascii}
use Rattle.uri_pct.proofs.ValidTexts.Validity.{ascii_first_byte_is_allowed_iff_in_set, first_byte_past_ascii_is_allowed_by_its_char}
use Rattle.uri_pct.proofs.ValidTexts.Cuts.{valid_prefix_by_first_byte}
use Rattle.uri_pct.proofs.ValidTexts.Prefixes.{percent_is_not_allowed_first}

-- scanning: how far a scan goes from an index, by the byte there:
-- it passes an octet or a character, or stops
valid_prefix_by_byte_at_index : (set : TableSet) (bs : List ℕ) (i : ℕ) → i < length bs
    → valid_prefix set (drop i bs) ≡ cond (set.pct_encoded && eqb (get_or bs i 0) 37)
    (cond (begins_with_hex_digits (drop (i + 1) bs)) (valid_prefix_from set 2 (drop (i + 1) bs) + 1)
    0) (cond (allows_first set (get_or bs i 0) (drop (i + 1) bs))
    (valid_prefix_from set (continuation_len (get_or bs i 0)) (drop (i + 1) bs) + 1) 0)
unfolding valid_prefix_from
valid_prefix_by_byte_at_index set bs i h = at_drop_more (valid_prefix set) bs i 0 h

-- scanning: one more byte of a character to skip (k + 1), at index i,
-- adds one to the prefix that is scanned
skipped_byte_at_index_adds_one : (set : TableSet) (k : ℕ) (bs : List ℕ) (i : ℕ) → i < length bs
    → valid_prefix_from set (k + 1) (drop i bs) ≡ valid_prefix_from set k (drop (i + 1) bs) + 1
unfolding valid_prefix_from
skipped_byte_at_index_adds_one set k bs i h = rw add-one
    (at_drop_more (valid_prefix_from set (suc k)) bs i 0 h)

-- scanning: at the end of a text nothing is scanned
pub valid_prefix_at_end_is_empty : (set : TableSet) (bs : List ℕ) (i : ℕ) → length bs ≤ i
    → valid_prefix set (drop i bs) ≡ 0
unfolding valid_prefix_from
valid_prefix_at_end_is_empty set bs i h = rw (drop_all i bs h)

-- scanning: two hexadecimal digits follow index i exactly if the text after it begins with them
hex_digits_after_index_begin_suffix : (bs : List ℕ) (i : ℕ)
    → begins_with_hex_digits (drop (i + 1) bs) ≡ has_hex_digits_after bs i
unfolding has_hex_digits_after begins_with_hex_digits
hex_digits_after_index_begin_suffix bs i = rw
    (get_or-drop (i + 1) bs 0 0, get_or-drop (i + 1) bs 1 0)
    (let e : i + 1 + 0 ≡ i + 1 = omega arith in let f : i + 1 + 1 ≡ i + 2 = omega arith in
    rw (e, f))

-- scanning: a scan passes an octet, if the set has octets
pub valid_prefix_passes_octet : (set : TableSet) (bs : List ℕ) (i : ℕ) → i + 2 < length bs
    → set.pct_encoded ≡ true → get_or bs i 0 ≡ 37 → has_hex_digits_after bs i ≡ true
    → valid_prefix set (drop i bs) ≡ valid_prefix set (drop (i + 3) bs) + 3
valid_prefix_passes_octet set bs i h o p e =
    let f : i + 1 + 1 + 1 ≡ i + 3 = omega arith in
    valid_prefix_by_byte_at_index set bs i (omega arith) ∙ cond-true _ _ _
    (and_from _ _ o (eq-eqb _ _ p)) ∙ cond-true _ _ _ (hex_digits_after_index_begin_suffix bs i ∙ e)
    ∙ ap (λ n. n + 1) (skipped_byte_at_index_adds_one set 1 bs (i + 1) (omega arith)
    ∙ ap (λ n. n + 1) (skipped_byte_at_index_adds_one set 0 bs (i + 1 + 1) (omega arith)))
    ∙ (rw f (omega arith))

-- scanning: a scan stops at a `%` that begins no allowed octet
pub valid_prefix_stops_at_stray_percent : (set : TableSet)
    → LacksPercent set → (bs : List ℕ) (i : ℕ) → i < length bs → get_or bs i 0 ≡ 37
    → (set.pct_encoded && has_hex_digits_after bs i) ≡ false → valid_prefix set (drop i bs) ≡ 0
valid_prefix_stops_at_stray_percent set lacks bs i h p e = valid_prefix_by_byte_at_index set bs i h
    ∙ ⊎_elim (grind (arith, nat_tests, hex_digits_after_index_begin_suffix)) (λ o. cond-false _ _ _
    (and_left _ _ o) ∙ cond-false _ _ _ (percent_is_not_allowed_first set lacks _ _ (eq-eqb _ _ p)))
    (cases_Bool set.pct_encoded)

-- scanning: a scan passes an ASCII character of the set
pub valid_prefix_passes_ascii_char_of_set : (set : TableSet) → LacksPercent set
    → (bs : List ℕ) (i : ℕ) → i < length bs → get_or bs i 0 < 128 → set.ascii (get_or bs i 0) ≡ true
    → valid_prefix set (drop i bs) ≡ valid_prefix set (drop (i + 1) bs) + 1
valid_prefix_passes_ascii_char_of_set set lacks bs i h l a =
    grind (arith, valid_prefix_by_byte_at_index, ascii_first_byte_is_allowed_iff_in_set)

-- scanning: a scan stops at an ASCII character that the set lacks
pub valid_prefix_stops_at_ascii_outside_set : (set : TableSet) (bs : List ℕ) (i : ℕ) → i < length bs
    → get_or bs i 0 < 128 → eqb (get_or bs i 0) 37 ≡ false → set.ascii (get_or bs i 0) ≡ false
    → valid_prefix set (drop i bs) ≡ 0
valid_prefix_stops_at_ascii_outside_set set bs i h l p a =
    grind (arith, valid_prefix_by_byte_at_index, ascii_first_byte_is_allowed_iff_in_set)

-- scanning: bytes of a character that are skipped (more) add
-- their number to the prefix that is scanned
skipped_bytes_add_their_length : (set : TableSet) (more rest : List ℕ)
    → valid_prefix_from set (length more) (more ++ rest) ≡ valid_prefix set rest + length more
unfolding valid_prefix_from
skipped_bytes_add_their_length set [] rest = omega arith
skipped_bytes_add_their_length set (b ∷ more) rest = let h = skipped_bytes_add_their_length set more
    rest in omega arith

-- scanning: a byte past ASCII is not `%` (37)
past_ascii_is_not_percent : (n : ℕ) → 128 ≤ n → n ≡ 37 → ⊥
past_ascii_is_not_percent n l d = omega arith

first_char_of_text_is_the_encoded : (bs rest : List ℕ) (c : ℕ) → IsUtf8 bs → bs
    ≡ encode_utf8 c ++ rest → first_char bs ≡ c
unfolding first_char
first_char_of_text_is_the_encoded bs rest c u e = ap (λ cs. get_or cs 0 0)
    (chars_past_char bs rest c u e)

valid_prefix_by_first_char_past_ascii : (set : TableSet) (bs rest : List ℕ) (c : ℕ) → IsUtf8 bs
    → bs ≡ encode_utf8 c ++ rest → 128 ≤ get_or bs 0 0
    → valid_prefix set bs ≡ cond (allows_past_ascii set c) (valid_prefix set rest + len_utf8 c) 0
valid_prefix_by_first_char_past_ascii set bs rest c u e h =
    let w = char_has_encoding c in
    let s : bs ≡ w.first ∷ (w.more ++ rest) = e ∙ ap (λ t. t ++ rest) w.joined in
    let l : 128 ≤ w.first = subst (λ n. 128 ≤ n) (ap (λ t. get_or t 0 0) s) h in
    let n : len_utf8 c ≡ length w.more + 1 = sym (length-encode c) ∙ ap length w.joined
    ∙ omega arith in
    let f : allows_first set w.first (w.more ++ rest) ≡ allows_past_ascii set c =
    first_byte_past_ascii_is_allowed_by_its_char set w.first _ l ∙ ap (allows_past_ascii set)
    (ap first_char (sym s) ∙ first_char_of_text_is_the_encoded bs rest c u e) in
    ap (valid_prefix set) s ∙ valid_prefix_by_first_byte set w.first (w.more ++ rest) ∙ cond-false
    _ _ _ (and_right _ _ (ne_eqb w.first 37 (λ d. past_ascii_is_not_percent w.first l d)))
    ∙ ap (λ t. cond t (valid_prefix_from set (continuation_len w.first) (w.more ++ rest) + 1) 0) f
    ∙ ap (λ t. cond (allows_past_ascii set c) t 0)
    (ap (λ k. valid_prefix_from set k (w.more ++ rest) + 1) w.len
    ∙ ap (λ k. k + 1) (skipped_bytes_add_their_length set w.more rest) ∙ omega arith)

-- scanning: a scan passes a first character if the set allows it, and stops otherwise
pub valid_prefix_by_first_char : (set : TableSet) (text rest : List ℕ) (c : ℕ) → IsUtf8 text
    → text ≡ encode_utf8 c ++ rest → (set.pct_encoded && eqb c 37) ≡ false
    → valid_prefix set text ≡ cond (allows set c) (valid_prefix set rest + len_utf8 c) 0
valid_prefix_by_first_char set text rest c u e o =
    grind (
      arith,
      common_steps,
      valid_prefix_by_first_byte,
      ascii_first_byte_is_allowed_iff_in_set,
      valid_prefix_by_first_char_past_ascii,
      char_past_ascii_begins_past_ascii,
    )

-- scanning: a scan passes a character past ASCII if the set allows it, and stops there otherwise
pub valid_prefix_by_char_past_ascii_at_index : (set : TableSet) (bs : List ℕ) (i c : ℕ)
    → IsUtf8 bs → IsCharBoundary bs i → drop i bs ≡ encode_utf8 c ++ drop (i + len_utf8 c) bs
    → 128 ≤ get_or bs i 0 → valid_prefix set (drop i bs)
    ≡ cond (allows_past_ascii set c) (valid_prefix set (drop (i + len_utf8 c) bs) + len_utf8 c) 0
valid_prefix_by_char_past_ascii_at_index set bs i c u b e h =
    grind (arith, nat_tests, get_or-drop, valid_prefix_by_first_char_past_ascii, IsUtf8-drop)

-- scanning: the second of two hexadecimal digits after index i is ASCII
pub second_hex_digit_is_ascii : (bs : List ℕ) (i : ℕ) → has_hex_digits_after bs i ≡ true
    → get_or bs (i + 2) 0 < 128
unfolding has_hex_digits_after
second_hex_digit_is_ascii bs i e = hexdigit_is_ascii _ (and_parts _ _ e).1

-- general fact on numbers, for lengths of prefixes that are scanned
pub successor_is_not_zero : (n : ℕ) → n + 1 ≡ 0 → ⊥
successor_is_not_zero n e = omega arith

-- scanning: where nothing is scanned of a `%`, no octet begins
pub unscanned_percent_has_no_hex_digits : (set : TableSet) (bs : List ℕ) (i : ℕ) → i < length bs
    → set.pct_encoded ≡ true
    → get_or bs i 0 ≡ 37 → valid_prefix set (drop i bs) ≡ 0 → has_hex_digits_after bs i ≡ false
unscanned_percent_has_no_hex_digits set bs i h o p z =
    grind (arith, hex_digits_after_index_begin_suffix, valid_prefix_by_byte_at_index)

no_flags_allow_nothing_past_ascii : (set : TableSet)
    → (set.ucschar || set.iprivate) ≡ false → (c : ℕ) → allows_past_ascii set c ≡ false
unfolding allows_past_ascii
no_flags_allow_nothing_past_ascii set e c = grind (arith, nat_tests)

-- scanning: a scan stops past ASCII, if the set has no flag for such characters
valid_prefix_stops_past_ascii_without_flags : (set : TableSet) (bs : List ℕ) (i : ℕ) → i < length bs
    → 128 ≤ get_or bs i 0 → (set.ucschar || set.iprivate) ≡ false → valid_prefix set (drop i bs) ≡ 0
valid_prefix_stops_past_ascii_without_flags set bs i h l e =
    valid_prefix_by_byte_at_index set bs i h ∙ cond-false _ _ _ (and_right _ _
    (ne_eqb (get_or bs i 0) 37 (past_ascii_is_not_percent (get_or bs i 0) l)))
    ∙ cond-false _ _ _ (first_byte_past_ascii_is_allowed_by_its_char set _ _ l
    ∙ no_flags_allow_nothing_past_ascii set e _)

-- scanning: a scan stops at a byte that is neither in the set,
-- nor begins an octet or a character past ASCII that may be
pub valid_prefix_stops_where_none_may_begin : (set : TableSet)
    → LacksPercent set → (bs : List ℕ) (i : ℕ) → i < length bs → set.ascii (get_or bs i 0) ≡ false
    → may_begin_octet_or_past_ascii set (get_or bs i 0) ≡ false → valid_prefix set (drop i bs) ≡ 0
unfolding may_begin_octet_or_past_ascii
valid_prefix_stops_where_none_may_begin set lacks bs i h a e = grind (
  arith,
  nat_tests,
  valid_prefix_stops_at_stray_percent,
  valid_prefix_stops_at_ascii_outside_set,
  valid_prefix_stops_past_ascii_without_flags,
)
