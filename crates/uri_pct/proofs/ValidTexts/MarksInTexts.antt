-- How far a text is without a mark, and that no mark is within a character of it.
use Rattle.uri_pct.proofs.Common.{◌≡◌, ℕ, zero, suc, ◌+◌, ◌-◌, ◌*◌, ◌<◌, Bool, true, false, eqb, not, List, [], ◌∷◌, ◌++◌, length, get_or, take, drop, refl, sym, subst, ap, ◌∙◌, arith, ◌&&◌, ⊎_elim, nat_lt, slice_index, list_all, prefix_len, IsUtf8, IsCharBoundary, encode_utf8_all, continuation_len, lead_bits, chars, chars_after, IsCharBoundary-before_ascii, prefix_len-le-length, prefix_len_stops, drop_all, drop_more, not-false, or_cases, cases_lt, cases_Bool, cond-true, cond-false, and_from, and_parts, lt-ltb, eqb-true, ltb-true, not_from_true, not_from_false, not-true, false≢true, nat_tests, TableSet, is_one_of, first_char, allows_first}
use Rattle.uri_pct.proofs.Unicode.Characters.{char_has_encoding, is_no_ascii_byte}

-- cuts of valid texts: the length of the prefix before the first mark
abbrev pub length_before_marks : List ℕ → List ℕ → ℕ
length_before_marks marks text = prefix_len (λ c. not (is_one_of marks c)) text

-- cuts of valid texts: a test that holds of all marks holds of each
pub test_holds_of_each : (P : ℕ → Bool) (marks : List ℕ) → list_all P marks ≡ true → (b : ℕ)
    → is_one_of marks b ≡ true → P b ≡ true
test_holds_of_each P [] h b m = absurd (false≢true m)
test_holds_of_each P (mark ∷ marks) h b m =
    let p = and_parts (P mark) (list_all P marks) h in
    ⊎_elim (λ e. ap P (sym (eqb-true mark b e)) ∙ p.0) (λ e. test_holds_of_each P marks p.1 b e)
    (or_cases (eqb mark b) (is_one_of marks b) m)

-- cuts of valid texts: before a delimiter (mark) at the start there are 0 bytes
pub length_before_mark_at_start_is_zero : (marks : List ℕ) (b : ℕ) (rest : List ℕ)
    → is_one_of marks b ≡ true → length_before_marks marks (b ∷ rest) ≡ 0
length_before_mark_at_start_is_zero marks b rest e = cond-false _ _ _ (not_from_true _ e)

-- cuts of valid texts: another byte at the start is one more before the first delimiter (mark)
pub length_before_marks_counts_other_byte : (marks : List ℕ) (b : ℕ) (rest : List ℕ)
    → is_one_of marks b ≡ false
    → length_before_marks marks (b ∷ rest) ≡ suc (length_before_marks marks rest)
length_before_marks_counts_other_byte marks b rest e = cond-true _ _ _ (not_from_false _ e)
    ∙ omega arith

-- no mark is within a character, and none in the first bytes, so many
unfoldable pub passes_no_mark_within_chars : List ℕ → ℕ → List ℕ → Bool
passes_no_mark_within_chars marks skip [] = true
passes_no_mark_within_chars marks zero (b ∷ rest) = passes_no_mark_within_chars marks
    (continuation_len b) rest
passes_no_mark_within_chars marks (suc k) (b ∷ rest) = not (is_one_of marks b)
    && passes_no_mark_within_chars marks k rest

-- cuts of valid texts: the marks are ASCII
abbrev pub AreAscii : List ℕ → Type 0
AreAscii marks = (b : ℕ) → is_one_of marks b ≡ true → b < 128

byte_past_ascii_is_no_ascii_mark : (marks : List ℕ) → AreAscii marks → (b : ℕ)
    → is_no_ascii_byte b ≡ true → is_one_of marks b ≡ false
byte_past_ascii_is_no_ascii_mark marks ascii b h = grind (arith, nat_tests, cases_Bool)

-- cuts of valid texts: at ASCII marks,
-- a text is never cut among the bytes past ASCII of a character (more)
bytes_past_ascii_hold_no_mark : (marks : List ℕ) → AreAscii marks → (more rest : List ℕ)
    → list_all is_no_ascii_byte more ≡ true → passes_no_mark_within_chars marks 0 rest ≡ true
    → passes_no_mark_within_chars marks (length more) (more ++ rest) ≡ true
unfolding passes_no_mark_within_chars
bytes_past_ascii_hold_no_mark marks ascii [] rest h e = e
bytes_past_ascii_hold_no_mark marks ascii (b ∷ more) rest h e =
    let p = and_parts _ _ h in
    and_from _ _ (not_from_false _ (byte_past_ascii_is_no_ascii_mark marks ascii b p.0))
    (bytes_past_ascii_hold_no_mark marks ascii more rest p.1 e)

-- cuts of valid texts: at ASCII marks, characters in UTF-8 are never cut within one
encoded_chars_hold_no_mark_within : (marks : List ℕ) → AreAscii marks → (cs : List ℕ)
    → passes_no_mark_within_chars marks 0 (encode_utf8_all cs) ≡ true
unfolding passes_no_mark_within_chars
encoded_chars_hold_no_mark_within marks ascii [] = refl
encoded_chars_hold_no_mark_within marks ascii (c ∷ cs) =
    let w = char_has_encoding c in
    ap (λ t. passes_no_mark_within_chars marks 0 (t ++ encode_utf8_all cs)) w.joined
    ∙ ap (λ n. passes_no_mark_within_chars marks n (w.more ++ encode_utf8_all cs)) w.len
    ∙ bytes_past_ascii_hold_no_mark marks ascii w.more (encode_utf8_all cs) w.high
    (encoded_chars_hold_no_mark_within marks ascii cs)

-- cuts of valid texts: at ASCII marks, a text in UTF-8 is never cut within a character
pub chars_of_text_hold_no_mark_within : (marks : List ℕ) → AreAscii marks → (text : List ℕ)
    → IsUtf8 text → passes_no_mark_within_chars marks 0 text ≡ true
chars_of_text_hold_no_mark_within marks ascii text u = ap (passes_no_mark_within_chars marks 0)
    (sym u.1.1) ∙ encoded_chars_hold_no_mark_within marks ascii u.0

-- cuts of valid texts: no byte continues an ASCII character
pub ascii_byte_has_no_continuation : (b : ℕ) → b < 128 → continuation_len b ≡ 0
ascii_byte_has_no_continuation b h = cond-true _ _ _ (lt-ltb b 128 h)

-- cuts of valid texts: an ASCII byte is a whole character, so marks may be next
pub ascii_byte_is_skipped_at_once : (marks : List ℕ) (b : ℕ) (rest : List ℕ) → b < 128
    → passes_no_mark_within_chars marks 0 (b ∷ rest) ≡ passes_no_mark_within_chars marks 0 rest
unfolding passes_no_mark_within_chars
ascii_byte_is_skipped_at_once marks b rest h = ap (λ n. passes_no_mark_within_chars marks n rest)
    (ascii_byte_has_no_continuation b h)

-- cuts of valid texts: a cut at a mark that is in no character leaves
-- the first character; k: bytes to skip, c: the character so far
cut_at_mark_keeps_first_char : (marks : List ℕ) (k c : ℕ) (bs : List ℕ)
    → passes_no_mark_within_chars marks k bs ≡ true → slice_index (chars_after k c
    (take (length_before_marks marks bs) bs)) 0 ≡ slice_index (chars_after k c bs) 0
unfolding passes_no_mark_within_chars
cut_at_mark_keeps_first_char marks zero c [] s = refl
cut_at_mark_keeps_first_char marks (suc k) c [] s = refl
cut_at_mark_keeps_first_char marks zero c (b ∷ bs) s = grind arith
cut_at_mark_keeps_first_char marks (suc k) c (b ∷ bs) s =
    let p = and_parts _ _ s in
    ap (λ n. slice_index (chars_after (suc k) c (take n (b ∷ bs))) 0)
    (length_before_marks_counts_other_byte marks b bs (not-true _ p.0))
    ∙ cut_at_mark_keeps_first_char marks k (c * 64 + (b - 128)) bs p.1

pub cut_at_mark_keeps_whether_first_is_allowed : (set : TableSet) (marks : List ℕ)
    (b : ℕ) (bs : List ℕ) → passes_no_mark_within_chars marks (continuation_len b) bs ≡ true
    → allows_first set b (take (length_before_marks marks bs) bs) ≡ allows_first set b bs
unfolding allows_first first_char chars
cut_at_mark_keeps_whether_first_is_allowed set marks b bs s = rw
    (cut_at_mark_keeps_first_char marks (continuation_len b) (lead_bits b) bs s) refl

-- cuts of valid texts: after a `%` (37), as after each ASCII byte, marks may be next
pub skips_after_percent_begins_anew : (marks : List ℕ) (b : ℕ) (bs : List ℕ) → eqb b 37 ≡ true
    → passes_no_mark_within_chars marks (continuation_len b) bs ≡ true
    → passes_no_mark_within_chars marks 0 bs ≡ true
skips_after_percent_begins_anew marks b bs e s =
    grind (arith, nat_tests, ascii_byte_has_no_continuation)

byte_after_cut_is_mark : (marks bs : List ℕ) → length_before_marks marks bs < length bs
    → is_one_of marks (get_or bs (length_before_marks marks bs) 0) ≡ true
byte_after_cut_is_mark marks bs h = not-false _
    (prefix_len_stops (λ c. not (is_one_of marks c)) bs 0 h)

-- cuts of valid texts: a character begins at the first ASCII mark, or the text ends
pub first_mark_is_at_boundary : (marks : List ℕ) → AreAscii marks → (bs : List ℕ)
    → IsCharBoundary bs (length_before_marks marks bs)
first_mark_is_at_boundary marks ascii bs = ⊎_elim (λ h. IsCharBoundary-before_ascii bs
    (length_before_marks marks bs) h (ascii _ (byte_after_cut_is_mark marks bs h)))
    (grind (arith, nat_tests, prefix_len-le-length))
    (cases_lt (length_before_marks marks bs) (length bs))

-- cuts of valid texts: what is left after a cut begins with a mark, or is nothing
pub cut_leaves_mark_or_nothing : (marks : List ℕ) (P : List ℕ → Type 0) → P []
    → ((b : ℕ) (rest : List ℕ) → is_one_of marks b ≡ true → P (b ∷ rest)) → (bs : List ℕ)
    → P (drop (length_before_marks marks bs) bs)
cut_leaves_mark_or_nothing marks P none some bs =
    let m = length_before_marks marks bs in
    ⊎_elim (λ h. subst P (sym (drop_more bs m 0 h)) (some _ _ (byte_after_cut_is_mark marks bs h)))
    (λ h. subst P (sym (drop_all m bs h)) none) (cases_lt m (length bs))

-- cuts of valid texts: marks are ASCII if each is below 128, by computation
pub AreAscii-by-test : (marks : List ℕ) → list_all (λ b. nat_lt b 128) marks ≡ true → AreAscii marks
AreAscii-by-test marks h b m = ltb-true b 128 (test_holds_of_each (λ b. nat_lt b 128) marks h b m)
