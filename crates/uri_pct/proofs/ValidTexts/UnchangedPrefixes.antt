-- The prefix of a text that a set without octets allows is encoded as it is.
use Rattle.uri_pct.proofs.Common.{◌≡◌, ℕ, ◌+◌, ◌-◌, ◌<◌, ◌≤◌, true, false, cond, List, [], ◌∷◌, ◌++◌, length, take, drop, map, refl, sym, ap, subst, ◌∙◌, arith, ⊎_elim, append_assoc, encode_utf8, len_utf8, encode_utf8_all, all_scalars, IsUtf8, IsCharBoundary, take-append-add, drop-append-add, cases_Bool, cond-true, cond-false, and_parts, append-nil, drop-drop, drop_all, map-append, length-encode, IsUtf8-drop, TableSet, allows, allows_past_ascii, valid_prefix_from, valid_prefix, Octet, print, encode_char, encode_text, IsEncodedBy, nat_tests}
use Rattle.uri_pct.proofs.Unicode.Characters.{char_has_encoding}
use Rattle.uri_pct.proofs.EncodedTexts.Encodings.{print-append, encode_text-by-first-char, allowed_char_is_printed_literally, disallowed_char_is_encoded_as_octets, slice_with_one_more_char, empty_text_is_encoded_as_nothing}
use Rattle.uri_pct.proofs.ValidTexts.Prefixes.{nothing_is_scanned_after_valid_prefix}
use Rattle.uri_pct.proofs.ValidTexts.PrefixSteps.{valid_prefix_by_first_char}

-- valid prefixes: the set that allows the same characters, and no octets
abbrev pub set_without_octets : TableSet → TableSet
set_without_octets set = record set { pct_encoded = false }

literal_prefix_by_first_char : (set : TableSet) (text rest : List ℕ) (c : ℕ) → IsUtf8 text
    → text ≡ encode_utf8 c ++ rest → valid_prefix (set_without_octets set) text
    ≡ cond (allows set c) (valid_prefix (set_without_octets set) rest + len_utf8 c) 0
unfolding allows_past_ascii
literal_prefix_by_first_char set text rest c u e = valid_prefix_by_first_char
    (set_without_octets set) text rest c u e refl

-- valid prefixes: encoding leaves the first n bytes of the text unchanged
abbrev HasUnchangedPrefix : TableSet → List ℕ → ℕ → Type 0
HasUnchangedPrefix set text n = print (encode_text set text)
    ≡ take n text ++ print (encode_text set (drop n text))

prefix_with_allowed_char_before_is_unchanged : (set : TableSet) (c n : ℕ) (rest : List ℕ)
    → IsUtf8 (encode_utf8 c ++ rest) → allows set c ≡ true → HasUnchangedPrefix set rest n
    → HasUnchangedPrefix set (encode_utf8 c ++ rest) (n + len_utf8 c)
prefix_with_allowed_char_before_is_unchanged set c n rest u allowed unchanged =
    let text : List ℕ = encode_utf8 c ++ rest in
    let size : n + len_utf8 c ≡ length (encode_utf8 c) + n = omega (arith, length-encode c) in
    let suffix = print (encode_text set (drop n rest)) in
    ap print (encode_text-by-first-char set text rest c u refl)
    ∙ print-append (encode_char set c) (encode_text set rest)
    ∙ ap (λ x. x ++ print (encode_text set rest)) (allowed_char_is_printed_literally set c allowed)
    ∙ ap (λ x. encode_utf8 c ++ x) unchanged
    ∙ sym (append_assoc (encode_utf8 c) (take n rest) suffix) ∙ ap (λ x. x ++ suffix)
    (sym (take-append-add (encode_utf8 c) rest n)) ∙ ap (λ x. take (length (encode_utf8 c) + n) text
    ++ print (encode_text set x)) (sym (drop-append-add (encode_utf8 c) rest n))
    ∙ ap (λ k. take k text ++ print (encode_text set (drop k text))) (sym size)

literal_prefix_of_chars_is_unchanged : (set : TableSet) (cs : List ℕ) → all_scalars cs ≡ true
    → HasUnchangedPrefix set (encode_utf8_all cs)
    (valid_prefix (set_without_octets set) (encode_utf8_all cs))
unfolding valid_prefix_from
literal_prefix_of_chars_is_unchanged set [] s = refl
literal_prefix_of_chars_is_unchanged set (c ∷ cs) s =
    let rest : List ℕ = encode_utf8_all cs in
    let text : List ℕ = encode_utf8 c ++ rest in
    let u : IsUtf8 text = (c ∷ cs, (s, refl)) in
    let first = literal_prefix_by_first_char set text rest c u refl in
    ⊎_elim (λ a. subst (HasUnchangedPrefix set text) (sym (first ∙ cond-true _ _ _ a))
    (prefix_with_allowed_char_before_is_unchanged set c (valid_prefix (set_without_octets set) rest)
    rest u a (literal_prefix_of_chars_is_unchanged set cs (and_parts _ (all_scalars cs) s).1)))
    (λ a. subst (HasUnchangedPrefix set text) (sym (first ∙ cond-false _ _ _ a)) refl)
    (cases_Bool (allows set c))

pub allowed_run_is_encoded_as_itself : (set : TableSet) (text : List ℕ) (start end : ℕ)
    → IsUtf8 text → IsCharBoundary text start → end
    ≡ start + valid_prefix (set_without_octets set) (drop start text)
    → IsEncodedBy (λ bytes. bytes) set text start end
allowed_run_is_encoded_as_itself set text start end u here e =
    grind (arith, literal_prefix_of_chars_is_unchanged, IsUtf8-drop, drop-drop)

-- valid prefixes: a character has a byte at least
utf8_length_of_char_is_positive : (c : ℕ) → 0 < len_utf8 c
utf8_length_of_char_is_positive c = grind (arith, nat_tests, char_has_encoding, length-encode)

-- general fact on numbers, for lengths of valid prefixes
sum_with_positive_is_not_zero : (n k : ℕ) → 0 < k → n + k ≡ 0 → ⊥
sum_with_positive_is_not_zero n k h e = omega arith

pub char_after_allowed_run_is_not_allowed : (set : TableSet) (text rest : List ℕ) (start end c : ℕ)
    → IsUtf8 text → IsCharBoundary text end → end
    ≡ start + valid_prefix (set_without_octets set) (drop start text)
    → drop end text ≡ encode_utf8 c ++ rest → allows set c ≡ false
char_after_allowed_run_is_not_allowed set text rest start end c u here e joined =
    let n = valid_prefix (set_without_octets set) (drop start text) in
    let none : valid_prefix (set_without_octets set) (drop end text) ≡ 0 =
    ap (λ k. valid_prefix (set_without_octets set) (drop k text)) e
    ∙ ap (valid_prefix (set_without_octets set)) (sym (drop-drop n start text))
    ∙ nothing_is_scanned_after_valid_prefix (set_without_octets set) (drop start text) in
    ⊎_elim (λ a. absurd (sum_with_positive_is_not_zero (valid_prefix (set_without_octets set) rest)
    (len_utf8 c) (utf8_length_of_char_is_positive c)
    (sym (cond-true _ _ _ a) ∙ sym (literal_prefix_by_first_char set (drop end text) rest c
    (IsUtf8-drop text end u here) joined) ∙ none))) (λ a. a) (cases_Bool (allows set c))

-- valid prefixes: the `%XX` of bytes
printed_octets : List ℕ → List ℕ
printed_octets bytes = print (map Octet bytes)

octets_of_joined_bytes : (xs ys : List ℕ) → printed_octets (xs ++ ys)
    ≡ printed_octets xs ++ printed_octets ys
unfolding printed_octets
octets_of_joined_bytes xs ys = ap print (map-append Octet xs ys)
    ∙ print-append (map Octet xs) (map Octet ys)

pub empty_run_is_encoded_as_octets : (set : TableSet) (text : List ℕ) (start : ℕ)
    → IsEncodedBy (λ bytes. print (map Octet bytes)) set text start start
empty_run_is_encoded_as_octets set text start = let none : start - start
    ≡ 0 = omega arith in rw none refl

-- valid prefixes: a run that is encoded as octets,
-- with one more character (c) that is not allowed, is so
pub longer_run_is_encoded_as_octets : (set : TableSet) (text : List ℕ) (start end next c : ℕ)
    → IsUtf8 (drop end text) → start ≤ end
    → drop end text ≡ encode_utf8 c ++ drop (end + len_utf8 c) text → next ≡ end + len_utf8 c
    → allows set c ≡ false → IsEncodedBy (λ bytes. print (map Octet bytes)) set text start end
    → IsEncodedBy (λ bytes. print (map Octet bytes)) set text start next
unfolding printed_octets
longer_run_is_encoded_as_octets set text start end next c u ordered joined place refused before =
    let part : List ℕ = take (end - start) (drop start text) in
    let rest = print (encode_text set (drop (end + len_utf8 c) text)) in
    let one : print (encode_text set (drop end text)) ≡ printed_octets (encode_utf8 c) ++ rest = ap
    print (encode_text-by-first-char set (drop end text) (drop (end + len_utf8 c) text) c u joined)
    ∙ print-append (encode_char set c) (encode_text set (drop (end + len_utf8 c) text))
    ∙ ap (λ ts. print ts ++ rest) (disallowed_char_is_encoded_as_octets set c refused) in
    before ∙ ap (λ x. printed_octets part ++ x) one
    ∙ sym (append_assoc (printed_octets part) (printed_octets (encode_utf8 c)) rest)
    ∙ ap (λ x. x ++ rest) (sym (octets_of_joined_bytes part (encode_utf8 c))
    ∙ ap printed_octets (sym (slice_with_one_more_char text start end c ordered joined)))
    ∙ ap (λ k. printed_octets (take (k - start) (drop start text)) ++ print
    (encode_text set (drop k text))) (sym place)

pub disallowed_run_is_not_empty : (set : TableSet) (text : List ℕ) (start end c : ℕ) → start ≤ end
    → drop end text ≡ encode_utf8 c ++ drop (end + len_utf8 c) text → allows set c ≡ true
    → ((d : ℕ) (rest : List ℕ) → drop start text ≡ encode_utf8 d ++ rest → allows set d ≡ false)
    → start < end
disallowed_run_is_not_empty set text start end c ordered joined allowed first =
    grind (arith, nat_tests)

-- valid prefixes: after an unchanged run and one that is encoded, what was
-- appended and the rest, encoded, still make the whole
pub encoded_text_after_two_runs : (set : TableSet) (out mid new text all : List ℕ)
    (start end next : ℕ) → IsEncodedBy (λ bytes. bytes) set text start end
    → IsEncodedBy (λ bytes. print (map Octet bytes)) set text end next → mid ≡ out ++ take (end
    - start) (drop start text) → new ≡ mid ++ print (map Octet (take (next - end) (drop end text)))
    → out ++ print (encode_text set (drop start text)) ≡ all
    → new ++ print (encode_text set (drop next text)) ≡ all
encoded_text_after_two_runs set out mid new text all start end next kept refused copied written
    whole =
    grind (arith, nat_tests, append_assoc)

pub encoded_text_at_end : (set : TableSet) (out text all : List ℕ) (done : ℕ) → length text ≤ done
    → out ++ print (encode_text set (drop done text)) ≡ all → out ≡ all
encoded_text_at_end set out text all done past whole =
    grind (arith, nat_tests, drop_all, empty_text_is_encoded_as_nothing, append-nil)
