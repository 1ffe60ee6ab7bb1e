-- The parts of a text that is decoded: what is before a `%`, and the octet that it begins.
use Rattle.std.proofs.lemmas.Grind.{common_steps}
use Rattle.uri_pct.proofs.Common.{◌≡◌, ℕ, suc, ◌+◌, ◌*◌, ◌<◌, ◌≤◌, ◌≢◌, Bool, true, false, eqb, not, List, [], ◌∷◌, ◌++◌, length, get_or, take, drop, map, refl, sym, ap, ◌∙◌, subst, arith, ⊎_elim, append_assoc, lit<, add-zero, list_all, position_or_len, prefix_len, encode_utf8, digit_value, is_ascii_hexdigit, chars, encode_utf8_all, all_scalars, IsUtf8, IsCharBoundary, cases_Bool, cases_lt, cond-true, cond-false, and_parts, and_from, eqb-true, eqb-false, ne_eqb, not-true, not-false, not_from_false, false≢true, append-nil, take-append-drop, drop_all, length-drop, get_or-drop, list_all-append, prefix_len-le-length, prefix_len_stops, chars-append, chars-encodes, encode_ascii, encodes-chars, scalars-chars, IsUtf8-take, IsUtf8-drop, IsCharBoundary-after_ascii, TableSet, LacksPercent, IsSubset, lacks, Token, Char, Octet, is_pct_encoded, tokens_from_chars, tokens, allows_token, is_valid_for, IsValidFor, Chunk, Text, Byte, prepend_to_chunks, chunks_of_tokens, chunks, widest_set}
use Rattle.uri_pct.proofs.UnreservedDecoding.Printing.{char_but_percent_is_its_own_token}
use Rattle.uri_pct.proofs.ValidTexts.TokenCuts.{ascii_byte_is_first_of_chars}
use Rattle.uri_pct.proofs.Unicode.Characters.{hexdigit_is_ascii}

-- decoding: characters other than `%` are tokens by themselves, whatever follows them
chars_without_percent_are_tokens : (cs ds : List ℕ) → lacks 37 cs ≡ true
    → tokens_from_chars (cs ++ ds) ≡ map Char cs ++ tokens_from_chars ds
chars_without_percent_are_tokens [] ds e = refl
chars_without_percent_are_tokens (c ∷ cs) ds e =
    let p = and_parts (not (eqb c 37)) _ e in
    char_but_percent_is_its_own_token c (cs ++ ds) (not-true _ p.0)
    ∙ ap (λ ts. Char c ∷ ts) (chars_without_percent_are_tokens cs ds p.1)

-- decoding: if bytes lack `%` (37), so do their first character and the bytes of the others
head_and_tail_lack_percent : (c : ℕ) (cs : List ℕ) → lacks 37 (encode_utf8_all (c ∷ cs)) ≡ true
    → (eqb c 37 ≡ false) × (lacks 37 (encode_utf8_all cs) ≡ true)
head_and_tail_lack_percent c cs e =
    grind (arith, common_steps, list_all-append, eqb-true, false≢true, lacks)

-- decoding: characters have no `%` (37) if their bytes have none
chars_lack_percent_if_bytes_do : (cs : List ℕ) → lacks 37 (encode_utf8_all cs) ≡ true
    → lacks 37 cs ≡ true
chars_lack_percent_if_bytes_do [] e = refl
chars_lack_percent_if_bytes_do (c ∷ cs) e = let p = head_and_tail_lack_percent c cs e in
    and_from _ _ (not_from_false _ p.0) (chars_lack_percent_if_bytes_do cs p.1)

-- decoding: to put two texts before chunks is to put the joined text before them
prepending_twice_joins_texts : (xs ys : List ℕ) (ps : List Chunk)
    → prepend_to_chunks xs (prepend_to_chunks ys ps) ≡ prepend_to_chunks (xs ++ ys) ps
unfolding prepend_to_chunks
prepending_twice_joins_texts xs ys [] = refl
prepending_twice_joins_texts xs ys (Text more ∷ ps) = ap (λ t. Text t ∷ ps)
    (sym (append_assoc xs ys more))
prepending_twice_joins_texts xs ys (Byte value ∷ ps) = refl

leading_chars_are_prepended_to_chunks : (c : ℕ) (cs : List ℕ) (ts : List Token) → chunks_of_tokens
    (map Char (c ∷ cs) ++ ts) ≡ prepend_to_chunks (encode_utf8_all (c ∷ cs)) (chunks_of_tokens ts)
unfolding chunks_of_tokens
leading_chars_are_prepended_to_chunks c [] ts = ap (λ x. prepend_to_chunks x (chunks_of_tokens ts))
    (sym (append-nil (encode_utf8 c)))
leading_chars_are_prepended_to_chunks c (d ∷ cs) ts = ap (prepend_to_chunks (encode_utf8 c))
    (leading_chars_are_prepended_to_chunks d cs ts)
    ∙ prepending_twice_joins_texts (encode_utf8 c) (encode_utf8_all (d ∷ cs)) (chunks_of_tokens ts)

-- decoding: no literal text comes first among the chunks
abbrev IsNotJoinedByTextBefore : List Chunk → Type 0
IsNotJoinedByTextBefore ps = (text : List ℕ) → prepend_to_chunks text ps ≡ Text text ∷ ps

-- decoding: the text begins with a percent-encoded octet
pub record BeginsWithOctet (text : List ℕ) : Type 0 where
  pub high : ℕ
  pub low : ℕ
  pub suffix : List ℕ
  pub joined : text ≡ 37 ∷ high ∷ low ∷ suffix
  pub high_digit : is_ascii_hexdigit high ≡ true
  pub low_digit : is_ascii_hexdigit low ≡ true
  pub first : tokens text ≡ Octet (16 * digit_value high + digit_value low) ∷ tokens suffix
  pub valid : IsValidFor widest_set suffix

literal_percent_is_not_allowed : (ts : List Token) → list_all (allows_token widest_set)
    (Char 37 ∷ ts) ≡ true → ⊥
literal_percent_is_not_allowed ts e = false≢true e

-- decoding: a valid text that begins with `%` and two hexadecimal digits begins with an octet
pct_encoded_chars_begin_with_octet : (high low : ℕ) (cs : List ℕ)
    → all_scalars (high ∷ low ∷ cs) ≡ true → is_pct_encoded 37 high low ≡ true
    → list_all (allows_token widest_set) (tokens_from_chars (37 ∷ high ∷ low ∷ cs)) ≡ true
    → BeginsWithOctet (37 ∷ encode_utf8_all (high ∷ low ∷ cs))
unfolding tokens_from_chars is_pct_encoded is_valid_for
pct_encoded_chars_begin_with_octet high low cs s e v =
    let digits = and_parts (is_ascii_hexdigit high) (is_ascii_hexdigit low)
    (and_parts (eqb 37 37) _ e).1 in
    let one = encode_ascii high (hexdigit_is_ascii high digits.0) in
    let two = encode_ascii low (hexdigit_is_ascii low digits.1) in
    let inner : all_scalars cs ≡ true =
    (and_parts _ (all_scalars cs) (and_parts _ (all_scalars (low ∷ cs)) s).1).1 in
    let same : chars (encode_utf8_all cs) ≡ cs = chars-encodes cs inner in
    record {
      high = high;
      low = low;
      suffix = encode_utf8_all cs;
      joined = rw (one, two) refl;
      high_digit = digits.0;
      low_digit = digits.1;
      first = ap tokens_from_chars
          (ascii_byte_is_first_of_chars 37 (encode_utf8_all (high ∷ low ∷ cs)) (lit< tt)
          ∙ ap (λ x. 37 ∷ x) (chars-encodes (high ∷ low ∷ cs) s)) ∙ cond-true _ _ _ e ∙ ap
          (λ x. Octet (16 * digit_value high + digit_value low) ∷ tokens_from_chars x) (sym same);
      valid = grind arith;
    }

valid_chars_after_percent_give_octet : (cs : List ℕ) → all_scalars cs ≡ true
    → list_all (allows_token widest_set) (tokens_from_chars (37 ∷ cs)) ≡ true
    → BeginsWithOctet (37 ∷ encode_utf8_all cs)
unfolding tokens_from_chars
valid_chars_after_percent_give_octet [] s v = absurd (literal_percent_is_not_allowed [] v)
valid_chars_after_percent_give_octet (c ∷ []) s v = absurd
    (literal_percent_is_not_allowed (Char c ∷ []) v)
valid_chars_after_percent_give_octet (high ∷ low ∷ cs) s v = ⊎_elim
    (λ e. pct_encoded_chars_begin_with_octet high low cs s e v)
    (λ e. absurd (literal_percent_is_not_allowed (tokens_from_chars (high ∷ low ∷ cs))
    (sym (ap (list_all (allows_token widest_set)) (cond-false _ _ _ e)) ∙ v)))
    (cases_Bool (is_pct_encoded 37 high low))

valid_text_from_percent_begins_with_octet : (rest : List ℕ) → IsUtf8 rest
    → IsValidFor widest_set (37 ∷ rest) → BeginsWithOctet (37 ∷ rest)
unfolding is_valid_for
valid_text_from_percent_begins_with_octet rest u v = subst (λ x. BeginsWithOctet (37 ∷ x))
    (encodes-chars rest u) (valid_chars_after_percent_give_octet (chars rest) (scalars-chars rest u)
    (sym (ap (λ cs. list_all (allows_token widest_set) (tokens_from_chars cs))
    (ascii_byte_is_first_of_chars 37 rest (lit< tt))) ∙ v))

percent_begins_octet : (text : List ℕ) → IsUtf8 text → IsValidFor widest_set text → 0 < length text
    → get_or text 0 0 ≡ 37 → BeginsWithOctet text
percent_begins_octet [] u v some e = absurd (omega arith)
percent_begins_octet (b ∷ rest) u v some e =
    let suffix : IsUtf8 rest = IsUtf8-drop (b ∷ rest) 1 u
    (IsCharBoundary-after_ascii (b ∷ rest) 0 u some (omega arith)) in
    grind (arith, valid_text_from_percent_begins_with_octet)

text_before_octet_is_own_chunk : (text : List ℕ) → BeginsWithOctet text
    → IsNotJoinedByTextBefore (chunks text)
unfolding chunks_of_tokens prepend_to_chunks
text_before_octet_is_own_chunk text o = rw o.first (λ x. refl)

pub empty_text_has_no_chunks : chunks [] ≡ []
unfolding chunks_of_tokens tokens_from_chars chars
empty_text_has_no_chunks = refl

text_before_nothing_is_own_chunk : IsNotJoinedByTextBefore (chunks [])
unfolding chunks_of_tokens prepend_to_chunks tokens_from_chars chars
text_before_nothing_is_own_chunk x = refl

-- decoding: the length of the text before the first `%`
abbrev pub len_before_percent : List ℕ → ℕ
len_before_percent text = position_or_len (λ b. eqb b 37) text

-- decoding: the bytes before the first that fails a test pass it
pub prefix_len_bytes_pass : (p : ℕ → Bool) (xs : List ℕ) → list_all p (take (prefix_len p xs) xs)
    ≡ true
prefix_len_bytes_pass p [] = refl
prefix_len_bytes_pass p (x ∷ xs) =
    let next : 1 + prefix_len p xs ≡ suc (prefix_len p xs) = omega arith in
    ⊎_elim (λ e. rw e (rw next (and_from _ _ e (prefix_len_bytes_pass p xs)))) (λ e. rw e refl)
    (cases_Bool (p x))

-- decoding: what is before the first `%` has none
text_before_percent_is_unencoded : (text : List ℕ) → lacks 37 (take (len_before_percent text) text)
    ≡ true
text_before_percent_is_unencoded text = prefix_len_bytes_pass (λ b. not (eqb b 37)) text

-- decoding: what is before the first `%` (37) ends at a `%`, or with the text
percent_ends_unencoded_prefix : (text : List ℕ) → len_before_percent text < length text
    → get_or text (len_before_percent text) 0 ≡ 37
percent_ends_unencoded_prefix text h = eqb-true _ 37
    (not-false _ (prefix_len_stops (λ b. not (eqb b 37)) text 0 h))

-- decoding: the text before the first `%` is no longer than the text
len_before_percent_is_at_most_length : (text : List ℕ) → len_before_percent text ≤ length text
len_before_percent_is_at_most_length text = prefix_len-le-length (λ b. not (eqb b 37)) text

-- decoding: a character begins, or the text ends, at its first `%`
pub first_percent_is_at_boundary : (text : List ℕ) → IsCharBoundary text (len_before_percent text)
first_percent_is_at_boundary text =
    grind (arith, percent_ends_unencoded_prefix, len_before_percent_is_at_most_length)

-- decoding: characters before other tokens, by their bytes, are put before the chunks of these
unencoded_prefix_is_prepended_to_chunks : (cs prefix : List ℕ) (ts : List Token)
    → encode_utf8_all cs ≡ prefix → 0 < length prefix
    → chunks_of_tokens (map Char cs ++ ts) ≡ prepend_to_chunks prefix (chunks_of_tokens ts)
unencoded_prefix_is_prepended_to_chunks [] prefix ts e some = absurd (omega (arith, ap length e))
unencoded_prefix_is_prepended_to_chunks (c ∷ cs) prefix ts e some =
    grind (arith, leading_chars_are_prepended_to_chunks)

-- decoding: the tokens of a text whose prefix has no `%` (37) are its characters,
-- and those of what follows
pub tokens_after_unencoded_prefix : (prefix back : List ℕ) → IsUtf8 prefix → lacks 37 prefix ≡ true
    → tokens (prefix ++ back) ≡ map Char (chars prefix) ++ tokens back
tokens_after_unencoded_prefix prefix back u e = ap tokens_from_chars (chars-append prefix back u)
    ∙ chars_without_percent_are_tokens (chars prefix) (chars back)
    (chars_lack_percent_if_bytes_do (chars prefix) (ap (lacks 37) (encodes-chars prefix u) ∙ e))

-- decoding: the text before the first `%` is the first chunk, with what is after it
pub record BeginsWithText (text : List ℕ) (n : ℕ) : Type 0 where
  pub first : chunks text ≡ Text (take n text) ∷ chunks (drop n text)
  pub valid : IsValidFor widest_set (drop n text)

-- decoding: what begins at a `%` does not join a text before it: the two are separate chunks
text_before_percent_is_own_chunk : (text : List ℕ) (n : ℕ)
    → IsUtf8 (drop n text) → IsValidFor widest_set (drop n text) → n ≤ length text
    → (n < length text → get_or text n 0 ≡ 37) → IsNotJoinedByTextBefore (chunks (drop n text))
text_before_percent_is_own_chunk text n u v within there = ⊎_elim (λ h.
    let some : 0 < length (drop n text) = omega (arith, length-drop n text) in
    let first : get_or (drop n text) 0 0 ≡ 37 = get_or-drop n text 0 0
    ∙ ap (λ k. get_or text k 0) (add-zero n) ∙ there h in
    text_before_octet_is_own_chunk
    (drop n text) (percent_begins_octet (drop n text) u v some first))
    (λ h. subst (λ x. IsNotJoinedByTextBefore (chunks x))
    (sym (drop_all n text h)) text_before_nothing_is_own_chunk) (cases_lt n (length text))

unencoded_prefix_is_first_chunk : (text : List ℕ) (n : ℕ) → IsUtf8 text → IsValidFor widest_set text
    → n ≡ len_before_percent text → 0 < length (take n text) → BeginsWithText text n
unfolding is_valid_for
unencoded_prefix_is_first_chunk text n u v e some =
    let prefix = take n text in
    let back = drop n text in
    let boundary : IsCharBoundary text n =
    subst (IsCharBoundary text) (sym e) (first_percent_is_at_boundary text) in
    let inner : IsUtf8 prefix = IsUtf8-take text n u boundary in
    let outer : IsUtf8 back = IsUtf8-drop text n u boundary in
    let parts : tokens text ≡ map Char (chars prefix) ++ tokens back =
    ap tokens (sym (take-append-drop n text)) ∙ tokens_after_unencoded_prefix prefix back inner
    (ap (λ k. lacks 37 (take k text)) e ∙ text_before_percent_is_unencoded text) in
    let valid : IsValidFor widest_set back = grind (arith, list_all-append) in
    let within : n ≤ length text = subst (λ k. k ≤ length text) (sym e)
    (len_before_percent_is_at_most_length text) in
    let percent : n < length text → get_or text n 0 ≡ 37 = λ h. ap (λ k. get_or text k 0) e
    ∙ percent_ends_unencoded_prefix text (subst (λ k. k < length text) e h) in
    grind (
      arith,
      unencoded_prefix_is_prepended_to_chunks,
      encodes-chars,
      text_before_percent_is_own_chunk,
    )

-- general fact on texts, for decoding: a length that is not 0 is above 0
nonzero_length_is_positive : (bytes : List ℕ) → eqb (length bytes) 0 ≡ false → 0 < length bytes
nonzero_length_is_positive bytes e = omega (arith, eqb-false (length bytes) 0 e)

-- decoding: if a text that decodes begins with `%`, it begins with an octet
pub bytes_from_percent_begin_with_octet : (bytes text : List ℕ) → bytes ≡ text → IsUtf8 bytes
    → IsValidFor widest_set text → eqb (length bytes) 0 ≡ false → get_or bytes 0 0 ≡ 37
    → BeginsWithOctet text
bytes_from_percent_begin_with_octet bytes text same u v some e =
    grind (arith, percent_begins_octet, nonzero_length_is_positive)

-- decoding: if a text that decodes does not begin with `%`, its first chunk ends at the first `%`
pub bytes_begin_with_text_up_to_percent : (bytes text : List ℕ) (n : ℕ) → bytes ≡ text
    → IsUtf8 bytes → IsValidFor widest_set text → eqb (length bytes) 0 ≡ false → get_or bytes 0 0
    ≢ 37 → n ≡ position_or_len (λ b. eqb b 37) bytes → BeginsWithText text n × IsCharBoundary text n
bytes_begin_with_text_up_to_percent bytes text n same u v some other e =
    grind (arith, common_steps, unencoded_prefix_is_first_chunk, first_percent_is_at_boundary)

-- decoding: after an octet at the start of a text a character begins
pub boundary_after_octet : (text : List ℕ) → IsUtf8 text → BeginsWithOctet text
    → IsCharBoundary text 3
boundary_after_octet text u o =
    let there : get_or text 2 0 ≡ o.low = ap (λ x. get_or x 2 0) o.joined in
    let small = hexdigit_is_ascii o.low o.low_digit in
    IsCharBoundary-after_ascii text 2 u (omega (arith, ap length o.joined)) (omega arith)

pub first_chunk_is_value_of_octet : (text : List ℕ) (o : BeginsWithOctet text)
    → chunks text ≡ Byte (16 * digit_value o.high + digit_value o.low) ∷ chunks o.suffix
unfolding chunks_of_tokens
first_chunk_is_value_of_octet text o = ap chunks_of_tokens o.first

-- decoding: each set without `%` is a subset of the largest one, for which a text decodes
pub every_set_is_subset_of_widest : (set : TableSet) → LacksPercent set → IsSubset set widest_set
every_set_is_subset_of_widest set lacks = grind (arith, not_from_false, ne_eqb, false≢true)
