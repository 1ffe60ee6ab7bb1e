-- The last token of a valid text: an octet if the third byte from the end is `%`, else a character.
use Rattle.uri_ops.proofs.Common.{common_steps, ◌≡◌, ℕ, suc, ◌+◌, ◌*◌, ◌≤◌, ◌⊎◌, inl, inr, true, false, List, [], ◌∷◌, ◌++◌, length, get_or, take, drop, refl, sym, ap, ◌∙◌, subst, arith, ⊎_elim, append_assoc, eqb, list_all, IsScalar, encode_utf8, digit_value, is_ascii_hexdigit, chars, all_scalars, IsUtf8, cases_Bool, cond-true, cond-false, and_parts, and_from, and_right, ne_eqb, take-append-drop, drop_more, length-drop, get_or-drop, get_or_at, length-append, append-nil, take_at, drop_at, nil_from_length, list_all-append, chars-append, chars-nil, IsUtf8-take, IsUtf8-drop, IsCharBoundary-before_ascii, chars-encodes, cons_from_encodes, IsCharBoundary-from_take, widest_set, Token, Char, Octet, is_pct_encoded, tokens_from_chars, tokens, allows_token, is_valid_for, IsValidFor, BeginsWithOctet, bytes_from_percent_begin_with_octet, valid_text_has_printable_tokens, EndInNoOctet, LacksPercentThird}
use Rattle.uri_pct.specs.Representation.{RepresentsToken, Represents}
use Rattle.uri_pct.proofs.Offered.{text_represents_its_printable_tokens, ascii_byte_is_first_of_chars}
use Rattle.uri_ops.specs.FromEnd.LastTokens.{EndsIn}

-- cuts of valid texts: two characters of which the second is `%` (37) are no octet with a third
percent_is_no_first_digit : (c d : ℕ) → is_pct_encoded c 37 d ≡ false
unfolding is_pct_encoded
percent_is_no_first_digit c d = and_right _ _ refl

-- cuts of valid texts: three characters of which the third is `%` (37) are no octet
percent_is_no_second_digit : (c d : ℕ) → is_pct_encoded c d 37 ≡ false
unfolding is_pct_encoded
percent_is_no_second_digit c d = and_right _ _ (and_right _ _ refl)

-- cuts of valid texts: a character before `%` (37) is a token by itself
char_before_percent_is_own_token : (c : ℕ) (ds : List ℕ)
    → tokens_from_chars (c ∷ 37 ∷ ds) ≡ Char c ∷ tokens_from_chars (37 ∷ ds)
unfolding tokens_from_chars
char_before_percent_is_own_token c ds = grind (arith, common_steps, percent_is_no_first_digit)

-- cuts of valid texts: `%` (37) separates the tokens before it from those from it on
percent_separates_tokens_of_chars : (cs ds : List ℕ)
    → tokens_from_chars (cs ++ 37 ∷ ds) ≡ tokens_from_chars cs ++ tokens_from_chars (37 ∷ ds)
unfolding tokens_from_chars
percent_separates_tokens_of_chars [] ds = refl
percent_separates_tokens_of_chars (c ∷ []) ds = char_before_percent_is_own_token c ds
percent_separates_tokens_of_chars (c ∷ d ∷ []) ds =
    grind (arith, percent_is_no_second_digit, char_before_percent_is_own_token)
percent_separates_tokens_of_chars (c ∷ high ∷ low ∷ cs) ds =
    grind (
      arith,
      percent_separates_tokens_of_chars cs ds,
      percent_separates_tokens_of_chars (high ∷ low ∷ cs) ds,
    )

-- cuts of valid texts: `%` (37) separates the tokens of the text before it from those from it on
percent_separates_tokens : (before after : List ℕ) → IsUtf8 before
    → tokens (before ++ 37 ∷ after) ≡ tokens before ++ tokens (37 ∷ after)
percent_separates_tokens before after u =
    grind (arith, ascii_byte_is_first_of_chars, chars-append, percent_separates_tokens_of_chars)

-- cuts of valid texts: a text is valid before and from a `%` (37)
texts_around_percent_are_valid : (before after : List ℕ) → IsUtf8 before
    → IsValidFor widest_set (before ++ 37 ∷ after)
    → IsValidFor widest_set before × IsValidFor widest_set (37 ∷ after)
unfolding is_valid_for
texts_around_percent_are_valid before after u valid =
    grind (arith, common_steps, tokens, percent_separates_tokens)

octet_from_last_percent : (text : List ℕ) (n : ℕ) → IsUtf8 text → IsValidFor widest_set text
    → n + 3 ≡ length text → get_or text n 0 ≡ 37 → IsValidFor widest_set (take n text)
    × (tokens text ≡ tokens (take n text) ++ tokens (drop n text)) × BeginsWithOctet (drop n text)
octet_from_last_percent text n u valid long percent =
    let boundary = IsCharBoundary-before_ascii text n (omega arith) (omega arith) in
    let prefix = IsUtf8-take text n u boundary in
    let cut : drop n text ≡ 37 ∷ drop (n + 1) text =
    drop_more text n 0 (omega arith) ∙ ap (λ b. b ∷ drop (n + 1) text) percent in
    let joined : text ≡ take n text ++ 37 ∷ drop (n + 1) text =
    sym (take-append-drop n text) ∙ ap (λ t. take n text ++ t) cut in
    let both = texts_around_percent_are_valid (take n text) (drop (n + 1) text) prefix
    (sym (ap (is_valid_for widest_set) joined) ∙ valid) in
    let first : get_or (drop n text) 0 0 ≡ 37 = ap (λ t. get_or t 0 0) cut in
    let some : eqb (length (drop n text)) 0 ≡ false = ap (λ t. eqb (length t) 0) cut
    ∙ ne_eqb (suc (length (drop (n + 1) text))) 0 (λ e. omega arith) in (
      both.0,
      ap tokens joined ∙ percent_separates_tokens (take n text) (drop (n + 1) text) prefix
          ∙ ap (λ t. tokens (take n text) ++ tokens t) (sym cut),
      bytes_from_percent_begin_with_octet (drop n text) (drop n text) refl
          (IsUtf8-drop text n u boundary) (ap (is_valid_for widest_set) cut ∙ both.1) some first,
    )

pub empty_text_has_no_tokens : (text : List ℕ) → text ≡ [] → tokens text ≡ []
unfolding tokens_from_chars
empty_text_has_no_tokens text e = ap tokens e ∙ ap tokens_from_chars chars-nil

-- cuts of valid texts: what ends a text, from the byte n on, is an octet
pub record EndsInOctetAt (text : List ℕ) (n : ℕ) : Type 0 where
  pub high : is_ascii_hexdigit (get_or text (n + 1) 0) ≡ true
  pub low : is_ascii_hexdigit (get_or text (n + 2) 0) ≡ true
  pub ends : EndsIn text (take n text)
      (Octet (16 * digit_value (get_or text (n + 1) 0) + digit_value (get_or text (n + 2) 0)) ∷ [])

-- cuts of valid texts: an octet ends a text if the third byte from the end, the n-th, is `%` (37)
pub percent_third_from_end_begins_last_octet : (text : List ℕ) (n : ℕ) → IsUtf8 text
    → IsValidFor widest_set text → n + 3 ≡ length text → get_or text n 0 ≡ 37 → EndsInOctetAt text n
percent_third_from_end_begins_last_octet text n u valid long percent =
    let p = octet_from_last_percent text n u valid long percent in
    let o = p.2 in
    let three : length (drop n text) ≡ 3 = length-drop n text ∙ omega arith in
    let none : o.suffix ≡ [] = nil_from_length o.suffix (omega (arith, ap length o.joined)) in
    let high : o.high ≡ get_or text (n + 1) 0 =
    sym (ap (λ t. get_or t 1 0) o.joined) ∙ get_or-drop n text 1 0 in
    let low : o.low ≡ get_or text (n + 2) 0 =
    sym (ap (λ t. get_or t 2 0) o.joined) ∙ get_or-drop n text 2 0 in
    record {
      high = ap is_ascii_hexdigit (sym high) ∙ o.high_digit;
      low = ap is_ascii_hexdigit (sym low) ∙ o.low_digit;
      ends = record {
        tokens = p.1 ∙ ap (λ ts. tokens (take n text) ++ ts) (o.first ∙ ap (λ
            ts. Octet (16 * digit_value o.high + digit_value o.low) ∷ ts) (empty_text_has_no_tokens
            o.suffix none) ∙ ap (λ h. Octet (16 * digit_value h + digit_value o.low) ∷ []) high
            ∙ ap (λ l. Octet (16 * digit_value (get_or text (n + 1) 0) + digit_value l) ∷ []) low);
        valid = p.0;
      };
    }

-- tokens printed and read: the text represents the tokens, and then this one
record RepresentsLast (text : List ℕ) (ts : List Token) (t : Token) : Type 0 where
  before : List ℕ
  last : List ℕ
  joined : text ≡ before ++ last
  tokens : Represents before ts
  token : RepresentsToken last t

represents_last_token_last : (text : List ℕ) (ts : List Token) (t : Token)
    → Represents text (ts ++ t ∷ []) → RepresentsLast text ts t
unfolding Represents
represents_last_token_last text [] t h = record {
  before = [];
  last = h.0;
  joined = h.1.1.0 ∙ ap (λ r. h.0 ++ r) h.1.1.2 ∙ append-nil h.0;
  tokens = refl;
  token = h.1.1.1;
}
represents_last_token_last text (u ∷ ts) t h =
    let rest = represents_last_token_last h.1.0 ts t h.1.1.2 in
    record {
      before = h.0 ++ rest.before;
      last = rest.last;
      joined = h.1.1.0 ∙ ap (λ r. h.0 ++ r) rest.joined
          ∙ sym (append_assoc h.0 rest.before rest.last);
      tokens = (h.0, (rest.before, (refl, h.1.1.1, rest.tokens)));
      token = rest.token;
    }

-- cuts of valid texts: the bytes of an octet end the text
abbrev EndsInPercentThird : List ℕ → Type 0
EndsInPercentThird text = (n : ℕ) × ((n + 3 ≡ length text) × (get_or text n 0 ≡ 37))

-- cuts of valid texts: if the last token is an octet, the third byte from the end is `%` (37)
last_octet_has_percent_third : (text : List ℕ) (ts : List Token) (value : ℕ) → IsUtf8 text
    → IsValidFor widest_set text → tokens text ≡ ts ++ Octet value ∷ [] → EndsInPercentThird text
last_octet_has_percent_third text ts value u valid e =
    let all = text_represents_its_printable_tokens text u
    (valid_text_has_printable_tokens widest_set text refl valid) in
    let r = represents_last_token_last text ts (Octet value) (subst (Represents text) e all) in
    let cut : text ≡ r.before ++ 37 ∷ r.token.0 ∷ r.token.1.0 ∷ [] =
    r.joined ∙ ap (λ t. r.before ++ t) r.token.1.1.3 in (
      length r.before,
      (
        sym (ap length cut ∙ length-append r.before (37 ∷ r.token.0 ∷ r.token.1.0 ∷ [])),
        ap (λ t. get_or t (length r.before) 0) cut
            ∙ get_or_at r.before 37 (r.token.0 ∷ r.token.1.0 ∷ []) 0 _ refl,
      ),
    )

-- cuts of valid texts: without a `%` (37) as the third byte from the end, no octet ends a text
pub no_octet_ends_text : (text : List ℕ) → IsUtf8 text → IsValidFor widest_set text
    → LacksPercentThird text → EndInNoOctet (tokens text)
no_octet_ends_text text u valid none ts value e = grind (arith, last_octet_has_percent_third)

last_char_is_own_token_or_ends_octet : (cs : List ℕ) (c : ℕ)
    → (tokens_from_chars (cs ++ c ∷ []) ≡ tokens_from_chars cs ++ Char c ∷ []) ⊎ ((ts : List Token)
    × ((value : ℕ) × (tokens_from_chars (cs ++ c ∷ []) ≡ ts ++ Octet value ∷ [])))
unfolding tokens_from_chars
last_char_is_own_token_or_ends_octet [] c = inl refl
last_char_is_own_token_or_ends_octet (a ∷ []) c = inl refl
last_char_is_own_token_or_ends_octet (a ∷ b ∷ []) c = grind arith
last_char_is_own_token_or_ends_octet (a ∷ b ∷ d ∷ cs) c =
    let first = Octet (16 * digit_value b + digit_value d) in
    ⊎_elim (λ e. ⊎_elim (λ own. inl (cond-true _ _ _ e ∙ ap (λ ts. first ∷ ts) own
    ∙ ap (λ ts. ts ++ Char c ∷ []) (sym (cond-true _ _ _ e)))) (λ octet. inr
    (first ∷ octet.0, (octet.1.0, cond-true _ _ _ e ∙ ap (λ ts. first ∷ ts) octet.1.1)))
    (last_char_is_own_token_or_ends_octet cs c))
    (λ e. ⊎_elim (λ own. inl (cond-false _ _ _ e ∙ ap (λ ts. Char a ∷ ts) own
    ∙ ap (λ ts. ts ++ Char c ∷ []) (sym (cond-false _ _ _ e)))) (λ octet. inr
    (Char a ∷ octet.0, (octet.1.0, cond-false _ _ _ e ∙ ap (λ ts. Char a ∷ ts) octet.1.1)))
    (last_char_is_own_token_or_ends_octet (b ∷ d ∷ cs) c)) (cases_Bool (is_pct_encoded a b d))

-- cuts of texts: what ends a text, as the bytes of one character, is a Unicode scalar value
last_char_is_scalar : (text before : List ℕ) (c : ℕ) → IsUtf8 text → IsUtf8 before
    → text ≡ before ++ encode_utf8 c → IsScalar c
last_char_is_scalar text before c u prefix joined =
    let n = length before in
    let front : take n text ≡ before = ap (take n) joined ∙ take_at before (encode_utf8 c) n refl in
    let end : drop n text ≡ encode_utf8 c =
    ap (drop n) joined ∙ drop_at before (encode_utf8 c) n refl in
    let within : n ≤ length text =
    omega (arith, ap length joined, length-append before (encode_utf8 c)) in
    let boundary = IsCharBoundary-from_take text n u within (subst IsUtf8 (sym front) prefix) in
    let one = subst IsUtf8 end (IsUtf8-drop text n u boundary) in
    let first = cons_from_encodes one.0 [] c (one.1.1 ∙ sym (append-nil (encode_utf8 c))) in
    (and_parts _ _ (sym (ap all_scalars first.1) ∙ one.1.0)).0

pub last_char_is_last_token : (text before : List ℕ) (c : ℕ) → IsUtf8 text → IsUtf8 before
    → text ≡ before ++ encode_utf8 c → IsValidFor widest_set text → EndInNoOctet (tokens text)
    → EndsIn text before (Char c ∷ [])
unfolding is_valid_for
last_char_is_last_token text before c all u joined valid none =
    let scalar = last_char_is_scalar text before c all u joined in
    let one : chars (encode_utf8 c) ≡ c ∷ [] = ap chars (sym (append-nil (encode_utf8 c)))
    ∙ chars-encodes (c ∷ []) (and_from _ true scalar refl) in
    let cs : chars text ≡ chars before ++ c ∷ [] =
    ap chars joined ∙ chars-append before (encode_utf8 c) u ∙ ap (λ t. chars before ++ t) one in
    ⊎_elim (λ own.
    let last : tokens text ≡ tokens before ++ Char c ∷ [] = ap tokens_from_chars cs ∙ own in
    record {
      tokens = last;
      valid = (and_parts _ _ (sym (list_all-append (allows_token widest_set) (tokens before)
          (Char c ∷ [])) ∙ sym (ap (list_all (allows_token widest_set)) last) ∙ valid)).0;
    }) (λ octet. absurd (none octet.0 octet.1.0 (ap tokens_from_chars cs ∙ octet.1.1)))
    (last_char_is_own_token_or_ends_octet (chars before) c)

pub equal_text_ends_in_same_octet : (bytes text prefix before : List ℕ) (value same : ℕ)
    → bytes ≡ text → prefix ≡ before → value ≡ same → EndsIn bytes prefix (Octet value ∷ [])
    → EndsIn text before (Octet same ∷ [])
equal_text_ends_in_same_octet bytes text prefix before value same e f g ends = grind (arith, tokens)
