-- A text that is cut at a character which neither begins an octet nor is in one.
use Rattle.uri_pct.proofs.Common.{◌≡◌, ℕ, suc, ◌+◌, ◌*◌, ◌<◌, true, false, eqb, List, [], ◌∷◌, ◌++◌, length, get_or, take, refl, sym, ap, subst, ◌∙◌, arith, ⊎_elim, length-append, list_all, is_ascii_hexdigit, digit_value, chars, chars_after, IsUtf8, cases_Bool, cond-false, and_left, and_right, and_parts, lt-ltb, nat_tests, list_all-append, get_or-append_seam, take-append_seam, chars-append, IsUtf8-take, IsCharBoundary-before_ascii, TableSet, is_reserved, Char, Octet, is_pct_encoded, tokens_from_chars, tokens, allows_token, is_valid_for}
use Rattle.uri_pct.proofs.UnreservedDecoding.Printing.{char_but_percent_is_its_own_token}

-- cuts of valid texts: an ASCII character that is no hexadecimal digit and not `%`
pub record IsNeverInOctet (c : ℕ) : Type 0 where
  pub ascii : c < 128
  pub no_digit : is_ascii_hexdigit c ≡ false
  pub no_percent : eqb c 37 ≡ false

-- cuts of valid texts: a reserved character is never in a percent-encoded octet
pub reserved_is_never_in_octet : (c : ℕ) → is_reserved c ≡ true → IsNeverInOctet c
reserved_is_never_in_octet c e = grind (arith, nat_tests)

-- cuts of valid texts: `/` (47) is reserved, so it is never decoded to or from `%2F`
pub slash_is_reserved : is_reserved 47 ≡ true
slash_is_reserved = refl

-- cuts of valid texts: without a first hexadecimal digit (d), no octet is read
octet_needs_first_hexdigit : (c d e : ℕ) → is_ascii_hexdigit d ≡ false
    → is_pct_encoded c d e ≡ false
unfolding is_pct_encoded
octet_needs_first_hexdigit c d e h = and_right _ _ (and_left _ _ h)

-- cuts of valid texts: without a second hexadecimal digit (e), no octet is read
octet_needs_second_hexdigit : (c d e : ℕ) → is_ascii_hexdigit e ≡ false
    → is_pct_encoded c d e ≡ false
unfolding is_pct_encoded
octet_needs_second_hexdigit c d e h = and_right _ _ (and_right _ _ h)

char_before_mark_is_own_token : (c mark : ℕ) (ds : List ℕ) → IsNeverInOctet mark
    → tokens_from_chars (c ∷ mark ∷ ds) ≡ Char c ∷ Char mark ∷ tokens_from_chars ds
unfolding tokens_from_chars
char_before_mark_is_own_token c mark [] m = refl
char_before_mark_is_own_token c mark (d ∷ ds) m = cond-false _ _ _
    (octet_needs_first_hexdigit c mark d m.no_digit)
    ∙ ap (λ ts. Char c ∷ ts) (char_but_percent_is_its_own_token mark (d ∷ ds) m.no_percent)

mark_separates_tokens_of_chars : (cs ds : List ℕ) (mark : ℕ) → IsNeverInOctet mark
    → tokens_from_chars (cs ++ mark ∷ ds) ≡ tokens_from_chars cs ++ Char mark ∷ tokens_from_chars ds
unfolding tokens_from_chars
mark_separates_tokens_of_chars [] ds mark m = char_but_percent_is_its_own_token mark ds m.no_percent
mark_separates_tokens_of_chars (c ∷ []) ds mark m = char_before_mark_is_own_token c mark ds m
mark_separates_tokens_of_chars (c ∷ d ∷ []) ds mark m = cond-false _ _ _
    (octet_needs_second_hexdigit c d mark m.no_digit)
    ∙ ap (λ ts. Char c ∷ ts) (char_before_mark_is_own_token d mark ds m)
mark_separates_tokens_of_chars (c ∷ high ∷ low ∷ cs) ds mark m =
    ⊎_elim (λ e. rw e (ap (λ ts. Octet (16 * digit_value high + digit_value low) ∷ ts)
    (mark_separates_tokens_of_chars cs ds mark m))) (λ e. rw e
    (ap (λ ts. Char c ∷ ts) (mark_separates_tokens_of_chars (high ∷ low ∷ cs) ds mark m)))
    (cases_Bool (is_pct_encoded c high low))

ascii_byte_comes_before_chars_of_rest : (c : ℕ) (rest : List ℕ) → chars_after 0 c rest
    ≡ c ∷ chars rest
unfolding chars
ascii_byte_comes_before_chars_of_rest c [] = refl
ascii_byte_comes_before_chars_of_rest c (b ∷ rest) = refl

-- cuts of valid texts: an ASCII byte is its own character
pub ascii_byte_is_first_of_chars : (c : ℕ) (rest : List ℕ) → c < 128 → chars (c ∷ rest)
    ≡ c ∷ chars rest
unfolding chars
ascii_byte_is_first_of_chars c rest h = let low = lt-ltb c 128 h in rw low
    (ascii_byte_comes_before_chars_of_rest c rest)

mark_separates_tokens_of_text : (before after : List ℕ) (mark : ℕ) → IsNeverInOctet mark
    → IsUtf8 before → tokens (before ++ mark ∷ after) ≡ tokens before ++ Char mark ∷ tokens after
mark_separates_tokens_of_text before after mark m u =
    ap tokens_from_chars (chars-append before (mark ∷ after) u
    ∙ ap (λ x. chars before ++ x) (ascii_byte_is_first_of_chars mark after m.ascii))
    ∙ mark_separates_tokens_of_chars (chars before) (chars after) mark m

texts_around_mark_are_valid : (set : TableSet) (before after : List ℕ) (mark : ℕ)
    → IsNeverInOctet mark → IsUtf8 before → is_valid_for set (before ++ mark ∷ after) ≡ true
    → (is_valid_for set before ≡ true) × (is_valid_for set after ≡ true)
unfolding is_valid_for
texts_around_mark_are_valid set before after mark m u e =
    let both = and_parts _ _
    (sym (list_all-append (allows_token set) (tokens before) (Char mark ∷ tokens after)) ∙ sym
    (ap (list_all (allows_token set)) (mark_separates_tokens_of_text before after mark m u)) ∙ e) in
    (both.0, (and_parts _ _ both.1).1)

text_before_ascii_mark_is_utf8 : (text before after : List ℕ) (mark : ℕ) → mark < 128 → IsUtf8 text
    → text ≡ before ++ mark ∷ after → IsUtf8 before
text_before_ascii_mark_is_utf8 text before after mark small u same =
    let long : length text ≡ length before + suc (length after) = ap length same
    ∙ length-append before (mark ∷ after) in
    let there : get_or text (length before) 0 ≡ mark = ap (λ t. get_or t (length before) 0) same
    ∙ get_or-append_seam before mark after 0 in
    let prefix : take (length before) text ≡ before = ap (take (length before)) same
    ∙ take-append_seam before (mark ∷ after) in
    subst IsUtf8 prefix (IsUtf8-take text (length before) u
    (IsCharBoundary-before_ascii text (length before) (omega arith) (omega arith)))

-- validity: what is before a mark (in no octet) of a valid text is valid,
-- whether or not the set has the mark
pub valid_before_mark : (set : TableSet) (text before after : List ℕ) (mark : ℕ)
    → is_valid_for set text ≡ true → text ≡ before ++ mark ∷ after → IsNeverInOctet mark
    → IsUtf8 text → is_valid_for set before ≡ true
valid_before_mark set text before after mark e same m u = (texts_around_mark_are_valid set
    before after mark m (text_before_ascii_mark_is_utf8 text before after mark m.ascii u same)
    (sym (ap (is_valid_for set) same) ∙ e)).0

pub valid_after_mark : (set : TableSet) (text before after : List ℕ) (mark : ℕ)
    → is_valid_for set text ≡ true → text ≡ before ++ mark ∷ after → IsNeverInOctet mark
    → IsUtf8 text → is_valid_for set after ≡ true
valid_after_mark set text before after mark e same m u = (texts_around_mark_are_valid set
    before after mark m (text_before_ascii_mark_is_utf8 text before after mark m.ascii u same)
    (sym (ap (is_valid_for set) same) ∙ e)).1
