-- If a set allows a text, its tokens and its decoded tokens are printable.
use Rattle.uri_pct.proofs.Common.{◌≡◌, ℕ, ◌+◌, ◌*◌, ◌<◌, ◌≤◌, Bool, true, false, eqb, ltb, List, [], ◌∷◌, map, refl, ap, arith, ◌&&◌, ⊎_elim, ◌⊎◌, IsScalar, digit_value, is_ascii_hexdigit, chars, list_all, low_scalar, cases_Bool, and_parts, and_from, or_cases, lt-ltb, not_from_false, ne_eqb, lowercase-lowercase, nat_tests, TableSet, LacksPercent, IsSubset, allows, allows_past_ascii, is_ucschar, is_iprivate, is_unreserved, unreserved_set, Token, Char, Octet, tokens, tokens_from_chars, is_pct_encoded, allows_token, is_valid_for, IsValidFor, is_printable, is_decodable, lower_token}

ucschar_is_scalar_past_ascii : (c : ℕ) → is_ucschar c ≡ true → (128 ≤ c) × IsScalar c
unfolding is_ucschar
ucschar_is_scalar_past_ascii c e = (grind (arith, nat_tests), grind (arith, nat_tests))

iprivate_is_scalar_past_ascii : (c : ℕ) → is_iprivate c ≡ true → (128 ≤ c) × IsScalar c
unfolding is_iprivate
iprivate_is_scalar_past_ascii c e = (grind (arith, nat_tests), grind (arith, nat_tests))

-- characters of valid texts: a character past ASCII that a set allows is a Unicode scalar value
pub allowed_past_ascii_is_scalar : (set : TableSet) (c : ℕ) → allows_past_ascii set c ≡ true
    → (128 ≤ c) × IsScalar c
unfolding allows_past_ascii
allowed_past_ascii_is_scalar set c e = ⊎_elim
    (λ u. ucschar_is_scalar_past_ascii c (and_parts set.ucschar (is_ucschar c) u).1)
    (λ p. iprivate_is_scalar_past_ascii c (and_parts set.iprivate (is_iprivate c) p).1)
    (or_cases (set.ucschar && is_ucschar c) (set.iprivate && is_iprivate c) e)

-- characters of valid texts: an unreserved character is ASCII
pub unreserved_is_ascii : (c : ℕ) → is_unreserved c ≡ true → c < 128
unreserved_is_ascii c e = grind (arith, nat_tests)

-- tokens of valid texts: a Unicode scalar value other than `%` (37) can be written
scalar_but_percent_is_printable : (c : ℕ) → IsScalar c → eqb c 37 ≡ false
    → is_printable (Char c) ≡ true
scalar_but_percent_is_printable c scalar e = and_from _ _ (and_from _ true scalar refl)
    (not_from_false _ e)

pub allowed_char_is_printable : (set : TableSet) (c : ℕ) → LacksPercent set → allows set c ≡ true
    → is_printable (Char c) ≡ true
allowed_char_is_printable set c lacks e = grind (arith, allowed_past_ascii_is_scalar)

-- characters of valid texts: `%` (37) is not unreserved
unreserved_char_is_not_percent : (c : ℕ) → is_unreserved c ≡ true → eqb c 37 ≡ false
unreserved_char_is_not_percent c e = grind (arith, nat_tests)

-- tokens of valid texts: a character that a normal form decodes can be written
pub decodable_char_is_printable : (set : TableSet) (c : ℕ) → is_decodable set c ≡ true
    → is_printable (Char c) ≡ true
unfolding is_decodable
decodable_char_is_printable set c e = ⊎_elim (λ u. let below = unreserved_is_ascii c u in
    scalar_but_percent_is_printable c (low_scalar c (omega arith))
    (unreserved_char_is_not_percent c u)) (λ p. let h = allowed_past_ascii_is_scalar set c p in
    scalar_but_percent_is_printable c h.1 (ne_eqb c 37 (λ q. omega arith)))
    (or_cases (is_unreserved c) (allows_past_ascii set c) e)

pub decodable_char_is_allowed : (set : TableSet) (c : ℕ) → IsSubset unreserved_set set
    → is_decodable set c ≡ true → allows set c ≡ true
unfolding is_decodable
decodable_char_is_allowed set c wide e =
    grind (arith, nat_tests, unreserved_is_ascii, allowed_past_ascii_is_scalar)

is_char_or_byte_value : Token → Bool
is_char_or_byte_value (Char c) = true
is_char_or_byte_value (Octet value) = ltb value 256

-- tokens of valid texts: the value of a hexadecimal digit is below 16
pub hexdigit_value_is_below_16 : (h : ℕ) → is_ascii_hexdigit h ≡ true → digit_value h < 16
hexdigit_value_is_below_16 h e = grind (arith, nat_tests)

octet_values_are_bytes_after_one_more_char : (c high low : ℕ) (rest : List ℕ)
    → list_all is_char_or_byte_value (tokens_from_chars rest) ≡ true
    → list_all is_char_or_byte_value (tokens_from_chars (high ∷ low ∷ rest)) ≡ true
    → list_all is_char_or_byte_value (tokens_from_chars (c ∷ high ∷ low ∷ rest)) ≡ true
unfolding tokens_from_chars is_char_or_byte_value is_pct_encoded
octet_values_are_bytes_after_one_more_char c high low rest suffix next = ⊎_elim (λ e. let p =
    and_parts (is_ascii_hexdigit high) (is_ascii_hexdigit low) (and_parts (eqb c 37) _ e).1 in
    let h = hexdigit_value_is_below_16 high p.0 in
    let l = hexdigit_value_is_below_16 low p.1 in
    rw e (and_from _ _ (lt-ltb (16 * digit_value high + digit_value low) 256 (omega arith)) suffix))
    (λ e. rw e next) (cases_Bool (is_pct_encoded c high low))

octet_values_are_bytes : (cs : List ℕ) → list_all is_char_or_byte_value (tokens_from_chars cs)
    ≡ true
unfolding tokens_from_chars is_char_or_byte_value
octet_values_are_bytes [] = refl
octet_values_are_bytes (c ∷ []) = refl
octet_values_are_bytes (c ∷ d ∷ []) = refl
octet_values_are_bytes (c ∷ high ∷ low ∷ rest) = octet_values_are_bytes_after_one_more_char
    c high low rest (octet_values_are_bytes rest) (octet_values_are_bytes (high ∷ low ∷ rest))

-- tokens of valid texts: one that a set allows can be written
allowed_token_is_printable : (set : TableSet) (t : Token) → LacksPercent set
    → allows_token set t ≡ true → is_char_or_byte_value t ≡ true → is_printable t ≡ true
unfolding is_char_or_byte_value
allowed_token_is_printable set (Char c) lacks e b = allowed_char_is_printable set c lacks e
allowed_token_is_printable set (Octet value) lacks e b = b

-- tokens of valid texts: those that a set allows can be written
allowed_tokens_are_printable : (set : TableSet) (ts : List Token) → LacksPercent set
    → list_all (allows_token set) ts ≡ true → list_all is_char_or_byte_value ts ≡ true
    → list_all is_printable ts ≡ true
allowed_tokens_are_printable set [] lacks e b = refl
allowed_tokens_are_printable set (t ∷ ts) lacks e b =
    let p = and_parts (allows_token set t) _ e in
    let q = and_parts (is_char_or_byte_value t) _ b in
    and_from _ _ (allowed_token_is_printable set t lacks p.0 q.0)
    (allowed_tokens_are_printable set ts lacks p.1 q.1)

-- tokens of valid texts: those of a text that a set without `%` allows can be written
pub valid_text_has_printable_tokens : (set : TableSet) (text : List ℕ) → LacksPercent set
    → IsValidFor set text → list_all is_printable (tokens text) ≡ true
unfolding is_valid_for
valid_text_has_printable_tokens set text lacks valid =
    allowed_tokens_are_printable set (tokens text) lacks valid (octet_values_are_bytes (chars text))

lowered_token_is_allowed : (set : TableSet) (t : Token) → IsSubset unreserved_set set
    → allows_token set t ≡ true → allows_token set (lower_token t) ≡ true
lowered_token_is_allowed set (Octet value) wide e = e
lowered_token_is_allowed set (Char c) wide e = grind (arith, nat_tests, unreserved_is_ascii)

lowered_tokens_pass_kept_test : (test : Token → Bool)
    → ((t : Token) → test t ≡ true → test (lower_token t) ≡ true)
    → (ts : List Token) → list_all test ts ≡ true → list_all test (map lower_token ts) ≡ true
lowered_tokens_pass_kept_test test keeps [] e = refl
lowered_tokens_pass_kept_test test keeps (t ∷ ts) e = let p = and_parts (test t) _ e in
    and_from _ _ (keeps t p.0) (lowered_tokens_pass_kept_test test keeps ts p.1)

-- tokens of valid texts: tokens that can be written can be in lower case
pub lowered_tokens_are_printable : (ts : List Token) → list_all is_printable ts ≡ true
    → list_all is_printable (map lower_token ts) ≡ true
lowered_tokens_are_printable ts e = grind (arith, lowered_tokens_pass_kept_test, nat_tests)

-- tokens of valid texts: tokens that a set allows are allowed
-- in lower case, if it has the unreserved characters
pub lowered_tokens_are_allowed : (set : TableSet) (ts : List Token) → IsSubset unreserved_set set
    → list_all (allows_token set) ts ≡ true
    → list_all (allows_token set) (map lower_token ts) ≡ true
lowered_tokens_are_allowed set ts wide e = lowered_tokens_pass_kept_test (allows_token set)
    (λ t h. lowered_token_is_allowed set t wide h) ts e

-- tokens of valid texts: lower case twice is lower case once
pub lowering_tokens_is_idempotent : (ts : List Token) → map lower_token (map lower_token ts)
    ≡ map lower_token ts
lowering_tokens_is_idempotent [] = refl
lowering_tokens_is_idempotent (Char c ∷ ts) =
    grind (arith, nat_tests, lowercase-lowercase, lowering_tokens_is_idempotent ts)
lowering_tokens_is_idempotent (Octet value ∷ ts) = ap (λ x. Octet value ∷ x)
    (lowering_tokens_is_idempotent ts)
