-- The bytes of one character in UTF-8.
use Rattle.std.proofs.lemmas.Grind.{common_steps}
use Rattle.uri_pct.proofs.Common.{◌≡◌, ℕ, ◌+◌, ◌/◌, ◌%◌, ◌<◌, ◌≤◌, Bool, true, List, [], ◌∷◌, ◌++◌, length, get_or, refl, sym, ap, ◌∙◌, arith, ◌&&◌, ⊎_elim, slice_index, nat_le, list_all, is_ascii_hexdigit, encode_utf8, encode_utf8_all, all_scalars, continuation_len, chars-encodes, encode_ascii, cases_lt, cond-true, cond-false, and_left, and_from, lt-ltb, le-ltb, nat_tests, begins_with_hex_digits, first_char}
use Rattle.uri_pct.proofs.TableSets.Constants.{past_ascii_is_no_hexdigit}

-- UTF-8: the byte is not ASCII
abbrev pub is_no_ascii_byte : ℕ → Bool
is_no_ascii_byte b = nat_le 128 b

-- UTF-8: the first byte of a character says how many follow, and these are not ASCII
pub record HasEncoding (c : ℕ) : Type 0 where
  pub first : ℕ
  pub more : List ℕ
  pub joined : encode_utf8 c ≡ first ∷ more
  pub len : continuation_len first ≡ length more
  pub high : list_all is_no_ascii_byte more ≡ true

-- UTF-8: a byte from C0 (192) to DF is followed by one that continues the character
lead_from_192_has_one_continuation : (b : ℕ) → 192 ≤ b → b < 224 → continuation_len b ≡ 1
lead_from_192_has_one_continuation b h l = grind (arith, nat_tests)

-- UTF-8: a byte from E0 (224) to EF is followed by two that continue the character
lead_from_224_has_two_continuations : (b : ℕ) → 224 ≤ b → b < 240 → continuation_len b ≡ 2
lead_from_224_has_two_continuations b h l = grind (arith, nat_tests)

-- UTF-8: a byte from F0 (240) on is followed by three that continue the character
lead_from_240_has_three_continuations : (b : ℕ) → 240 ≤ b → continuation_len b ≡ 3
lead_from_240_has_three_continuations b h = grind (arith, nat_tests)

byte_from_128_is_no_ascii : (n : ℕ) → is_no_ascii_byte (128 + n) ≡ true
byte_from_128_is_no_ascii n = grind (arith, nat_tests)

one_byte_from_128_is_no_ascii : (x : ℕ) → list_all is_no_ascii_byte ((128 + x) ∷ []) ≡ true
one_byte_from_128_is_no_ascii x = and_from _ _ (byte_from_128_is_no_ascii x) refl

two_bytes_from_128_are_no_ascii : (x y : ℕ) → list_all is_no_ascii_byte ((128 + x) ∷ (128 + y) ∷ [])
    ≡ true
two_bytes_from_128_are_no_ascii x y = and_from _ _ (byte_from_128_is_no_ascii x)
    (one_byte_from_128_is_no_ascii y)

-- UTF-8: the bytes of a character are those of the one of its four forms that it is in
pub char_has_encoding : (c : ℕ) → HasEncoding c
unfolding encode_utf8
char_has_encoding c = ⊎_elim (λ h. let e = lt-ltb c 128 h in
    record {
      first = c;
      more = [];
      joined = encode_ascii c h;
      len = cond-true _ _ _ e;
      high = refl;
    }) (λ h. let e = le-ltb c 128 h in ⊎_elim (λ k. record {
      first = 192 + c / 64;
      more = (128 + c % 64) ∷ [];
      joined = cond-false _ _ _ e ∙ cond-true _ _ _ (lt-ltb c 2048 k);
      len = lead_from_192_has_one_continuation (192 + c / 64) (omega arith) (omega arith);
      high = one_byte_from_128_is_no_ascii _;
    }) (λ k. ⊎_elim (λ m. record {
      first = 224 + c / 4096;
      more = (128 + c / 64 % 64) ∷ (128 + c % 64) ∷ [];
      joined = cond-false _ _ _ e
          ∙ cond-false _ _ _ (le-ltb c 2048 k) ∙ cond-true _ _ _ (lt-ltb c 65536 m);
      len = lead_from_224_has_two_continuations (224 + c / 4096) (omega arith) (omega arith);
      high = two_bytes_from_128_are_no_ascii (c / 64 % 64) (c % 64);
    }) (λ m. record {
      first = 240 + c / 262144;
      more = (128 + c / 4096 % 64) ∷ (128 + c / 64 % 64) ∷ (128 + c % 64) ∷ [];
      joined = cond-false _ _ _ e
          ∙ cond-false _ _ _ (le-ltb c 2048 k) ∙ cond-false _ _ _ (le-ltb c 65536 m);
      len = lead_from_240_has_three_continuations (240 + c / 262144) (omega arith);
      high = and_from _ _ (byte_from_128_is_no_ascii (c / 4096 % 64))
          (two_bytes_from_128_are_no_ascii (c / 64 % 64) (c % 64));
    }) (cases_lt c 65536)) (cases_lt c 2048)) (cases_lt c 128)

-- UTF-8: the first byte of a character past ASCII is past ASCII
pub char_past_ascii_begins_past_ascii : (c : ℕ) (rest : List ℕ) → 128 ≤ c
    → 128 ≤ get_or (encode_utf8 c ++ rest) 0 0
unfolding encode_utf8
char_past_ascii_begins_past_ascii c rest h = grind (arith, nat_tests)

pub first_of_encoded_chars_is_first_char : (c : ℕ) (cs : List ℕ) → all_scalars (c ∷ cs) ≡ true
    → first_char (encode_utf8_all (c ∷ cs)) ≡ c
unfolding first_char
first_of_encoded_chars_is_first_char c cs e = ap (λ xs. slice_index xs 0) (chars-encodes (c ∷ cs) e)

-- UTF-8: a hexadecimal digit is ASCII
pub hexdigit_is_ascii : (b : ℕ) → is_ascii_hexdigit b ≡ true → b < 128
hexdigit_is_ascii b e = grind (arith, nat_tests)

first_byte_is_hexdigit_iff_first_char_is : (cs : List ℕ)
    → is_ascii_hexdigit (get_or (encode_utf8_all cs) 0 0) ≡ is_ascii_hexdigit (get_or cs 0 0)
first_byte_is_hexdigit_iff_first_char_is [] = refl
first_byte_is_hexdigit_iff_first_char_is (c ∷ cs) =
    grind (arith, common_steps, past_ascii_is_no_hexdigit, char_past_ascii_begins_past_ascii)

-- UTF-8: characters begin with two hexadecimal digits exactly if their bytes do
pub encoded_chars_begin_with_same_hex_digits : (cs : List ℕ)
    → begins_with_hex_digits (encode_utf8_all cs) ≡ begins_with_hex_digits cs
unfolding begins_with_hex_digits
encoded_chars_begin_with_same_hex_digits [] = refl
encoded_chars_begin_with_same_hex_digits (c ∷ cs) = ⊎_elim (λ h. rw (encode_ascii c h)
    (ap (λ b. is_ascii_hexdigit c && b) (first_byte_is_hexdigit_iff_first_char_is cs)))
    (λ h. and_left _ _ (past_ascii_is_no_hexdigit _ (char_past_ascii_begins_past_ascii c
    (encode_utf8_all cs) h)) ∙ sym (and_left _ _ (past_ascii_is_no_hexdigit c h))) (cases_lt c 128)
