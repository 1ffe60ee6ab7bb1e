-- Texts without octets and without characters past ASCII.
use Rattle.uri_parts.proofs.Common.{◌≡◌, ℕ, Bool, false, ltb, List, [], ◌∷◌, refl, ap, ◌∙◌, ◌&&◌, arith, IsUtf8, list_all, nat_tests, characters_only, allows_past_ascii, is_valid_for}
use Rattle.uri_pct.proofs.Offered.{valid_from, validity_by_first_byte, validity_of_tokens_is_validity_of_bytes, ascii_first_byte_is_allowed_iff_in_set, first_byte_past_ascii_is_allowed_by_its_char}

-- sets of a kind, ASCII alone: the byte is an ASCII character that passes the test
abbrev pub is_ascii_in : (ℕ → Bool) → ℕ → Bool
is_ascii_in test c = ltb c 128 && test c

-- sets of a kind, ASCII alone: a text is valid if its first byte is in the set, and the rest valid
ascii-validity-byte-by-byte : (test : ℕ → Bool) (b : ℕ) (bs : List ℕ)
    → valid_from (characters_only test) 0 (b ∷ bs)
    ≡ (is_ascii_in test b && valid_from (characters_only test) 0 bs)
unfolding allows_past_ascii
ascii-validity-byte-by-byte test b bs = grind (
  arith,
  nat_tests,
  validity_by_first_byte,
  valid_from,
  ascii_first_byte_is_allowed_iff_in_set,
  first_byte_past_ascii_is_allowed_by_its_char,
)

-- sets of a kind, ASCII alone: a text is valid exactly if each byte is in the set
ascii-validity-is-test-of-all-bytes : (test : ℕ → Bool) (bs : List ℕ)
    → valid_from (characters_only test) 0 bs ≡ list_all (is_ascii_in test) bs
unfolding valid_from
ascii-validity-is-test-of-all-bytes test [] = refl
ascii-validity-is-test-of-all-bytes test (b ∷ bs) = ascii-validity-byte-by-byte test b bs
    ∙ ap (λ t. is_ascii_in test b && t) (ascii-validity-is-test-of-all-bytes test bs)

-- sets of a kind, ASCII alone: a text is valid exactly if each of its characters passes the test
pub valid_ascii_text : (test : ℕ → Bool) → test 37 ≡ false → (text : List ℕ) → IsUtf8 text
    → is_valid_for (characters_only test) text ≡ list_all (is_ascii_in test) text
valid_ascii_text test lacks text u = validity_of_tokens_is_validity_of_bytes
    (characters_only test) lacks text u ∙ ascii-validity-is-test-of-all-bytes test text
