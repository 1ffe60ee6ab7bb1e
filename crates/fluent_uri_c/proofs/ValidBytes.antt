-- Bytes that are UTF-8 have no error.
use Rattle.fluent_uri_c.proofs.Common.{◌≡◌, ℕ, List, arith, None, IsTrue, IsUtf8, cond-false, le-ltb, utf8_valid_len-IsUtf8, is_possible_length, utf8_error}

-- exports for C: UTF-8 of a possible length has no index of ill-formed bytes
pub utf8_error-of-utf8 : (bytes : List ℕ) → IsUtf8 bytes → IsTrue (is_possible_length bytes)
    → None ≡ utf8_error bytes
utf8_error-of-utf8 bytes utf8 possible = grind (arith, utf8_valid_len-IsUtf8, cond-false, le-ltb)
