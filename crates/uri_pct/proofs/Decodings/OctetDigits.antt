-- An octet has the same value with digits of either case.
use Rattle.uri_pct.proofs.Common.{◌≡◌, ℕ, ◌/◌, ◌%◌, ◌<◌, Bool, List, ◌∷◌, ap, ◌∙◌, lit<, cond-true, and_parts, eqb-true, ltb-true, Octet, tokens, tokens_from_chars, is_pct_encoded}
use Rattle.std.specs.Fmt.{digit_glyph}
use Rattle.uri_pct.proofs.UnreservedDecoding.Printing.{octet_digits_are_hexadecimal}
use Rattle.uri_pct.proofs.ValidTexts.TokenCuts.{ascii_byte_is_first_of_chars}

-- decoding octets: a written octet is read back as a token, with digits of either case
pub printed_octet_is_first_token : (upper : Bool) (value : ℕ) (rest : List ℕ) → value < 256
    → tokens (37 ∷ digit_glyph upper (value / 16) ∷ digit_glyph upper (value % 16) ∷ rest)
    ≡ Octet value ∷ tokens rest
unfolding tokens_from_chars is_pct_encoded
printed_octet_is_first_token upper value rest small =
    let high = digit_glyph upper (value / 16) in
    let low = digit_glyph upper (value % 16) in
    let p = and_parts _ _ (octet_digits_are_hexadecimal upper value small) in
    let ascii = and_parts _ _ p.0 in
    let is = and_parts _ _ p.1 in
    ap tokens_from_chars (ascii_byte_is_first_of_chars 37 (high ∷ low ∷ rest) (lit< tt)
    ∙ ap (λ x. 37 ∷ x) (ascii_byte_is_first_of_chars high (low ∷ rest) (ltb-true _ 128 ascii.0)
    ∙ ap (λ x. high ∷ x) (ascii_byte_is_first_of_chars low rest (ltb-true _ 128 ascii.1))))
    ∙ cond-true _ _ _ is.0 ∙ ap (λ n. Octet n ∷ tokens rest) (eqb-true _ value is.1)
