-- What some texts and bytes are encoded as, by computation.
use Rattle.uri_pct.proofs.Common.{◌≡◌, [], ◌∷◌, refl, codes, encode_utf8, chars, allows_past_ascii, is_ucschar, is_iprivate, data_set, idata_set, path_set, print, pieces_from, following_ranges, encode_text, encode_bytes}

-- examples of encoding, by computation: `¡Olé!` as data of a URI and of an IRI
examples_of_text_encoded_as_data : (print (encode_text data_set
    (0xC2 ∷ 0xA1 ∷ 0x4F ∷ 0x6C ∷ 0xC3 ∷ 0xA9 ∷ 0x21 ∷ [])) ≡ codes "%C2%A1Ol%C3%A9%21")
    × (print (encode_text idata_set (0xC3 ∷ 0xA9 ∷ 0x21 ∷ [])) ≡ 0xC3 ∷ 0xA9 ∷ codes "%21")
unfolding chars encode_utf8 allows_past_ascii is_ucschar is_iprivate
examples_of_text_encoded_as_data = (refl, refl)

-- examples of encoding, by computation: bytes that are not UTF-8 in a path, and a `%`
examples_of_bytes_encoded_in_path : (print (encode_bytes path_set (0x44 ∷ 0xFC ∷ 0x72 ∷ 0x73 ∷ 0x74
    ∷ [])) ≡ codes "D%FCrst") × (print (encode_bytes path_set (codes "/%41?")) ≡ codes "/%2541%3F")
unfolding chars encode_utf8 pieces_from following_ranges allows_past_ascii
examples_of_bytes_encoded_in_path = (refl, refl)
