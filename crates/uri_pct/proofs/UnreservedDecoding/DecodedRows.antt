-- The decoded forms of some texts, and their lossy texts, by computation.
use Rattle.uri_pct.proofs.Common.{◌≡◌, ℕ, true, List, [], ◌∷◌, ◌++◌, refl, map, codes, encode_utf8, repeat, chars, replacement_bytes, TableSet, userinfo_set, reg_name_set, path_set, query_set, fragment_set, allows_past_ascii, is_ucschar, is_iprivate, tokens, tokens_from_chars, is_pct_encoded, bytes_decoded_from, print, WellFormed, IllFormed, utf8_pieces, pieces_from, following_ranges, lossy_text, decode_unreserved, decode_octet, decode_after_run, decode_run, is_decodable, is_bidi_formatting, is_never_literal, lower_token}
use Rattle.uri_pct.proofs.UnreservedDecoding.Printing.{print_decoded}

iri_component_set : TableSet → TableSet
iri_component_set set = record set { ucschar = true }

-- examples of unreserved octets: the set of an IRI's query
iquery_set : TableSet
iquery_set = record query_set { ucschar = true; iprivate = true }

decoded_lower_text : TableSet → List ℕ → List ℕ
decoded_lower_text set text = print (map lower_token (decode_unreserved set text))

examples_of_decoded_uri_components : (print_decoded userinfo_set (codes "%55se%72") ≡ codes "User")
    × (decoded_lower_text reg_name_set (codes "EXamp%4ce%2ecom") ≡ codes "example.com")
    × (print_decoded path_set (codes "/%4b%2f") ≡ codes "/K%2F")
    × (print_decoded query_set (codes "%4c%2b") ≡ codes "L%2B")
    × (print_decoded fragment_set (codes "%24%4d") ≡ codes "%24M")
unfolding print_decoded decoded_lower_text chars encode_utf8 tokens_from_chars is_pct_encoded
    pieces_from following_ranges
    decode_after_run decode_run is_decodable is_bidi_formatting is_never_literal allows_past_ascii
examples_of_decoded_uri_components = (refl, refl, refl, refl, refl)

octets_past_ascii_are_unchanged_in_uri : (print_decoded path_set (codes "/%c3%a9%61")
    ≡ codes "/%C3%A9a") × (map decode_octet (tokens (codes "%c3%61%41"))
    ≡ decode_unreserved path_set (codes "%c3%61%41"))
unfolding print_decoded chars encode_utf8 tokens_from_chars is_pct_encoded pieces_from
    following_ranges decode_after_run decode_run
    is_decodable is_bidi_formatting is_never_literal allows_past_ascii
octets_past_ascii_are_unchanged_in_uri = (refl, refl)

-- examples of unreserved octets: a character between two
-- octets separates them, though together they would be `é`
char_between_octets_keeps_them_apart : (print_decoded (iri_component_set path_set)
    (codes "/%C3%41%A9%C3%A9") ≡ codes "/%C3A%A9" ++ encode_utf8 0xE9)
    × (print_decoded (iri_component_set path_set) (codes "/%C3A%A9" ++ encode_utf8 0xE9)
    ≡ codes "/%C3A%A9" ++ encode_utf8 0xE9)
unfolding print_decoded iri_component_set chars encode_utf8 tokens_from_chars is_pct_encoded
    pieces_from following_ranges decode_after_run
    decode_run is_decodable is_bidi_formatting is_never_literal allows_past_ascii is_ucschar
char_between_octets_keeps_them_apart = (refl, refl)

char_after_31_octets_is_decoded : print_decoded (iri_component_set path_set)
    (repeat 31 (codes "%61") ++ codes "%C3%A9") ≡ repeat 31 (codes "a") ++ encode_utf8 0xE9
unfolding print_decoded iri_component_set chars encode_utf8 tokens_from_chars is_pct_encoded
    pieces_from following_ranges decode_after_run
    decode_run is_decodable is_bidi_formatting is_never_literal allows_past_ascii is_ucschar
char_after_31_octets_is_decoded = refl

-- examples of unreserved octets: U+202E, a formatting character
-- of bidirectional text, as octets and as a character
bidi_override_becomes_octets : (print_decoded (iri_component_set path_set) (codes "/%e2%80%ae")
    ≡ codes "/%E2%80%AE") × (print_decoded (iri_component_set path_set) (codes "/"
    ++ encode_utf8 0x202E) ≡ codes "/%E2%80%AE")
unfolding print_decoded iri_component_set chars encode_utf8 tokens_from_chars is_pct_encoded
    pieces_from following_ranges decode_after_run
    decode_run is_decodable is_bidi_formatting is_never_literal allows_past_ascii is_ucschar
bidi_override_becomes_octets = (refl, refl)

-- examples of unreserved octets: U+200E between two octets separates them;
-- decoding again keeps them apart
formatting_char_keeps_octets_apart : (print_decoded (iri_component_set path_set) (codes "%C3"
    ++ encode_utf8 0x200E ++ codes "%A9") ≡ codes "%C3%E2%80%8E%A9")
    × (print_decoded (iri_component_set path_set) (codes "%C3%E2%80%8E%A9")
    ≡ codes "%C3%E2%80%8E%A9")
unfolding print_decoded iri_component_set chars encode_utf8 tokens_from_chars is_pct_encoded
    pieces_from following_ranges decode_after_run
    decode_run is_decodable is_bidi_formatting is_never_literal allows_past_ascii is_ucschar
formatting_char_keeps_octets_apart = (refl, refl)

-- example of unreserved octets: the octets of U+202A, a formatting character, are unchanged in
-- a query
bidi_embedding_in_query_is_unchanged : print_decoded iquery_set (codes "%E2%80%AA")
    ≡ codes "%E2%80%AA"
unfolding print_decoded iquery_set chars encode_utf8 tokens_from_chars is_pct_encoded pieces_from
    following_ranges
    decode_after_run decode_run is_decodable is_bidi_formatting is_never_literal allows_past_ascii
    is_ucschar is_iprivate
bidi_embedding_in_query_is_unchanged = refl

-- examples of unreserved octets: U+202F and U+200D, beside formatting characters, are decoded
neighbours_of_formatting_chars_are_decoded : (print_decoded (iri_component_set path_set)
    (codes "%E2%80%AF") ≡ encode_utf8 0x202F)
    × (print_decoded (iri_component_set path_set) (codes "%E2%80%8D") ≡ encode_utf8 0x200D)
unfolding print_decoded iri_component_set chars encode_utf8 tokens_from_chars is_pct_encoded
    pieces_from following_ranges decode_after_run
    decode_run is_decodable is_bidi_formatting is_never_literal allows_past_ascii is_ucschar
neighbours_of_formatting_chars_are_decoded = (refl, refl)

formatting_char_after_30_octets_is_unchanged : print_decoded (iri_component_set path_set)
    (repeat 30 (codes "%61") ++ codes "%E2%80%8F") ≡ repeat 30 (codes "a") ++ codes "%E2%80%8F"
unfolding print_decoded iri_component_set chars encode_utf8 tokens_from_chars is_pct_encoded
    pieces_from following_ranges decode_after_run
    decode_run is_decodable is_bidi_formatting is_never_literal allows_past_ascii is_ucschar
formatting_char_after_30_octets_is_unchanged = refl

private_use_is_decoded_in_query_only : (print_decoded iquery_set (codes "%EE%80%80")
    ≡ encode_utf8 0xE000)
    × (print_decoded (iri_component_set path_set) (codes "%EE%80%80") ≡ codes "%EE%80%80")
unfolding print_decoded iri_component_set iquery_set chars encode_utf8 tokens_from_chars
    is_pct_encoded pieces_from following_ranges
    decode_after_run decode_run is_decodable is_bidi_formatting is_never_literal allows_past_ascii
    is_ucschar is_iprivate
private_use_is_decoded_in_query_only = (refl, refl)

only_ascii_letters_are_lowered : (decoded_lower_text (iri_component_set reg_name_set)
    (codes "R%c3%89") ≡ codes "r" ++ encode_utf8 0xC9)
    × (decoded_lower_text (iri_component_set reg_name_set) (codes "%41%c3%89")
    ≡ codes "a" ++ encode_utf8 0xC9)
unfolding decoded_lower_text iri_component_set chars encode_utf8 tokens_from_chars is_pct_encoded
    pieces_from following_ranges
    decode_after_run decode_run is_decodable is_bidi_formatting is_never_literal allows_past_ascii
    is_ucschar
only_ascii_letters_are_lowered = (refl, refl)

example_of_ill_formed_octets : (bytes_decoded_from (tokens (codes "%F0%90%8Cx%80"))
    ≡ 0xF0 ∷ 0x90 ∷ 0x8C ∷ 0x78 ∷ 0x80 ∷ []) × (utf8_pieces (0xF0 ∷ 0x90 ∷ 0x8C ∷ 0x78 ∷ 0x80 ∷ [])
    ≡ IllFormed (0xF0 ∷ 0x90 ∷ 0x8C ∷ []) ∷ WellFormed (0x78 ∷ []) ∷ IllFormed (0x80 ∷ []) ∷ [])
    × (lossy_text (0xF0 ∷ 0x90 ∷ 0x8C ∷ 0x78 ∷ 0x80 ∷ [])
    ≡ replacement_bytes ++ codes "x" ++ replacement_bytes)
unfolding chars encode_utf8 tokens_from_chars is_pct_encoded pieces_from following_ranges
example_of_ill_formed_octets = (refl, refl, refl)

-- examples beside those of unreserved octets, lossy texts: a surrogate,
-- a prefix that `A` does not finish, a form too long, and one past the last plane
examples_of_lossy_text : (lossy_text (0xED ∷ 0xA0 ∷ 0x80 ∷ [])
    ≡ replacement_bytes ++ replacement_bytes ++ replacement_bytes)
    × (lossy_text (0xE2 ∷ 0x82 ∷ 0x41 ∷ []) ≡ replacement_bytes ++ codes "A")
    × (lossy_text (0xC0 ∷ 0x80 ∷ []) ≡ replacement_bytes ++ replacement_bytes)
    × (lossy_text (0xF4 ∷ 0x90 ∷ 0x80 ∷ 0x80 ∷ [])
    ≡ replacement_bytes ++ replacement_bytes ++ replacement_bytes ++ replacement_bytes)
    × (lossy_text (encode_utf8 0x5F20 ++ encode_utf8 0x4E09)
    ≡ encode_utf8 0x5F20 ++ encode_utf8 0x4E09)
unfolding encode_utf8 pieces_from following_ranges
examples_of_lossy_text = (refl, refl, refl, refl, refl)
