-- The text of each octet, entry by entry.
use Rattle.uri_pct.proofs.Common.{◌≡◌, ℕ, zero, suc, ◌*◌, ◌<◌, Bool, true, ◌&&◌, ltb, List, [], ◌∷◌, take, drop, IsAscii, refl, bytes_eq, Decides-below_and, Decides-by_and, Decides-ltb, IsAscii-from_all, OCTETS, Octet, text_of_token}
use Rattle.std.proofs.lemmas.Slice.Eq.{bytes_eq-Decides}

-- decoding, the table of octets: its three bytes for the byte b
abbrev octet_table_entry : ℕ → List ℕ
octet_table_entry b = take 3 (drop (b * 3) OCTETS.now)

-- decoding, the table of octets: it has the `%XX` of each byte below a number
abbrev octet_entries_match_below : ℕ → Bool
octet_entries_match_below zero = true
octet_entries_match_below (suc n) = bytes_eq (octet_table_entry n) (text_of_token (Octet n))
    && octet_entries_match_below n

-- decoding, the table of octets: the three bytes at three times b are the `%XX` of b
pub octet_entry_is_printed_octet : (b : ℕ) → b < 256 → take 3 (drop (b * 3) OCTETS.now)
    ≡ text_of_token (Octet b)
octet_entry_is_printed_octet =
    (Decides-below_and (λ b. bytes_eq (octet_table_entry b) (text_of_token (Octet b)))
    (λ b. octet_table_entry b ≡ text_of_token (Octet b)) octet_entries_match_below
    (λ b. bytes_eq-Decides _ _) refl (λ _. refl) 256).0 refl

abbrev are_all_ascii : List ℕ → Bool
are_all_ascii [] = true
are_all_ascii (b ∷ bs) = ltb b 128 && are_all_ascii bs

-- decoding, the table of octets: the `%XX` of the 256 bytes are ASCII
pub octet_table_is_ascii : IsAscii OCTETS.now
octet_table_is_ascii = IsAscii-from_all OCTETS.now ((Decides-by_and (λ b. ltb b 128)
    (λ b. b < 128) are_all_ascii (λ b. Decides-ltb b 128) refl (λ _ _. refl) OCTETS.now).0 refl)
