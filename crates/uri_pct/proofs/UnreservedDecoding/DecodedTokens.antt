-- What decoding unreserved octets keeps: the bytes, what the set allows, and what is on either side
-- of a character.
use Rattle.uri_pct.proofs.Common.{◌≡◌, ℕ, Bool, true, false, List, [], ◌∷◌, ◌++◌, map, refl, sym, ap, ◌∙◌, ◌&&◌, append_assoc, arith, encode_utf8, IsScalar, list_all, list_any, flat_map, All, append-nil, map-append, flat_map-append, list_all-append, All-head, All-tail, and_parts, and_from, TableSet, LacksPercent, IsSubset, unreserved_set, Token, Char, Octet, tokens, bytes_decoded_from, bytes_of_one_token, print, allows_token, is_valid_for, IsValidFor, Piece, WellFormed, IllFormed, piece_bytes, bytes_of_pieces, utf8_pieces, IsOfCharacter, is_printable, is_decodable, decode_piece, decode_run, decode_after_run, decode_tokens, is_literal_formatting, encode_formatting, decode_unreserved, nat_tests}
use Rattle.uri_pct.proofs.Unicode.Pieces.{bytes_of_utf8_pieces_are_the_bytes}
use Rattle.uri_pct.proofs.Unicode.CharacterPieces.{utf8_pieces-are-of-characters, char_separates_utf8_pieces, char_of_utf8_is_the_char}
use Rattle.uri_pct.proofs.EncodedTexts.EncodedTokens.{octets_of_bytes_are_printable, utf8_bytes_are_eight_bit}
use Rattle.uri_pct.proofs.UnreservedDecoding.Printing.{printed_tokens_parse_to_themselves, printed_tokens_are_valid_iff_allowed}
use Rattle.uri_pct.proofs.ValidTexts.Allowed.{decodable_char_is_printable, decodable_char_is_allowed, valid_text_has_printable_tokens}
use Rattle.uri_pct.proofs.UnreservedDecoding.Formatting.{never_literal_char_is_scalar_past_ascii, never_literal_char_is_decodable, encode_formatting_keeps_bytes, encode_formatting_keeps_tokens_printable, encode_formatting_keeps_tokens_allowed}
use Rattle.uri_pct.proofs.UnreservedDecoding.Formatting as Formatting
use Rattle.uri_pct.proofs.EncodedTexts.Encodings.{octets_decode_to_their_bytes}

decoded_pieces_keep_their_bytes : (set : TableSet) (ps : List Piece) → All IsOfCharacter ps
    → bytes_decoded_from (flat_map (decode_piece set) ps) ≡ bytes_of_pieces ps
decoded_pieces_keep_their_bytes set [] h = refl
decoded_pieces_keep_their_bytes set (p ∷ ps) h =
    grind (
      arith,
      decoded_pieces_keep_their_bytes set ps (All-tail IsOfCharacter p ps h),
      flat_map-append,
      octets_decode_to_their_bytes,
      All-head,
    )

decode_run_keeps_bytes : (set : TableSet) (run : List ℕ)
    → bytes_decoded_from (decode_run set run) ≡ run
unfolding decode_run
decode_run_keeps_bytes set run = decoded_pieces_keep_their_bytes set
    (utf8_pieces run) (utf8_pieces-are-of-characters run) ∙ bytes_of_utf8_pieces_are_the_bytes run

decode_after_run_keeps_bytes : (set : TableSet) (run : List ℕ) (ts : List Token)
    → bytes_decoded_from (decode_after_run set run ts) ≡ run ++ bytes_decoded_from ts
unfolding decode_after_run
decode_after_run_keeps_bytes set run [] = decode_run_keeps_bytes set run ∙ sym (append-nil run)
decode_after_run_keeps_bytes set run (Octet value ∷ ts) =
    grind (arith, nat_tests, append_assoc, decode_after_run_keeps_bytes set (run ++ value ∷ []) ts)
decode_after_run_keeps_bytes set run (Char c ∷ ts) =
    flat_map-append bytes_of_one_token (decode_run set run) (Char c ∷ decode_after_run set [] ts)
    ∙ ap (λ x. x ++ (encode_utf8 c ++ bytes_decoded_from (decode_after_run set [] ts)))
    (decode_run_keeps_bytes set run)
    ∙ ap (λ x. run ++ (encode_utf8 c ++ x)) (decode_after_run_keeps_bytes set [] ts)

-- unreserved octets: decoding unreserved octets keeps the bytes that a text decodes to
pub decode_unreserved_keeps_bytes : (set : TableSet) (text : List ℕ)
    → bytes_decoded_from (decode_unreserved set text) ≡ bytes_decoded_from (tokens text)
decode_unreserved_keeps_bytes set text = encode_formatting_keeps_bytes set
    (decode_tokens set (tokens text)) ∙ decode_after_run_keeps_bytes set [] (tokens text)

abbrev PassesDecodable : (Token → Bool) → TableSet → Type 0
PassesDecodable test set = (c : ℕ) → is_decodable set c ≡ true → test (Char c) ≡ true

test_holds_of_joined_lists : (test : Token → Bool) (xs ys : List Token) → list_all test xs ≡ true
    → list_all test ys ≡ true → list_all test (xs ++ ys) ≡ true
test_holds_of_joined_lists test xs ys e f = list_all-append test xs ys ∙ and_from _ _ e f

-- general fact on lists of tokens, for unreserved octets: both pass a test that they pass joined
test_holds_of_both_lists : (test : Token → Bool) (xs ys : List Token)
    → list_all test (xs ++ ys) ≡ true → (list_all test xs ≡ true) × (list_all test ys ≡ true)
test_holds_of_both_lists test xs ys e = and_parts (list_all test xs) (list_all test ys)
    (sym (list_all-append test xs ys) ∙ e)

decoded_piece_passes_test : (test : Token → Bool) (set : TableSet) (p : Piece)
    → PassesDecodable test set
    → list_all test (map Octet (piece_bytes p)) ≡ true → list_all test (decode_piece set p) ≡ true
decoded_piece_passes_test test set (IllFormed bytes) h e = e
decoded_piece_passes_test test set (WellFormed bytes) h e = grind (arith, nat_tests)

decoded_pieces_pass_test : (test : Token → Bool) (set : TableSet) (ps : List Piece)
    → PassesDecodable test set → list_all test (map Octet (bytes_of_pieces ps)) ≡ true
    → list_all test (flat_map (decode_piece set) ps) ≡ true
decoded_pieces_pass_test test set [] h e = refl
decoded_pieces_pass_test test set (p ∷ ps) h e =
    let parts = test_holds_of_both_lists test (map Octet (piece_bytes p))
    (map Octet (bytes_of_pieces ps))
    (ap (list_all test) (sym (map-append Octet (piece_bytes p) (bytes_of_pieces ps))) ∙ e) in
    test_holds_of_joined_lists test (decode_piece set p) (flat_map (decode_piece set) ps)
    (decoded_piece_passes_test test set p h parts.0)
    (decoded_pieces_pass_test test set ps h parts.1)

decoded_run_passes_test : (test : Token → Bool) (set : TableSet) (run : List ℕ)
    → PassesDecodable test set
    → list_all test (map Octet run) ≡ true → list_all test (decode_run set run) ≡ true
unfolding decode_run
decoded_run_passes_test test set run h e = decoded_pieces_pass_test test set (utf8_pieces run) h
    (ap (λ x. list_all test (map Octet x)) (bytes_of_utf8_pieces_are_the_bytes run) ∙ e)

-- unreserved octets: a test that holds of tokens holds of the decoded ones,
-- if decodable characters pass it; run: octets before them
tokens_decoded_after_run_pass_test : (test : Token → Bool) (set : TableSet) (run : List ℕ)
    (ts : List Token) → PassesDecodable test set → list_all test (map Octet run) ≡ true
    → list_all test ts ≡ true → list_all test (decode_after_run set run ts) ≡ true
unfolding decode_after_run
tokens_decoded_after_run_pass_test test set run [] h e f = decoded_run_passes_test test set run h e
tokens_decoded_after_run_pass_test test set run (Octet value ∷ ts) h e f =
    let p = and_parts (test (Octet value)) _ f in
    tokens_decoded_after_run_pass_test test set (run ++ value ∷ []) ts h
    (ap (list_all test) (map-append Octet run (value ∷ [])) ∙ test_holds_of_joined_lists test
    (map Octet run) (Octet value ∷ []) e (and_from _ true p.0 refl)) p.1
tokens_decoded_after_run_pass_test test set run (Char c ∷ ts) h e f =
    let p = and_parts (test (Char c)) _ f in
    test_holds_of_joined_lists test (decode_run set run) (Char c ∷ decode_after_run set [] ts)
    (decoded_run_passes_test test set run h e)
    (and_from _ _ p.0 (tokens_decoded_after_run_pass_test test set [] ts h refl p.1))

-- unreserved octets: decoded tokens can be written
pub decode_tokens_keeps_tokens_printable : (set : TableSet) (ts : List Token)
    → list_all is_printable ts ≡ true → list_all is_printable (decode_tokens set ts) ≡ true
decode_tokens_keeps_tokens_printable set ts e = tokens_decoded_after_run_pass_test
    is_printable set [] ts (λ c h. decodable_char_is_printable set c h) refl e

-- unreserved octets: decoding the unreserved octets of a text leaves tokens that can be written
pub decode_unreserved_keeps_tokens_printable : (set : TableSet) (text : List ℕ)
    → list_all is_printable (tokens text) ≡ true
    → list_all is_printable (decode_unreserved set text) ≡ true
decode_unreserved_keeps_tokens_printable set text e = encode_formatting_keeps_tokens_printable set
    (decode_tokens set (tokens text)) (decode_tokens_keeps_tokens_printable set (tokens text) e)

-- unreserved octets: if the set allows a text, it allows the decoded tokens
pub decode_unreserved_keeps_tokens_allowed : (set : TableSet) (text : List ℕ)
    → IsSubset unreserved_set set
    → IsValidFor set text → list_all (allows_token set) (decode_unreserved set text) ≡ true
unfolding is_valid_for
decode_unreserved_keeps_tokens_allowed set text wide valid =
    encode_formatting_keeps_tokens_allowed set (decode_tokens set (tokens text))
    (tokens_decoded_after_run_pass_test (allows_token set) set [] (tokens text)
    (λ c h. decodable_char_is_allowed set c wide h) refl valid)

-- unreserved octets: if the set allows a text, the decoded text is valid for it
pub printed_decode_unreserved_stays_valid : (set : TableSet) (text : List ℕ) → LacksPercent set
    → IsSubset unreserved_set set → IsValidFor set text
    → IsValidFor set (print (decode_unreserved set text))
printed_decode_unreserved_stays_valid set text lacks wide valid =
    printed_tokens_are_valid_iff_allowed set (decode_unreserved set text)
    (decode_unreserved_keeps_tokens_printable set text
    (valid_text_has_printable_tokens set text lacks valid))
    ∙ decode_unreserved_keeps_tokens_allowed set text wide valid

char_separates_decoding_after_run : (set : TableSet) (run : List ℕ)
    (ts : List Token) (c : ℕ) (us : List Token) → decode_after_run set run (ts ++ Char c ∷ us)
    ≡ decode_after_run set run ts ++ Char c ∷ decode_tokens set us
unfolding decode_after_run
char_separates_decoding_after_run set run [] c us = refl
char_separates_decoding_after_run set run (Octet value ∷ ts) c us =
    char_separates_decoding_after_run set (run ++ value ∷ []) ts c us
char_separates_decoding_after_run set run (Char d ∷ ts) c us =
    grind (arith, nat_tests, append_assoc, char_separates_decoding_after_run set [] ts c us)

-- unreserved octets: a literal character parts the tokens before
-- and after it, which are decoded each by themselves
pub char_separates_decoded_tokens : (set : TableSet) (ts : List Token) (c : ℕ) (us : List Token)
    → decode_tokens set (ts ++ Char c ∷ us) ≡ decode_tokens set ts ++ Char c ∷ decode_tokens set us
char_separates_decoded_tokens set ts c us = char_separates_decoding_after_run set [] ts c us

decodable_char_octets_split_run : (set : TableSet) (run : List ℕ) (c : ℕ) (more : List ℕ)
    → IsScalar c → is_decodable set c ≡ true → decode_run set (run ++ (encode_utf8 c ++ more))
    ≡ decode_run set run ++ Char c ∷ decode_run set more
unfolding decode_run
decodable_char_octets_split_run set run c more scalar decodable =
    grind (arith, nat_tests, char_of_utf8_is_the_char, char_separates_utf8_pieces, flat_map-append)

-- unreserved octets: in a run, the octets
-- of a decodable character decode to it, and it ends the run
pub decodable_char_octets_split_decoding :
    (set : TableSet) (run : List ℕ) (c : ℕ) (more : List ℕ) (ts : List Token) → IsScalar c
    → is_decodable set c ≡ true → decode_after_run set (run ++ (encode_utf8 c ++ more)) ts
    ≡ decode_run set run ++ Char c ∷ decode_after_run set more ts
unfolding decode_after_run
decodable_char_octets_split_decoding set run c more [] scalar decodable =
    decodable_char_octets_split_run set run c more scalar decodable
decodable_char_octets_split_decoding set run c more (Octet value ∷ ts) scalar decodable =
    ap (λ r. decode_after_run set r ts) (append_assoc run (encode_utf8 c ++ more) (value ∷ [])
    ∙ ap (λ x. run ++ x) (append_assoc (encode_utf8 c) more (value ∷ [])))
    ∙ decodable_char_octets_split_decoding set run c (more ++ value ∷ []) ts scalar decodable
decodable_char_octets_split_decoding set run c more (Char d ∷ ts) scalar decodable =
    grind (arith, nat_tests, decodable_char_octets_split_run, append_assoc)

-- unreserved octets: octets (more) before tokens lengthen the run of octets before them
pub octets_before_tokens_lengthen_run : (set : TableSet) (run more : List ℕ) (ts : List Token)
    → decode_after_run set run (map Octet more ++ ts) ≡ decode_after_run set (run ++ more) ts
unfolding decode_after_run
octets_before_tokens_lengthen_run set run [] ts = ap (λ r. decode_after_run set r ts)
    (sym (append-nil run))
octets_before_tokens_lengthen_run set run (b ∷ more) ts = octets_before_tokens_lengthen_run set (run
    ++ b ∷ []) more ts ∙ ap (λ r. decode_after_run set r ts) (append_assoc run (b ∷ []) more)

decodable_char_octets_decode_as_char_after_run :
    (set : TableSet) (run : List ℕ) (ts : List Token) (c : ℕ) (us : List Token) → IsScalar c
    → is_decodable set c ≡ true → decode_after_run set run (ts ++ (map Octet (encode_utf8 c) ++ us))
    ≡ decode_after_run set run (ts ++ Char c ∷ us)
unfolding decode_after_run
decodable_char_octets_decode_as_char_after_run set run [] c us scalar decodable =
    octets_before_tokens_lengthen_run set run (encode_utf8 c) us
    ∙ ap (λ x. decode_after_run set (run ++ x) us) (sym (append-nil (encode_utf8 c)))
    ∙ decodable_char_octets_split_decoding set run c [] us scalar decodable
decodable_char_octets_decode_as_char_after_run set run (Octet value ∷ ts) c us scalar decodable =
    decodable_char_octets_decode_as_char_after_run set (run ++ value ∷ []) ts c us scalar decodable
decodable_char_octets_decode_as_char_after_run set run (Char d ∷ ts) c us scalar decodable =
    ap (λ x. decode_run set run ++ Char d ∷ x)
    (decodable_char_octets_decode_as_char_after_run set [] ts c us scalar decodable)

-- unreserved octets: the octets of a decodable character decode to the character, in any context
pub decodable_char_octets_decode_as_char : (set : TableSet) (ts : List Token)
    (c : ℕ) (us : List Token) → IsScalar c → is_decodable set c ≡ true → decode_tokens set (ts
    ++ (map Octet (encode_utf8 c) ++ us)) ≡ decode_tokens set (ts ++ Char c ∷ us)
decodable_char_octets_decode_as_char set ts c us scalar decodable =
    decodable_char_octets_decode_as_char_after_run set [] ts c us scalar decodable

pub octets_of_formatting_chars_decode_as_chars : (set : TableSet) (before ts : List Token)
    → decode_tokens set (before ++ encode_formatting set ts) ≡ decode_tokens set (before ++ ts)
octets_of_formatting_chars_decode_as_chars set before [] = refl
octets_of_formatting_chars_decode_as_chars set before (Octet value ∷ ts) =
    ap (decode_tokens set) (sym (append_assoc before (Octet value ∷ []) (encode_formatting set ts)))
    ∙ octets_of_formatting_chars_decode_as_chars set (before ++ Octet value ∷ []) ts
    ∙ ap (decode_tokens set) (append_assoc before (Octet value ∷ []) ts)
octets_of_formatting_chars_decode_as_chars set before (Char c ∷ ts) =
    grind (
      arith,
      append_assoc,
      decodable_char_octets_decode_as_char,
      never_literal_char_is_scalar_past_ascii,
      never_literal_char_is_decodable,
      octets_of_formatting_chars_decode_as_chars set (before ++ Char c ∷ []) ts,
    )

pub printed_octets_of_decodable_char_decode_as_char :
    (set : TableSet) (before : List Token) (c : ℕ) (suffix : List Token) → IsScalar c
    → is_decodable set c ≡ true → list_all is_printable (before ++ Char c ∷ suffix) ≡ true
    → decode_unreserved set (print (before ++ (map Octet (encode_utf8 c) ++ suffix)))
    ≡ decode_unreserved set (print (before ++ Char c ∷ suffix))
printed_octets_of_decodable_char_decode_as_char set before c suffix scalar decodable e =
    grind (
      arith,
      test_holds_of_both_lists,
      test_holds_of_joined_lists,
      octets_of_bytes_are_printable,
      utf8_bytes_are_eight_bit,
      printed_tokens_parse_to_themselves,
      decodable_char_octets_decode_as_char,
    )

pub decode_unreserved_leaves_no_literal_formatting : (set : TableSet) (text : List ℕ) → (set.ucschar
    && set.pct_encoded) ≡ true → list_any is_literal_formatting (decode_unreserved set text) ≡ false
decode_unreserved_leaves_no_literal_formatting set text e =
    Formatting.encode_formatting_leaves_no_literal_formatting set (decode_tokens set (tokens text))
    e
