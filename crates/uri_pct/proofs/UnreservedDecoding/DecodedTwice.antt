-- Decoding a decoded text changes nothing, also if letters were lowered in between.
use native.Mathlib.Omega.{arith}
use Rattle.uri_pct.proofs.Common.{◌≡◌, ℕ, Bool, true, false, not, List, [], ◌∷◌, ◌++◌, map, refl, sym, ap, ◌∙◌, ⊎_elim, append_assoc, subst, list_all, flat_map, append-nil, map-append, flat_map-append, list_all-append, cases_Bool, cond-true, cond-false, and_parts, and_from, not-true, not-false, TableSet, Token, Char, Octet, tokens, print, Piece, WellFormed, IllFormed, char_of, piece_bytes, bytes_of_pieces, utf8_pieces, is_printable, is_decodable, decode_piece, decode_run, decode_after_run, decode_tokens, encode_formatting, decode_unreserved, lower_token}
use Rattle.uri_pct.proofs.Unicode.Pieces.{ArePiecesOfOwnBytes, utf8_pieces-are-of-own-bytes, prefix_of_pieces_is_of_own_bytes, tail_of_pieces_is_of_own_bytes}
use Rattle.uri_pct.proofs.UnreservedDecoding.Printing.{printed_tokens_parse_to_themselves}
use Rattle.uri_pct.proofs.ValidTexts.Allowed.{lowered_tokens_are_printable}
use Rattle.uri_pct.proofs.UnreservedDecoding.Formatting.{encode_formatting_commutes_with_lowering}
use Rattle.uri_pct.proofs.UnreservedDecoding.DecodedTokens as DecodedTokens

-- unreserved octets: no octet of a run decodes to a character
abbrev IsUnchangedRun : TableSet → List ℕ → Type 0
IsUnchangedRun set run = decode_run set run ≡ map Octet run

-- unreserved octets: no octet of the tokens decodes to a character, after a run of octets
abbrev IsDecoded : TableSet → List ℕ → List Token → Type 0
IsDecoded set run [] = IsUnchangedRun set run
IsDecoded set run (Octet value ∷ ts) = IsDecoded set (run ++ value ∷ []) ts
IsDecoded set run (Char c ∷ ts) = IsUnchangedRun set run × IsDecoded set [] ts

-- unreserved octets: tokens that are decoded already are unchanged, after an unchanged run
decoding_decoded_tokens_keeps_them : (set : TableSet) (run : List ℕ) (ts : List Token)
    → IsDecoded set run ts → decode_after_run set run ts ≡ map Octet run ++ ts
unfolding decode_after_run
decoding_decoded_tokens_keeps_them set run [] same = same ∙ sym (append-nil (map Octet run))
decoding_decoded_tokens_keeps_them set run (Octet value ∷ ts) same =
    decoding_decoded_tokens_keeps_them set (run ++ value ∷ []) ts same ∙ ap (λ x. x
    ++ ts) (map-append Octet run (value ∷ [])) ∙ append_assoc (map Octet run) (Octet value ∷ []) ts
decoding_decoded_tokens_keeps_them set run (Char c ∷ ts) same =
    ap (λ x. x ++ Char c ∷ decode_after_run set [] ts) same.0
    ∙ ap (λ x. map Octet run ++ Char c ∷ x) (decoding_decoded_tokens_keeps_them set [] ts same.1)

-- unreserved octets: octets (more) before decoded tokens stay octets,
-- if they do as the end of the run
octets_before_decoded_tokens_stay_decoded : (set : TableSet) (run more : List ℕ) (ts : List Token)
    → IsDecoded set (run ++ more) ts → IsDecoded set run (map Octet more ++ ts)
octets_before_decoded_tokens_stay_decoded set run [] ts h = subst (λ r. IsDecoded set r ts)
    (append-nil run) h
octets_before_decoded_tokens_stay_decoded set run (b ∷ more) ts h =
    octets_before_decoded_tokens_stay_decoded set (run ++ b ∷ []) more ts
    (subst (λ r. IsDecoded set r ts) (sym (append_assoc run (b ∷ []) more)) h)

-- unreserved octets: a piece of bytes is not decoded:
-- it is ill-formed, or a character that is not decoded
is_undecoded : TableSet → Piece → Bool
is_undecoded set (WellFormed bytes) = not (is_decodable set (char_of bytes))
is_undecoded set (IllFormed bytes) = true

undecodable_piece_is_unchanged : (set : TableSet) (p : Piece) → is_undecoded set p ≡ true
    → decode_piece set p ≡ map Octet (piece_bytes p)
unfolding is_undecoded
undecodable_piece_is_unchanged set (WellFormed bytes) e = cond-false _ _ _ (not-true _ e)
undecodable_piece_is_unchanged set (IllFormed bytes) e = refl

undecodable_pieces_are_unchanged : (set : TableSet) (ps : List Piece)
    → list_all (is_undecoded set) ps ≡ true
    → flat_map (decode_piece set) ps ≡ map Octet (bytes_of_pieces ps)
undecodable_pieces_are_unchanged set [] e = refl
undecodable_pieces_are_unchanged set (p ∷ ps) e =
    let q = and_parts (is_undecoded set p) _ e in
    ap (λ x. x ++ flat_map (decode_piece set) ps) (undecodable_piece_is_unchanged set p q.0)
    ∙ ap (λ x. map Octet (piece_bytes p) ++ x) (undecodable_pieces_are_unchanged set ps q.1)
    ∙ sym (map-append Octet (piece_bytes p) (bytes_of_pieces ps))

run_of_undecodable_pieces_is_unchanged : (set : TableSet) (ps : List Piece) → ArePiecesOfOwnBytes ps
    → list_all (is_undecoded set) ps ≡ true → IsUnchangedRun set (bytes_of_pieces ps)
unfolding decode_run
run_of_undecodable_pieces_is_unchanged set ps cut e = ap (flat_map (decode_piece set)) cut
    ∙ undecodable_pieces_are_unchanged set ps e

-- unreserved octets: if the pieces of a list are those
-- of their own bytes, so are the last of them (qs)
suffix_of_pieces_is_of_own_bytes : (ps qs : List Piece) → ArePiecesOfOwnBytes (ps ++ qs)
    → ArePiecesOfOwnBytes qs
suffix_of_pieces_is_of_own_bytes [] qs cut = cut
suffix_of_pieces_is_of_own_bytes (p ∷ ps) qs cut = suffix_of_pieces_is_of_own_bytes ps qs
    (tail_of_pieces_is_of_own_bytes p (ps ++ qs) cut)

decoded_piece_ends_run_before_it : (set : TableSet) (done : List Piece) (p : Piece)
    (ps : List Piece) (ts : List Token)
    → is_undecoded set p ≡ false → IsUnchangedRun set (bytes_of_pieces done)
    → IsDecoded set [] (flat_map (decode_piece set) ps ++ ts)
    → IsDecoded set (bytes_of_pieces done) (flat_map (decode_piece set) (p ∷ ps) ++ ts)
unfolding is_undecoded
decoded_piece_ends_run_before_it set done (IllFormed bytes) ps ts e unchanged suffix = cc
decoded_piece_ends_run_before_it set done (WellFormed bytes) ps ts e unchanged suffix =
    subst (λ x. IsDecoded set (bytes_of_pieces done) ((x ++ flat_map (decode_piece set) ps) ++ ts))
    (sym (cond-true _ _ _ (not-false _ e))) (unchanged, suffix)

decoded_run_before_decoded_tokens_is_decoded : (set : TableSet) (done ps : List Piece)
    (ts : List Token) → ArePiecesOfOwnBytes (done ++ ps) → list_all (is_undecoded set) done ≡ true
    → ((run : List ℕ) → IsUnchangedRun set run → IsDecoded set run ts)
    → IsDecoded set (bytes_of_pieces done) (flat_map (decode_piece set) ps ++ ts)
decoded_run_before_decoded_tokens_is_decoded set done [] ts cut undecoded suffix =
    grind (arith, run_of_undecodable_pieces_is_unchanged, prefix_of_pieces_is_of_own_bytes)
decoded_run_before_decoded_tokens_is_decoded set done (p ∷ ps) ts cut undecoded suffix = ⊎_elim
    (λ e.
    let more : ArePiecesOfOwnBytes ((done ++ p ∷ []) ++ ps) =
    subst ArePiecesOfOwnBytes (sym (append_assoc done (p ∷ []) ps)) cut in
    let all = list_all-append (is_undecoded set) done (p ∷ [])
    ∙ and_from _ _ undecoded (and_from _ true e refl) in
    let bytes : bytes_of_pieces (done ++ p ∷ []) ≡ bytes_of_pieces done ++ piece_bytes p =
    flat_map-append piece_bytes done (p ∷ [])
    ∙ ap (λ x. bytes_of_pieces done ++ x) (append-nil (piece_bytes p)) in
    let next = subst (λ r. IsDecoded set r (flat_map (decode_piece set) ps ++ ts)) bytes
    (decoded_run_before_decoded_tokens_is_decoded set (done ++ p ∷ []) ps ts more all suffix) in
    let octets = octets_before_decoded_tokens_stay_decoded set (bytes_of_pieces done)
    (piece_bytes p) (flat_map (decode_piece set) ps ++ ts) next in
    subst (IsDecoded set (bytes_of_pieces done))
    (sym (append_assoc (decode_piece set p) (flat_map (decode_piece set) ps) ts))
    (subst (λ x. IsDecoded set (bytes_of_pieces done) (x ++ (flat_map (decode_piece set) ps ++ ts)))
    (sym (undecodable_piece_is_unchanged set p e)) octets))
    (λ e. decoded_piece_ends_run_before_it set done p ps ts e
    (run_of_undecodable_pieces_is_unchanged set done (prefix_of_pieces_is_of_own_bytes done
    (p ∷ ps) cut) undecoded) (decoded_run_before_decoded_tokens_is_decoded set [] ps ts
    (suffix_of_pieces_is_of_own_bytes (done ++ p ∷ []) ps (subst ArePiecesOfOwnBytes
    (sym (append_assoc done (p ∷ []) ps)) cut)) refl suffix)) (cases_Bool (is_undecoded set p))

decode_after_run_gives_decoded_tokens : (set : TableSet) (run : List ℕ) (ts : List Token)
    → IsDecoded set [] (decode_after_run set run ts)
unfolding decode_after_run decode_run
decode_after_run_gives_decoded_tokens set run [] = subst (IsDecoded set [])
    (append-nil (decode_run set run)) (decoded_run_before_decoded_tokens_is_decoded set []
    (utf8_pieces run) [] (utf8_pieces-are-of-own-bytes run) refl (λ r unchanged. unchanged))
decode_after_run_gives_decoded_tokens set run (Octet value ∷ ts) =
    decode_after_run_gives_decoded_tokens set (run ++ value ∷ []) ts
decode_after_run_gives_decoded_tokens set run (Char c ∷ ts) =
    decoded_run_before_decoded_tokens_is_decoded set [] (utf8_pieces run) (Char c
    ∷ decode_after_run set [] ts) (utf8_pieces-are-of-own-bytes run) refl
    (λ r unchanged. (unchanged, decode_after_run_gives_decoded_tokens set [] ts))

-- unreserved octets: decoding unreserved octets twice is decoding them once
pub decode_tokens_is_idempotent : (set : TableSet) (ts : List Token)
    → decode_tokens set (decode_tokens set ts) ≡ decode_tokens set ts
decode_tokens_is_idempotent set ts = decoding_decoded_tokens_keeps_them set []
    (decode_tokens set ts) (decode_after_run_gives_decoded_tokens set [] ts)

-- unreserved octets: decoding a text twice equals decoding it once
pub decode_unreserved_is_idempotent : (set : TableSet) (text : List ℕ)
    → list_all is_printable (tokens text) ≡ true
    → decode_unreserved set (print (decode_unreserved set text)) ≡ decode_unreserved set text
decode_unreserved_is_idempotent set text e =
    let ts = decode_tokens set (tokens text) in
    ap (λ us. encode_formatting set (decode_tokens set us))
    (printed_tokens_parse_to_themselves (decode_unreserved set text)
    (DecodedTokens.decode_unreserved_keeps_tokens_printable set text e))
    ∙ ap (encode_formatting set) (DecodedTokens.octets_of_formatting_chars_decode_as_chars set [] ts
    ∙ decode_tokens_is_idempotent set (tokens text))

-- unreserved octets: decoded tokens in lower case are decoded; run: the octets before them
lowered_decoded_tokens_are_decoded : (set : TableSet) (run : List ℕ) (ts : List Token)
    → IsDecoded set run ts → IsDecoded set run (map lower_token ts)
lowered_decoded_tokens_are_decoded set run [] h = h
lowered_decoded_tokens_are_decoded set run (Octet value ∷ ts) h = lowered_decoded_tokens_are_decoded
    set (run ++ value ∷ []) ts h
lowered_decoded_tokens_are_decoded set run (Char c ∷ ts) h =
    (h.0, lowered_decoded_tokens_are_decoded set [] ts h.1)

pub decoding_keeps_lowered_decoded_tokens : (set : TableSet) (ts : List Token) → decode_tokens set
    (map lower_token (decode_tokens set ts)) ≡ map lower_token (decode_tokens set ts)
decoding_keeps_lowered_decoded_tokens set ts = decoding_decoded_tokens_keeps_them set []
    (map lower_token (decode_tokens set ts)) (lowered_decoded_tokens_are_decoded set []
    (decode_tokens set ts) (decode_after_run_gives_decoded_tokens set [] ts))

-- unreserved octets: decoded tokens in lower case decode to themselves
pub decoding_keeps_lowered_decoded_text : (set : TableSet) (text : List ℕ)
    → list_all is_printable (tokens text) ≡ true → decode_unreserved set (print (map lower_token
    (decode_unreserved set text))) ≡ map lower_token (decode_unreserved set text)
decoding_keeps_lowered_decoded_text set text e =
    let ts = decode_tokens set (tokens text) in
    ap (λ us. encode_formatting set (decode_tokens set us))
    (printed_tokens_parse_to_themselves (map lower_token (decode_unreserved set text))
    (lowered_tokens_are_printable (decode_unreserved set text)
    (DecodedTokens.decode_unreserved_keeps_tokens_printable set text e)))
    ∙ ap (λ us. encode_formatting set (decode_tokens set us))
    (encode_formatting_commutes_with_lowering set ts)
    ∙ ap (encode_formatting set) (DecodedTokens.octets_of_formatting_chars_decode_as_chars set []
    (map lower_token ts) ∙ decoding_keeps_lowered_decoded_tokens set (tokens text))
    ∙ sym (encode_formatting_commutes_with_lowering set ts)
