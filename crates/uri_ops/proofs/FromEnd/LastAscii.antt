-- A component that ends in ASCII: its last characters are written as they are, but for case, and its
-- last octet is decoded by itself.
use Rattle.uri_ops.proofs.Common.{common_steps, ◌≡◌, ℕ, ◌-◌, ◌<◌, inl, Bool, List, [], ◌∷◌, ◌++◌, length, take, drop, refl, sym, ap, ◌∙◌, subst, arith, ⊎_elim, append_assoc, length-append, flat_map, IsUtf8, cases_Bool, get_or_at, length-drop, length-take, take-append-drop, take_all, flat_map-append, IsUtf8-append, encode_ascii, widest_set, decode_after_run, decode_octet, decode_piece, decode_run, encode_formatting, pieces_from, utf8_pieces, TableSet, is_unreserved, IsValidFor, Token, Char, Octet, print, byte_below_80_or_from_c0_is_no_continuation, utf8_pieces_are_cut_at_non_continuation, ascii_char_separates_encode_formatting, IsAsciiSuffix, LacksPercentThird, cased, normal_component, lowered_code_if, lowered_if}
use Rattle.uri_pct.proofs.Offered.{ascii_byte_is_utf8}
use Rattle.uri_ops.specs.FromEnd.LastTokens.{EndsIn}
use Rattle.uri_ops.proofs.FromEnd.LastTokens.{last_char_is_last_token, no_octet_ends_text}
use Rattle.uri_ops.proofs.FromEnd.NormalTokens.{last_ascii_is_written_last}
use Rattle.uri_ops.proofs.Meanings.DecodedOctets.{leading-ascii-octet-decodes-alone}

last_ascii_byte_is_decoded_alone : (set : TableSet) (run : List ℕ) (b : ℕ) → b < 128
    → decode_run set (run ++ b ∷ []) ≡ decode_run set run ++ decode_octet (Octet b) ∷ []
unfolding decode_after_run decode_run pieces_from
last_ascii_byte_is_decoded_alone set run b low =
    ap (flat_map (decode_piece set)) (utf8_pieces_are_cut_at_non_continuation run (b ∷ [])
    (byte_below_80_or_from_c0_is_no_continuation b (inl low)))
    ∙ flat_map-append (decode_piece set) (utf8_pieces run) (utf8_pieces (b ∷ []))
    ∙ ap (λ ts. decode_run set run ++ ts) (leading-ascii-octet-decodes-alone set b [] low)

last_ascii_octet_is_decoded_after_run : (set : TableSet) (run : List ℕ) (ts : List Token) (b : ℕ)
    → b < 128 → decode_after_run set run (ts ++ Octet b ∷ [])
    ≡ decode_after_run set run ts ++ decode_octet (Octet b) ∷ []
unfolding decode_after_run
last_ascii_octet_is_decoded_after_run set run [] b low =
    last_ascii_byte_is_decoded_alone set run b low
last_ascii_octet_is_decoded_after_run set run (Octet u ∷ ts) b low =
    last_ascii_octet_is_decoded_after_run set (run ++ u ∷ []) ts b low
last_ascii_octet_is_decoded_after_run set run (Char d ∷ ts) b low =
    grind (arith, common_steps, last_ascii_octet_is_decoded_after_run set [] ts b low)

decoded_ascii_octet_is_no_formatting : (set : TableSet) (b : ℕ) → b < 128
    → encode_formatting set (decode_octet (Octet b) ∷ []) ≡ decode_octet (Octet b) ∷ []
decoded_ascii_octet_is_no_formatting set b low =
    ⊎_elim (λ e. rw e (ascii_char_separates_encode_formatting set [] b [] low))
    (λ e. rw e refl) (cases_Bool (is_unreserved b))

pub last_ascii_octet_is_written_last : (set : TableSet) (lowers : Bool) (text before : List ℕ)
    (b : ℕ) → EndsIn text before (Octet b ∷ []) → b < 128 → normal_component lowers set text
    ≡ normal_component lowers set before ++ print (lowered_if lowers (decode_octet (Octet b) ∷ []))
last_ascii_octet_is_written_last set lowers text before b ends low =
    grind (
      arith,
      common_steps,
      last_ascii_octet_is_decoded_after_run,
      decoded_ascii_octet_is_no_formatting,
    )

first_character_is_cased : (lowers : Bool) (c : ℕ) (run : List ℕ)
    → cased lowers (c ∷ run) ≡ lowered_code_if lowers c ∷ cased lowers run
first_character_is_cased lowers c run = grind (arith, common_steps)

ascii_suffix_without_first_byte : (before run : List ℕ) (c : ℕ) → IsAsciiSuffix (before ++ c
    ∷ run) (length before) → IsAsciiSuffix ((before ++ c ∷ []) ++ run) (length (before ++ c ∷ []))
ascii_suffix_without_first_byte before run c h = grind (arith, common_steps)

ascii_suffix_begins_in_no_octet : (before run : List ℕ) (c : ℕ)
    → IsAsciiSuffix (before ++ c ∷ run) (length before) → LacksPercentThird (before ++ c ∷ [])
ascii_suffix_begins_in_no_octet before run c h n third percent = grind (arith, common_steps)

-- normal texts: these characters are written after what is before them, which is valid
record AreWrittenLast (set : TableSet) (lowers : Bool) (before run : List ℕ) : Type 0 where
  text : normal_component lowers set (before ++ run)
      ≡ normal_component lowers set before ++ cased lowers run
  valid : IsValidFor widest_set before

-- normal texts: characters of ASCII that are in no octet are written last, but for case as they are
ascii_run_is_written_last : (set : TableSet) (lowers : Bool) (before run : List ℕ) → IsUtf8 before
    → IsValidFor widest_set (before ++ run) → IsAsciiSuffix (before ++ run) (length before)
    → AreWrittenLast set lowers before run
ascii_run_is_written_last set lowers before [] utf8 valid h = grind (arith, common_steps)
ascii_run_is_written_last set lowers before (c ∷ run) utf8 valid h =
    let longer = before ++ c ∷ [] in
    let whole : longer ++ run ≡ before ++ c ∷ run = append_assoc before (c ∷ []) run in
    let low : c < 128 = subst (λ b. b < 128) (get_or_at before c run 0 _ refl)
    (h.ascii (length before) (omega arith) (omega (arith, length-append before (c ∷ run)))) in
    let wide : IsUtf8 longer = IsUtf8-append before (c ∷ []) utf8 (ascii_byte_is_utf8 c low) in
    let rest = ascii_run_is_written_last set lowers longer run wide (subst (IsValidFor widest_set)
    (sym whole) valid) (ascii_suffix_without_first_byte before run c h) in
    let ends : EndsIn longer before (Char c ∷ []) = last_char_is_last_token longer before c wide utf8
    (ap (λ t. before ++ t) (sym (encode_ascii c low))) rest.valid
    (no_octet_ends_text longer wide rest.valid (ascii_suffix_begins_in_no_octet before run c h)) in
    let last = last_ascii_is_written_last set lowers longer before c ends low in
    record {
      text = grind (arith, common_steps, first_character_is_cased);
      valid = ends.valid;
    }

pub ascii_suffix_is_written_last : (set : TableSet) (lowers : Bool) (text : List ℕ) (start : ℕ)
    → IsUtf8 (take start text) → IsValidFor widest_set text → IsAsciiSuffix text start
    → (normal_component lowers set text ≡ normal_component lowers set (take start text)
    ++ cased lowers (drop start text)) × IsValidFor widest_set (take start text)
ascii_suffix_is_written_last set lowers text start utf8 valid h =
    let before = take start text in
    let run = drop start text in
    let whole : before ++ run ≡ text = take-append-drop start text in
    let within = h.within in
    let size : length before ≡ start = omega (arith, length-take start text) in
    let written = ascii_run_is_written_last set lowers before run utf8
    (subst (IsValidFor widest_set) (sym whole) valid) (subst (IsAsciiSuffix (before ++ run))
    (sym size) (subst (λ t. IsAsciiSuffix t start) (sym whole) h)) in
    (ap (normal_component lowers set) (sym whole) ∙ written.text, written.valid)

pub ascii_end_is_written_last : (set : TableSet) (lowers : Bool)
    (bytes text prefix : List ℕ) (start : ℕ) → bytes ≡ text → prefix ≡ take start text
    → IsUtf8 prefix → IsValidFor widest_set text → IsAsciiSuffix bytes start
    → (normal_component lowers set text ≡ normal_component lowers set prefix
    ++ cased lowers (take (length bytes - start) (drop start bytes))) × IsValidFor widest_set prefix
ascii_end_is_written_last set lowers bytes text prefix start same cut utf8 valid h =
    let written = ascii_suffix_is_written_last set lowers text start (subst IsUtf8 cut utf8) valid
    (subst (λ t. IsAsciiSuffix t start) same h) in
    let end : drop start text ≡ take (length bytes - start) (drop start bytes) =
    ap (drop start) (sym same) ∙ sym (take_all (length bytes - start)
    (drop start bytes) (omega (arith, length-drop start bytes))) in (
      written.0 ∙ ap (λ t. normal_component lowers set t ++ cased lowers (drop start text)) (sym cut)
          ∙ ap (λ t. normal_component lowers set prefix ++ cased lowers t) end,
      subst (IsValidFor widest_set) (sym cut) written.1,
    )
