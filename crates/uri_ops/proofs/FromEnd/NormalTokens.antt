-- The normal text of a component, with that of its last token at its end.
use Rattle.uri_ops.proofs.Common.{common_steps, ◌≡◌, ℕ, ◌<◌, Bool, true, false, List, [], ◌∷◌, ◌++◌, length, map, sym, ap, ◌∙◌, arith, eqb, ⊎_elim, ◌&&◌, ◌||◌, ◌==◌, IsScalar, encode_utf8, to_ascii_lowercase, is_in_range, cases_Bool, cond-true, cond-false, and_parts, eqb-true, nat_tests, append-nil, nil_from_length, encode_ascii, lowercase_ascii, TableSet, allows, Token, Char, Octet, tokens, text_of_token, print, is_bidi_formatting, is_never_literal, formatting_as_octets, decode_after_run, decode_run, pieces_from, ascii_char_separates_encode_formatting, decodable_char_is_printable, lowered_if, lowered_code_if, cased_append, EndsInDecodable, TokensEndInNoDecodable, normal_component}
use Rattle.uri_ops.proofs.Meanings.Cased.{octets-are-unchanged-when-lowered}
use Rattle.uri_ops.proofs.Meanings.WrittenFormatting.{set_allows_formatting_by_ucschar}
use Rattle.uri_ops.specs.FromEnd.LastTokens.{EndsIn}
use Rattle.uri_ops.proofs.FromEnd.LastOctets.{decoded, last_character_is_decoded_alone, last_decodable_is_decoded, last_octet_is_unchanged_after_run}
use Rattle.uri_ops.proofs.FromEnd.LastTokens.{empty_text_has_no_tokens}
use Rattle.uri_ops.proofs.FromEnd.LastDecodables.{char_has_one_to_four_bytes}

pub never_literal_by_tests : (set : TableSet) (c : ℕ) → is_never_literal set c ≡ (allows set 0x200E
    && set.pct_encoded && (c == 0x200E || c == 0x200F || is_in_range 0x202A 0x202E c))
unfolding is_never_literal is_bidi_formatting
never_literal_by_tests set c = ap (λ b. b && set.pct_encoded && (c == 0x200E
    || c == 0x200F || is_in_range 0x202A 0x202E c)) (sym (set_allows_formatting_by_ucschar set))

pub ruleset never_literals = (never_literal_by_tests, nat_tests)

pub never_literal_char_is_written_as_octets : (set : TableSet) (lowers : Bool) (c : ℕ)
    → is_never_literal set c ≡ true → print (lowered_if lowers (formatting_as_octets set (Char c)))
    ≡ print (map Octet (encode_utf8 c))
never_literal_char_is_written_as_octets set lowers c e = ap (λ ts. print (lowered_if lowers ts))
    (cond-true _ _ _ e) ∙ ap print (octets-are-unchanged-when-lowered lowers (encode_utf8 c))

lowered_char_is_written : (set : TableSet) (c : ℕ) → is_never_literal set c ≡ false → print
    (lowered_if true (formatting_as_octets set (Char c))) ≡ encode_utf8 (to_ascii_lowercase c)
lowered_char_is_written set c e = ap (λ ts. print (lowered_if true ts)) (cond-false _ _ _ e)
    ∙ append-nil (encode_utf8 (to_ascii_lowercase c))

char_is_written : (set : TableSet) (c : ℕ) → is_never_literal set c ≡ false
    → print (lowered_if false (formatting_as_octets set (Char c))) ≡ encode_utf8 c
char_is_written set c e =
    ap (λ ts. print (lowered_if false ts)) (cond-false _ _ _ e) ∙ append-nil (encode_utf8 c)

octets_of_bytes_have_text : (bytes : List ℕ) → 0 < length bytes
    → 0 < length (print (map Octet bytes))
octets_of_bytes_have_text [] some = absurd (omega arith)
octets_of_bytes_have_text (b ∷ bytes) some = omega arith

pub char_has_text : (set : TableSet) (lowers : Bool) (c : ℕ) (text : List ℕ)
    → text ≡ print (lowered_if lowers (formatting_as_octets set (Char c))) → 0 < length text
char_has_text set lowers c text same =
    grind (
      arith,
      char_has_one_to_four_bytes,
      octets_of_bytes_have_text,
      never_literal_char_is_written_as_octets,
      lowered_char_is_written,
      char_is_written,
    )

pub last_tokens_are_written_last : (set : TableSet) (lowers : Bool) (text before : List ℕ)
    (ts us : List Token) → EndsIn text before ts → decoded set (tokens before ++ ts)
    ≡ decoded set (tokens before) ++ us → normal_component lowers set text
    ≡ normal_component lowers set before ++ print (lowered_if lowers us)
last_tokens_are_written_last set lowers text before ts us ends e =
    grind (arith, decoded, cased_append, tokens)

pub last_char_is_written_last : (set : TableSet) (lowers : Bool) (text before : List ℕ) (c : ℕ)
    → EndsIn text before (Char c ∷ [])
    → normal_component lowers set text ≡ normal_component lowers set before
    ++ print (lowered_if lowers (formatting_as_octets set (Char c)))
last_char_is_written_last set lowers text before c ends = last_tokens_are_written_last set
    lowers text before (Char c ∷ []) _ ends (last_character_is_decoded_alone set (tokens before) c)

pub last_decodable_is_written_last : (set : TableSet) (lowers : Bool) (text before : List ℕ) (c : ℕ)
    → EndsInDecodable set text before c
    → normal_component lowers set text ≡ normal_component lowers set before
    ++ print (lowered_if lowers (formatting_as_octets set (Char c)))
last_decodable_is_written_last set lowers text before c ends =
    grind (
      arith,
      decodable_char_is_printable,
      last_tokens_are_written_last,
      last_decodable_is_decoded,
    )

pub last_octet_is_written_last : (set : TableSet) (lowers : Bool) (text before : List ℕ) (value : ℕ)
    → EndsIn text before (Octet value ∷ [])
    → TokensEndInNoDecodable set (tokens text) → normal_component lowers set text
    ≡ normal_component lowers set before ++ text_of_token (Octet value)
last_octet_is_written_last set lowers text before value ends none =
    grind (arith, common_steps, last_octet_is_unchanged_after_run)

empty_component_is_empty : (lowers : Bool) (set : TableSet) (text : List ℕ) → text ≡ []
    → normal_component lowers set text ≡ []
unfolding decode_after_run decode_run pieces_from
empty_component_is_empty lowers set text e = grind (arith, common_steps, empty_text_has_no_tokens)

pub nothing_is_left : (lowers : Bool) (set : TableSet) (text held : List ℕ)
    → eqb (length text) 0 ≡ true → held ≡ [] → normal_component lowers set text ++ held ≡ []
nothing_is_left lowers set text held none empty =
    grind (arith, common_steps, empty_component_is_empty)

ascii_char_is_lowered_alone : (set : TableSet) (lowers : Bool) (c : ℕ) → c < 128
    → lowered_if lowers (formatting_as_octets set (Char c)) ≡ lowered_if lowers (Char c ∷ [])
ascii_char_is_lowered_alone set lowers c low = ap (λ ts. lowered_if lowers ts)
    (sym (append-nil (formatting_as_octets set (Char c)))
    ∙ ascii_char_separates_encode_formatting set [] c [] low)

ascii_char_is_written : (set : TableSet) (lowers : Bool) (c : ℕ) → c < 128
    → print (lowered_if lowers (formatting_as_octets set (Char c))) ≡ lowered_code_if lowers c ∷ []
ascii_char_is_written set true c low = ap print (ascii_char_is_lowered_alone set true c low)
    ∙ append-nil (encode_utf8 (to_ascii_lowercase c))
    ∙ encode_ascii (to_ascii_lowercase c) (lowercase_ascii c low)
ascii_char_is_written set false c low = ap print (ascii_char_is_lowered_alone set false c low)
    ∙ append-nil (encode_utf8 c) ∙ encode_ascii c low

pub last_ascii_is_written_last : (set : TableSet) (lowers : Bool) (text before : List ℕ) (c : ℕ)
    → EndsIn text before (Char c ∷ []) → c < 128 → normal_component lowers set text
    ≡ normal_component lowers set before ++ lowered_code_if lowers c ∷ []
last_ascii_is_written_last set lowers text before c ends low =
    last_char_is_written_last set lowers text before c ends
    ∙ ap (λ t. normal_component lowers set before ++ t) (ascii_char_is_written set lowers c low)
