-- Parts of a text that are printed as they are: components whose octets are unchanged, and hosts.
use Rattle.uri_ops.proofs.Common.{◌≡◌, ℕ, ◌+◌, ◌*◌, ◌≤◌, ◌<◌, Bool, true, false, eqb, ltb, List, [], ◌∷◌, ◌++◌, map, refl, sym, ap, subst, ◌∙◌, ◌&&◌, ◌||◌, append-nil, option_map, arith, length, take, drop, zero, suc, ⊎_elim, Option, IfSome, digit_value, is_ascii_hexdigit, list_any, position_or_len, chars, IsUtf8, str_to_ascii_lowercase, and_parts, cases_Bool, cond-false, eqb-true, ltb-true, ne_eqb, not-true, or_cases, nat_tests, take-append-drop, length-drop, IsUtf8-drop, widest_set, LacksPastAscii, encode_formatting, is_bidi_formatting, is_never_literal, lower_token, decode_unreserved, decode_after_run, decode_octet, decode_tokens, encoded_formatting_text, TableSet, LacksPercent, lacks, Char, IsValidFor, Octet, print, text_of_token, tokens, tokens_from_chars, BeginsWithOctet, boundary_after_octet, every_set_is_subset_of_widest, bytes_from_percent_begin_with_octet, tokens_after_unencoded_prefix, valid_for_superset, starts, Kind, host_kind, ipv4_value, name_kind, names_exclude_delimiters, HasComponentSets, host_meaning, decoded_text, HasUnchangedOctets, is_unchanged_octet, host_text, common_steps}
use Rattle.uri_ops.proofs.Meanings.AuthorityMeanings.{kind-sets-lack-authority-delimiters}
use Rattle.uri_ops.proofs.Meanings.Cased.{print-lowers-characters}
use Rattle.uri_ops.proofs.Meanings.HostMeanings.{meaning-of-name-is-lowered-decoded}
use Rattle.uri_ops.proofs.Meanings.DecodedOctets.{decode_tokens-after-chars, leading-octet-is-decoded-alone, uppercase-octet-prints-itself}
use Rattle.uri_ops.proofs.Meanings.DecodedParts.{decode_run-of-nil-is-nil}
use Rattle.uri_ops.proofs.Meanings.DecodedPrefixes.{decoded-empty-text-is-empty, octet-with-digit-below-8-is-ascii, text-before-percent-is-literal-prefix}
use Rattle.uri_ops.proofs.Meanings.WrittenFormatting.{decoding-without-formatting-is-complete, encoding-formatting-completes-decoding, no-byte-E2-no-formatting, text-without-formatting-is-unchanged}
use Rattle.uri_ops.proofs.Normal.UnchangedBytes.{unchanged-text-lacks-byte-E2, unchanged-text-splits}

unchanged-octet-is-decoded-alone : (alone : Bool) (high low : ℕ) → is_unchanged_octet alone high low
    ≡ true → (alone || ltb (16 * digit_value high + digit_value low) 128) ≡ true
unchanged-octet-is-decoded-alone alone high low e =
    let p = and_parts _ _ e in
    let digits = and_parts (is_ascii_hexdigit high) (is_ascii_hexdigit low) p.0 in
    let last = and_parts (alone || ltb high 56) _ (and_parts _ _ p.1).1 in
    let value = 16 * digit_value high + digit_value low in
    ⊎_elim (λ (a : alone ≡ true). rw a refl) (λ (small : ltb high 56 ≡ true).
    let ascii = octet-with-digit-below-8-is-ascii high low digits.0 digits.1
    (ltb-true high 56 small) in
    grind (arith, nat_tests)) (or_cases alone (ltb high 56) last.0)

unchanged-octet-prints-itself : (alone : Bool) (high low : ℕ) → is_unchanged_octet alone high low
    ≡ true → print (decode_octet (Octet (16 * digit_value high + digit_value low)) ∷ [])
    ≡ 37 ∷ high ∷ low ∷ []
unchanged-octet-prints-itself alone high low e =
    let p = and_parts _ _ e in
    let digits = and_parts (is_ascii_hexdigit high) (is_ascii_hexdigit low) p.0 in
    let upper = and_parts (ltb high 97) (ltb low 97) (and_parts _ _ p.1).0 in
    let last = and_parts (alone || ltb high 56) _ (and_parts _ _ p.1).1 in
    ap (λ t. text_of_token t ++ []) (cond-false _ _ _ (not-true _ last.1))
    ∙ ap (λ x. x ++ []) (uppercase-octet-prints-itself high low digits.0 digits.1
    (ltb-true high 97 upper.0) (ltb-true low 97 upper.1))

module _ (set : TableSet) (alone : Bool) (none : alone ≡ true → LacksPastAscii set) where
  -- unchanged texts: an unchanged octet at the start of a text is its own decoded form
  unchanged-octet-decodes-to-itself : (text : List ℕ) (o : BeginsWithOctet text)
      → HasUnchangedOctets alone text
      → decoded_text false set text ≡ 37 ∷ o.high ∷ o.low ∷ decoded_text false set o.suffix
  unchanged-octet-decodes-to-itself text o same =
      let p = and_parts _ _ (subst (HasUnchangedOctets alone) o.joined same) in
      let octet : is_unchanged_octet alone o.high o.low ≡ true = p.0 in
      leading-octet-is-decoded-alone false set text o alone none
      (unchanged-octet-is-decoded-alone alone o.high o.low octet) ∙ ap (λ x. x
      ++ decoded_text false set o.suffix) (unchanged-octet-prints-itself alone o.high o.low octet)

  -- unchanged texts: what follows a prefix of an unchanged text is unchanged
  suffix-of-unchanged-is-unchanged : (text : List ℕ) (n : ℕ) → HasUnchangedOctets alone text
      → HasUnchangedOctets alone (drop n text)
  suffix-of-unchanged-is-unchanged text n same = (unchanged-text-splits alone (take n text)
      (drop n text) (subst (HasUnchangedOctets alone) (sym (take-append-drop n text)) same)).1

  -- unchanged texts: an unchanged text of at most n bytes is its own decoded form
  unchanged-text-is-decoded : (n : ℕ) (text : List ℕ) → length text ≤ n → IsUtf8 text
      → IsValidFor widest_set text → HasUnchangedOctets alone text
      → decoded_text false set text ≡ text
  unchanged-text-is-decoded n [] short u v same = decoded-empty-text-is-empty false set
  unchanged-text-is-decoded zero (b ∷ rest) short u v same = absurd (omega (arith, short))
  unchanged-text-is-decoded (suc n) (b ∷ rest) short u v same = ⊎_elim
      (λ (percent : eqb b 37 ≡ true).
      let text : List ℕ = b ∷ rest in
      let o = bytes_from_percent_begin_with_octet text text refl u v
      (ne_eqb (length text) 0 (λ e. omega (arith, e))) (eqb-true b 37 percent) in
      let three : drop 3 text ≡ o.suffix = ap (drop 3) o.joined in
      let long = ap length o.joined in
      let utf8 : IsUtf8 o.suffix = subst IsUtf8 three
      (IsUtf8-drop text 3 u (boundary_after_octet text u o)) in
      unchanged-octet-decodes-to-itself text o same ∙ ap (λ x. 37 ∷ o.high
      ∷ o.low ∷ x) (unchanged-text-is-decoded n o.suffix (omega (arith, long, short)) utf8 o.valid
      (subst (HasUnchangedOctets alone) three (suffix-of-unchanged-is-unchanged text 3 same)))
      ∙ sym o.joined) (λ (other : eqb b 37 ≡ false).
      let text : List ℕ = b ∷ rest in
      let m = position_or_len (λ c. eqb c 37) text in
      let some : 0 < m = first-percent-is-after-another-byte b rest other in
      let p = text-before-percent-is-literal-prefix text m u v refl in
      let long = length-drop m text in
      p.prefix false set ∙ ap (λ x. take m text ++ x) (unchanged-text-is-decoded n
      (drop m text) (omega (arith, long, short, some))
      (IsUtf8-drop text m u p.boundary) p.valid (suffix-of-unchanged-is-unchanged text m same))
      ∙ take-append-drop m text) (cases_Bool (eqb b 37))
    where
      first-percent-is-after-another-byte : (b : ℕ) (rest : List ℕ) → eqb b 37 ≡ false
          → 0 < position_or_len (λ c. eqb c 37) (b ∷ rest)
      first-percent-is-after-another-byte b rest e = rw e (omega arith)

  -- unchanged texts: an unchanged text is its own normal form, as a component
  pub unchanged-text-decodes-to-itself : LacksPercent set → (text : List ℕ) → IsUtf8 text
      → IsValidFor set text → HasUnchangedOctets alone text
      → print (decode_unreserved set text) ≡ text
  unchanged-text-decodes-to-itself percent text u valid same =
      let v = valid_for_superset set widest_set text (every_set_is_subset_of_widest set percent)
      valid in
      let decoded = unchanged-text-is-decoded (length text) text (omega arith) u v same in
      ⊎_elim (λ both. sym (encoding-formatting-completes-decoding false set text both v)
      ∙ ap encoded_formatting_text decoded ∙ text-without-formatting-is-unchanged text u
      (no-byte-E2-no-formatting text u (unchanged-text-lacks-byte-E2 alone text same)))
      (λ lacking. sym (decoding-without-formatting-is-complete false set text lacking) ∙ decoded)
      (cases_Bool (set.ucschar && set.pct_encoded))

  -- unchanged texts: the same of a component that may be absent
  pub unchanged-option-decodes-to-itself : LacksPercent set → (o : Option (List ℕ))
      → IfSome o IsUtf8 → IfSome o (IsValidFor set) → IfSome o (HasUnchangedOctets alone)
      → option_map print (option_map (decode_unreserved set) o) ≡ o
  unchanged-option-decodes-to-itself percent q u v same =
      grind (arith, common_steps, unchanged-text-decodes-to-itself)

encode_formatting-keeps-literal-characters : (set : TableSet) (cs : List ℕ)
    → list_any is_bidi_formatting cs ≡ false → encode_formatting set (map Char cs) ≡ map Char cs
unfolding is_never_literal
encode_formatting-keeps-literal-characters set [] e = refl
encode_formatting-keeps-literal-characters set (c ∷ cs) e =
    grind (arith, common_steps, (encode_formatting-keeps-literal-characters set cs))

text-without-octets-has-tokens-decoded : (set : TableSet) (text : List ℕ) → IsUtf8 text
    → lacks 37 text ≡ true → decode_tokens set (tokens text) ≡ map Char (chars text)
unfolding tokens_from_chars chars decode_after_run
text-without-octets-has-tokens-decoded set text u e = ap (λ x. decode_tokens set (tokens x))
    (sym (append-nil text)) ∙ ap (decode_tokens set) (tokens_after_unencoded_prefix text [] u e)
    ∙ decode_tokens-after-chars set (chars text) [] ∙ ap (λ ts. map Char (chars text)
    ++ ts) (decode_run-of-nil-is-nil set) ∙ append-nil (map Char (chars text))

literal-text-decodes-to-characters : (set : TableSet) (text : List ℕ) → IsUtf8 text
    → lacks 37 text ≡ true → list_any (λ b. eqb b 0xE2) text ≡ false
    → decode_unreserved set text ≡ map Char (chars text)
literal-text-decodes-to-characters set text u octets leads = ap (encode_formatting set)
    (text-without-octets-has-tokens-decoded set text u octets)
    ∙ encode_formatting-keeps-literal-characters set (chars text)
    (no-byte-E2-no-formatting text u leads)

-- unchanged texts: a host without `[` (91) is an IPv4 address or a name
unbracketed-host-is-of-name_kind : (host : List ℕ) → starts 91 host ≡ false → host_kind host
    ≡ name_kind (ipv4_value host)
unfolding host_kind
unbracketed-host-is-of-name_kind host e = cond-false _ _ _ e

pub lower-name-is-its-normal-form : (kind : Kind) → HasComponentSets kind → (host : List ℕ)
    → IsUtf8 host → lacks 37 host ≡ true → list_any (λ b. eqb b 0xE2) host ≡ false
    → str_to_ascii_lowercase host ≡ host → starts 91 host ≡ false
    → host_text (host_meaning kind.reg_name host (host_kind host)) ≡ host
lower-name-is-its-normal-form kind sets host u octets leads lower name =
    let apart = names_exclude_delimiters kind.userinfo kind.reg_name
    (kind-sets-lack-authority-delimiters kind sets) in
    ap (λ h. host_text (host_meaning kind.reg_name host h))
    (unbracketed-host-is-of-name_kind host name) ∙ ap host_text
    (meaning-of-name-is-lowered-decoded kind.reg_name sets.reg_name apart host (ipv4_value host))
    ∙ ap (λ ts. print (map lower_token ts)) (literal-text-decodes-to-characters kind.reg_name
    host u octets leads) ∙ print-lowers-characters true host u ∙ lower
