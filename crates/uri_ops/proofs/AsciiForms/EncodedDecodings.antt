-- If a text is allowed, so is its form without characters past ASCII, and both decode to the same.
use Rattle.uri_ops.proofs.Common.{◌≡◌, ℕ, true, List, [], ◌∷◌, ◌++◌, map, refl, sym, ap, ◌∙◌, ⊎_elim, encode_utf8, list_all, flat_map, append-nil, list_all-append, cases_lt, cond-true, cond-false, and_parts, and_from, or_right, lt-ltb, le-ltb, TableSet, allows, allows_past_ascii, Token, Char, Octet, tokens, allows_token, is_valid_for, is_decodable, decode_run, decode_after_run, decode_tokens, encode_formatting, decode_unreserved, ascii_char_is_allowed_iff_in_set, char_past_ascii_is_allowed_by_flags, allowed_past_ascii_is_scalar, decodable_char_octets_split_decoding, octets_before_tokens_lengthen_run, encode_past_ascii, ascii_set, arith, common_steps}
use Rattle.uri_ops.proofs.Meanings.AllowedParts.{is_set_text, set-text-from-utf8, set-text-is-utf8, set-text-is-valid}
use Rattle.uri_ops.proofs.AsciiForms.EncodedTokens.{encoded_token, tokens-of-encoded-text, encoded-text-is-utf8}

module _ (set : TableSet) (octets : set.pct_encoded ≡ true) where
  ascii_set-allows-octets : (bytes : List ℕ)
      → list_all (allows_token (ascii_set set)) (map Octet bytes) ≡ true
  ascii_set-allows-octets [] = refl
  ascii_set-allows-octets (b ∷ bytes) = and_from _ _ octets (ascii_set-allows-octets bytes)

  ascii_set-allows-encoded-tokens : (ts : List Token) → list_all (allows_token set) ts ≡ true
      → list_all (allows_token (ascii_set set)) (flat_map encoded_token ts) ≡ true
  ascii_set-allows-encoded-tokens [] e = refl
  ascii_set-allows-encoded-tokens (Octet value ∷ ts) e =
      grind (arith, common_steps, (ascii_set-allows-encoded-tokens ts))
  ascii_set-allows-encoded-tokens (Char c ∷ ts) e =
      grind (
        arith,
        common_steps,
        list_all-append,
        ascii_char_is_allowed_iff_in_set,
        ascii_set-allows-octets,
        (ascii_set-allows-encoded-tokens ts),
      )

  pub encoded-part-is-valid-for-ascii_set : (text : List ℕ) → is_set_text set text ≡ true
      → is_set_text (ascii_set set) (encode_past_ascii text) ≡ true
  unfolding is_valid_for
  encoded-part-is-valid-for-ascii_set text e =
      let u = set-text-is-utf8 set text e in
      set-text-from-utf8 (ascii_set set) (encode_past_ascii text) (encoded-text-is-utf8 text u)
      (ap (list_all (allows_token (ascii_set set))) (tokens-of-encoded-text text u)
      ∙ ascii_set-allows-encoded-tokens (tokens text) (set-text-is-valid set text e))

module _ (set : TableSet) where
  allowed-past-ascii-is-decodable : (c : ℕ) → allows_past_ascii set c ≡ true
      → is_decodable set c ≡ true
  unfolding is_decodable
  allowed-past-ascii-is-decodable c e = or_right _ _ e

  decode_after_run-of-encoded-tokens : (run : List ℕ) (ts : List Token)
      → list_all (allows_token set) ts ≡ true
      → decode_after_run set run (flat_map encoded_token ts) ≡ decode_after_run set run ts
  unfolding decode_after_run
  decode_after_run-of-encoded-tokens run [] e = refl
  decode_after_run-of-encoded-tokens run (Octet value ∷ ts) e = decode_after_run-of-encoded-tokens
      (run ++ value ∷ []) ts (and_parts set.pct_encoded (list_all (allows_token set) ts) e).1
  decode_after_run-of-encoded-tokens run (Char c ∷ ts) e =
      let p = and_parts (allows set c) (list_all (allows_token set) ts) e in
      let rest = decode_after_run-of-encoded-tokens [] ts p.1 in
      ⊎_elim (λ h. ap (λ t. decode_after_run set run (t ++ flat_map encoded_token ts))
      (cond-true _ _ _ (lt-ltb c 128 h)) ∙ ap (λ t. decode_run set run ++ Char c ∷ t) rest) (λ h.
      let past = sym (char_past_ascii_is_allowed_by_flags set c h) ∙ p.0 in
      ap (λ t. decode_after_run set run (t ++ flat_map encoded_token ts)) (cond-false _ _ _
      (le-ltb c 128 h))
      ∙ octets_before_tokens_lengthen_run set run (encode_utf8 c) (flat_map encoded_token ts)
      ∙ ap (λ r. decode_after_run set (run ++ r) (flat_map encoded_token ts))
      (sym (append-nil (encode_utf8 c)))
      ∙ decodable_char_octets_split_decoding set run c [] (flat_map encoded_token ts)
      (allowed_past_ascii_is_scalar set c past).1 (allowed-past-ascii-is-decodable c past)
      ∙ ap (λ t. decode_run set run ++ Char c ∷ t) rest) (cases_lt c 128)

  pub decode_unreserved-of-encoded-text : (text : List ℕ) → is_set_text set text ≡ true
      → decode_unreserved set (encode_past_ascii text) ≡ decode_unreserved set text
  unfolding is_valid_for
  decode_unreserved-of-encoded-text text e = ap (encode_formatting set)
      (ap (decode_tokens set) (tokens-of-encoded-text text (set-text-is-utf8 set text e))
      ∙ decode_after_run-of-encoded-tokens [] (tokens text) (set-text-is-valid set text e))
