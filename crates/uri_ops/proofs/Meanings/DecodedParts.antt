-- Decoding the parts of a text gives the decoding of its tokens.
use Rattle.uri_ops.proofs.Common.{◌≡◌, ℕ, true, List, [], ◌∷◌, ◌++◌, map, refl, sym, ap, ◌∙◌, append_assoc, arith, list_all, flat_map, encode_utf8, IsScalar, chars, IsUtf8, and_parts, and_from, append-nil, map-append, flat_map-append, IsUtf8-encode, chars-append, chars-encodes, nat_tests, Chunk, Text, Byte, prepend_to_chunks, chunks_of_tokens, Decoded, parts_from, Piece, utf8_pieces, pieces_from, is_printable, decode_piece, decode_run, decode_after_run, TableSet, Token, Char, Octet, decoded_parts}
use Rattle.uri_pct.proofs.Offered.{printable_char_is_scalar}

module _ (set : TableSet) where
  -- the pieces of a run
  pub decoded_parts-of-run : (ps : List Piece) → decoded_parts set (map Decoded ps)
      ≡ flat_map (decode_piece set) ps
  decoded_parts-of-run [] = refl
  decoded_parts-of-run (p ∷ ps) = ap (λ ts. decode_piece set p ++ ts) (decoded_parts-of-run ps)

  decoded_parts-of-octet-run : (run : List ℕ) → decoded_parts set (map Decoded (utf8_pieces run))
      ≡ decode_run set run
  unfolding decode_run
  decoded_parts-of-octet-run run = decoded_parts-of-run (utf8_pieces run)

  pub decode_run-of-nil-is-nil : decode_run set [] ≡ []
  unfolding decode_run pieces_from
  decode_run-of-nil-is-nil = refl

  decoded_parts-of-text-chunk : (run text : List ℕ) (ps : List Chunk)
      → decoded_parts set (parts_from run (Text text ∷ ps))
      ≡ decode_run set run ++ (map Char (chars text) ++ decoded_parts set (parts_from [] ps))
  unfolding parts_from
  decoded_parts-of-text-chunk run text ps =
      grind (arith, nat_tests, flat_map-append, decoded_parts-of-octet-run)

  decoded_parts-of-prepended-text : (run text : List ℕ) (ps : List Chunk) → IsUtf8 text
      → decoded_parts set (parts_from run (prepend_to_chunks text ps))
      ≡ decode_run set run ++ (map Char (chars text) ++ decoded_parts set (parts_from [] ps))
  unfolding prepend_to_chunks
  decoded_parts-of-prepended-text run text [] u = decoded_parts-of-text-chunk run text []
  decoded_parts-of-prepended-text run text (Text more ∷ ps) u =
      let suffix = decoded_parts set (parts_from [] ps) in
      decoded_parts-of-text-chunk run _ ps ∙ ap (λ x. decode_run set run ++ (x ++ suffix))
      (ap (map Char) (chars-append _ _ u) ∙ map-append Char _ _) ∙ ap (λ x. decode_run set run ++ x)
      (append_assoc (map Char (chars text)) _ _ ∙ ap (λ x. map Char (chars text) ++ x) (sym
      (decoded_parts-of-text-chunk [] _ ps
      ∙ ap (λ x. x ++ (map Char (chars more) ++ suffix)) decode_run-of-nil-is-nil)))
  decoded_parts-of-prepended-text run text (Byte value ∷ ps) u = decoded_parts-of-text-chunk run
      text (Byte value ∷ ps)

  chars-of-one-character : (c : ℕ) → IsScalar c → chars (encode_utf8 c) ≡ c ∷ []
  chars-of-one-character c scalar = ap chars (sym (append-nil (encode_utf8 c)))
      ∙ chars-encodes (c ∷ []) (and_from _ true scalar refl)

  pub decoded_parts-of-token-chunks : (run : List ℕ) (ts : List Token)
      → list_all is_printable ts ≡ true
      → decoded_parts set (parts_from run (chunks_of_tokens ts)) ≡ decode_after_run set run ts
  unfolding chunks_of_tokens parts_from decode_after_run
  decoded_parts-of-token-chunks run [] e = decoded_parts-of-octet-run run
  decoded_parts-of-token-chunks run (Octet value ∷ ts) e = decoded_parts-of-token-chunks
      (run ++ value ∷ []) ts (and_parts (is_printable (Octet value)) _ e).1
  decoded_parts-of-token-chunks run (Char c ∷ ts) e =
      let p = and_parts (is_printable (Char c)) _ e in
      let scalar = printable_char_is_scalar c p.0 in
      decoded_parts-of-prepended-text run (encode_utf8 c)
      (chunks_of_tokens ts) (IsUtf8-encode c scalar) ∙ ap (λ cs. decode_run set run ++ (map Char cs
      ++ decoded_parts set (parts_from [] (chunks_of_tokens ts)))) (chars-of-one-character c scalar)
      ∙ ap (λ us. decode_run set run ++ Char c ∷ us) (decoded_parts-of-token-chunks [] ts p.1)
