use Rattle.uri_pct.proofs.Common.{◌≡◌, ℕ, ◌-◌, ◌<◌, ◌≤◌, List, [], ◌∷◌, ◌++◌, length, get_or, take, drop, map, sym, ap, ◌∙◌, subst, arith, inr, length-drop, take_all, nat_tests, All-same, All-drop, ArePastAscii, Decoded, IllFormed, following_ranges, first_piece, pieces_from, utf8_pieces}
use Rattle.uri_pct.proofs.Unicode.CharacterPieces.{byte_below_80_or_from_c0_is_no_continuation}
use Rattle.uri_pct.proofs.Unicode.Pieces.{utf8_pieces_are_cut_at_non_continuation}
use Rattle.uri_pct.proofs.Unicode.Runs.{no_bytes_have_no_pieces}
use Rattle.uri_pct.proofs.utf8_runs.take_lone_bytes.Goals as goal

lone-byte-is-no-character : (b : ℕ) → 128 ≤ b
    → first_piece (following_ranges b) b [] ≡ IllFormed (b ∷ [])
unfolding following_ranges
lone-byte-is-no-character b past = grind (arith, nat_tests)

-- UTF-8: a byte past ASCII, with nothing after it, is an ill-formed piece
lone-byte-is-ill-formed : (b : ℕ) → 128 ≤ b → utf8_pieces (b ∷ []) ≡ IllFormed (b ∷ []) ∷ []
unfolding pieces_from
lone-byte-is-ill-formed b past = ap (λ p. p ∷ []) (lone-byte-is-no-character b past)

-- UTF-8: the first of bytes past ASCII is ill-formed by itself, if the second continues nothing
first-byte-is-ill-formed : (bytes : List ℕ) → ArePastAscii bytes → 1 < length bytes → 192
    ≤ get_or bytes 1 0 → utf8_pieces bytes ≡ IllFormed (take 1 bytes) ∷ utf8_pieces (drop 1 bytes)
first-byte-is-ill-formed [] past long high = absurd (omega arith)
first-byte-is-ill-formed (b ∷ []) past long high = absurd (omega arith)
first-byte-is-ill-formed (b ∷ d ∷ rest) past long high = utf8_pieces_are_cut_at_non_continuation (b
    ∷ []) (d ∷ rest) (byte_below_80_or_from_c0_is_no_continuation d (inr high))
    ∙ ap (λ ps. ps ++ utf8_pieces (d ∷ rest)) (lone-byte-is-ill-formed b (past 0 0 (omega arith)))

slice-after-first-is-drop : (bytes : List ℕ) → take (length bytes - 1) (drop 1 bytes) ≡ drop 1 bytes
slice-after-first-is-drop bytes = grind (arith, length-drop, take_all)

parts-after-ill-formed-byte : (bytes : List ℕ) → ArePastAscii bytes → 1 < length bytes
    → 192 ≤ get_or bytes 1 0 → (Decoded (IllFormed (take 1 bytes)) ∷ []) ++ map Decoded
    (utf8_pieces (take (length bytes - 1) (drop 1 bytes))) ≡ map Decoded (utf8_pieces bytes)
parts-after-ill-formed-byte bytes past long high =
    grind (arith, nat_tests, slice-after-first-is-drop, first-byte-is-ill-formed)

parts-of-lone-byte : (bytes : List ℕ)
    → ArePastAscii bytes → length bytes ≡ 1 → (Decoded (IllFormed bytes) ∷ []) ++ map Decoded
    (utf8_pieces (take (length bytes - 1) (drop 1 bytes))) ≡ map Decoded (utf8_pieces bytes)
parts-of-lone-byte [] past one = absurd (omega (arith, one))
parts-of-lone-byte (b ∷ d ∷ rest) past one = absurd (omega (arith, one))
parts-of-lone-byte (b ∷ []) past one =
    ap (λ ps. (Decoded (IllFormed (b ∷ [])) ∷ []) ++ map Decoded ps) no_bytes_have_no_pieces
    ∙ sym (ap (map Decoded) (lone-byte-is-ill-formed b (past 0 0 (omega arith))))

pub loop-left-preserved : goal.loop-left-preserved
loop-left-preserved g c =
    let bytes = c.loop-left.left.now in
    let before = c.loop-left.taker in
    let after = c.take_ill_formed.new.self in
    let holds = c.loop-left.invariant in
    let long : 1 < length bytes = omega arith in
    let parts = parts-after-ill-formed-byte bytes holds.past_ascii long c.if-left-ge192.true in
    record {
      past_ascii = All-same (λ b. 128 ≤ b) _ _ (slice-after-first-is-drop bytes)
          (All-drop (λ b. 128 ≤ b) 1 bytes holds.past_ascii);
      taken = λ u h. holds.taken u (subst (λ ps. g.T.TakeParts.took before ps u) parts
          (g.met.T.TakeParts.takes_appended_parts
          before after u _ _ c.in_ok-take_ill_formed.ensures h));
    }

pub returns-clause-taken : goal.returns-clause-taken
returns-clause-taken g c =
    let bytes = c.loop-left.left.now in
    let before = c.loop-left.taker in
    let after = c.take_ill_formed-2.new.self in
    let holds = c.loop-left.invariant in
    let parts = parts-of-lone-byte bytes holds.past_ascii c.if-left-ne1.false in
    λ u h. holds.taken u (subst (λ ps. g.T.TakeParts.took before ps u) parts
    (g.met.T.TakeParts.takes_appended_parts before after u _ _ c.in_ok-take_ill_formed-2.ensures h))
