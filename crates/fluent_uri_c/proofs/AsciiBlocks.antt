-- A block of which no byte is past ASCII.
use Rattle.fluent_uri_c.proofs.Common.{◌≡◌, ℕ, zero, suc, ◌+◌, ◌-◌, ◌^◌, ◌%◌, ◌<◌, ◌≤◌, Bool, true, false, cond, eqb, leb, List, [], ◌∷◌, map, length, get_or, replicate, sym, refl, ap, ◌∙◌, arith, leb-false, eqb-true, length-map, length-replicate}
use Rattle.std.specs.Simd.Lanes.{chunk, zip2, mask_l, top}
use Rattle.std.proofs.lemmas.Simd.{get_or-chunk, length-chunk, length-zip2, mask_l-mod}

-- for the C exports' test of ASCII: a lane of the comparison, whose top bit is set where the byte
-- is past ASCII
abbrev compared_lane : ℕ → ℕ → ℕ
compared_lane limit byte = cond (leb limit byte) 255 0

-- for the C exports' test of ASCII: for each lane whether its byte is past ASCII
abbrev lanes_past_ascii : ℕ → List ℕ → List Bool
lanes_past_ascii n block = map (top 7) (zip2 compared_lane (replicate n 128) block)

-- for the C exports' test of ASCII: a block whose mask has no bit has ASCII bytes only
no-lane-past-ascii : (block : List ℕ) → mask_l (lanes_past_ascii (length block) block) ≡ 0 → (i : ℕ)
    → get_or block i 0 < 128
no-lane-past-ascii [] e i = omega arith
no-lane-past-ascii (byte ∷ block) e zero = go (leb 128 byte) refl (omega arith)
  where
    go : (t : Bool) → leb 128 byte ≡ t → ◌≡◌ {A = ℕ} (cond (top 7 (cond t 255 0)) 1 0) 0
        → byte < 128
    go true p q = absurd (omega arith)
    go false p q = leb-false _ _ p
no-lane-past-ascii (byte ∷ block) e (suc i) = no-lane-past-ascii block (omega arith) i

-- for the C exports' test of ASCII: if the mask of a block has no bit, each byte of it is ASCII
pub block_is_ascii : (lanes : ℕ) → lanes ≤ 64 → (bytes : List ℕ) (at : ℕ)
    → at + lanes ≤ length bytes
    → eqb (mask_l (lanes_past_ascii lanes (chunk at lanes bytes)) % 2 ^ 64) 0 ≡ true → (k : ℕ)
    → at ≤ k → k < at + lanes → get_or bytes k 0 < 128
block_is_ascii lanes small bytes at room e k from to =
    let block : List ℕ = chunk at lanes bytes in
    let long : length block ≡ lanes = length-chunk at lanes bytes room in
    let wide = length-replicate {A = ℕ} lanes 128 in
    let few : length (lanes_past_ascii lanes block) ≤ 64 = omega (
      arith,
      length-map (zip2 compared_lane (replicate lanes 128) block) (top 7),
      length-zip2 compared_lane (replicate lanes 128) block (wide ∙ sym long),
      wide,
      small,
    ) in
    let none : mask_l (lanes_past_ascii (length block) block) ≡ 0 =
    ap (λ n. mask_l (lanes_past_ascii n block)) long ∙ sym (mask_l-mod _ 64 few) ∙ eqb-true _ _ e in
    let here : at + (k - at) ≡ k = omega arith in
    let lane = get_or-chunk at lanes bytes (k - at) 0 (omega arith) in
    let byte : get_or block (k - at) 0 < 128 = no-lane-past-ascii block none (k - at) in
    omega (arith, ap (λ n. get_or bytes n 0) here, lane, byte)
