use Rattle.uri_pct.proofs.Common.{◌≡◌, ◌-◌, ◌≤◌, ◌∙◌, sym, ap, eqb, arith, bit_and, bit_at, and_mask, shr_and_one}
use Rattle.uri_pct.proofs.TableSets.Masks.{has_bit_below_64_is_bit_of_low, has_bit_from_64_is_bit_of_high}
use Rattle.uri_pct.proofs.masks.has.Goals as goal
use Rattle.uri_pct.proofs.masks.has.Goals.{then-byte-lt64, else-byte-lt64}

pub returns : goal.returns
returns c =
    let low = c.args.low in
    let high = c.args.high in
    let b = c.args.byte in
    let mask = c.if-byte-lt64.mask in
    ap (λ n. eqb n 1) (shr_and_one mask (bit_and b 63)) ∙ elim c.if-byte-lt64.branch [
      | then-byte-lt64 w ↦
          let place : bit_and b 63 ≡ b = and_mask b 6 ∙ omega (arith, w.if-byte-lt64.true) in
          ap (λ k. eqb (bit_at mask k) 1) place ∙ ap (λ m. eqb (bit_at m b) 1) w.mask-is
          ∙ sym (has_bit_below_64_is_bit_of_low low high b w.if-byte-lt64.true)
      | else-byte-lt64 w ↦
          let from : 64 ≤ b = omega (arith, w.if-byte-lt64.false) in
          let place : bit_and b 63 ≡ b - 64 = and_mask b 6 ∙ omega (arith, from, c.requires) in
          ap (λ k. eqb (bit_at mask k) 1) place ∙ ap (λ m. eqb (bit_at m (b - 64)) 1) w.mask-is
          ∙ sym (has_bit_from_64_is_bit_of_high low high b from c.requires)
    ]
