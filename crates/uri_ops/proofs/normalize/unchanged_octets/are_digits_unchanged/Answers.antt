use Rattle.uri_ops.proofs.Common.{◌≡◌, ℕ, ◌<◌, ◌||◌, Bool, true, false, not, cond, eqb, bit_and, get_or, refl, sym, ap, ◌∙◌, ⊎_elim, arith, agree_below, agree_below_at, cases_Bool, eqb-true, is_unchanged_octet}
use Rattle.std.specs.Int.Bits.{and_zero_l}
use Rattle.uri_ops.specs.declared.normalize.unchanged_octets.TheConstants.{FIRST_DIGITS, SECOND_DIGITS}
use Rattle.uri_ops.proofs.normalize.unchanged_octets.are_digits_unchanged.Goals as goal
use Rattle.uri_ops.proofs.normalize.unchanged_octets.are_digits_unchanged.Goals.{else-alone, then-alone}

-- unchanged octets: the class of a first digit
abbrev first : ℕ → ℕ
first high = get_or FIRST_DIGITS.now high 0

-- unchanged octets: the classes of a second digit
abbrev second : ℕ → ℕ
second low = get_or SECOND_DIGITS.now low 0

-- unchanged octets: the test of the tables
abbrev passes : Bool → ℕ → ℕ → Bool
passes alone high low =
    not (eqb (bit_and (bit_and (first high) (second low)) (cond alone 255 127)) 0)

-- unchanged octets: what passes the test is unchanged
abbrev is_sound : Bool → ℕ → ℕ → Bool
is_sound alone high low = not (passes alone high low) || is_unchanged_octet alone high low

-- unchanged octets: a first digit has no class, or the test is sound with each second digit
abbrev is_row_sound : Bool → ℕ → Bool
is_row_sound alone high = eqb (first high) 0 || agree_below (is_sound alone high) (λ _. true) 256

rows-are-sound : (alone : Bool) (high : ℕ) → high < 256 → is_row_sound alone high ≡ true
rows-are-sound true high small = agree_below_at (is_row_sound true) (λ _. true) 256 high refl small
rows-are-sound false high small =
    agree_below_at (is_row_sound false) (λ _. true) 256 high refl small

test-is-sound : (alone : Bool) (high low : ℕ) → high < 256 → low < 256
    → is_sound alone high low ≡ true
test-is-sound alone high low small below = ⊎_elim (λ none.
    let s = second low in
    let k : ℕ = cond alone 255 127 in
    let same = is_unchanged_octet alone high low in
    ap (λ n. not (not (eqb (bit_and (bit_and n s) k) 0)) || same) (eqb-true _ _ none)
    ∙ ap (λ n. not (not (eqb (bit_and n k) 0)) || same) (and_zero_l s) ∙ ap
    (λ n. not (not (eqb n 0)) || same) (and_zero_l k)) (λ some. agree_below_at (is_sound alone high)
    (λ _. true) 256 low (ap (λ b. b || agree_below (is_sound alone high) (λ _. true) 256) (sym some)
    ∙ rows-are-sound alone high small) below) (cases_Bool (eqb (first high) 0))

digits-that-pass-are-unchanged : (alone : Bool) (high low : ℕ) → high < 256 → low < 256
    → passes alone high low ≡ true → is_unchanged_octet alone high low ≡ true
digits-that-pass-are-unchanged alone high low small below e = grind (arith, test-is-sound)

pub returns : goal.returns
returns c = grind (arith, digits-that-pass-are-unchanged)
