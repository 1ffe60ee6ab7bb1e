-- No table holds the percent sign.
use native.Mathlib.Omega.{arith}
use Rattle.uri_pct.proofs.Common.{◌≡◌, ◌∙◌, ℕ, not, eqb, List, [], ◌∷◌, refl, list_any, LacksPercent, set_of, lacks, Table}
use Rattle.uri_pct.proofs.TableSets.Masks.{has_bit_of_percent_is_bit_of_low}

-- sets: that of a table never has `%`
pub lacks_percent : (t : Table) → LacksPercent (set_of t)
lacks_percent t = has_bit_of_percent_is_bit_of_low t.low t.high ∙ t.lacks_percent

-- general fact on lists of bytes, for tables:
-- if a search finds a byte nowhere in a text, the text lacks it
pub byte_not_found_is_lacked : (byte : ℕ) (text : List ℕ)
    → not (list_any (λ b. eqb b byte) text) ≡ lacks byte text
byte_not_found_is_lacked byte [] = refl
byte_not_found_is_lacked byte (b ∷ text) = grind (arith, byte_not_found_is_lacked byte text)
