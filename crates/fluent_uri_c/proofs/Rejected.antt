-- The parts of bytes that are rejected.
use Rattle.fluent_uri_c.proofs.Common.{◌≡◌, ℕ, List, arith, Some, Kind, Rejection, Parts, IsPossibleText, text_error, ArePartsOf, rejected_parts}
use Rattle.fluent_uri_c.specs.declared.errors.Error.{Error}
use Rattle.fluent_uri_c.specs.declared.errors.Error.TheVariants as Of

-- exports for C: what is written of rejected bytes is the error and its index
pub rejected_parts-are-parts : (kind : Kind) (bytes : List ℕ) (why : Rejection) (parts : Parts)
    → Some why ≡ text_error kind bytes → (IsPossibleText kind bytes → ⊥)
    → parts ≡ rejected_parts why → ArePartsOf (Some kind) bytes parts
rejected_parts-are-parts kind bytes why parts e outside is = grind arith
