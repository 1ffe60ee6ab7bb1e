-- Tests that pass together, and one that does not pass.
use native.Mathlib.Omega.{arith}
use Rattle.std.proofs.Common.{◌≡◌, Bool, true}
use Rattle.std.specs.Prelude.{◌↔◌}

pub equal-if-true-together : (a b : Bool) → ((a ≡ true) ↔ (b ≡ true)) → a ≡ b
equal-if-true-together a b both = grind arith
