-- Two texts that are read from their ends in step.
use Rattle.std.specs.Prelude.{◌≡◌, ℕ, ◌+◌, ◌<◌, ◌≤◌, List, length}
use Rattle.std.specs.Cmp.Lexicographic.{slice_cmp}
use Rattle.std.specs.Ordering.{nat_cmp}
use Rattle.uri_order.specs.declared.in_step.Ends.{Ends}
use Rattle.uri_order.specs.declared.in_step.Ends.TheVariants.{Both, First, Second}

-- which of two texts ends first: the shorter one. The functions say what is left of a text.
abbrev pub AreEnds : {A B : Type 0} → (A → List ℕ) → (B → List ℕ) → List ℕ → List ℕ
    → Ends A B → Type 0
AreEnds left_of_one left_of_other one other (Both order) =
    (length one ≡ length other) × (order ≡ slice_cmp nat_cmp one other)
AreEnds left_of_one left_of_other one other (Second rest more) =
    (0 < more) × (more ≤ 1024) × (length one ≡ length (left_of_one rest) + more + length other)
AreEnds left_of_one left_of_other one other (First rest more) =
    (0 < more) × (more ≤ 1024) × (length other ≡ length (left_of_other rest) + more + length one)
