-- Total orders of texts by their normal forms.
use Rattle.std.specs.Prelude.{◌≡◌, ◌⊎◌, ℕ, List, true}
use Rattle.std.specs.Cmp.Lexicographic.{slice_cmp}
use Rattle.std.specs.Ordering.{is_le, nat_cmp, ordering_reverse}
use Rattle.std.specs.declared.cmp.Ordering.{Ordering}
use Rattle.std.specs.declared.cmp.Ordering.TheVariants.{Equal}

-- the order of the forms that two texts have, byte by byte
abbrev pub order_by : (List ℕ → List ℕ) → List ℕ → List ℕ → Ordering
order_by form one other = slice_cmp nat_cmp (form one) (form other)

-- the order of forms is a total order of the texts that have them, of which some may be equal
pub record IsTotalOrderBy (form : List ℕ → List ℕ) : Type 0 where
  pub reflexive : (one : List ℕ) → order_by form one one ≡ Equal
  pub antisymmetric : (one other : List ℕ)
      → order_by form one other ≡ ordering_reverse (order_by form other one)
  pub transitive : (one other third : List ℕ) → is_le (order_by form one other) ≡ true
      → is_le (order_by form other third) ≡ true → is_le (order_by form one third) ≡ true
  pub total : (one other : List ℕ)
      → (is_le (order_by form one other) ≡ true) ⊎ (is_le (order_by form other one) ≡ true)
