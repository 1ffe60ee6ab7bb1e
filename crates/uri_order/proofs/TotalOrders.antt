-- The order of normal forms is a total order of the texts that have them.
use Rattle.std.proofs.Common.{◌≡◌, ◌↔◌, ◌⊎◌, ℕ, List, false, refl, sym, ap, inl, inr, Ordering, Less, Equal, Greater, true}
use Rattle.std.proofs.lemmas.Bool.{false≢true}
use Rattle.std.specs.Cmp.{IsTotalOrder, tied_itself, upto}
use Rattle.std.specs.Cmp.Lexicographic.{on_texts}
use Rattle.std.specs.Ordering.{is_gt, is_le, ordering_reverse}
use Rattle.fluent_uri.specs.Prelude.{HasComponentSets, IsTextOf, Kind, Rules}
use Rattle.uri_order.specs.NormalForms.{AreEquivalent, normal_form}
use Rattle.uri_order.specs.TotalOrders.{IsTotalOrderBy, order_by}
use Rattle.uri_order.proofs.Equivalences.{equal_in_order_if_equal, equivalent_if_forms_are_equal}

at-most-is-not-greater : (order : Ordering) → is_le order ≡ true → is_gt order ≡ false
at-most-is-not-greater Less e = refl
at-most-is-not-greater Equal e = refl
at-most-is-not-greater Greater e = absurd (false≢true e)

not-greater-is-at-most : (order : Ordering) → is_gt order ≡ false → is_le order ≡ true
not-greater-is-at-most Less e = refl
not-greater-is-at-most Equal e = refl
not-greater-is-at-most Greater e = absurd (false≢true (sym e))

-- total orders: an order is at most, or the other way round it is
one-way-or-the-other : (order back : Ordering) → order ≡ ordering_reverse back
    → (is_le order ≡ true) ⊎ (is_le back ≡ true)
one-way-or-the-other order Less e = inr refl
one-way-or-the-other order Equal e = inr refl
one-way-or-the-other order Greater e = inl (ap is_le e)

pub forms-are-in-total-order : (form : List ℕ → List ℕ) → IsTotalOrderBy form
forms-are-in-total-order form =
    let o : IsTotalOrder (order_by form) = on_texts form in
    record {
      reflexive = λ one. tied_itself o one;
      antisymmetric = λ one other. o.antisymm one other;
      transitive = λ one other third h k. not-greater-is-at-most (order_by form one third)
          (upto o one other third (at-most-is-not-greater (order_by form one other) h)
          (at-most-is-not-greater (order_by form other third) k));
      total = λ one other. one-way-or-the-other (order_by form one other)
          (order_by form other one) (o.antisymm one other);
    }

pub equal-in-order-if-equivalent : (kind : Kind) (rules : Rules) (one other : List ℕ)
    → HasComponentSets kind → IsTextOf kind one → IsTextOf kind other
    → (order_by (normal_form kind rules) one other ≡ Equal
    ↔ AreEquivalent kind rules one other)
equal-in-order-if-equivalent kind rules one other sets v w =
    equivalent_if_forms_are_equal kind rules sets one other v w
    (equal_in_order_if_equal (normal_form kind rules one) (normal_form kind rules other)
    (order_by (normal_form kind rules) one other) refl)
