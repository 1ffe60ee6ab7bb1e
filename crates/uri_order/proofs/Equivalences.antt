-- When normal forms are equal.
use Rattle.std.proofs.Common.{◌≡◌, ◌↔◌, ℕ, Bool, true, List, sym, ap, ◌∙◌, Ordering, Equal, subst}
use Rattle.std.proofs.lemmas.Map.Text.{is_eq-slice_cmp}
use Rattle.std.proofs.lemmas.Slice.Eq.{bytes_eq-Decides}
use Rattle.std.specs.Cmp.{tied_itself}
use Rattle.std.specs.Cmp.Lexicographic.{nat_list_cmp_total, slice_cmp}
use Rattle.std.specs.Ordering.{is_eq, nat_cmp}
use Rattle.std.specs.Str.{IsUtf8}
use Rattle.fluent_uri.specs.Prelude.{HasComponentSets, IsOfKind, IsTextOf, Kind, Rules}
use Rattle.uri_ops.proofs.Offered.{same-normal-text-same-meaning}
use Rattle.uri_order.specs.NormalForms.{AreEquivalent, normal_form}

pub equal_text_is_of_kind : (kind : Kind) (text same : List ℕ) → text ≡ same → IsUtf8 text
    → IsOfKind kind text → IsTextOf kind same
equal_text_is_of_kind kind text same e u k =
    subst (IsTextOf kind) e (record { utf8 = u; grammar = k })

-- normal forms of two texts of a kind are equal exactly if the texts are equivalent, so a test of
-- the one is a test of the other
pub equivalent_if_forms_are_equal : {P : Type 0} (kind : Kind) (rules : Rules)
    → HasComponentSets kind → (one other : List ℕ) → IsTextOf kind one → IsTextOf kind other
    → (P ↔ normal_form kind rules one ≡ normal_form kind rules other)
    → (P ↔ AreEquivalent kind rules one other)
equivalent_if_forms_are_equal kind rules sets one other v w tested =
    let same = same-normal-text-same-meaning kind rules sets one other v w in
    (λ p. same.0 (tested.0 p), λ m. tested.1 (same.1 m))

pub equal_texts_are_equal_in_order : (one other : List ℕ) → one ≡ other
    → Equal ≡ slice_cmp nat_cmp one other
equal_texts_are_equal_in_order one other e =
    sym (tied_itself nat_list_cmp_total one) ∙ ap (slice_cmp nat_cmp one) e

pub equal_in_order_if_equal : (one other : List ℕ) (order : Ordering)
    → order ≡ slice_cmp nat_cmp one other → (order ≡ Equal) ↔ (one ≡ other)
equal_in_order_if_equal one other order e = (
  λ equal. (bytes_eq-Decides one other).0
      (sym (is_eq-slice_cmp one other) ∙ ap is_eq (sym e ∙ equal)),
  λ same. e ∙ sym (equal_texts_are_equal_in_order one other same),
)

-- two texts are equal exactly if a test says that they are equal in their order
pub equal_if_order_is_equal : (one other : List ℕ) (order : Ordering) (tested : Bool)
    → order ≡ slice_cmp nat_cmp one other → tested ≡ is_eq order
    → (tested ≡ true) ↔ (one ≡ other)
equal_if_order_is_equal one other order tested e test =
    let same = test ∙ ap is_eq e ∙ is_eq-slice_cmp one other in
    let decides = bytes_eq-Decides one other in
    (λ r. decides.0 (sym same ∙ r), λ equal. same ∙ decides.1 equal)
