-- The errors for a reference in their order, or the accepted reference.
use Rattle.uri_ops.proofs.Common.{◌≡◌, Bool, false, cond, Result, Ok, Err, result_map_both, TargetError, BaseWithFragment, InvalidReferenceAgainstOpaqueBase, arith, common_steps}

unfoldable pub result_or_target_error : {A : Type 0} → Bool → Bool → A → Result A TargetError
result_or_target_error fragment opaque x = cond fragment (Err BaseWithFragment)
    (cond opaque (Err InvalidReferenceAgainstOpaqueBase) (Ok x))

-- resolving: mapping the target leaves the errors as they are; fragment, opaque: whether the base
-- has one, whether it is opaque
pub map-of-result_or_error : {A B : Type 0} (f : A → B) (fragment opaque : Bool) (x : A)
    → result_map_both f (λ (refusal : TargetError). refusal)
    (result_or_target_error fragment opaque x) ≡ result_or_target_error fragment opaque (f x)
unfolding result_or_target_error
map-of-result_or_error f fragment opaque x = grind (arith, common_steps)

-- resolving: what would be accepted makes no difference where it is rejected;
-- fragment, opaque: whether the base has one, is opaque
pub rejected-results-are-equal : {A : Type 0} (fragment opaque : Bool) (x y : A) → (opaque ≡ false
    → x ≡ y) → result_or_target_error fragment opaque x ≡ result_or_target_error fragment opaque y
unfolding result_or_target_error
rejected-results-are-equal fragment opaque x y e = grind (arith, common_steps, e)

-- resolving: where a target is returned, the base is not opaque; fragment, opaque: whether the base
-- has one, whether it is opaque
pub ok-result-has-no-opaque-rejection : {A : Type 0} (fragment opaque : Bool) (x y : A)
    → result_or_target_error fragment opaque x ≡ Ok y → (opaque ≡ false) × (x ≡ y)
unfolding result_or_target_error
ok-result-has-no-opaque-rejection fragment opaque x y e = grind (arith, common_steps)
