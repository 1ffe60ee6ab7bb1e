-- The target of a reference that has a scheme, and a path that does not begin with `/`.
use Rattle.uri_ops.proofs.Common.{◌≡◌, true, false, ◌&&◌, ◌||◌, ap, ◌∙◌, refl, arith, is_some, not, and_right, cond-true, Components, starts, underflows, with_final_path, underflows_if_absolute, is_fragment_only, is_opaque, is_opaque_rejection, dotted_target}

module _ (base r : Components) (some : is_some r.scheme ≡ true)
    (rootless-path-has-no-authority : starts 47 r.path ≡ false) where
  itself : dotted_target base r ≡ r
  itself = cond-true (is_some r.scheme) r _ some

  -- it is the reference
  pub copied_target : with_final_path (dotted_target base r) ≡ r
  copied_target = grind arith

  pub copied_taken : is_opaque_rejection base r ≡ false
  copied_taken = ap (λ x. is_opaque base && not (x || is_fragment_only r)) some
      ∙ and_right (is_opaque base) false refl

  pub copied_underflow : underflows_if_absolute (dotted_target base r).path ≡ false
  copied_underflow = ap (λ (c : Components). underflows_if_absolute c.path) itself
      ∙ ap (λ x. x && underflows r.path) rootless-path-has-no-authority
