-- A change of segments that keeps which of them are dots may come before or after the removal of
-- dot segments.
use Rattle.uri_ops.proofs.Common.{arith, ◌≡◌, ℕ, Bool, true, cond, List, [], ◌∷◌, ◌++◌, map, refl, sym, ap, ◌∙◌, list_all, map-append, and_parts, is_single_dot, is_double_dot, common_steps}
use Rattle.uri_ops.proofs.Paths.Segments.{pop, is_none, next_output, step_of, steps, end_of, closing, dotless_of, parent, AllPass}
use Rattle.uri_ops.proofs.Paths.Underflows.{underflows_at, underflows_over}

module _ (f : List ℕ → List ℕ) where
  pop-and-map-swap : (xs : List (List ℕ)) → pop (map f xs) ≡ map f (pop xs)
  unfolding pop
  pop-and-map-swap [] = refl
  pop-and-map-swap (s ∷ []) = refl
  pop-and-map-swap (s ∷ t ∷ rest) = ap (λ r. f s ∷ r) (pop-and-map-swap (t ∷ rest))

  is_none-of-mapped-segments : (xs : List (List ℕ)) → is_none (map f xs) ≡ is_none xs
  unfolding is_none
  is_none-of-mapped-segments xs = grind (arith, common_steps)

  next_output-and-map-swap : (single double : Bool) (output : List (List ℕ)) (s : List ℕ)
      → next_output single double (map f output) (f s) ≡ map f (next_output single double output s)
  unfolding next_output
  next_output-and-map-swap single double output s =
      grind (arith, common_steps, pop-and-map-swap, map-append)

  underflows_at-of-mapped-segments : (single double before : Bool) (output : List (List ℕ))
      → underflows_at single double before (map f output)
      ≡ underflows_at single double before output
  unfolding underflows_at
  underflows_at-of-mapped-segments single double before output =
      grind (arith, common_steps, is_none-of-mapped-segments)

-- dot segments: a change f of segments keeps whether the segment s is `.`, or `..`
pub record KeepsDots (f : List ℕ → List ℕ) (s : List ℕ) : Type 0 where
  pub single : is_single_dot (f s) ≡ is_single_dot s
  pub double : is_double_dot (f s) ≡ is_double_dot s

module _ (f : List ℕ → List ℕ) (among : List ℕ → Bool)
    (keeps : (s : List ℕ) → among s ≡ true → KeepsDots f s) where
  step_of-and-map-swap : (output : List (List ℕ)) (s : List ℕ) → among s ≡ true
      → step_of (map f output) (f s) ≡ map f (step_of output s)
  unfolding step_of
  step_of-and-map-swap output s e = grind (arith, next_output-and-map-swap)

  steps-and-map-swap : (output segs : List (List ℕ)) → AllPass among segs
      → steps (map f output) (map f segs) ≡ map f (steps output segs)
  unfolding steps
  steps-and-map-swap output [] e = refl
  steps-and-map-swap output (s ∷ rest) e =
      let p = and_parts (among s) (list_all among rest) e in
      ap (λ o. steps o (map f rest)) (step_of-and-map-swap output s p.0)
      ∙ steps-and-map-swap (step_of output s) rest p.1

  end_of-and-map-swap : f [] ≡ [] → (dot : Bool) → end_of dot ≡ map f (end_of dot)
  end_of-and-map-swap nil o = grind (arith, common_steps)

  closing-and-map-swap : f [] ≡ [] → (segs : List (List ℕ)) → AllPass among segs
      → closing (map f segs) ≡ map f (closing segs)
  unfolding closing
  closing-and-map-swap nil [] e = refl
  closing-and-map-swap nil (s ∷ []) e = grind (arith, end_of, end_of-and-map-swap)
  closing-and-map-swap nil (s ∷ t ∷ rest) e =
      closing-and-map-swap nil (t ∷ rest) (and_parts (among s) (list_all among (t ∷ rest)) e).1

  pub dotless_of-and-map-swap : f [] ≡ [] → (segs : List (List ℕ)) → AllPass among segs
      → dotless_of (map f segs) ≡ map f (dotless_of segs)
  unfolding dotless_of
  dotless_of-and-map-swap nil segs e =
      ap (λ t. t ++ closing (map f segs)) (steps-and-map-swap [] segs e)
      ∙ ap (λ t. map f (steps [] segs) ++ t) (closing-and-map-swap nil segs e)
      ∙ sym (map-append f (steps [] segs) (closing segs))

  last-double-dot-and-map-swap : (double : Bool) (s : List ℕ)
      → cond double (f s ∷ []) [] ≡ map f (cond double (s ∷ []) [])
  last-double-dot-and-map-swap double s = grind (arith, common_steps)

  pub parent-and-map-swap : (segs : List (List ℕ)) → AllPass among segs
      → parent (map f segs) ≡ map f (parent segs)
  unfolding parent
  parent-and-map-swap [] e = refl
  parent-and-map-swap (s ∷ []) e = ap (λ b. cond b (f s ∷ []) []) (keeps s
      (and_parts (among s) true e).0).double ∙ last-double-dot-and-map-swap (is_double_dot s) s
  parent-and-map-swap (s ∷ t ∷ rest) e = ap (λ r. f s ∷ r)
      (parent-and-map-swap (t ∷ rest) (and_parts (among s) (list_all among (t ∷ rest)) e).1)

  pub underflows_over-of-mapped-segments : (before : Bool) (output segs : List (List ℕ))
      → AllPass among segs
      → underflows_over before (map f output) (map f segs) ≡ underflows_over before output segs
  unfolding underflows_over
  underflows_over-of-mapped-segments before output [] e = refl
  underflows_over-of-mapped-segments before output (s ∷ rest) e =
      let p = and_parts (among s) (list_all among rest) e in
      let k = keeps s p.0 in
      ap (λ o. underflows_over (underflows_at (is_single_dot (f s)) (is_double_dot (f s)) before
      (map f output)) o (map f rest)) (step_of-and-map-swap output s p.0)
      ∙ ap (λ b. underflows_over b (map f (step_of output s)) (map f rest)) (
      ap (λ b. underflows_at b (is_double_dot (f s)) before (map f output)) k.single
      ∙ ap (λ b. underflows_at (is_single_dot s) b before (map f output)) k.double
      ∙ underflows_at-of-mapped-segments f (is_single_dot s) (is_double_dot s) before output)
      ∙ underflows_over-of-mapped-segments
      (underflows_at (is_single_dot s) (is_double_dot s) before output) (step_of output s) rest p.1
