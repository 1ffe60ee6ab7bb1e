-- The first index at which a test passes.
use Rattle.uri_links.proofs.Common.{◌≡◌, ◌+◌, ◌≤◌, Bool, false, List, [], ◌∷◌, length, Some, None, cond, not, ltb, refl, ap, arith, AllByRecursion, list_any, position, position_or_len, nat_tests}

-- general fact on lists: the first index at which a test passes
-- is at most the length; for texts of links
position_or_len-at-most-length : {X : Type 0} (p : X → Bool) (xs : List X)
    → position_or_len p xs ≤ length xs
position_or_len-at-most-length p [] = omega arith
position_or_len-at-most-length p (x ∷ xs) =
    grind (arith, nat_tests, position_or_len-at-most-length p xs)

-- general fact on lists: two tests that agree on each element
-- first pass at the same index; for texts of links
position_or_len-of-equal-tests : {X : Type 0} (p q : X → Bool) (xs : List X)
    → AllByRecursion (λ x. p x ≡ q x) xs → position_or_len p xs ≡ position_or_len q xs
position_or_len-of-equal-tests p q [] h = refl
position_or_len-of-equal-tests p q (x ∷ xs) h = λ i. cond (not (h.0 i))
    (1 + position_or_len-of-equal-tests p q xs h.1 i) 0

-- general fact on lists: where two tests agree on all elements,
-- they pass first at the same index; for texts of links
pub position-of-equal-tests : {X : Type 0} (p q : X → Bool) (xs : List X)
    → AllByRecursion (λ x. p x ≡ q x) xs → position p xs ≡ position q xs
position-of-equal-tests p q xs h = ap (λ n. cond (ltb n (length xs)) (Some n) None)
    (position_or_len-of-equal-tests p q xs h)

-- general fact on lists: if that index is the length, no element passes; for texts of links
position_or_len-at-end-none-passes : {X : Type 0} (p : X → Bool) (xs : List X)
    → position_or_len p xs ≡ length xs → list_any p xs ≡ false
position_or_len-at-end-none-passes p [] e = refl
position_or_len-at-end-none-passes p (x ∷ xs) e =
    grind (arith, nat_tests, position_or_len-at-end-none-passes p xs)

-- general fact on lists: if no index is found, no element passes the test; for texts of links
pub position-None-no-element-passes : {X : Type 0} (p : X → Bool) (xs : List X) → position p xs
    ≡ None → list_any p xs ≡ false
position-None-no-element-passes p xs e = position_or_len-at-end-none-passes p xs
    (grind (arith, nat_tests, position_or_len-at-most-length p xs))
