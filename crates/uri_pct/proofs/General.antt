-- General facts for all crates: on tests, and on components that may be absent.
use Rattle.uri_pct.proofs.Common.{◌≡◌, ℕ, Bool, true, false, ◌||◌, List, refl, rules, option_map, sym, subst, not, cond, eqb, ◌<◌, arith, Option, Some, None, IsTrue, IfSome, is_some, is_none, false≢true, nat_tests}

-- what code tests as true is equal to true
pub eq_true_from_IsTrue : (b : Bool) → IsTrue b → b ≡ true
eq_true_from_IsTrue b h = search rules

-- what holds of a component implies what follows from it
pub IfSome-weaken : (o : Option (List ℕ)) (P Q : List ℕ → Type 0) → ((x : List ℕ) → P x → Q x)
    → IfSome o P → IfSome o Q
IfSome-weaken None P Q f h = tt
IfSome-weaken (Some x) P Q f h = f x h

-- two facts of a component are combined
pub IfSome-combine : (o : Option (List ℕ)) (P Q R : List ℕ → Type 0)
    → ((x : List ℕ) → P x → Q x → R x) → IfSome o P → IfSome o Q → IfSome o R
IfSome-combine None P Q R f p q = tt
IfSome-combine (Some x) P Q R f p q = f x p q

-- mapping keeps whether there is a component
pub is_some-option_map : {A B : Type 0} (f : A → B) (o : Option A) → is_some (option_map f o)
    ≡ is_some o
is_some-option_map f None = refl
is_some-option_map f (Some x) = refl

-- mapping keeps whether there is no component
pub is_none-option_map : {A B : Type 0} (f : A → B) (o : Option A) → is_none (option_map f o)
    ≡ is_none o
is_none-option_map f None = refl
is_none-option_map f (Some x) = refl

-- a component that is there is not absent
pub some_is_not_none : {A : Type 0} (o : Option A) → is_some o ≡ true → is_none o ≡ false
some_is_not_none None e = absurd (false≢true e)
some_is_not_none (Some x) e = refl

-- a component that is not there is absent
pub not_some_is_none : {A : Type 0} (o : Option A) → is_some o ≡ false → is_none o ≡ true
not_some_is_none None e = refl
not_some_is_none (Some x) e = absurd (false≢true (sym e))

-- a component that is absent is not there
pub none-is-not-some : {A : Type 0} (o : Option A) → is_none o ≡ true → is_some o ≡ false
none-is-not-some None e = refl
none-is-not-some (Some x) e = absurd (false≢true e)

-- a component that is not there is `None`
pub None-from-not-is_some : {A : Type 0} (o : Option A) → is_some o ≡ false → o ≡ None
None-from-not-is_some None e = refl
None-from-not-is_some (Some x) e = absurd (false≢true (sym e))

-- a component that is absent is `None`
pub None-from-is_none : {A : Type 0} (o : Option A) → is_none o ≡ true → o ≡ None
None-from-is_none None e = refl
None-from-is_none (Some x) e = absurd (false≢true e)

pub twice_negated_is_the_same : (b : Bool) → b ≡ not (not b)
twice_negated_is_the_same true = refl
twice_negated_is_the_same false = refl

-- a bit that is 1 exactly where a test fails
pub bit_is_failing_test : (n : ℕ) (b : Bool) → n < 2 → eqb n 1 ≡ not b → n ≡ cond (not b) 1 0
bit_is_failing_test n b h e = grind (arith, nat_tests)

-- if one of two tests holds, and not the first, the second holds
pub second-holds-if-first-is-false : (f t : Bool) → f ≡ false → (f || t) ≡ true → t ≡ true
second-holds-if-first-is-false f t e h = subst (λ x. (x || t) ≡ true) e h
