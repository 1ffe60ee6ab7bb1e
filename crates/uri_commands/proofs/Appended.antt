-- What a writer holds after texts of which the last may not be whole.
use Rattle.uri_commands.proofs.Common.{◌≡◌, ◌+◌, ◌<◌, ◌≤◌, ◌++◌, ℕ, Bool, true, false, List, [], refl, ap, sym, ◌∙◌, subst, length, Option, Some, None, arith, take, take_all, ltb-true, ltb-false, nat_lt, OnOk, Result, Ok, Err, take-append-le, Appends, Keeps, Appends-kept, Appends-nil, Appends-trans, AppendsPrefix}
use Rattle.std.proofs.Math.Seq.{take-append-add}
use Rattle.uri_commands.proofs.Prefixes.{AppendsPrefix-of-appended-then-kept, AppendsPrefix-of-appended}

-- writers: a prefix of a text is one of a longer text; a, b: what is held before and
-- after
pub AppendsPrefix-of-longer : (a b : Option (List ℕ)) (text more : List ℕ) → AppendsPrefix a b text
    → AppendsPrefix a b (text ++ more)
AppendsPrefix-of-longer a b text more (n, p) = at (nat_lt (length text) n) refl
  where
    at : (y : Bool) → nat_lt (length text) n ≡ y → AppendsPrefix a b (text ++ more)
    at true is =
        let over : length text < n = ltb-true (length text) n is in
        AppendsPrefix-of-appended a b text more (text ++ more)
        (subst (Appends a b) (take_all n text (omega (arith, over))) p) refl
    at false is =
        let within : n ≤ length text = ltb-false (length text) n is in
        (n, subst (Appends a b) (sym (take-append-le n text more within)) p)

-- writers: a prefix of a text that comes after one that was written is a prefix of
-- both; a, b, c: what is held
pub AppendsPrefix-after-Appends : (a b c : Option (List ℕ)) (text more : List ℕ) → Appends a b text
    → AppendsPrefix b c more → AppendsPrefix a c (text ++ more)
AppendsPrefix-after-Appends a b c text more whole (n, p) = (
  length text + n,
  subst (Appends a c) (sym (take-append-add text more n))
      (Appends-trans a b c text (take n more) whole p),
)

-- writers: where nothing is written, the empty prefix is; a, b: what is held before
-- and after
pub AppendsPrefix-of-kept : (a b : Option (List ℕ)) (text : List ℕ) → Keeps a b
    → AppendsPrefix a b text
AppendsPrefix-of-kept a b text kept = AppendsPrefix-of-appended-then-kept a a b [] text text
    (Appends-nil a) kept refl

-- writers: a write after a failure that kept what was held leaves a prefix appended;
-- a, b, c: what is held
pub AppendsPrefix-after-Keeps : (a b c : Option (List ℕ)) (text : List ℕ) → Keeps a b
    → AppendsPrefix b c text → AppendsPrefix a c text
AppendsPrefix-after-Keeps None b c text k p = (0, tt)
AppendsPrefix-after-Keeps (Some xs) None c text k p = absurd k
AppendsPrefix-after-Keeps (Some xs) (Some ys) None text k p = absurd p.1
AppendsPrefix-after-Keeps (Some xs) (Some ys) (Some zs) text k p =
    (p.0, p.1 ∙ ap (λ l. l ++ take p.0 text) k)

-- general fact on results, for what a writer took: what follows from what holds after a success
-- holds then
pub on-ok : {T E : Type 0} (result : Result T E) (P Q : Type 0) → (P → Q) → OnOk result P
    → OnOk result Q
on-ok (Ok value) P Q more p = more p
on-ok (Err error) P Q more p = tt

-- writers: a prefix that was written stays so where the writer keeps what it holds; a, b, c: what
-- is held
pub AppendsPrefix-then-Keeps : (a b c : Option (List ℕ)) (text : List ℕ) → AppendsPrefix a b text
    → Keeps b c → AppendsPrefix a c text
AppendsPrefix-then-Keeps a b c text p kept = (p.0, Appends-kept a b c (take p.0 text) p.1 kept)
