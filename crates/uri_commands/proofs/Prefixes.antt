-- What a writer got of a text that it takes piece by piece.
use Rattle.uri_commands.proofs.Common.{◌≡◌, ℕ, List, ◌++◌, Option, length, take, drop, sym, ap, ◌∙◌, subst, append_assoc, take-append-drop, Appends-trans, Appends-kept, Appends, Keeps, AppendsPrefix}
use lib.Seq.{take-append_seam}

-- commands: a writer that got a prefix of the text has a prefix of it appended; a, b: what it holds
-- before and after
pub AppendsPrefix-of-appended : (a b : Option (List ℕ)) (prefix rest text : List ℕ)
    → Appends a b prefix → text ≡ prefix ++ rest → AppendsPrefix a b text
AppendsPrefix-of-appended a b prefix rest text p e = (
  length prefix,
  subst (Appends a b) (sym (ap (take (length prefix)) e ∙ take-append_seam prefix rest)) p,
)

-- commands: a failure that keeps what a writer holds leaves it with a prefix of the text; a, b, c:
-- what it holds
pub AppendsPrefix-of-appended-then-kept : (a b c : Option (List ℕ)) (prefix rest text : List ℕ)
    → Appends a b prefix → Keeps b c → text ≡ prefix ++ rest → AppendsPrefix a c text
AppendsPrefix-of-appended-then-kept a b c prefix rest text p q e =
    AppendsPrefix-of-appended a c prefix rest text (Appends-kept a b c prefix p q) e

-- commands: after one more write of n bytes a writer has got more of the text, and less of it is
-- left; a, b, c: what it holds
pub Appends-of-one-more-write : (a b c : Option (List ℕ)) (n : ℕ) (prefix rest text : List ℕ)
    → Appends a b prefix → Appends b c (take n rest) → text ≡ prefix ++ rest
    → (more : List ℕ) × Appends a c more × (text ≡ more ++ drop n rest)
Appends-of-one-more-write a b c n prefix rest text p q e = (
  prefix ++ take n rest,
  Appends-trans a b c prefix (take n rest) p q,
  e ∙ ap (λ l. prefix ++ l) (sym (take-append-drop n rest))
      ∙ sym (append_assoc prefix (take n rest) (drop n rest)),
)
