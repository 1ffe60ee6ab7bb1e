-- A text cut before the first of some marks.
use Rattle.uri_parts.proofs.Common.{◌≡◌, ℕ, zero, suc, true, false, List, [], ◌∷◌, ◌++◌, take, drop, refl, ap, ◌∙◌, arith, ⊎_elim, cases_Bool, eqb-true, nat_tests, is_one_of, length_before_mark_at_start_is_zero, length_before_marks_counts_other_byte, Lacks, before_any, from_any, starts}

-- splitting: the text is empty or begins with one of the delimiters, which come first
abbrev pub IsEmptyOrMarked : List ℕ → List ℕ → Type 0
IsEmptyOrMarked marks [] = Unit {0}
IsEmptyOrMarked marks (c ∷ rest) = is_one_of marks c ≡ true

-- splitting: what is empty or begins with a delimiter, is or does so for more delimiters too
pub empty-or-marked-for-more-marks : (some all text : List ℕ) → ((c : ℕ) → is_one_of some c ≡ true
    → is_one_of all c ≡ true) → IsEmptyOrMarked some text → IsEmptyOrMarked all text
empty-or-marked-for-more-marks some all [] more begins = tt
empty-or-marked-for-more-marks some all (c ∷ text) more begins = more c begins

-- splitting: a text that begins with one of the marks is marked by them
pub begins-with-mark : (mark : ℕ) (marks bs : List ℕ) → is_one_of marks mark ≡ true
    → starts mark bs ≡ true → IsEmptyOrMarked marks bs
begins-with-mark mark marks [] m e = tt
begins-with-mark mark marks (b ∷ bs) m e = ap (is_one_of marks) (eqb-true b mark e) ∙ m

-- splitting: a text that begins with a mark, if with any, does not begin with another byte
pub begins-with-no-other : (other : ℕ) (marks bs : List ℕ) → is_one_of marks other ≡ false
    → IsEmptyOrMarked marks bs → starts other bs ≡ false
begins-with-no-other other marks [] n m = refl
begins-with-no-other other marks (b ∷ bs) n m = grind (arith, nat_tests)

-- splitting: a marked text that does not begin with the first mark begins with a further one
pub begins-with-further-mark : (mark : ℕ) (marks bs : List ℕ) → IsEmptyOrMarked (mark ∷ marks) bs
    → starts mark bs ≡ false → IsEmptyOrMarked marks bs
begins-with-further-mark mark marks [] m n = tt
begins-with-further-mark mark marks (b ∷ bs) m n = grind (arith, nat_tests)

-- splitting: before a delimiter at the start of a text there is nothing
pub before_any-at-mark : (marks : List ℕ) (c : ℕ) (rest : List ℕ) → is_one_of marks c ≡ true
    → before_any marks (c ∷ rest) ≡ []
before_any-at-mark marks c rest h = ap (λ n. take n (c ∷ rest))
    (length_before_mark_at_start_is_zero marks c rest h)

-- splitting: a text that begins with a delimiter is all from it on
pub from_any-at-mark : (marks : List ℕ) (c : ℕ) (rest : List ℕ) → is_one_of marks c ≡ true
    → from_any marks (c ∷ rest) ≡ c ∷ rest
from_any-at-mark marks c rest h = ap (λ n. drop n (c ∷ rest))
    (length_before_mark_at_start_is_zero marks c rest h)

-- splitting: another byte at the start of a text is before the first delimiter
pub before_any-past-other : (marks : List ℕ) (c : ℕ) (rest : List ℕ) → is_one_of marks c ≡ false
    → before_any marks (c ∷ rest) ≡ c ∷ before_any marks rest
before_any-past-other marks c rest h = ap (λ n. take n (c ∷ rest))
    (length_before_marks_counts_other_byte marks c rest h)

-- splitting: another byte at the start of a text is not in what is from the first delimiter on
pub from_any-past-other : (marks : List ℕ) (c : ℕ) (rest : List ℕ) → is_one_of marks c ≡ false
    → from_any marks (c ∷ rest) ≡ from_any marks rest
from_any-past-other marks c rest h = ap (λ n. drop n (c ∷ rest))
    (length_before_marks_counts_other_byte marks c rest h)

byte-and-rest-lack-marks : (marks : List ℕ) (c : ℕ) (text : List ℕ) → Lacks marks (c ∷ text)
    → (is_one_of marks c ≡ false) × Lacks marks text
byte-and-rest-lack-marks marks c text h = (h 0 0 (omega arith), λ k d l. h (suc k) d (omega arith))

-- splitting: with another byte before it, a text without some delimiters lacks them still
pub text-after-other-byte-lacks-marks : (marks : List ℕ) (c : ℕ) (text : List ℕ)
    → is_one_of marks c ≡ false → Lacks marks text → Lacks marks (c ∷ text)
text-after-other-byte-lacks-marks marks c text e h zero d l = e
text-after-other-byte-lacks-marks marks c text e h (suc k) d l = h k d (omega arith)

-- splitting: two texts, the first without some delimiters and
-- the second beginning with one, are cut between them
pub cut-at-end-of-text-without-marks : (marks xs ys : List ℕ) → Lacks marks xs
    → IsEmptyOrMarked marks ys
    → (before_any marks (xs ++ ys) ≡ xs) × (from_any marks (xs ++ ys) ≡ ys)
cut-at-end-of-text-without-marks marks [] [] lacks begins = (refl, refl)
cut-at-end-of-text-without-marks marks [] (y ∷ ys) lacks begins =
    (before_any-at-mark marks y ys begins, from_any-at-mark marks y ys begins)
cut-at-end-of-text-without-marks marks (x ∷ xs) ys lacks begins =
    let parts = byte-and-rest-lack-marks marks x xs lacks in
    let rest = cut-at-end-of-text-without-marks marks xs ys parts.1 begins in (
      before_any-past-other marks x (xs ++ ys) parts.0 ∙ ap (λ t. x ∷ t) rest.0,
      from_any-past-other marks x (xs ++ ys) parts.0 ∙ rest.1,
    )

-- splitting: what is before the first delimiter of a text, and what is from it on
pub record IsCut (marks text before from : List ℕ) : Type 0 where
  pub whole : before ++ from ≡ text
  pub lacks : Lacks marks before
  pub begins : IsEmptyOrMarked marks from

-- splitting: what is before the first delimiter and what is from it on are a cut of the text
pub text-is-cut-at-first-mark : (marks text : List ℕ)
    → IsCut marks text (before_any marks text) (from_any marks text)
text-is-cut-at-first-mark marks [] = grind (arith, nat_tests)
text-is-cut-at-first-mark marks (c ∷ text) = ⊎_elim
    (λ h. rw (before_any-at-mark marks c text h, from_any-at-mark marks c text h) record {
      whole = refl;
      lacks = λ k d l. absurd (omega arith);
      begins = h;
    }) (λ h.
    let rest = text-is-cut-at-first-mark marks text in
    rw (before_any-past-other marks c text h, from_any-past-other marks c text h) record {
      whole = ap (λ t. c ∷ t) rest.whole;
      lacks = text-after-other-byte-lacks-marks marks c (before_any marks text) h rest.lacks;
      begins = rest.begins;
    }) (cases_Bool (is_one_of marks c))
