-- The lines of an input, some of them put together, and lists of lines that are merged.
use Rattle.uri_streams.proofs.Common.{common_steps, arith, ◌≡◌, ◌++◌, ◌⊎◌, ℕ, Bool, true, false, cond, eqb, List, [], ◌∷◌, refl, ap, ◌∙◌, inl, inr, not, ◌&&◌, concat, filter, lines_of, prepend_to_first_line}
use Rattle.uri_streams.specs.Checks.{AreMergedFrom}

-- lines: a byte is put before the first of some, and so before them all
concat-of-prepended : (x : ℕ) (lines : List (List ℕ))
    → concat (prepend_to_first_line x lines) ≡ x ∷ concat lines
concat-of-prepended x lines = grind arith

-- lines: those of an input, put together, are the input
pub concat-of-lines : (end : ℕ) (xs : List ℕ) → concat (lines_of end xs) ≡ xs
concat-of-lines end [] = refl
concat-of-lines end (x ∷ xs) = at (eqb x end) (concat-of-lines end xs)
  where
    at : (b : Bool) → concat (lines_of end xs) ≡ xs → concat (cond b ((x ∷ []) ∷ lines_of end xs)
        (prepend_to_first_line x (lines_of end xs))) ≡ x ∷ xs
    at true rest = ap (λ l. x ∷ l) rest
    at false rest = concat-of-prepended x (lines_of end xs) ∙ ap (λ l. x ∷ l) rest

-- the line ends with the byte, and has it nowhere else
abbrev IsEnded : ℕ → List ℕ → Type 0
IsEnded end [] = ⊥
IsEnded end (x ∷ xs) = ((eqb x end ≡ true) × (xs ≡ [])) ⊎ ((eqb x end ≡ false) × IsEnded end xs)

-- the line is not empty, and lacks the byte that ends lines
abbrev IsUnended : ℕ → List ℕ → Type 0
IsUnended end [] = ⊥
IsUnended end (x ∷ xs) = (eqb x end ≡ false) × ((xs ≡ []) ⊎ IsUnended end xs)

-- each line ends with the byte, but perhaps the last
abbrev AreLines : ℕ → List (List ℕ) → Type 0
AreLines end [] = Unit {0}
AreLines end (line ∷ lines) =
    (IsEnded end line × AreLines end lines) ⊎ (IsUnended end line × (lines ≡ []))

lines_of-after-ended-line : (end : ℕ) (line ys : List ℕ) → IsEnded end line
    → lines_of end (line ++ ys) ≡ line ∷ lines_of end ys
lines_of-after-ended-line end [] ys is = absurd is
lines_of-after-ended-line end (x ∷ xs) ys (inl last) = grind arith
lines_of-after-ended-line end (x ∷ xs) ys (inr more) =
    grind (arith, lines_of-after-ended-line end xs ys more.1)

-- lines: one that is not ended is the only line
lines_of-unended-line : (end : ℕ) (line : List ℕ) → IsUnended end line
    → lines_of end line ≡ line ∷ []
lines_of-unended-line end [] is = absurd is
lines_of-unended-line end (x ∷ xs) (lacks, inl none) = grind arith
lines_of-unended-line end (x ∷ xs) (lacks, inr more) =
    grind (arith, lines_of-unended-line end xs more)

-- lines: a byte that ends no line is put before the first
AreLines-prepended : (end x : ℕ) (lines : List (List ℕ)) → eqb x end ≡ false → AreLines end lines
    → AreLines end (prepend_to_first_line x lines)
AreLines-prepended end x lines lacks are = grind arith

-- lines: those of an input end with the byte, but perhaps the last
pub AreLines-of-input : (end : ℕ) (xs : List ℕ) → AreLines end (lines_of end xs)
AreLines-of-input end [] = tt
AreLines-of-input end (x ∷ xs) = at (eqb x end) refl (AreLines-of-input end xs)
  where
    at : (b : Bool) → eqb x end ≡ b → AreLines end (lines_of end xs)
        → AreLines end (cond b ((x ∷ []) ∷ lines_of end xs)
        (prepend_to_first_line x (lines_of end xs)))
    at true is rest = inl (inl (is, refl), rest)
    at false lacks rest = AreLines-prepended end x (lines_of end xs) lacks rest

pub AreLines-filtered : (end : ℕ) (keeps : List ℕ → Bool) (lines : List (List ℕ))
    → AreLines end lines → AreLines end (filter keeps lines)
AreLines-filtered end keeps [] are = tt
AreLines-filtered end keeps (line ∷ lines) (inl (ended, more)) =
    at (keeps line) (AreLines-filtered end keeps lines more)
  where
    at : (b : Bool) → AreLines end (filter keeps lines)
        → AreLines end (cond b (line ∷ filter keeps lines) (filter keeps lines))
    at true rest = inl (ended, rest)
    at false rest = rest
AreLines-filtered end keeps (line ∷ lines) (inr (unended, none)) = grind arith

-- lines: put together, they are the lines of what they make
pub lines_of-concat : (end : ℕ) (lines : List (List ℕ)) → AreLines end lines
    → lines_of end (concat lines) ≡ lines
lines_of-concat end [] are = refl
lines_of-concat end (line ∷ lines) (inl (ended, more)) =
    grind (arith, lines_of-after-ended-line, lines_of-concat end lines more)
lines_of-concat end (line ∷ lines) (inr (unended, none)) =
    grind (arith, common_steps, lines_of-unended-line)

-- lines: those that pass a test, and those that do not, are merged from the lines; `within`: a test
-- that each has to pass
pub AreMergedFrom-passed : (within passes : List ℕ → Bool) (lines : List (List ℕ))
    → AreMergedFrom (filter (λ l. within l && passes l) lines)
    (filter (λ l. within l && not (passes l)) lines) (filter within lines)
unfolding AreMergedFrom
AreMergedFrom-passed within passes [] = (refl, refl)
AreMergedFrom-passed within passes (line ∷ lines) =
    at (within line) (passes line) (AreMergedFrom-passed within passes lines)
  where
    some : List (List ℕ)
    some = filter (λ l. within l && passes l) lines

    others : List (List ℕ)
    others = filter (λ l. within l && not (passes l)) lines

    at : (a b : Bool) → AreMergedFrom some others (filter within lines)
        → AreMergedFrom (cond (a && b) (line ∷ some) some)
        (cond (a && not b) (line ∷ others) others)
        (cond a (line ∷ filter within lines) (filter within lines))
    at false b rest = rest
    at true true rest = inl (some, refl, rest)
    at true false rest = inr (others, refl, rest)
