-- Whitespace, structural characters and numbers of a JSON text, and what is read of them.
use Rattle.uri_streams.proofs.Common.{◌≡◌, ℕ, ◌<◌, Bool, true, false, List, [], ◌∷◌, ◌++◌, length, get_or, length-append, refl, sym, ap, ◌∙◌, subst, append_assoc, arith, codes, if◌then◌else◌, is_ascii_digit, list_all, cond-true, cond-false, and_parts, and_from, nat_tests, list_all-append, Rule, ◌then◌, Is, IsOneOf, IsOptional, is_whitespace, IsWhitespace, IsStructural, AreDigits, AreSomeDigits, IsInteger, IsNumber}
use Rattle.fluent_uri.specs.Sets.{is_one_of}

-- reading JSON: the text without the whitespace that begins it
abbrev pub skip : List ℕ → List ℕ
skip [] = []
skip (c ∷ text) = if is_whitespace c then skip text else c ∷ text

pub whitespace-is-skipped : (space text : List ℕ) → IsWhitespace space
    → skip (space ++ text) ≡ skip text
whitespace-is-skipped [] text h = refl
whitespace-is-skipped (c ∷ space) text h = let p = and_parts _ _ h in
    cond-true (is_whitespace c) _ _ p.0 ∙ whitespace-is-skipped space text p.1

-- reading JSON: the character may be in a number
abbrev pub is_number_character : ℕ → Bool
is_number_character c = is_one_of (codes "0123456789+-.eE") c

-- reading JSON: the text does not go on with a character of a number
abbrev pub EndsNumber : List ℕ → Type 0
EndsNumber text = is_number_character (get_or text 0 0) ≡ false

number-has-no-whitespace : (c : ℕ) → is_number_character c ≡ true → is_whitespace c ≡ false
number-has-no-whitespace c e = grind (arith, nat_tests)

pub whitespace-ends-number : (space rest : List ℕ) → IsWhitespace space → EndsNumber rest
    → EndsNumber (space ++ rest)
whitespace-ends-number [] rest h e = e
whitespace-ends-number (c ∷ space) rest h e = grind (arith, nat_tests)

-- reading JSON: the text begins with the structural character mark, and then goes on as the rest
pub record BeginsStructural (mark : ℕ) (text rest : List ℕ) : Type 0 where
  pub after : List ℕ
  pub first : skip text ≡ mark ∷ after
  pub same : skip after ≡ skip rest
  pub ends : EndsNumber text

pub structural-begins-text : (mark : ℕ) (x rest : List ℕ) → is_whitespace mark ≡ false
    → is_number_character mark ≡ false → IsStructural (mark ∷ []) x
    → BeginsStructural mark (x ++ rest) rest
structural-begins-text mark x rest visible ends (a, y, e, before, (m, b, f, is_mark, behind)) =
    let tail : List ℕ = mark ∷ (b ++ rest) in
    let text : x ++ rest ≡ a ++ tail =
    ap (λ x. x ++ rest) (e ∙ ap (λ y. a ++ y) (f ∙ ap (λ m. m ++ b) is_mark))
    ∙ append_assoc a (mark ∷ b) rest in
    subst (λ t. BeginsStructural mark t rest) (sym text) (record {
      after = b ++ rest;
      first = whitespace-is-skipped a tail before ∙ cond-false (is_whitespace mark) _ _ visible;
      same = whitespace-is-skipped b rest behind;
      ends = whitespace-ends-number a tail before ends;
    })

-- reading JSON: each character may be in a number
abbrev AreOfNumbers : Rule
AreOfNumbers text = list_all is_number_character text ≡ true

-- reading JSON: the characters of a number that begin the text
abbrev pub read_number : List ℕ → List ℕ
read_number [] = []
read_number (c ∷ text) = if is_number_character c then c ∷ read_number text else []

-- reading JSON: the text after the characters of a number that begin it
abbrev pub after_number : List ℕ → List ℕ
after_number [] = []
after_number (c ∷ text) = if is_number_character c then after_number text else c ∷ text

number-is-cut-at-its-end : (x rest : List ℕ) → AreOfNumbers x → EndsNumber rest
    → (read_number (x ++ rest) ≡ x) × (after_number (x ++ rest) ≡ rest)
number-is-cut-at-its-end [] [] h e = (refl, refl)
number-is-cut-at-its-end [] (c ∷ rest) h e =
    (cond-false (is_number_character c) _ _ e, cond-false (is_number_character c) _ _ e)
number-is-cut-at-its-end (c ∷ x) rest h e =
    let p = and_parts _ _ h in
    let q = number-is-cut-at-its-end x rest p.1 e in (
      cond-true (is_number_character c) _ _ p.0 ∙ ap (λ t. c ∷ t) q.0,
      cond-true (is_number_character c) _ _ p.0 ∙ q.1,
    )

-- reading JSON: texts with characters of numbers only, one after the other
then-is-of-numbers : {P Q : Rule} → ((x : List ℕ) → P x → AreOfNumbers x)
    → ((x : List ℕ) → Q x → AreOfNumbers x) → (x : List ℕ) → (P then Q) x → AreOfNumbers x
then-is-of-numbers p q x (a, b, e, h, k) = ap (list_all is_number_character) e
    ∙ list_all-append is_number_character a b ∙ and_from _ _ (p a h) (q b k)

-- reading JSON: no text, or one with characters of numbers only
optional-is-of-numbers : {P : Rule} → ((x : List ℕ) → P x → AreOfNumbers x) → (x : List ℕ)
    → IsOptional P x → AreOfNumbers x
optional-is-of-numbers p x h = grind arith

word-is-of-numbers : (word : List ℕ) → AreOfNumbers word → (x : List ℕ) → Is word x → AreOfNumbers x
word-is-of-numbers word h x e = ap (list_all is_number_character) e ∙ h

-- reading JSON: one of some characters, if each may be in a number
one-is-of-numbers : (marks : List ℕ)
    → ((c : ℕ) → is_one_of marks c ≡ true → is_number_character c ≡ true) → (x : List ℕ)
    → IsOneOf marks x → AreOfNumbers x
one-is-of-numbers marks within x (c, e, h) =
    ap (list_all is_number_character) e ∙ and_from _ _ (within c h) refl

digits-are-of-numbers : (x : List ℕ) → AreDigits x → AreOfNumbers x
digits-are-of-numbers [] h = refl
digits-are-of-numbers (c ∷ x) h = let p = and_parts _ _ h in
    and_from _ _ (digit-is-of-numbers c p.0) (digits-are-of-numbers x p.1)
  where
    digit-is-of-numbers : (c : ℕ) → is_ascii_digit c ≡ true → is_number_character c ≡ true
    digit-is-of-numbers c e = grind (arith, nat_tests)

some-digits-are-of-numbers : (x : List ℕ) → AreSomeDigits x → AreOfNumbers x
some-digits-are-of-numbers = then-is-of-numbers
    (one-is-of-numbers (codes "0123456789") (λ c e. grind (arith, nat_tests))) digits-are-of-numbers

integer-is-of-numbers : (x : List ℕ) → IsInteger x → AreOfNumbers x
integer-is-of-numbers x h =
    grind (arith, then-is-of-numbers, one-is-of-numbers, digits-are-of-numbers)

number-is-of-numbers : (x : List ℕ) → IsNumber x → AreOfNumbers x
number-is-of-numbers = then-is-of-numbers
    (optional-is-of-numbers (word-is-of-numbers (codes "-") refl)) (then-is-of-numbers
    integer-is-of-numbers (then-is-of-numbers (optional-is-of-numbers
    (then-is-of-numbers (word-is-of-numbers (codes ".") refl) some-digits-are-of-numbers))
    (optional-is-of-numbers (then-is-of-numbers
    (one-is-of-numbers (codes "eE") (λ c e. grind (arith, nat_tests))) (then-is-of-numbers
    (optional-is-of-numbers (one-is-of-numbers (codes "-+") (λ c e. grind (arith, nat_tests))))
    some-digits-are-of-numbers)))))

pub number-is-not-empty : (x : List ℕ) → IsNumber x → 0 < length x
number-is-not-empty x (a, y, e, h, (b, z, f, i, k)) = grind (arith, length-append)

-- reading JSON: a number is read up to its end
pub record ReadsNumber (x text rest : List ℕ) : Type 0 where
  pub begins : is_number_character (get_or text 0 0) ≡ true
  pub visible : skip text ≡ text
  pub number : read_number text ≡ x
  pub after : after_number text ≡ rest

pub number-is-read : (x rest : List ℕ) → IsNumber x → EndsNumber rest
    → ReadsNumber x (x ++ rest) rest
number-is-read [] rest h e = absurd (omega (arith, number-is-not-empty [] h))
number-is-read (c ∷ x) rest h e =
    let all = number-is-of-numbers (c ∷ x) h in
    let first = (and_parts _ _ all).0 in
    let cut = number-is-cut-at-its-end (c ∷ x) rest all e in
    record {
      begins = first;
      visible = cond-false (is_whitespace c) _ _ (number-has-no-whitespace c first);
      number = cut.0;
      after = cut.1;
    }
