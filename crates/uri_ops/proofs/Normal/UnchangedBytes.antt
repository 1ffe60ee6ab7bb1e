-- Texts without formatting characters whose octets are unchanged: byte by byte, and in the parts of
-- a text.
use Rattle.uri_ops.proofs.Common.{◌≡◌, ℕ, ◌+◌, ◌<◌, ◌≤◌, Bool, true, false, eqb, List, [], ◌∷◌, ◌++◌, not, length, get_or, refl, sym, ap, ◌∙◌, arith, ◌||◌, ◌&&◌, ⊎_elim, suc, ◌-◌, subst, Option, IfSome, is_ascii_hexdigit, list_any, and_parts, and_from, cases_lt, not-true, not_from_false, or_from, or_left, or_parts, nat_tests, marked, HasUnchangedOctets, has_unchanged_octets, is_octet_unchanged_at, is_unchanged_octet, keeps_digits, is_dot_unchanged_at, is_literal_at, is_literal_byte, is_unchanged_at, common_steps}

-- unchanged texts: at a byte that begins neither an octet nor a formatting character, a text is
-- unchanged
pub literal-byte-is-unchanged : (alone : Bool) (bs : List ℕ) (k : ℕ)
    → is_literal_byte (get_or bs k 0) ≡ true → is_octet_unchanged_at alone bs k ≡ true
literal-byte-is-unchanged alone bs k e = grind (arith, nat_tests, or_parts, not-true)

-- unchanged texts: a hexadecimal digit begins neither an octet nor a formatting character
hexdigit-is-literal : (h : ℕ) → is_ascii_hexdigit h ≡ true → is_literal_byte h ≡ true
hexdigit-is-literal h e = grind (arith, nat_tests)

hexdigit-is-no-dot : (h : ℕ) → is_ascii_hexdigit h ≡ true → eqb h 46 ≡ false
hexdigit-is-no-dot h e = grind (arith, nat_tests)

unchanged-octet-is-so-at-its-index : (alone : Bool) (bs : List ℕ) (k : ℕ) → get_or bs k 0 ≡ 37
    → is_unchanged_octet alone (get_or bs (k + 1) 0) (get_or bs (k + 2) 0) ≡ true
    → is_octet_unchanged_at alone bs k ≡ true
unchanged-octet-is-so-at-its-index alone bs k percent e = rw (percent, e) refl

octet-is-unchanged-at-each-byte : (alone : Bool) (bs : List ℕ) (i : ℕ) → get_or bs i 0 ≡ 37
    → is_unchanged_octet alone (get_or bs (i + 1) 0) (get_or bs (i + 2) 0) ≡ true → (k : ℕ) → i ≤ k
    → k < i + 3 → (is_octet_unchanged_at alone bs k ≡ true) × (eqb (get_or bs k 0) 46 ≡ false)
octet-is-unchanged-at-each-byte alone bs i percent octet k from to =
    let digits = and_parts (is_ascii_hexdigit (get_or bs (i + 1) 0)) _ (and_parts _ _ octet).0 in
    ⊎_elim (λ (first : k < i + 1).
    let same : i ≡ k = omega (arith, from, first) in
    subst (λ n. (is_octet_unchanged_at alone bs n ≡ true) × (eqb (get_or bs n 0) 46 ≡ false)) same
    (unchanged-octet-is-so-at-its-index alone bs i percent octet, ap (λ b. eqb b 46) percent))
    (λ (after : i + 1 ≤ k). ⊎_elim (λ (second : k < i + 2).
    let same : i + 1 ≡ k = omega (arith, after, second) in
    subst (λ n. (is_octet_unchanged_at alone bs n ≡ true) × (eqb (get_or bs n 0) 46 ≡ false)) same
    (hexdigit-is-unchanged alone bs (i + 1) digits.0)) (λ (last : i + 2 ≤ k).
    let same : i + 2 ≡ k = omega (arith, last, to) in
    subst (λ n. (is_octet_unchanged_at alone bs n ≡ true) × (eqb (get_or bs n 0) 46 ≡ false)) same
    (hexdigit-is-unchanged alone bs (i + 2) digits.1)) (cases_lt k (i + 2))) (cases_lt k (i + 1))
  where
    hexdigit-is-unchanged : (alone : Bool) (bs : List ℕ) (k : ℕ) → is_ascii_hexdigit (get_or bs k 0)
        ≡ true → (is_octet_unchanged_at alone bs k ≡ true) × (eqb (get_or bs k 0) 46 ≡ false)
    hexdigit-is-unchanged alone bs k e = (
      literal-byte-is-unchanged alone bs k (hexdigit-is-literal (get_or bs k 0) e),
      hexdigit-is-no-dot (get_or bs k 0) e,
    )

-- unchanged texts: normalising leaves what is at an index where neither an octet nor a formatting
-- character begins, and no dot is after a `/`
pub literal-index-is-unchanged : (alone : Bool) (limit : ℕ) (bs : List ℕ) (k : ℕ)
    → is_literal_at bs k ≡ true → is_unchanged_at alone limit bs k ≡ true
literal-index-is-unchanged alone limit bs k e = grind (arith, literal-byte-is-unchanged)

pub each-byte-of-unchanged-octet-is-unchanged : (alone : Bool) (limit : ℕ) (bs : List ℕ) (i : ℕ)
    → get_or bs i 0 ≡ 37 → is_unchanged_octet alone (get_or bs (i + 1) 0) (get_or bs (i + 2) 0)
    ≡ true → (k : ℕ) → i ≤ k → k < i + 3 → is_unchanged_at alone limit bs k ≡ true
each-byte-of-unchanged-octet-is-unchanged alone limit bs i percent octet k from to =
    let p = octet-is-unchanged-at-each-byte alone bs i percent octet k from to in
    and_from _ _ p.0 (or_left _ _ (not_from_false _
    (ap (λ b. b && eqb (get_or bs (k - 1) 0) 47) p.1)))

pub dot-that-begins-no-segment-is-unchanged : (alone : Bool) (limit : ℕ) (bs : List ℕ) (k : ℕ)
    → get_or bs k 0 ≡ 46
    → is_dot_unchanged_at limit bs k ≡ true → is_unchanged_at alone limit bs k ≡ true
dot-that-begins-no-segment-is-unchanged alone limit bs k dot e = and_from _ _
    (literal-byte-is-unchanged alone bs k (ap is_literal_byte dot)) e

digits-are-unchanged-by-index : (alone : Bool) (text : List ℕ)
    → is_unchanged_octet alone (get_or text 0 0) (get_or text 1 0) ≡ true
    → keeps_digits alone text ≡ true
digits-are-unchanged-by-index alone text e = grind (arith)

head-is-unchanged-by-index : (alone : Bool) (b : ℕ) (text : List ℕ) → is_octet_unchanged_at alone (b
    ∷ text) 0 ≡ true → (not (eqb b 0xE2) && (not (eqb b 37) || keeps_digits alone text)) ≡ true
head-is-unchanged-by-index alone b text e =
    let p = and_parts (not (eqb b 0xE2)) _ e in
    and_from _ _ p.0 (either (eqb b 37) (is_unchanged_octet alone
    (get_or text 0 0) (get_or text 1 0)) p.1 (digits-are-unchanged-by-index alone text))
  where
    either : {other : Bool} (percent octet : Bool) → (not percent || octet) ≡ true
        → (octet ≡ true → other ≡ true) → (not percent || other) ≡ true
    either true octet e f = f e
    either false octet e f = refl

unchanged-at-next-index : (alone : Bool) (b : ℕ) (text : List ℕ) (k : ℕ)
    → is_octet_unchanged_at alone (b ∷ text) (suc k) ≡ is_octet_unchanged_at alone text k
unchanged-at-next-index alone b text k =
    let first : suc k + 1 ≡ suc (k + 1) = omega arith in
    let second : suc k + 2 ≡ suc (k + 2) = omega arith in
    λ i. not (eqb (get_or text k 0) 0xE2) && (not (eqb (get_or text k 0) 37)
    || is_unchanged_octet alone (get_or (b ∷ text) (first i) 0) (get_or (b ∷ text) (second i) 0))

pub bytes-unchanged-by-index-are-unchanged : (alone : Bool) (bs : List ℕ) → ((k : ℕ)
    → k < length bs → is_octet_unchanged_at alone bs k ≡ true) → HasUnchangedOctets alone bs
bytes-unchanged-by-index-are-unchanged alone [] each = refl
bytes-unchanged-by-index-are-unchanged alone (b ∷ text) each =
    and_from _ _ (head-is-unchanged-by-index alone b text (each 0 (omega arith)))
    (bytes-unchanged-by-index-are-unchanged alone text (λ k h.
    sym (unchanged-at-next-index alone b text k) ∙ each (suc k) (omega (arith, h))))

digits-of-prefix-are-unchanged : (alone : Bool) (xs ys : List ℕ)
    → keeps_digits alone (xs ++ ys) ≡ true → keeps_digits alone xs ≡ true
digits-of-prefix-are-unchanged alone xs ys e = grind (arith, common_steps)

pub unchanged-text-splits : (alone : Bool) (xs ys : List ℕ) → HasUnchangedOctets alone (xs ++ ys)
    → HasUnchangedOctets alone xs × HasUnchangedOctets alone ys
unchanged-text-splits alone [] ys e = (refl, e)
unchanged-text-splits alone (b ∷ xs) ys e =
    let p = and_parts _ (has_unchanged_octets alone (xs ++ ys)) e in
    let q = and_parts (not (eqb b 0xE2)) _ p.0 in
    let rest = unchanged-text-splits alone xs ys p.1 in (
      and_from _ _ (and_from _ _ q.0 (either (eqb b 37) _ _ q.1
          (digits-of-prefix-are-unchanged alone xs ys))) rest.0,
      rest.1,
    )
  where
    either : (percent long short : Bool) → (not percent || long) ≡ true
        → (long ≡ true → short ≡ true) → (not percent || short) ≡ true
    either true long short e f = f e
    either false long short e f = refl

pub delimited-component-of-unchanged-is-unchanged : (alone : Bool) (before suffix : List ℕ)
    (o : Option (List ℕ)) → HasUnchangedOctets alone (marked before o suffix) → IfSome o
    (HasUnchangedOctets alone)
delimited-component-of-unchanged-is-unchanged alone before suffix o e =
    grind (arith, common_steps, unchanged-text-splits)

-- unchanged texts: a text whose octets are unchanged has no E2, with which formatting
-- characters begin
pub unchanged-text-lacks-byte-E2 : (alone : Bool) (text : List ℕ) → HasUnchangedOctets alone text
    → list_any (λ b. eqb b 0xE2) text ≡ false
unchanged-text-lacks-byte-E2 alone [] e = refl
unchanged-text-lacks-byte-E2 alone (b ∷ text) e =
    let p = and_parts _ (has_unchanged_octets alone text) e in
    let q = and_parts (not (eqb b 0xE2)) _ p.0 in
    or_from _ _ (not-true _ q.0) (unchanged-text-lacks-byte-E2 alone text p.1)
