-- The length of the longest prefix that two paths share and that ends in `/`.
use Rattle.uri_relative.proofs.Common.{◌≡◌, ℕ, zero, suc, ◌<◌, ◌≤◌, true, ◌&&◌, ◌||◌, eqb, List, [], ◌∷◌, ◌++◌, length, take, refl, ap, ◌∙◌, arith, ◌⊎◌, ⊎_elim, inl, inr, length-append, codes, nat_lt, length-take-le, and_from, and_parts, cond-true, cond_both, eq-eqb, eqb-true, lt-ltb, or_right, nat_tests, EndsInSlash, IsLongestPrefix, IsSharedPrefix, shared_directory_len}

-- relativized paths: base and path share their first n bytes, which end in `/` and are within both
record IsShared (n : ℕ) (base path : List ℕ) : Type 0 where
  prefix : IsSharedPrefix n base path
  in_base : n ≤ length base
  in_path : n ≤ length path

-- relativized paths: an equal first byte makes the shared prefix one byte longer, if it ends in `/`
-- (47) still
same-first-byte-extends-shared-prefix : (a b : ℕ) (base path : List ℕ) (n : ℕ) → a ≡ b
    → (eqb a 47 || nat_lt 0 n) ≡ true
    → (0 < n → IsShared n base path) → IsShared (suc n) (a ∷ base) (b ∷ path)
same-first-byte-extends-shared-prefix a b base path zero e k shared = grind (arith, nat_tests)
same-first-byte-extends-shared-prefix a b base path (suc n) e k shared =
    let s = shared (omega arith) in
    record {
      prefix = record {
        same = ap (λ c. c ∷ take (suc n) base) e ∙ ap (λ t. b ∷ t) s.prefix.same;
        closed = (a ∷ s.prefix.closed.0, ap (λ t. a ∷ t) s.prefix.closed.1);
      };
      in_base = omega (arith, s.in_base);
      in_path = omega (arith, s.in_path);
    }

-- relativized paths: the prefix of the length `shared_directory_len` is shared and ends in `/`
shared : (base path : List ℕ) → 0 < shared_directory_len base path
    → IsShared (shared_directory_len base path) base path
unfolding shared_directory_len
shared [] path h = absurd (omega (arith, h))
shared (a ∷ base) [] h = absurd (omega (arith, h))
shared (a ∷ base) (b ∷ path) h =
    let n = shared_directory_len base path in
    cond_both (eqb a b && (eqb a 47 || nat_lt 0 n)) (suc n) 0
    (λ m. 0 < m → IsShared m (a ∷ base) (b ∷ path))
    (λ e _. let both = and_parts (eqb a b) _ e in
    same-first-byte-extends-shared-prefix a b base path n (eqb-true a b both.0) both.1
    (shared base path))
    (λ _ none. absurd (omega (arith, none))) h

-- relativized paths: a prefix that ends in `/`, without its first byte (a), is empty or ends in `/`
prefix-to-slash-without-first-byte : (a : ℕ) (rest prefix : List ℕ) → a ∷ rest ≡ prefix ++ codes "/"
    → ((a ≡ 47) × (rest ≡ [])) ⊎ ((0 < length rest) × EndsInSlash rest)
prefix-to-slash-without-first-byte a rest [] e = inl (cc, cc)
prefix-to-slash-without-first-byte a rest (c ∷ prefix) e = grind (arith, length-append)

shared-prefix-is-within-shared_directory_len : (base path : List ℕ) (m : ℕ) → m ≤ length base
    → IsSharedPrefix m base path → m ≤ shared_directory_len base path
unfolding shared_directory_len
shared-prefix-is-within-shared_directory_len base path zero h s = omega arith
shared-prefix-is-within-shared_directory_len [] path (suc m) h s = absurd (omega (arith, h))
shared-prefix-is-within-shared_directory_len (a ∷ base) [] (suc m) h s = absurd
    (let same = s.same in cc)
shared-prefix-is-within-shared_directory_len (a ∷ base) (b ∷ path) (suc m) h s =
    let same = s.same in
    let e : a ≡ b = cc in
    let rest : take m base ≡ take m path = cc in
    let n = shared_directory_len base path in
    let within : m ≤ length base = omega (arith, h) in
    let len = length-take-le m base within in
    let more : (eqb a 47 || nat_lt 0 n) ≡ true
    → shared_directory_len (a ∷ base) (b ∷ path) ≡ suc n =
    λ k. cond-true _ _ _ (and_from _ _ (eq-eqb a b e) k) in
    ⊎_elim (grind arith)
    (λ longer.
    let ih = shared-prefix-is-within-shared_directory_len base path m within
    (record { same = rest; closed = longer.1 }) in
    omega (arith, more (or_right _ _ (lt-ltb 0 n (omega (arith, ih, longer.0, len)))), ih))
    (prefix-to-slash-without-first-byte a (take m base) s.closed.0 s.closed.1)

pub longest-shared-prefix-has-shared_directory_len : (base path : List ℕ) (n : ℕ) → n ≤ length base
    → IsSharedPrefix n base path → IsLongestPrefix n base path → n ≡ shared_directory_len base path
longest-shared-prefix-has-shared_directory_len base path n h s longest =
    let most = shared-prefix-is-within-shared_directory_len base path n h s in
    let least : shared_directory_len base path ≤ n = ⊎_elim
    (λ none. omega (arith, none))
    (λ some. let k = shared base path some in longest _ k.in_base k.in_path k.prefix)
    (some_or_none (shared_directory_len base path)) in
    omega (arith, most, least)
  where
    some_or_none : (m : ℕ) → (m ≡ 0) ⊎ (0 < m)
    some_or_none zero = inl refl
    some_or_none (suc m) = inr (omega arith)
