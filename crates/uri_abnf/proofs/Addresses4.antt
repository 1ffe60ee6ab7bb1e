-- The rules dec-octet and IPv4address.
use Rattle.uri_abnf.proofs.Common.{◌≡◌, ℕ, zero, suc, List, [], ◌∷◌, ◌++◌, refl, sym, ap, subst, ◌∙◌, inl, inr, ⊎_elim, arith, ◌≤◌, ◌<◌, ◌+◌, ◌*◌, ◌-◌, ◌/◌, ◌%◌, append_assoc, codes, decimal, IsDotted, cases_lt, Abnf, Has, lit, times, ◌⋅◌, ◌⋯◌, dec-octet, IPv4address, DIGIT}
use Rattle.std.proofs.lemmas.Fmt.{decimal_digit, decimal_step}
use Rattle.uri_abnf.proofs.Texts.{letterless-has}

two-digits : (n : ℕ) → 10 ≤ n → n < 100 → decimal n ≡ (48 + n / 10) ∷ (48 + n % 10) ∷ []
two-digits n a b = decimal_step n a (omega arith)
    ∙ ap (λ r. r ++ ((48 + n % 10) ∷ [])) (decimal_digit (n / 10) (omega arith))

three-digits : (n : ℕ) → 100 ≤ n → n < 1000
    → decimal n ≡ (48 + (n / 10) / 10) ∷ (48 + (n / 10) % 10) ∷ (48 + n % 10) ∷ []
three-digits n a b = decimal_step n (omega arith) (omega arith)
    ∙ ap (λ r. r ++ ((48 + n % 10) ∷ [])) (two-digits (n / 10) (omega arith) (omega arith))

-- the text is the decimal digits of a number below 256
record IsOctetText (t : List ℕ) : Type 0 where
  n : ℕ
  below : n < 256
  whole : t ≡ decimal n

one-gives : (a : ℕ) → 48 ≤ a → a ≤ 57 → IsOctetText (a ∷ [])
one-gives a p q = record { n = a - 48; below = omega arith; whole = grind (arith, decimal_digit) }

two-gives : (a b : ℕ) → 49 ≤ a → a ≤ 57 → 48 ≤ b → b ≤ 57 → IsOctetText (a ∷ b ∷ [])
two-gives a b p q r s =
    let n : ℕ = 10 * (a - 48) + (b - 48) in
    let e : 48 + n / 10 ≡ a = omega arith in
    let f : 48 + n % 10 ≡ b = omega arith in
    record { n = n; below = omega arith; whole = grind (arith, two-digits) }

three-gives : (a b c : ℕ) → 49 ≤ a → a ≤ 50 → 48 ≤ b → b ≤ 57 → 48 ≤ c → c ≤ 57
    → 100 * (a - 48) + (10 * (b - 48) + (c - 48)) < 256 → IsOctetText (a ∷ b ∷ c ∷ [])
three-gives a b c p q r s u v h =
    let n : ℕ = 100 * (a - 48) + (10 * (b - 48) + (c - 48)) in
    let e : 48 + (n / 10) / 10 ≡ a = omega arith in
    let f : 48 + (n / 10) % 10 ≡ b = omega arith in
    let g : 48 + n % 10 ≡ c = omega arith in
    record { n = n; below = h; whole = grind (arith, three-digits) }

record IsTwoDigits (t : List ℕ) : Type 0 where
  a : ℕ
  b : ℕ
  whole : t ≡ a ∷ b ∷ []
  la : 48 ≤ a
  ha : a ≤ 57
  lb : 48 ≤ b
  hb : b ≤ 57

twice : (t : List ℕ) → Has (times 2 DIGIT) t → IsTwoDigits t
unfolding DIGIT
twice t (zero, lo, hi, k) = absurd (omega arith)
twice t (suc zero, lo, hi, k) = absurd (omega arith)
twice t (suc (suc zero), lo, hi, (x, y, e, (a, f, p, q), (z, w, g, (b, h, r, s), i))) = grind arith
twice t (suc (suc (suc n)), lo, hi, k) = absurd (omega arith)

twice-is-had : (a b : ℕ) → 48 ≤ a → a ≤ 57 → 48 ≤ b → b ≤ 57 → Has (times 2 DIGIT) (a ∷ b ∷ [])
unfolding DIGIT
twice-is-had a b p q r s = (
  2,
  omega arith,
  omega arith,
  (a ∷ [], b ∷ [], refl, (a, refl, p, q), (b ∷ [], [], refl, (b, refl, r, s), refl)),
)

octet-gives : (t : List ℕ) → Has dec-octet t → IsOctetText t
unfolding dec-octet DIGIT
octet-gives t (inl (inl (inl (inl (a, e, p, q))))) = subst IsOctetText (sym e) (one-gives a p q)
octet-gives t (inl (inl (inl (inr (x, y, e, (a, f, p, q), (b, g, r, s)))))) =
    subst IsOctetText (sym (let f1 = f in let g1 = g in cc)) (two-gives a b p q r s)
octet-gives t (inl (inl (inr (x, y, e, h, k)))) =
    let l = letterless-has (codes "1") x (inl (omega arith), tt) h in
    let m = twice y k in
    grind (arith, three-gives)
octet-gives t (inl (inr (x, y, e, h, (z, w, i, (b, g, r, s), (c, k, u, v))))) =
    let l = letterless-has (codes "2") x (inl (omega arith), tt) h in
    grind (arith, three-gives)
octet-gives t (inr (x, y, e, h, (c, k, u, v))) =
    let l = letterless-has (codes "25") x (inl (omega arith), (inl (omega arith), tt)) h in
    grind (arith, three-gives)

low : (n : ℕ) → n < 10 → Has dec-octet (decimal n)
unfolding dec-octet DIGIT
low n h = inl (inl (inl (inl (48 + n, decimal_digit n h, omega arith, omega arith))))

tens : (n : ℕ) → 10 ≤ n → n < 100 → Has dec-octet (decimal n)
unfolding dec-octet DIGIT
tens n h k = inl (inl (inl (inr (
  (48 + n / 10) ∷ [],
  (48 + n % 10) ∷ [],
  two-digits n h k,
  (48 + n / 10, refl, omega arith, omega arith),
  (48 + n % 10, refl, omega arith, omega arith),
))))

-- a number of three digits that begins with a given one
first-of-three : (d n : ℕ) → (n / 10) / 10 ≡ d → 100 ≤ n → n < 1000
    → decimal n ≡ (48 + d) ∷ (48 + (n / 10) % 10) ∷ (48 + n % 10) ∷ []
first-of-three d n e h k = three-digits n h k
    ∙ ap (λ i. (48 + i) ∷ (48 + (n / 10) % 10) ∷ (48 + n % 10) ∷ []) e

hundreds : (n : ℕ) → 100 ≤ n → n < 200 → Has dec-octet (decimal n)
unfolding dec-octet DIGIT
hundreds n h k =
    let digits = twice-is-had (48 + (n / 10) % 10) (48 + n % 10) (omega arith) (omega arith)
    (omega arith) (omega arith) in
    inl (inl (inr (codes "1", _, first-of-three 1 n (omega arith) h (omega arith), refl, digits)))

two-hundreds : (n : ℕ) → 200 ≤ n → n < 250 → Has dec-octet (decimal n)
unfolding dec-octet DIGIT
two-hundreds n h k =
    let a : Has (0x30 ⋯ 0x34) ((48 + (n / 10) % 10) ∷ []) = (_, refl, omega arith, omega arith) in
    let b : Has DIGIT ((48 + n % 10) ∷ []) = (_, refl, omega arith, omega arith) in
    let e = first-of-three 2 n (omega arith) (omega arith) (omega arith) in
    inl (inr (codes "2", _, e, refl, (_, _, refl, a, b)))

last : (n : ℕ) → 250 ≤ n → n < 256 → Has dec-octet (decimal n)
unfolding dec-octet DIGIT
last n h k =
    let f : 48 + (n / 10) % 10 ≡ 53 = omega arith in
    let e = first-of-three 2 n (omega arith) (omega arith) (omega arith)
    ∙ ap (λ i. 50 ∷ i ∷ (48 + n % 10) ∷ []) f in
    inr (codes "25", _, e, refl, (_, refl, omega arith, omega arith))

octet-is-had : (n : ℕ) → n < 256 → Has dec-octet (decimal n)
octet-is-had n h = ⊎_elim (λ a. low n a)
    (λ a. ⊎_elim (λ b. tens n a b)
    (λ b. ⊎_elim (λ c. hundreds n b c)
    (λ c. ⊎_elim (λ d. two-hundreds n c d) (λ d. last n d h) (cases_lt n 250))
    (cases_lt n 200))
    (cases_lt n 100))
    (cases_lt n 10)

pub ipv4-gives : (t : List ℕ) → Has IPv4address t → (octets : List ℕ) × IsDotted t octets
unfolding IPv4address
ipv4-gives t (
  x1,
  r1,
  e1,
  h1,
  (p1, s1, f1, d1, (x2, r2, e2, h2, (p2, s2, f2, d2, (x3, r3, e3, h3, (p3, x4, f3, d3, h4))))),
) =
    let o1 = octet-gives x1 h1 in
    let o2 = octet-gives x2 h2 in
    let o3 = octet-gives x3 h3 in
    let o4 = octet-gives x4 h4 in
    let i1 = letterless-has (codes ".") p1 (inl (omega arith), tt) d1 in
    let i2 = letterless-has (codes ".") p2 (inl (omega arith), tt) d2 in
    let i3 = letterless-has (codes ".") p3 (inl (omega arith), tt) d3 in (
      o1.n ∷ o2.n ∷ o3.n ∷ o4.n ∷ [],
      record {
        a = o1.n;
        b = o2.n;
        c = o3.n;
        d = o4.n;
        fit = (o1.below, o2.below, o3.below, o4.below);
        value = refl;
        spelled = let w1 = o1.whole in
            let w2 = o2.whole in
            let w3 = o3.whole in
            let w4 = o4.whole in
            let j : t ≡ x1 ++ (p1 ++ (x2 ++ (p2 ++ (x3 ++ (p3 ++ x4))))) = cc in
            j ∙ simp (w1, w2, w3, w4, i1, i2, i3, append_assoc);
      },
    )

octet-then : (n : ℕ) → n < 256 → (g : Abnf) (t : List ℕ) → Has g t
    → Has (dec-octet ⋅ lit "." ⋅ g) (decimal n ++ (46 ∷ t))
octet-then n h g t k = (decimal n, 46 ∷ t, refl, octet-is-had n h, (codes ".", t, refl, refl, k))

pub ipv4-is-had : (t octets : List ℕ) → IsDotted t octets → Has IPv4address t
unfolding IPv4address
ipv4-is-had t octets d = subst (Has IPv4address) (sym (d.spelled ∙ simp append_assoc))
    (octet-then d.a d.fit.0 (dec-octet ⋅ lit "." ⋅ dec-octet ⋅ lit "." ⋅ dec-octet) _
    (octet-then d.b d.fit.1 (dec-octet ⋅ lit "." ⋅ dec-octet) _
    (octet-then d.c d.fit.2 dec-octet _ (octet-is-had d.d d.fit.3))))
