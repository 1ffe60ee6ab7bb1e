-- The rule IPv6address.
use Rattle.uri_abnf.proofs.Common.{◌≡◌, ℕ, zero, suc, Bool, true, false, List, [], ◌∷◌, ◌++◌, refl, sym, ap, subst, ◌∙◌, inl, inr, ⊎_elim, arith, ◌≤◌, ◌<◌, ◌+◌, append_assoc, append-nil, length, codes, digit_value, is_ascii_hexdigit, IsDotted, IsGroup, IsGroups, IsGroupsAfter, IsColonHex, false≢true, nat_tests, Abnf, Has, IsPower, opt, times, upto, lit, ◌⋅◌, h16, ls32, IPv6address, HEXDIG}
use Rattle.std.specs.Str.Parse.{AllDigits, digits_value}
use Rattle.std.specs.Net.Addr.{segments_of}
use Rattle.uri_pct.proofs.Offered.{hexdigit_value_is_below_16}
use Rattle.uri_abnf.proofs.Elements.{hexdig-has, hexdig-is-had}
use Rattle.uri_abnf.proofs.Addresses4.{ipv4-gives, ipv4-is-had}
use Rattle.uri_abnf.proofs.Texts.{letterless-has}

below-16-is-digit : (c : ℕ) → digit_value c < 16 → is_ascii_hexdigit c ≡ true
below-16-is-digit c e = grind (arith, nat_tests)

record AreDigits (n : ℕ) (t : List ℕ) : Type 0 where
  long : length t ≡ n
  all : AllDigits 16 t

one-digit : (c : ℕ) (t x : List ℕ) (n : ℕ) → x ≡ c ∷ t → digit_value c < 16 → AreDigits n t
    → AreDigits (suc n) x
one-digit c t x n e d r = subst (AreDigits (suc n)) (sym e)
    (record { long = ap suc r.long; all = (d, r.all) })

digits-give : (n : ℕ) (t : List ℕ) → IsPower (Has HEXDIG) n t → AreDigits n t
digits-give zero t e = subst (AreDigits 0) (sym e) (record { long = refl; all = tt })
digits-give (suc n) t (x, y, e, h, q) =
    let k = hexdig-has x h in
    one-digit k.c y t n (e ∙ ap
    (λ r. r ++ y) k.whole) (hexdigit_value_is_below_16 k.c k.passes) (digits-give n y q)

digits-are-had : (t : List ℕ) → AllDigits 16 t → IsPower (Has HEXDIG) (length t) t
digits-are-had [] a = refl
digits-are-had (c ∷ t) a =
    (c ∷ [], t, refl, hexdig-is-had c (below-16-is-digit c a.0), digits-are-had t a.1)

group-gives : (t : List ℕ) → Has h16 t → IsGroup t (digits_value 16 t)
unfolding h16
group-gives t (n, lo, hi, p) =
    let k = digits-give n t p in
    let e = k.long in
    (((omega arith, k.all), refl), omega arith)

group-is-had : (t : List ℕ) (s : ℕ) → IsGroup t s → Has h16 t
unfolding h16
group-is-had t s g =
    let a = g.0.0.0 in
    (length t, omega arith, g.1, digits-are-had t g.0.0.1)

-- so many groups with a colon after each, and then a text of the last expression
record IsShape (last : Abnf) (n : ℕ) (t : List ℕ) : Type 0 where
  x : List ℕ
  y : List ℕ
  whole : t ≡ x ++ y
  groups : IsPower (Has (h16 ⋅ lit ":")) n x
  ending : Has last y

record IsStep (last : Abnf) (n : ℕ) (t : List ℕ) : Type 0 where
  g : List ℕ
  rest : List ℕ
  whole : t ≡ g ++ (58 ∷ rest)
  group : Has h16 g
  shape : IsShape last n rest

shape-of-last : (last : Abnf) (t : List ℕ) → IsShape last 0 t → Has last t
shape-of-last last t s = subst (Has last) (sym (s.whole ∙ ap (λ r. r ++ s.y) s.groups)) s.ending

last-is-shape : (last : Abnf) (t : List ℕ) → Has last t → IsShape last 0 t
last-is-shape last t h = record { x = []; y = t; whole = refl; groups = refl; ending = h }

shape-step : (last : Abnf) (n : ℕ) (t : List ℕ) (x y : List ℕ) → t ≡ x ++ y
    → IsPower (Has (h16 ⋅ lit ":")) (suc n) x → Has last y → IsStep last n t
shape-step last n t x y e (p, z, f, (g, c, i, h, k), q) d =
    let colon = letterless-has (codes ":") c (inl (omega arith), tt) k in
    grind (arith, nat_tests, append_assoc)

step-is-shape : (last : Abnf) (n : ℕ) (g rest : List ℕ) → Has h16 g → IsShape last n rest
    → IsShape last (suc n) (g ++ (58 ∷ rest))
step-is-shape last n g rest h s = record {
  x = (g ++ codes ":") ++ s.x;
  y = s.y;
  whole = ap (λ r. g ++ (58 ∷ r)) s.whole ∙ simp append_assoc;
  groups = (g ++ codes ":", s.x, refl, (g, codes ":", refl, h, refl), s.groups);
  ending = s.ending;
}

-- groups of which there are so many
record AreGroups (ipv4 : Bool) (lead : List ℕ) (n : ℕ) (t : List ℕ) : Type 0 where
  segments : List ℕ
  groups : IsGroupsAfter ipv4 lead (lead ++ t) segments
  count : length segments ≡ n

group-then : (ipv4 : Bool) (lead : List ℕ) (n : ℕ) (g rest : List ℕ) → Has h16 g
    → AreGroups ipv4 (codes ":") n rest → AreGroups ipv4 lead (suc n) (g ++ (58 ∷ rest))
group-then ipv4 lead n g rest h r = record {
  segments = digits_value 16 g ∷ r.segments;
  groups = inl (g, 58 ∷ rest, sym (append_assoc lead g (58 ∷ rest)), group-gives g h, r.groups);
  count = ap suc r.count;
}

last-group : (ipv4 : Bool) (lead g : List ℕ) → Has h16 g → AreGroups ipv4 lead 1 g
last-group ipv4 lead g h = record {
  segments = digits_value 16 g ∷ [];
  groups = inl (g, [], sym (append-nil (lead ++ g)), group-gives g h, refl);
  count = refl;
}

heads-give : (ipv4 : Bool) (n : ℕ) (lead t : List ℕ) → IsShape h16 n t → AreGroups ipv4 lead
    (suc n) t
heads-give ipv4 zero lead t s = last-group ipv4 lead t (shape-of-last h16 t s)
heads-give ipv4 (suc n) lead t s =
    let k = shape-step h16 n t s.x s.y s.whole s.groups s.ending in
    subst (AreGroups ipv4 lead (suc (suc n))) (sym k.whole)
    (group-then ipv4 lead (suc n) k.g k.rest k.group (heads-give ipv4 n (codes ":") k.rest k.shape))

ipv4-groups : (lead t octets : List ℕ) → IsDotted t octets → AreGroups true lead 2 t
ipv4-groups lead t octets d = record {
  segments = segments_of (d.a ∷ d.b ∷ d.c ∷ d.d ∷ []);
  groups = inr (t, octets, refl, refl, d, sym (ap segments_of d.value));
  count = refl;
}

ls32-gives : (lead t : List ℕ) → Has ls32 t → AreGroups true lead 2 t
unfolding ls32
ls32-gives lead t (inl (g, r, e, h, (c, l, f, k, i))) =
    let colon = letterless-has (codes ":") c (inl (omega arith), tt) k in
    grind (arith, nat_tests, group-then, last-group)
ls32-gives lead t (inr h) = let d = ipv4-gives t h in ipv4-groups lead t d.0 d.1

tails-give : (n : ℕ) (lead t : List ℕ) → IsShape ls32 n t → AreGroups true lead (suc (suc n)) t
tails-give zero lead t s = ls32-gives lead t (shape-of-last ls32 t s)
tails-give (suc n) lead t s =
    let k = shape-step ls32 n t s.x s.y s.whole s.groups s.ending in
    subst (AreGroups true lead (suc (suc (suc n)))) (sym k.whole) (group-then true lead
    (suc (suc n)) k.g k.rest k.group (tails-give n (codes ":") k.rest k.shape))

-- the text after the lead has a property
record IsAfter (lead : List ℕ) (P : List ℕ → Type 0) (t : List ℕ) : Type 0 where
  r : List ℕ
  whole : t ≡ lead ++ r
  holds : P r

after-group : (last : Abnf) (lead t g rest : List ℕ) (s n : ℕ) → t ≡ (lead ++ g) ++ rest
    → IsGroup g s
    → IsAfter (codes ":") (IsShape last n) rest → IsAfter lead (IsShape last (suc n)) t
after-group last lead t g rest s n e i k = record {
  r = g ++ (58 ∷ k.r);
  whole = e ∙ ap (λ z. (lead ++ g) ++ z) k.whole ∙ append_assoc lead g (58 ∷ k.r);
  holds = step-is-shape last n g k.r (group-is-had g s i) k.holds;
}

after-last-group : (lead t g rest : List ℕ) (s : ℕ) → t ≡ (lead ++ g) ++ rest → rest ≡ []
    → IsGroup g s → IsAfter lead (Has h16) t
after-last-group lead t g rest s e n i = grind (arith, nat_tests, append-nil, group-is-had)

head-shape : (lead t : List ℕ) (s : ℕ) (segments : List ℕ)
    → IsGroupsAfter false lead t (s ∷ segments) → IsAfter lead (IsShape h16 (length segments)) t
head-shape lead t s [] (inl (g, rest, e, i, r)) =
    let k = after-last-group lead t g rest s e r i in
    record { r = k.r; whole = k.whole; holds = last-is-shape h16 k.r k.holds }
head-shape lead t s (s2 ∷ segments) (inl (g, rest, e, i, r)) = after-group h16 lead t g rest s
    (length segments) e i (head-shape (codes ":") rest s2 segments r)
head-shape lead t s segments (inr (last, octets, no_ipv4, e, d, f)) = absurd (false≢true no_ipv4)

one-tail : (lead t : List ℕ) (s : ℕ) → IsGroupsAfter true lead t (s ∷ []) → IsAfter lead (Has h16) t
one-tail lead t s (inl (g, rest, e, i, r)) = after-last-group lead t g rest s e r i
one-tail lead t s (inr (last, octets, yes_ipv4, e, d, f)) =
    let v = ap segments_of d.value in absurd (cc (f, v))

tail-shape : (lead t : List ℕ) (s s2 : ℕ) (segments : List ℕ)
    → IsGroupsAfter true lead t (s ∷ s2 ∷ segments) → IsAfter lead
    (IsShape ls32 (length segments)) t
unfolding ls32
tail-shape lead t s s2 [] (inl (g, rest, e, i, r)) =
    let k = one-tail (codes ":") rest s2 r in
    record {
      r = g ++ (58 ∷ k.r);
      whole = e ∙ ap (λ z. (lead ++ g) ++ z) k.whole ∙ append_assoc lead g (58 ∷ k.r);
      holds = last-is-shape ls32 (g ++ (58 ∷ k.r))
          (inl (g, 58 ∷ k.r, refl, group-is-had g s i, (codes ":", k.r, refl, refl, k.holds)));
    }
tail-shape lead t s s2 (s3 ∷ segments) (inl (g, rest, e, i, r)) = after-group ls32 lead t g rest s
    (length segments) e i (tail-shape (codes ":") rest s2 s3 segments r)
tail-shape lead t s s2 segments (inr (last, octets, yes_ipv4, e, d, f)) =
    let v = ap segments_of d.value in
    let n : segments ≡ [] = cc (f, v) in
    record {
      r = last;
      whole = e;
      holds = subst (λ z. IsShape ls32 (length z) last) (sym n)
          (last-is-shape ls32 last (inr (ipv4-is-had last octets d)));
    }

abbrev g16 : Abnf
g16 = h16 ⋅ lit ":"

shape-is-times : (last : Abnf) (n : ℕ) (t : List ℕ) → IsShape last n t → Has (times n g16 ⋅ last) t
shape-is-times last n t s = (s.x, s.y, s.whole, (n, omega arith, omega arith, s.groups), s.ending)

times-is-shape : (last : Abnf) (k : ℕ) (t : List ℕ) → Has (times k g16 ⋅ last) t → IsShape last k t
times-is-shape last k t (x, y, e, (n, lo, hi, p), h) = grind (arith, nat_tests)

once : (t : List ℕ) → Has (h16 ⋅ lit ":" ⋅ ls32) t → IsShape ls32 1 t
once t (g, r, e, h, (c, y, f, k, i)) =
    let colon = letterless-has (codes ":") c (inl (omega arith), tt) k in
    grind (arith, nat_tests, step-is-shape, last-is-shape)

-- groups before `::`, at most so many
record IsHead (m : ℕ) (t : List ℕ) : Type 0 where
  segments : List ℕ
  groups : IsGroups false t segments
  room : length segments ≤ m

no-head : (m : ℕ) → IsHead m []
no-head m = record { segments = []; groups = refl; room = omega arith }

shape-is-head : (n m : ℕ) (t : List ℕ) → n < m → IsShape h16 n t → IsHead m t
shape-is-head n m t l s =
    let k = heads-give false n [] t s in
    record { segments = k.segments; groups = k.groups; room = let c = k.count in omega arith }

one-gives-head : (t : List ℕ) → Has (opt h16) t → IsHead 1 t
one-gives-head t h = ⊎_elim (λ e. subst (IsHead 1) (sym e) (no-head 1))
    (λ k. shape-is-head 0 1 t (omega arith) (last-is-shape h16 t k)) h

upto-shape : (k : ℕ) (t : List ℕ) → Has (upto k g16 ⋅ h16) t → IsHead (suc k) t
upto-shape k t (x, y, e, (n, lo, hi, p), h) = shape-is-head n (suc k) t (omega arith)
    (record { x = x; y = y; whole = e; groups = p; ending = h })

upto-gives-head : (k : ℕ) (t : List ℕ) → Has (opt (upto k g16 ⋅ h16)) t → IsHead (suc k) t
upto-gives-head k t h = ⊎_elim (λ e. subst (IsHead (suc k)) (sym e) (no-head (suc k)))
    (λ i. upto-shape k t i) h

elide : (h k : ℕ) → h + k ≤ 7 → (t x c y : List ℕ) → t ≡ x ++ (c ++ y) → Has (lit "::") c
    → IsHead h x → AreGroups true [] k y → (segments : List ℕ) × IsColonHex t segments
elide h k l t x c y e d a b =
    let colons = letterless-has (codes "::") c (inl (omega arith), (inl (omega arith), tt)) d in
    let n = a.room in
    let m = b.count in (
      _,
      inr (record {
        head_text = x;
        tail_text = y;
        head = a.segments;
        tail = b.segments;
        spelled = e ∙ ap (λ r. x ++ (r ++ y)) colons ∙ sym (append_assoc x (codes "::") y);
        head_groups = a.groups;
        tail_groups = b.groups;
        room = omega arith;
        value = refl;
      }),
    )

elided-gives : (A B : Abnf) (h k : ℕ) → h + k ≤ 7 → ((x : List ℕ) → Has A x → IsHead h x)
    → ((y : List ℕ) → Has B y → AreGroups true [] k y) → (t : List ℕ) → Has (A ⋅ lit "::" ⋅ B) t
    → (segments : List ℕ) × IsColonHex t segments
elided-gives A B h k l f g t (x, r, e, a, (c, y, i, d, b)) =
    elide h k l t x c y (e ∙ ap (λ z. x ++ z) i) d (f x a) (g y b)

six-and-last : (t : List ℕ) → Has (times 6 g16 ⋅ ls32) t → (segments : List ℕ)
    × IsColonHex t segments
six-and-last t h =
    let k = tails-give 6 [] t (times-is-shape ls32 6 t h) in
    (k.segments, inl (k.groups, k.count))

pub ipv6-gives : (t : List ℕ) → Has IPv6address t → (segments : List ℕ) × IsColonHex t segments
unfolding IPv6address
ipv6-gives t (inl (inl (inl (inl (inl (inl (inl (inl h)))))))) = six-and-last t h
ipv6-gives t (inl (inl (inl (inl (inl (inl (inl (inr (c, y, e, d, b))))))))) =
    elide 0 7 (omega arith) t [] c y e d (no-head 0) (tails-give 5 [] y (times-is-shape ls32 5 y b))
ipv6-gives t (inl (inl (inl (inl (inl (inl (inr h))))))) =
    elided-gives (opt h16) (times 4 g16 ⋅ ls32) 1 6 (omega arith) one-gives-head
    (λ y b. tails-give 4 [] y (times-is-shape ls32 4 y b)) t h
ipv6-gives t (inl (inl (inl (inl (inl (inr h)))))) =
    elided-gives (opt (upto 1 g16 ⋅ h16)) (times 3 g16 ⋅ ls32) 2 5 (omega arith) (upto-gives-head 1)
    (λ y b. tails-give 3 [] y (times-is-shape ls32 3 y b)) t h
ipv6-gives t (inl (inl (inl (inl (inr h))))) =
    elided-gives (opt (upto 2 g16 ⋅ h16)) (times 2 g16 ⋅ ls32) 3 4 (omega arith) (upto-gives-head 2)
    (λ y b. tails-give 2 [] y (times-is-shape ls32 2 y b)) t h
ipv6-gives t (inl (inl (inl (inr h)))) = elided-gives (opt (upto 3 g16 ⋅ h16))
    (h16 ⋅ lit ":" ⋅ ls32) 4 3 (omega arith) (upto-gives-head 3)
    (λ y b. tails-give 1 [] y (once y b)) t h
ipv6-gives t (inl (inl (inr h))) =
    elided-gives (opt (upto 4 g16 ⋅ h16)) ls32 5 2 (omega arith) (upto-gives-head 4)
    (λ y b. tails-give 0 [] y (last-is-shape ls32 y b)) t h
ipv6-gives t (inl (inr h)) =
    elided-gives (opt (upto 5 g16 ⋅ h16)) h16 6 1 (omega arith) (upto-gives-head 5)
    (λ y b. last-group true [] y b) t h
ipv6-gives t (inr (x, c, e, a, d)) =
    elide 7 0 (omega arith) t x c [] (e ∙ ap (λ r. x ++ r) (sym (append-nil c))) d
    (upto-gives-head 6 x a) (record { segments = []; groups = refl; count = refl })

head-is-had : (k : ℕ) (x head : List ℕ) → IsGroups false x head → length head ≤ suc k
    → Has (opt (upto k g16 ⋅ h16)) x
head-is-had k x [] g l = inl g
head-is-had k x (s ∷ head) g l =
    let a = head-shape [] x s head g in
    let b = a.holds in
    inr (subst (Has (upto k g16 ⋅ h16)) (sym a.whole)
    (b.x, b.y, b.whole, (length head, omega arith, omega arith, b.groups), b.ending))

one-head-is-had : (x head : List ℕ) → IsGroups false x head → length head ≤ 1 → Has (opt h16) x
one-head-is-had x [] g l = inl g
one-head-is-had x (s ∷ []) g l =
    let a = head-shape [] x s [] g in
    inr (subst (Has h16) (sym a.whole) (shape-of-last h16 a.r a.holds))
one-head-is-had x (s ∷ s2 ∷ head) g l = absurd (omega arith)

no-head-is-nil : (x head : List ℕ) → IsGroups false x head → length head ≤ 0 → x ≡ []
no-head-is-nil x [] g l = g
no-head-is-nil x (s ∷ head) g l = absurd (omega arith)

shape-once : (t : List ℕ) → IsShape ls32 1 t → Has (h16 ⋅ lit ":" ⋅ ls32) t
shape-once t s =
    let k = shape-step ls32 0 t s.x s.y s.whole s.groups s.ending in (
      k.g,
      58 ∷ k.rest,
      k.whole,
      k.group,
      (codes ":", k.rest, refl, refl, shape-of-last ls32 k.rest k.shape),
    )

elided-is-had : (A B : Abnf) (t x y : List ℕ) → t ≡ (x ++ codes "::") ++ y → Has A x → Has B y
    → Has (A ⋅ lit "::" ⋅ B) t
elided-is-had A B t x y e a b =
    (x, codes "::" ++ y, e ∙ append_assoc x (codes "::") y, a, (codes "::", y, refl, refl, b))

module _ (t x y head : List ℕ) (e : t ≡ (x ++ codes "::") ++ y)
    (heads : IsGroups false x head) where
  elided-had : (tail : List ℕ) → IsGroups true y tail → length head + length tail < 8
      → Has IPv6address t
  unfolding IPv6address
  elided-had [] g l = inr (
    x,
    codes "::",
    e ∙ ap (λ r. (x ++ codes "::") ++ r) g ∙ append-nil (x ++ codes "::"),
    head-is-had 6 x head heads (omega arith),
    refl,
  )
  elided-had (s ∷ []) g l =
      let k = one-tail [] y s g in
      inl (inr (elided-is-had (opt (upto 5 g16 ⋅ h16)) h16 t x y e
      (head-is-had 5 x head heads (omega arith)) (subst (Has h16) (sym k.whole) k.holds)))
  elided-had (s ∷ s2 ∷ []) g l =
      let k = tail-shape [] y s s2 [] g in
      inl (inl (inr (elided-is-had (opt (upto 4 g16 ⋅ h16)) ls32 t x y e
      (head-is-had 4 x head heads (omega arith))
      (shape-of-last ls32 y (subst (IsShape ls32 0) (sym k.whole) k.holds)))))
  elided-had (s ∷ s2 ∷ s3 ∷ []) g l =
      let k = tail-shape [] y s s2 (s3 ∷ []) g in
      inl (inl (inl (inr (elided-is-had (opt (upto 3 g16 ⋅ h16)) (h16 ⋅ lit ":" ⋅ ls32) t x y e
      (head-is-had 3 x head heads (omega arith))
      (shape-once y (subst (IsShape ls32 1) (sym k.whole) k.holds))))))
  elided-had (s ∷ s2 ∷ s3 ∷ s4 ∷ []) g l =
      let k = tail-shape [] y s s2 (s3 ∷ s4 ∷ []) g in
      inl (inl (inl (inl (inr (elided-is-had (opt (upto 2 g16 ⋅ h16)) (times 2 g16 ⋅ ls32) t x y e
      (head-is-had 2 x head heads (omega arith))
      (shape-is-times ls32 2 y (subst (IsShape ls32 2) (sym k.whole) k.holds)))))))
  elided-had (s ∷ s2 ∷ s3 ∷ s4 ∷ s5 ∷ []) g l =
      let k = tail-shape [] y s s2 (s3 ∷ s4 ∷ s5 ∷ []) g in
      inl (inl (inl (inl (inl (inr (elided-is-had (opt (upto 1 g16 ⋅ h16)) (times 3 g16 ⋅ ls32) t x
      y e (head-is-had 1 x head heads (omega arith))
      (shape-is-times ls32 3 y (subst (IsShape ls32 3) (sym k.whole) k.holds))))))))
  elided-had (s ∷ s2 ∷ s3 ∷ s4 ∷ s5 ∷ s6 ∷ []) g l =
      let k = tail-shape [] y s s2 (s3 ∷ s4 ∷ s5 ∷ s6 ∷ []) g in
      inl (inl (inl (inl (inl (inl (inr (elided-is-had (opt h16) (times 4 g16 ⋅ ls32) t x y e
      (one-head-is-had x head heads (omega arith))
      (shape-is-times ls32 4 y (subst (IsShape ls32 4) (sym k.whole) k.holds)))))))))
  elided-had (s ∷ s2 ∷ s3 ∷ s4 ∷ s5 ∷ s6 ∷ s7 ∷ []) g l =
      let k = tail-shape [] y s s2 (s3 ∷ s4 ∷ s5 ∷ s6 ∷ s7 ∷ []) g in
      let n = no-head-is-nil x head heads (omega arith) in
      inl (inl (inl (inl (inl (inl (inl (inr (
        codes "::",
        y,
        e ∙ ap (λ r. (r ++ codes "::") ++ y) n,
        refl,
        shape-is-times ls32 5 y (subst (IsShape ls32 5) (sym k.whole) k.holds),
      ))))))))
  elided-had (s ∷ s2 ∷ s3 ∷ s4 ∷ s5 ∷ s6 ∷ s7 ∷ s8 ∷ tail) g l = absurd (omega arith)

whole-had : (t segments : List ℕ) → IsGroups true t segments → length segments ≡ 8
    → Has IPv6address t
unfolding IPv6address
whole-had t [] g n = absurd (omega arith)
whole-had t (s ∷ []) g n = absurd (omega arith)
whole-had t (s ∷ s2 ∷ segments) g n =
    let k = tail-shape [] t s s2 segments g in
    let six : length segments ≡ 6 = omega arith in
    inl (inl (inl (inl (inl (inl (inl (inl (shape-is-times ls32 6 t (subst (λ m. IsShape ls32 m t)
    six (subst (IsShape ls32 (length segments)) (sym k.whole) k.holds))))))))))

pub ipv6-is-had : (t segments : List ℕ) → IsColonHex t segments → Has IPv6address t
ipv6-is-had t segments (inl h) = whole-had t segments h.0 h.1
ipv6-is-had t segments (inr h) =
    elided-had t h.head_text h.tail_text h.head h.spelled h.head_groups h.tail h.tail_groups h.room
