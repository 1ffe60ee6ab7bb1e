-- Expressions of ASCII characters only: their texts are their own characters.
use Rattle.uri_abnf.proofs.Common.{◌≡◌, ℕ, zero, suc, Bool, true, List, [], ◌∷◌, ◌++◌, refl, sym, ap, subst, ◌∙◌, inl, inr, arith, ◌<◌, ◌&&◌, nat_lt, map, get_or, drop, list_all, to_ascii_lowercase, chars, encode_utf8_all, all_scalars, and_parts, ltb-true, nat_tests, encodes-append, chars-encodes, encodes-chars, encode_ascii, Abnf, Rule, Literal, Range, Sequence, Either, Repeat, Optional, Has, IsPower, IsOf}
use Rattle.std.proofs.Math.Utf8.{low_scalar}
use Rattle.uri_pct.proofs.Offered.{scalars-append}

abbrev pub ascii_only : Abnf → Bool
ascii_only (Rule name a) = ascii_only a
ascii_only (Literal text) = list_all (λ c. nat_lt c 128) text
ascii_only (Range first last) = nat_lt last 128
ascii_only (Sequence a b) = ascii_only a && ascii_only b
ascii_only (Either a b) = ascii_only a && ascii_only b
ascii_only (Repeat least most a) = ascii_only a
ascii_only (Optional a) = ascii_only a

record IsOwn (t : List ℕ) : Type 0 where
  scalars : all_scalars t ≡ true
  encodes : encode_utf8_all t ≡ t

own-nil : IsOwn []
own-nil = record { scalars = refl; encodes = refl }

own-cons : (c : ℕ) (t : List ℕ) → c < 128 → IsOwn t → IsOwn (c ∷ t)
own-cons c t h o = grind (arith, nat_tests, low_scalar, encode_ascii)

own-append : (x y : List ℕ) → IsOwn x → IsOwn y → IsOwn (x ++ y)
own-append x y o p = grind (arith, nat_tests, scalars-append, encodes-append)

lower-ascii : (a c : ℕ) → to_ascii_lowercase c ≡ to_ascii_lowercase a → a < 128 → c < 128
lower-ascii a c e h = grind (arith, nat_tests)

literal-own : (s t : List ℕ) → list_all (λ c. nat_lt c 128) s ≡ true
    → map to_ascii_lowercase t ≡ map to_ascii_lowercase s → IsOwn t
literal-own [] [] w e = own-nil
literal-own [] (c ∷ t) w e = absurd (cc e)
literal-own (a ∷ s) [] w e = absurd (cc e)
literal-own (a ∷ s) (c ∷ t) w e =
    let p : to_ascii_lowercase c ≡ to_ascii_lowercase a = ap (λ l. get_or l 0 0) e in
    let q : map to_ascii_lowercase t ≡ map to_ascii_lowercase s = ap (drop 1) e in
    let r = and_parts _ _ w in
    own-cons c t (lower-ascii a c p (ltb-true a 128 r.0)) (literal-own s t r.1 q)

power-own : (L : List ℕ → Type 0) → ((t : List ℕ) → L t → IsOwn t) → (n : ℕ) (t : List ℕ)
    → IsPower L n t → IsOwn t
power-own L f zero t e = subst IsOwn (sym e) own-nil
power-own L f (suc n) t (x, y, e, h, q) =
    subst IsOwn (sym e) (own-append x y (f x h) (power-own L f n y q))

ascii-own : (g : Abnf) → ascii_only g ≡ true → (t : List ℕ) → Has g t → IsOwn t
ascii-own (Rule name a) w t h = ascii-own a w t h
ascii-own (Literal s) w t h = literal-own s t w h
ascii-own (Range first last) w t (c, e, p, q) =
    let k = ltb-true last 128 w in subst IsOwn (sym e) (own-cons c [] (omega arith) own-nil)
ascii-own (Sequence a b) w t (x, y, e, h, k) =
    let r = and_parts _ _ w in
    subst IsOwn (sym e) (own-append x y (ascii-own a r.0 x h) (ascii-own b r.1 y k))
ascii-own (Either a b) w t (inl h) = ascii-own a (and_parts _ _ w).0 t h
ascii-own (Either a b) w t (inr h) = ascii-own b (and_parts _ _ w).1 t h
ascii-own (Repeat least most a) w t (n, l, m, p) =
    power-own (Has a) (λ s h. ascii-own a w s h) n t p
ascii-own (Optional a) w t (inl e) = subst IsOwn (sym e) own-nil
ascii-own (Optional a) w t (inr h) = ascii-own a w t h

module _ (g : Abnf) (w : ascii_only g ≡ true) where
  pub ascii-text-gives : (t : List ℕ) → IsOf g t → Has g t
  ascii-text-gives t l =
      subst (Has g) (sym (ascii-own g w (chars t) l.has).encodes ∙ encodes-chars t l.utf8) l.has

  pub ascii-text-is-had : (t : List ℕ) → Has g t → IsOf g t
  ascii-text-is-had t h = grind (arith, nat_tests, ascii-own, chars-encodes)
