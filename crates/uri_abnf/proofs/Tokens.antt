-- Texts of the characters and percent-encoded octets that an expression has.
use Rattle.uri_abnf.proofs.Common.{◌≡◌, ℕ, zero, suc, true, false, List, [], ◌∷◌, ◌++◌, refl, sym, ap, subst, ◌∙◌, eq-eqb, ⊎_elim, arith, ◌≤◌, ◌<◌, length, ◌==◌, list_all, is_ascii_hexdigit, IsUtf8, chars, cases_Bool, cond-true, cond-false, and_parts, and_from, eqb-true, false_from_ne_true, false≢true, TableSet, allows, LacksPercent, tokens_from_chars, allows_token, is_pct_encoded, IsValidFor, is_valid_for, Abnf, Has, IsPower, IsOf, any, some}
use Rattle.uri_pct.proofs.Offered.{char_but_percent_is_its_own_token}
use Rattle.uri_abnf.proofs.Elements.{IsElement, has_char, has_octets, element-gives, char-is-had, octet-is-had, element-has-octet}
use Rattle.uri_abnf.proofs.Texts.{text-of-no-chars}

-- the text is of characters that the expression has, and of percent-encoded octets if it has such
pub data Tokens (g : Abnf) : List ℕ → Type 0 where
  none : Tokens g []
  char : {c : ℕ} {t : List ℕ} → has_char g c ≡ true → Tokens g t → Tokens g (c ∷ t)
  octet : {p h l : ℕ} {t : List ℕ} → has_octets g ≡ true → p ≡ 37 → is_ascii_hexdigit h ≡ true
      → is_ascii_hexdigit l ≡ true → Tokens g t → Tokens g (p ∷ h ∷ l ∷ t)

pub tokens-append : (g : Abnf) (x y : List ℕ) → Tokens g x → Tokens g y → Tokens g (x ++ y)
tokens-append g _ y none r = r
tokens-append g _ y (char {c} {t} p q) r = char p (tokens-append g t y q r)
tokens-append g _ y (octet {p} {h} {l} {t} o e a b q) r = octet o e a b (tokens-append g t y q r)

-- tokens of an expression are those of one that has more
pub tokens-widen : (g wide : Abnf) → ((c : ℕ) → has_char g c ≡ true → has_char wide c ≡ true)
    → (has_octets g ≡ true → has_octets wide ≡ true) → (x : List ℕ) → Tokens g x → Tokens wide x
tokens-widen g wide f o _ none = none
tokens-widen g wide f o _ (char {c} {t} p q) = char (f c p) (tokens-widen g wide f o t q)
tokens-widen g wide f o _ (octet {p} {h} {l} {t} i e a b q) =
    octet (o i) e a b (tokens-widen g wide f o t q)

-- the expression, of one character or octet, has exactly the characters of the set, and octets if
-- the set has them
pub record IsSetOf (g : Abnf) (set : TableSet) : Type 0 where
  pub element : IsElement g
  pub chars : (c : ℕ) → has_char g c ≡ allows set c
  pub octets : has_octets g ≡ set.pct_encoded
  pub lacks : LacksPercent set

module _ (g : Abnf) (element : IsElement g) where
  power-has-tokens : (n : ℕ) (t : List ℕ) → IsPower (Has g) n t → Tokens g t
  power-has-tokens zero t e = subst (Tokens g) (sym e) none
  power-has-tokens (suc n) t (x, y, e, p, q) = ⊎_elim
      (λ k. subst (Tokens g) (sym (e ∙ ap (λ s. s ++ y) k.whole))
      (char k.passes (power-has-tokens n y q)))
      (λ k. subst (Tokens g) (sym (e ∙ ap (λ s. s ++ y) k.1.whole))
      (octet k.0 refl k.1.high_digit k.1.low_digit (power-has-tokens n y q)))
      (element-gives g element x p)

  tokens-are-power : (t : List ℕ) → Tokens g t → (n : ℕ) × IsPower (Has g) n t
  tokens-are-power _ none = (0, refl)
  tokens-are-power _ (char {c} {t} p r) =
      let k = tokens-are-power t r in (suc k.0, (c ∷ [], t, refl, char-is-had g c p, k.1))
  tokens-are-power _ (octet {p} {h} {l} {t} o e a b r) =
      let k = tokens-are-power t r in
      let has = element-has-octet g element o _ (rw e (octet-is-had h l a b)) in
      (suc k.0, (p ∷ h ∷ l ∷ [], t, refl, has, k.1))

  power-is-not-nil : (n : ℕ) (cs : List ℕ) → IsPower (Has g) (suc n) cs → cs ≡ [] → ⊥
  power-is-not-nil n cs (x, y, e, h, q) f = grind (arith, element-gives)

  power-of-text : (n : ℕ) (cs : List ℕ) → IsPower (Has g) n cs → (cs ≡ [] → ⊥) → 1 ≤ n
  power-of-text zero cs e h = absurd (h e)
  power-of-text (suc n) cs p h = omega arith

module _ (g : Abnf) (set : TableSet) (w : IsSetOf g set) where
  allowed-char-is-not-percent : (c : ℕ) → allows set c ≡ true → (c == 37) ≡ false
  allowed-char-is-not-percent c e = false_from_ne_true _
      (λ p. false≢true (sym w.lacks ∙ sym (ap (allows set) (eqb-true c 37 p)) ∙ e))

  tokens-are-allowed : (t : List ℕ) → Tokens g t
      → list_all (allows_token set) (tokens_from_chars t) ≡ true
  unfolding tokens_from_chars is_pct_encoded
  tokens-are-allowed _ none = refl
  tokens-are-allowed _ (char {c} {t} p r) =
      let a = sym (w.chars c) ∙ p in
      rw (char_but_percent_is_its_own_token c t (allowed-char-is-not-percent c a))
      (and_from _ _ a (tokens-are-allowed t r))
  tokens-are-allowed _ (octet {p} {h} {l} {t} o e a b r) =
      let pct = and_from _ _ (eq-eqb p 37 e) (and_from _ _ a b) in
      subst (λ ts. list_all (allows_token set) ts ≡ true) (sym (cond-true _ _ _ pct))
      (and_from set.pct_encoded _ (sym w.octets ∙ o) (tokens-are-allowed t r))

  allowed-char : (c : ℕ) → allows set c ≡ true → (t : List ℕ) → Tokens g t → Tokens g (c ∷ t)
  allowed-char c e t r = char (w.chars c ∙ e) r

  allowed-are-tokens : (t : List ℕ) → list_all (allows_token set) (tokens_from_chars t) ≡ true
      → Tokens g t
  unfolding tokens_from_chars is_pct_encoded
  allowed-are-tokens [] e = none
  allowed-are-tokens (c ∷ []) e = allowed-char c (and_parts _ _ e).0 [] none
  allowed-are-tokens (c ∷ d ∷ []) e =
      let p = and_parts _ _ e in allowed-char c p.0 (d ∷ []) (allowed-are-tokens (d ∷ []) p.1)
  allowed-are-tokens (c ∷ h ∷ l ∷ t) e = ⊎_elim
      (λ pct.
      let p = and_parts set.pct_encoded _ (subst (λ ts. list_all (allows_token set) ts ≡ true)
      (cond-true _ _ _ pct) e) in
      let q = and_parts _ _ pct in
      let r = and_parts _ _ q.1 in
      octet (w.octets ∙ p.0) (eqb-true c 37 q.0) r.0 r.1 (allowed-are-tokens t p.1))
      (λ pct.
      let p = and_parts _ _ (subst (λ ts. list_all (allows_token set) ts ≡ true)
      (cond-false _ _ _ pct) e) in
      allowed-char c p.0 (h ∷ l ∷ t) (allowed-are-tokens (h ∷ l ∷ t) p.1))
      (cases_Bool (is_pct_encoded c h l))

  pub tokens-are-valid : (text : List ℕ) → Tokens g (chars text) → IsValidFor set text
  unfolding is_valid_for
  tokens-are-valid text t = tokens-are-allowed _ t

  pub valid-are-tokens : (text : List ℕ) → IsValidFor set text → Tokens g (chars text)
  unfolding is_valid_for
  valid-are-tokens text v = allowed-are-tokens _ v

  pub any-gives-tokens : (cs : List ℕ) → Has (any g) cs → Tokens g cs
  any-gives-tokens cs (n, l, m, p) = power-has-tokens g w.element n cs p

  pub tokens-are-any : (cs : List ℕ) → Tokens g cs → Has (any g) cs
  tokens-are-any cs t = let k = tokens-are-power g w.element cs t in (k.0, omega arith, tt, k.1)

  pub some-gives-tokens : (cs : List ℕ) → Has (some g) cs → Tokens g cs × (cs ≡ [] → ⊥)
  some-gives-tokens cs (zero, l, m, p) = absurd (omega arith)
  some-gives-tokens cs (suc n, l, m, p) =
      (power-has-tokens g w.element (suc n) cs p, power-is-not-nil g w.element n cs p)

  pub tokens-are-some : (cs : List ℕ) → Tokens g cs → (cs ≡ [] → ⊥) → Has (some g) cs
  tokens-are-some cs t h = grind (arith, tokens-are-power, power-of-text)

  -- the texts of any number of them are those that are valid for the set
  pub any-is-valid : (text : List ℕ) → IsOf (any g) text → IsValidFor set text
  any-is-valid text l = tokens-are-valid text (any-gives-tokens _ l.has)

  pub valid-is-any : (text : List ℕ) → IsUtf8 text → IsValidFor set text → IsOf (any g) text
  valid-is-any text u v = record { utf8 = u; has = tokens-are-any _ (valid-are-tokens text v) }

  -- the texts of one or more of them are those that are not empty
  pub some-is-any : (text : List ℕ) → IsOf (some g) text → IsOf (any g) text × (0 < length text)
  unfolding chars
  some-is-any [] l = absurd ((some-gives-tokens _ l.has).1 refl)
  some-is-any (b ∷ text) l = grind (arith, tokens-are-any, some-gives-tokens)

  pub any-is-some : (text : List ℕ) → IsOf (any g) text → 0 < length text → IsOf (some g) text
  any-is-some text l n = grind (arith, tokens-are-some, any-gives-tokens, text-of-no-chars)
