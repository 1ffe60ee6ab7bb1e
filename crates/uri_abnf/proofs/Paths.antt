-- Paths as characters: segments, each after a slash.
use Rattle.uri_abnf.proofs.Common.{◌≡◌, ℕ, zero, suc, Bool, true, false, List, [], ◌∷◌, ◌++◌, refl, sym, ap, subst, ◌∙◌, inl, ⊎_elim, arith, ◌||◌, ◌==◌, codes, to_ascii_lowercase, or_cases, or_left, or_right, eqb-true, false≢true, TableSet, Abnf, Has, IsPower, any, lit, ◌⋅◌, ◌∣◌}
use Rattle.uri_abnf.proofs.Elements.{has_char}
use Rattle.uri_abnf.proofs.Texts.{letterless-has}
use Rattle.uri_abnf.proofs.Tokens.{Tokens, none, char, octet, IsSetOf, tokens-append, tokens-widen, any-gives-tokens, tokens-are-any}

-- segments, each after a slash
abbrev pub segments : Abnf → Abnf
segments pc = any (lit "/" ⋅ any pc)

or_with_false : (b : Bool) → (b || false) ≡ true → b ≡ true
or_with_false b e = ⊎_elim (λ h. h) (λ h. absurd (false≢true h)) (or_cases b false e)

module _ (pc : Abnf) (set : TableSet) (w : IsSetOf pc set) where
  -- the characters of a path are a segment, and segments after slashes
  record AreSegments (cs : List ℕ) : Type 0 where
    first : List ℕ
    rest : List ℕ
    whole : cs ≡ first ++ rest
    tokens : Tokens pc first
    n : ℕ
    power : IsPower (Has (lit "/" ⋅ any pc)) n rest

  slash-then : (c : ℕ) (t : List ℕ) → (to_ascii_lowercase c == 47) ≡ true → AreSegments t
      → AreSegments (c ∷ t)
  slash-then c t e k = record {
    first = [];
    rest = c ∷ t;
    whole = refl;
    tokens = none;
    n = suc k.n;
    power = (
      c ∷ k.first,
      k.rest,
      ap (λ r. c ∷ r) k.whole,
      (
        c ∷ [],
        k.first,
        refl,
        ap (λ n. n ∷ []) (eqb-true _ _ e),
        tokens-are-any pc set w k.first k.tokens,
      ),
      k.power,
    );
  }

  char-then : (c : ℕ) (t : List ℕ) → has_char pc c ≡ true → AreSegments t → AreSegments (c ∷ t)
  char-then c t e k = record {
    first = c ∷ k.first;
    rest = k.rest;
    whole = ap (λ r. c ∷ r) k.whole;
    tokens = char e k.tokens;
    n = k.n;
    power = k.power;
  }

  path-is-cut-at-slashes : (cs : List ℕ) → Tokens (pc ∣ lit "/") cs → AreSegments cs
  path-is-cut-at-slashes _ none = record {
    first = [];
    rest = [];
    whole = refl;
    tokens = none;
    n = 0;
    power = refl;
  }
  path-is-cut-at-slashes _ (char {c} {t} p q) = ⊎_elim
      (λ e. char-then c t e (path-is-cut-at-slashes t q))
      (λ e. slash-then c t e (path-is-cut-at-slashes t q)) (or_cases (has_char pc c) _ p)
  path-is-cut-at-slashes _ (octet {p} {h} {l} {t} o e a b q) =
      let k = path-is-cut-at-slashes t q in
      record {
        first = p ∷ h ∷ l ∷ k.first;
        rest = k.rest;
        whole = ap (λ r. p ∷ h ∷ l ∷ r) k.whole;
        tokens = octet (or_with_false _ o) e a b k.tokens;
        n = k.n;
        power = k.power;
      }

  pub path-is-segments : (cs : List ℕ) → Tokens (pc ∣ lit "/") cs → Has (any pc ⋅ segments pc) cs
  path-is-segments cs t = grind (arith, path-is-cut-at-slashes, tokens-are-any)

  pub segment-is-path : (cs : List ℕ) → Tokens pc cs → Tokens (pc ∣ lit "/") cs
  segment-is-path cs t = tokens-widen _ _ (λ c e. or_left _ _ e) (λ e. or_left _ _ e) cs t

  power-is-path : (n : ℕ) (cs : List ℕ) → IsPower (Has (lit "/" ⋅ any pc)) n cs
      → Tokens (pc ∣ lit "/") cs
  power-is-path zero cs e = subst (Tokens (pc ∣ lit "/")) (sym e) none
  power-is-path (suc n) cs (x, y, e, (a, b, f, h, k), q) =
      let slash = letterless-has (codes "/") a (inl (omega arith), tt) h in
      subst (Tokens (pc ∣ lit "/")) (sym (e ∙ ap (λ r. r ++ y) (f ∙ ap (λ r. r ++ b) slash))) (char
      (or_right _ _ refl) (tokens-append _ b y (segment-is-path b (any-gives-tokens pc set w b k))
      (power-is-path n y q)))

  pub segments-are-path : (cs : List ℕ) → Has (segments pc) cs → Tokens (pc ∣ lit "/") cs
  segments-are-path cs (n, l, m, p) = power-is-path n cs p
