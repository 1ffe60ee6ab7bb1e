-- The rule on schemes: RFC 3986, section 3.1.
use Rattle.uri_abnf.proofs.Common.{◌≡◌, ℕ, true, false, List, [], ◌∷◌, ◌++◌, refl, sym, ap, subst, ◌∙◌, arith, ◌<◌, append-nil, length, slice_index, is_ascii_alphabetic, encode_utf8, IsUtf8, chars, encode_utf8_all, and_parts, and_from, or_left, false≢true, nat_tests, encodes-chars, encode_ascii, chars_past_char, scheme_set, is_scheme, utf8_around_ascii_byte, Abnf, Has, IsOf, any, lit, ◌∣◌, scheme, ALPHA, DIGIT}
use Rattle.std.proofs.Math.Utf8.{low_scalar}
use Rattle.uri_abnf.proofs.Elements.{IsElement, has_char, has_octets, class-has, char-is-had}
use Rattle.uri_abnf.proofs.Sets.{scheme-set}
use Rattle.uri_abnf.proofs.Texts.{cut-gives, cut-is-had, rule-gives, rule-is-had}
use Rattle.uri_abnf.proofs.Tokens.{Tokens, char, octet, any-gives-tokens, tokens-are-any, tokens-are-valid, valid-are-tokens}

abbrev scheme-char : Abnf
scheme-char = ALPHA ∣ DIGIT ∣ lit "+" ∣ lit "-" ∣ lit "."

alpha-element : IsElement ALPHA
unfolding ALPHA
alpha-element = (tt, tt)

alpha-has-no-octets : has_octets ALPHA ≡ false
unfolding ALPHA
alpha-has-no-octets = refl

alpha-chars : (c : ℕ) → has_char ALPHA c ≡ is_ascii_alphabetic c
unfolding ALPHA
alpha-chars c = grind (arith, nat_tests)

alpha_is_ascii : (c : ℕ) → is_ascii_alphabetic c ≡ true → c < 128
alpha_is_ascii c e = grind (arith, nat_tests)

schemes-have-no-octets : has_octets scheme-char ≡ false
unfolding ALPHA DIGIT
schemes-have-no-octets = refl

tokens-after-char : (c : ℕ) (t : List ℕ) → Tokens scheme-char (c ∷ t) → Tokens scheme-char t
tokens-after-char c t (char p r) = r
tokens-after-char c _ (octet o e a b r) = absurd (false≢true (sym schemes-have-no-octets ∙ o))

chars-after-ascii : (b : ℕ) (r : List ℕ) → b < 128 → IsUtf8 (b ∷ r) → chars (b ∷ r) ≡ b ∷ chars r
chars-after-ascii b r h u = chars_past_char (b ∷ r) r b u
    (sym (ap (λ e. e ++ r) (encode_ascii b h)))

pub ascii-char-gives : (c : ℕ) (x : List ℕ) → c < 128 → IsUtf8 x → chars x ≡ c ∷ [] → x ≡ c ∷ []
ascii-char-gives c x h u e = sym (encodes-chars x u) ∙ ap encode_utf8_all e
    ∙ append-nil (encode_utf8 c) ∙ encode_ascii c h

pub ascii-char-is-had : (g : Abnf) (b : ℕ) → b < 128 → Has g (b ∷ []) → IsOf g (b ∷ [])
unfolding chars
ascii-char-is-had g b h k =
    let u : IsUtf8 (b ∷ []) = (
      b ∷ [],
      (
        and_from _ true (low_scalar b (omega arith)) refl,
        append-nil (encode_utf8 b) ∙ encode_ascii b h,
      ),
    ) in
    record { utf8 = u; has = subst (Has g) (sym (chars-after-ascii b [] h u)) k }

-- the rule has exactly what passes the test of a scheme
pub scheme-gives : (s : List ℕ) → IsOf scheme s → (is_scheme s ≡ true) × (0 < length s)
unfolding scheme
scheme-gives s l =
    let k = cut-gives ALPHA (any scheme-char) s (rule-gives l) in
    let a = class-has ALPHA alpha-element alpha-has-no-octets (chars k.x) k.first.has in
    let alpha : is_ascii_alphabetic a.c ≡ true = sym (alpha-chars a.c) ∙ a.passes in
    let low = alpha_is_ascii a.c alpha in
    let e : s ≡ a.c ∷ k.y =
    k.whole ∙ ap (λ r. r ++ k.y) (ascii-char-gives a.c k.x low k.first.utf8 a.whole) in
    let t : Tokens scheme-char (a.c ∷ chars k.y) =
    char (or_left _ _ (or_left _ _ (or_left _ _ (or_left _ _ a.passes))))
    (any-gives-tokens scheme-char scheme_set scheme-set _ k.second.has) in (
      and_from _ _ (ap (λ r. is_ascii_alphabetic (slice_index r 0)) e ∙ alpha)
          (tokens-are-valid scheme-char scheme_set scheme-set s
          (subst (Tokens scheme-char)
          (sym (ap chars e ∙ chars-after-ascii a.c k.y low (subst IsUtf8 e l.utf8))) t)),
      omega (arith, ap length e),
    )

pub scheme-is-had : (s : List ℕ) → IsUtf8 s → is_scheme s ≡ true → IsOf scheme s
unfolding scheme
scheme-is-had [] u e = absurd (false≢true e)
scheme-is-had (b ∷ r) u e =
    let p = and_parts _ _ e in
    let low = alpha_is_ascii b p.0 in
    let t = subst (Tokens scheme-char) (chars-after-ascii b r low u)
    (valid-are-tokens scheme-char scheme_set scheme-set (b ∷ r) p.1) in
    rule-is-had (cut-is-had ALPHA (any scheme-char) (b ∷ []) r
    (ascii-char-is-had ALPHA b low (char-is-had ALPHA b (alpha-chars b ∙ p.0)))
    (record {
      utf8 = (utf8_around_ascii_byte [] b r low u).1;
      has = tokens-are-any scheme-char scheme_set scheme-set _ (tokens-after-char b (chars r) t);
    }))
