-- A dot segment is one that decodes to the bytes of one dot or of two.
use Rattle.uri_ops.proofs.Common.{common_steps, ◌≡◌, ℕ, ◌+◌, ◌*◌, Bool, true, eqb, List, [], ◌∷◌, ◌++◌, length, refl, sym, ap, subst, ◌∙◌, arith, ◌&&◌, ⊎_elim, inl, inr, ◌⊎◌, codes, bytes_eq, encode_utf8, digit_value, is_ascii_hexdigit, list_any, chars, IsUtf8, encode_utf8_all, append-nil, length-append, encodes-chars, length-encode, len_utf8_bounds, encode_ascii, encode_same, cases_Bool, and_parts, false≢true, false_from_ne_true, eqb-true, nat_tests, tokens, tokens_from_chars, bytes_decoded_from, is_pct_encoded, dots, is_single_dot, is_double_dot, hexdigit_value_is_below_16}
use Rattle.uri_ops.proofs.Paths.Segments.{equal-bytes-are-equal}

-- dot segments: the text is one of the forms of a dot, `.`, `%2E` and `%2e`
pub record IsDot (text : List ℕ) : Type 0 where
  pub joined : (text ≡ codes ".") ⊎ ((text ≡ codes "%2E") ⊎ (text ≡ codes "%2e"))

-- dot segments: a test that some dot passes is passed by one of `.`, `%2E` and `%2e`
pub test-of-some-dot : (test : List ℕ → Bool) → list_any test dots ≡ true
    → (dot : List ℕ) × (IsDot dot × (test dot ≡ true))
test-of-some-dot test e = grind (arith, common_steps, test)

-- dot segments: what holds of `.`, `%2E` and `%2e` holds of each dot
pub property-of-each-dot : (P : List ℕ → Type 0) → P (codes ".") → P (codes "%2E") → P (codes "%2e")
    → (dot : List ℕ) → IsDot dot → P dot
property-of-each-dot P one upper lower dot d = ⊎_elim (λ e. subst P (sym e) one)
    (λ f. ⊎_elim (λ e. subst P (sym e) upper) (λ e. subst P (sym e) lower) f) d.joined

dot-decodes-to-byte-46 : (first : List ℕ) → IsDot first → bytes_decoded_from (tokens first)
    ≡ 46 ∷ []
unfolding chars tokens_from_chars is_pct_encoded encode_utf8
dot-decodes-to-byte-46 = property-of-each-dot (λ first. bytes_decoded_from (tokens first) ≡ 46 ∷ [])
    refl refl refl

two-dots-decode-to-bytes-46 : (first second : List ℕ) → IsDot first → IsDot second
    → bytes_decoded_from (tokens (first ++ second)) ≡ 46 ∷ 46 ∷ []
unfolding chars tokens_from_chars is_pct_encoded encode_utf8
two-dots-decode-to-bytes-46 first second d e = grind (arith, tokens, property-of-each-dot)

double-dot-segment-decodes-to-two-dots : (s : List ℕ)
    → is_double_dot s ≡ true → bytes_decoded_from (tokens s) ≡ 46 ∷ 46 ∷ []
double-dot-segment-decodes-to-two-dots s e =
    let v = test-of-some-dot (λ first. list_any (λ second. bytes_eq s (first ++ second)) dots) e in
    let w = test-of-some-dot (λ second. bytes_eq s (v.0 ++ second)) v.1.1 in
    ap (λ t. bytes_decoded_from (tokens t)) (equal-bytes-are-equal s (v.0 ++ w.0) w.1.1)
    ∙ two-dots-decode-to-bytes-46 v.0 w.0 v.1.0 w.1.0

-- dot segments: the characters are a dot and a rest, which decodes to these bytes
record BeginsWithDot (cs bytes : List ℕ) : Type 0 where
  dot : List ℕ
  rest : List ℕ
  is_dot : IsDot dot
  whole : cs ≡ dot ++ rest
  suffix : bytes_decoded_from (tokens_from_chars rest) ≡ bytes

character-with-first-byte-46-is-dot : (c : ℕ) (more bytes : List ℕ)
    → encode_utf8 c ++ more ≡ 46 ∷ bytes → (c ≡ 46) × (more ≡ bytes)
character-with-first-byte-46-is-dot c more bytes e = encode_same c 46 more bytes
    (e ∙ sym (ap (λ t. t ++ bytes) (encode_ascii 46 (omega arith))))

-- dot segments: the digits of an octet with the value 46 are `2` (50), and `E` (69) or `e` (101)
hex-digits-of-46-are-2E : (h l : ℕ) → is_ascii_hexdigit h ≡ true → is_ascii_hexdigit l ≡ true
    → 16 * digit_value h + digit_value l ≡ 46 → (h ≡ 50) × ((l ≡ 69) ⊎ (l ≡ 101))
hex-digits-of-46-are-2E h l e f g =
    grind (arith, hexdigit_value_is_below_16, nat_tests, cases_Bool, eqb-true)

equal-lists-have-equal-heads-and-tails : (x y : ℕ) (xs ys : List ℕ) → x ∷ xs ≡ y ∷ ys → (x ≡ y)
    × (xs ≡ ys)
equal-lists-have-equal-heads-and-tails x y xs ys e = (cc, cc)

octet-decoding-to-46-is-dot : (c h l : ℕ) (rest bytes : List ℕ) → is_pct_encoded c h l ≡ true
    → (16 * digit_value h + digit_value l) ∷ bytes_decoded_from (tokens_from_chars rest)
    ≡ 46 ∷ bytes → BeginsWithDot (c ∷ h ∷ l ∷ rest) bytes
unfolding is_pct_encoded
octet-decoding-to-46-is-dot c h l rest bytes e f =
    let p = and_parts (eqb c 37) (is_ascii_hexdigit h && is_ascii_hexdigit l) e in
    let q = and_parts (is_ascii_hexdigit h) (is_ascii_hexdigit l) p.1 in
    let s = equal-lists-have-equal-heads-and-tails _ 46
    (bytes_decoded_from (tokens_from_chars rest)) bytes f in
    let d = hex-digits-of-46-are-2E h l q.0 q.1 s.0 in
    let dot : IsDot (c ∷ h ∷ l ∷ []) =
    record { joined = inr (encoded_dot c h l (eqb-true c 37 p.0) d.0 d.1) } in
    record { dot = c ∷ h ∷ l ∷ []; rest = rest; is_dot = dot; whole = refl; suffix = s.1 }
  where
    encoded_dot : (c h l : ℕ) → c ≡ 37 → h ≡ 50 → (l ≡ 69) ⊎ (l ≡ 101)
        → (c ∷ h ∷ l ∷ [] ≡ codes "%2E") ⊎ (c ∷ h ∷ l ∷ [] ≡ codes "%2e")
    encoded_dot c h l a b o = grind (arith, common_steps)

character-decoding-to-46-is-dot : (c : ℕ) (rest bytes : List ℕ) → encode_utf8 c
    ++ bytes_decoded_from (tokens_from_chars rest) ≡ 46 ∷ bytes → BeginsWithDot (c ∷ rest) bytes
character-decoding-to-46-is-dot c rest bytes e =
    let s = character-with-first-byte-46-is-dot c (bytes_decoded_from (tokens_from_chars rest))
    bytes e in
    record {
      dot = c ∷ [];
      rest = rest;
      is_dot = record { joined = inl (ap (λ d. d ∷ []) s.0) };
      whole = refl;
      suffix = s.1;
    }

-- dot segments: a character has bytes, so that a text that decodes to none is empty
utf8-of-character-is-not-empty : (c : ℕ) (more : List ℕ) → encode_utf8 c ++ more ≡ [] → ⊥
utf8-of-character-is-not-empty c more e = omega
    (arith, ap length e, length-append (encode_utf8 c) more, length-encode c, (len_utf8_bounds c).0)

-- general fact on lists, for bytes of dots: the empty list is none with a first element
nil-is-no-cons : (b : ℕ) (bs : List ℕ) → [] ≡ b ∷ bs → ⊥
nil-is-no-cons b bs e = cc

text-decoding-to-first-46-begins-with-dot : (cs bytes : List ℕ)
    → bytes_decoded_from (tokens_from_chars cs) ≡ 46 ∷ bytes → BeginsWithDot cs bytes
unfolding tokens_from_chars
text-decoding-to-first-46-begins-with-dot [] bytes e = absurd (nil-is-no-cons 46 bytes e)
text-decoding-to-first-46-begins-with-dot (c ∷ []) bytes e = character-decoding-to-46-is-dot
    c [] bytes e
text-decoding-to-first-46-begins-with-dot (c ∷ d ∷ []) bytes e = character-decoding-to-46-is-dot c
    (d ∷ []) bytes e
text-decoding-to-first-46-begins-with-dot (c ∷ h ∷ l ∷ rest) bytes e =
    grind (arith, common_steps, octet-decoding-to-46-is-dot, character-decoding-to-46-is-dot)

text-decoding-to-no-bytes-has-no-characters : (cs : List ℕ)
    → bytes_decoded_from (tokens_from_chars cs) ≡ [] → cs ≡ []
unfolding tokens_from_chars
text-decoding-to-no-bytes-has-no-characters cs e =
    grind (arith, common_steps, utf8-of-character-is-not-empty, nil-is-no-cons)

dot-is-single-dot-segment : (cs : List ℕ) → IsDot cs → is_single_dot (encode_utf8_all cs) ≡ true
unfolding encode_utf8
dot-is-single-dot-segment = property-of-each-dot (λ cs. is_single_dot (encode_utf8_all cs)
    ≡ true) refl refl refl

two-dots-are-double-dot-segment : (cs ds : List ℕ) → IsDot cs → IsDot ds
    → is_double_dot (encode_utf8_all (cs ++ ds)) ≡ true
unfolding encode_utf8
two-dots-are-double-dot-segment cs ds d e = grind (arith, property-of-each-dot)

characters-decoding-to-dot-are-single-dot : (cs : List ℕ)
    → bytes_decoded_from (tokens_from_chars cs) ≡ 46 ∷ []
    → is_single_dot (encode_utf8_all cs) ≡ true
characters-decoding-to-dot-are-single-dot cs e =
    let w = text-decoding-to-first-46-begins-with-dot cs [] e in
    let same : cs ≡ w.dot = w.whole ∙ ap (λ t. w.dot
    ++ t) (text-decoding-to-no-bytes-has-no-characters w.rest w.suffix) ∙ append-nil w.dot in
    ap (λ t. is_single_dot (encode_utf8_all t)) same ∙ dot-is-single-dot-segment w.dot w.is_dot

characters-decoding-to-two-dots-are-double-dot : (cs : List ℕ)
    → bytes_decoded_from (tokens_from_chars cs) ≡ 46 ∷ 46 ∷ []
    → is_double_dot (encode_utf8_all cs) ≡ true
characters-decoding-to-two-dots-are-double-dot cs e =
    let v = text-decoding-to-first-46-begins-with-dot cs (46 ∷ []) e in
    let w = text-decoding-to-first-46-begins-with-dot v.rest [] v.suffix in
    let rest : v.rest ≡ w.dot = w.whole ∙ ap (λ t. w.dot
    ++ t) (text-decoding-to-no-bytes-has-no-characters w.rest w.suffix) ∙ append-nil w.dot in
    ap (λ t. is_double_dot (encode_utf8_all t)) (v.whole ∙ ap (λ t. v.dot ++ t) rest)
    ∙ two-dots-are-double-dot-segment v.dot w.dot v.is_dot w.is_dot

text-decoding-to-dot-is-single-dot : (s : List ℕ)
    → IsUtf8 s → bytes_decoded_from (tokens s) ≡ 46 ∷ [] → is_single_dot s ≡ true
text-decoding-to-dot-is-single-dot s u e = ap is_single_dot (sym (encodes-chars s u))
    ∙ characters-decoding-to-dot-are-single-dot (chars s) e

text-decoding-to-two-dots-is-double-dot : (s : List ℕ)
    → IsUtf8 s → bytes_decoded_from (tokens s) ≡ 46 ∷ 46 ∷ [] → is_double_dot s ≡ true
text-decoding-to-two-dots-is-double-dot s u e = ap is_double_dot (sym (encodes-chars s u))
    ∙ characters-decoding-to-two-dots-are-double-dot (chars s) e

-- general fact on booleans, for tests of dot segments: two that imply each other are equal
pub tests-that-imply-each-other-are-equal : (a b : Bool) → (a ≡ true → b ≡ true)
    → (b ≡ true → a ≡ true) → a ≡ b
tests-that-imply-each-other-are-equal a b f g = ⊎_elim (λ e. e ∙ sym (f e))
    (λ e. e ∙ sym (false_from_ne_true b (λ h. false≢true (sym e ∙ g h)))) (cases_Bool a)

-- dot segments: whether a segment is `.` (or `%2E`) depends only on the bytes it decodes to
pub single-dot-by-decoded-bytes : (s t : List ℕ) → IsUtf8 s → IsUtf8 t
    → bytes_decoded_from (tokens s) ≡ bytes_decoded_from (tokens t) → is_single_dot s
    ≡ is_single_dot t
single-dot-by-decoded-bytes s t u v e =
    grind (arith, text-decoding-to-dot-is-single-dot, equal-bytes-are-equal, dot-decodes-to-byte-46)

-- dot segments: whether a segment is `..` (or has it percent-encoded)
-- depends only on the bytes it decodes to
pub double-dot-by-decoded-bytes : (s t : List ℕ) → IsUtf8 s → IsUtf8 t
    → bytes_decoded_from (tokens s) ≡ bytes_decoded_from (tokens t) → is_double_dot s
    ≡ is_double_dot t
double-dot-by-decoded-bytes s t u v e =
    grind (arith, text-decoding-to-two-dots-is-double-dot, double-dot-segment-decodes-to-two-dots)

pub text-decoding-to-no-bytes-is-empty : (s : List ℕ) → IsUtf8 s → bytes_decoded_from (tokens s)
    ≡ [] → s ≡ []
text-decoding-to-no-bytes-is-empty s u e = sym (encodes-chars s u)
    ∙ ap encode_utf8_all (text-decoding-to-no-bytes-has-no-characters (chars s) e)
