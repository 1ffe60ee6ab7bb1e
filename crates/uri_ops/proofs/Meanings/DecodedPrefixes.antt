-- A prefix of a text is decoded by itself if it consists of characters and octets of ASCII. If the
-- set has no characters past ASCII, every octet may be in it.
use Rattle.uri_ops.proofs.Common.{common_steps, ◌≡◌, ℕ, ◌+◌, ◌*◌, ◌-◌, ◌<◌, Bool, true, false, eqb, ltb, not, List, [], ◌∷◌, ◌++◌, length, get_or, take, drop, ◌≤◌, add-zero, refl, sym, ap, subst, ◌∙◌, arith, ◌||◌, ◌⊎◌, append_assoc, digit_value, is_ascii_hexdigit, chars, IsUtf8, IsCharBoundary, ne_eqb, or_parts, not-true, nat_tests, append-nil, take-append-drop, drop-drop, length-drop, get_or-drop, drop_all, drop_more, map-append, list_all-append, IsUtf8-take, IsUtf8-drop, IsCharBoundary-from_rest, IsCharBoundary-after_ascii, widest_set, LacksPastAscii, decode_octet, decode_after_run, TableSet, lacks, Octet, tokens, tokens_from_chars, print, is_valid_for, IsValidFor, len_before_percent, bytes_from_percent_begin_with_octet, boundary_after_octet, tokens_after_unencoded_prefix, first_percent_is_at_boundary, prefix_len_bytes_pass, take_then_take_is_take_of_sum, IsOctetAt, KeepsPrefixWhenDecoded, cased_append, lowered_if, lowered_text_if, decoded_text}
use Rattle.uri_ops.proofs.Meanings.Cased.{print-lowers-characters}
use Rattle.uri_ops.proofs.Meanings.DecodedParts.{decode_run-of-nil-is-nil}
use Rattle.uri_ops.proofs.Meanings.DecodedOctets.{decode_tokens-after-chars, first-octet-token-is-decoded-alone}

-- meanings, decoded: a prefix without `%` (37) is its own decoded form, in lower case if lowers,
-- before that of what follows
literal-prefix-decodes-to-itself : (lowers : Bool) (set : TableSet) (prefix back : List ℕ)
    → IsUtf8 prefix → lacks 37 prefix ≡ true → decoded_text lowers set (prefix ++ back)
    ≡ lowered_text_if lowers prefix ++ decoded_text lowers set back
literal-prefix-decodes-to-itself lowers set prefix back u e =
    grind (
      arith,
      tokens_after_unencoded_prefix,
      decode_tokens-after-chars,
      chars,
      tokens,
      cased_append,
      print-lowers-characters,
    )

-- meanings, decoded: after a prefix without `%` (37), the rest of a valid text is valid
text-after-literal-prefix-is-valid : (prefix back : List ℕ) → IsUtf8 prefix → lacks 37 prefix ≡ true
    → IsValidFor widest_set (prefix ++ back) → IsValidFor widest_set back
unfolding is_valid_for
text-after-literal-prefix-is-valid prefix back u e v =
    grind (arith, nat_tests, list_all-append, tokens_after_unencoded_prefix)

-- meanings, decoded: the first n bytes of a text are copied, and the rest is valid
pub record LiteralPrefix (text : List ℕ) (n : ℕ) : Type 0 where
  pub boundary : IsCharBoundary text n
  pub valid : IsValidFor widest_set (drop n text)
  pub prefix : (lowers : Bool) (set : TableSet) → KeepsPrefixWhenDecoded lowers set text n

-- meanings, decoded: the n bytes before the first `%` of a text are decoded as characters alone
pub text-before-percent-is-literal-prefix : (text : List ℕ) (n : ℕ)
    → IsUtf8 text → IsValidFor widest_set text → n ≡ len_before_percent text → LiteralPrefix text n
text-before-percent-is-literal-prefix text n u v e =
    let boundary : IsCharBoundary text n =
    subst (IsCharBoundary text) (sym e) (first_percent_is_at_boundary text) in
    let utf8 : IsUtf8 (take n text) = IsUtf8-take text n u boundary in
    let literal : lacks 37 (take n text) ≡ true = ap (λ k. lacks 37 (take k text)) e
    ∙ prefix_len_bytes_pass (λ b. not (eqb b 37)) text in
    let whole = take-append-drop n text in
    record {
      boundary = boundary;
      valid = text-after-literal-prefix-is-valid (take n text) (drop n text) utf8 literal
          (subst (IsValidFor widest_set) (sym whole) v);
      prefix = λ lowers set. ap (decoded_text lowers set) (sym whole)
          ∙ literal-prefix-decodes-to-itself lowers set (take n text) (drop n text) utf8 literal;
    }

pub empty-prefix-is-unchanged : (lowers : Bool) (set : TableSet) (text : List ℕ)
    → KeepsPrefixWhenDecoded lowers set text 0
empty-prefix-is-unchanged true set text = refl
empty-prefix-is-unchanged false set text = refl

-- meanings, decoded: two prefixes that are copied, one after the other, are one
unchanged-prefixes-join : (lowers : Bool) (set : TableSet) (text : List ℕ) (n m : ℕ)
    → KeepsPrefixWhenDecoded lowers set text n → KeepsPrefixWhenDecoded lowers set (drop n text) m
    → KeepsPrefixWhenDecoded lowers set text (n + m)
unchanged-prefixes-join lowers set text n m first next =
    grind (
      arith,
      nat_tests,
      append_assoc,
      map-append,
      take_then_take_is_take_of_sum n m text,
      drop-drop m n text,
    )

suffix-of-suffix-by-positions : (text : List ℕ) (done end : ℕ) → done ≤ end
    → drop (end - done) (drop done text) ≡ drop end text
suffix-of-suffix-by-positions text done end order = drop-drop (end - done) done text
    ∙ ap (λ k. drop k text) (omega arith)

-- meanings, decoded: after one prefix that is copied, the next one is; done, end: where the first
-- begins and ends, m: the length of the next
pub unchanged-prefix-grows : (lowers : Bool) (set : TableSet) (text : List ℕ) (done end m : ℕ)
    → done ≤ end → KeepsPrefixWhenDecoded lowers set (drop done text) (end - done)
    → KeepsPrefixWhenDecoded lowers set (drop end text) m
    → KeepsPrefixWhenDecoded lowers set (drop done text) (end + m - done)
unchanged-prefix-grows lowers set text done end m order first next =
    let count : end - done + m ≡ end + m - done = omega arith in
    subst (KeepsPrefixWhenDecoded lowers set (drop done text)) count (unchanged-prefixes-join lowers
    set (drop done text) (end - done) m first (subst (λ x. KeepsPrefixWhenDecoded lowers set x m)
    (sym (suffix-of-suffix-by-positions text done end order)) next))

-- meanings, decoded: after a prefix that is copied (from done to end), what is appended and the
-- rest, decoded, still make the whole
pub unchanged-prefix-is-pushed : (lowers : Bool) (set : TableSet) (text out new whole : List ℕ)
    (done end : ℕ) → done ≤ end → KeepsPrefixWhenDecoded lowers set (drop done text) (end - done)
    → new ≡ out ++ lowered_text_if lowers (take (end - done) (drop done text))
    → out ++ decoded_text lowers set (drop done text) ≡ whole
    → new ++ decoded_text lowers set (drop end text) ≡ whole
unchanged-prefix-is-pushed lowers set text out new whole done end order prefix pushed total =
    grind (arith, nat_tests, suffix-of-suffix-by-positions, append_assoc)

pub suffix-of-suffix-is-valid : (text : List ℕ) (n m : ℕ)
    → IsValidFor widest_set (drop m (drop n text)) → IsValidFor widest_set (drop (n + m) text)
suffix-of-suffix-is-valid text n m v = subst (IsValidFor widest_set) (drop-drop m n text) v

-- meanings, decoded: a `%` (37) at index i of a valid text begins an octet
pub percent-in-valid-text-begins-octet : (text : List ℕ) (i : ℕ) → IsUtf8 text
    → IsCharBoundary text i → IsValidFor widest_set (drop i text) → i < length text
    → get_or text i 0 ≡ 37 → IsOctetAt text i (get_or text (i + 1) 0) (get_or text (i + 2) 0)
percent-in-valid-text-begins-octet text i u b v inside percent =
    let rest = drop i text in
    let utf8 : IsUtf8 rest = IsUtf8-drop text i u b in
    let long : length rest ≡ length text - i = length-drop i text in
    let first : get_or rest 0 0 ≡ 37 = get_or-drop i text 0 0
    ∙ ap (λ k. get_or text k 0) (add-zero i) ∙ percent in
    let o = bytes_from_percent_begin_with_octet rest rest refl utf8 v
    (ne_eqb (length rest) 0 (λ e. omega (arith, long, inside))) first in
    let three : length rest ≡ 3 + length o.suffix = ap length o.joined ∙ omega arith in
    let high : o.high ≡ get_or text (i + 1) 0 =
    sym (ap (λ x. get_or x 1 0) o.joined) ∙ get_or-drop i text 1 0 in
    let low : o.low ≡ get_or text (i + 2) 0 =
    sym (ap (λ x. get_or x 2 0) o.joined) ∙ get_or-drop i text 2 0 in
    let suffix : o.suffix ≡ drop (i + 3) text = sym (ap (drop 3) o.joined) ∙ drop-drop 3 i text in
    record {
      split = o.joined ∙ (λ k. 37 ∷ high k ∷ low k ∷ suffix k);
      high_digit = subst (λ h. is_ascii_hexdigit h ≡ true) high o.high_digit;
      low_digit = subst (λ l. is_ascii_hexdigit l ≡ true) low o.low_digit;
      token = o.first
          ∙ (λ k. Octet (16 * digit_value (high k) + digit_value (low k)) ∷ tokens (suffix k));
      within = omega (arith, long, three);
      boundary = IsCharBoundary-from_rest text i 3 (omega (arith, inside))
          (boundary_after_octet rest utf8 o);
      valid = subst (IsValidFor widest_set) suffix o.valid;
    }

-- meanings, decoded: an octet whose first digit is below `8` (56) is of an ASCII byte
pub octet-with-digit-below-8-is-ascii : (high low : ℕ) → is_ascii_hexdigit high ≡ true
    → is_ascii_hexdigit low ≡ true → high < 56 → 16 * digit_value high + digit_value low < 128
octet-with-digit-below-8-is-ascii high low h l small = grind (arith, nat_tests)

-- meanings, decoded: an octet is decoded by itself if the set asks for it, or if its first digit is
-- below `8` (56), so its byte is ASCII
pub octet-is-decoded-alone : {text : List ℕ} {i high low : ℕ} → IsOctetAt text i high low
    → (alone : Bool) → (alone ≡ true) ⊎ (high < 56)
    → (alone || ltb (16 * digit_value high + digit_value low) 128) ≡ true
octet-is-decoded-alone {text} {i} {high} {low} at alone either =
    grind (arith, nat_tests, octet-with-digit-below-8-is-ascii)

-- meanings, decoded: after an octet is decoded and appended, what is appended and the rest,
-- decoded, still make the whole
pub decoded-octet-is-pushed : {text : List ℕ} {i high low : ℕ} → IsOctetAt text i high low
    → (lowers : Bool) (set : TableSet) (out new whole : List ℕ) (alone : Bool)
    → (alone ≡ true → LacksPastAscii set) → (alone ≡ true) ⊎ (high < 56) → new ≡ out ++ print
    (lowered_if lowers (decode_octet (Octet (16 * digit_value high + digit_value low)) ∷ []))
    → out ++ decoded_text lowers set (drop i text) ≡ whole
    → new ++ decoded_text lowers set (drop (i + 3) text) ≡ whole
decoded-octet-is-pushed {text} {i} {high} {low} at lowers set out new whole alone none either
    pushed total =
    let value = 16 * digit_value high + digit_value low in
    let decoded = print (lowered_if lowers (decode_octet (Octet value) ∷ [])) in
    let rest = decoded_text lowers set (drop (i + 3) text) in
    let split : decoded_text lowers set (drop i text) ≡ decoded ++ rest =
    first-octet-token-is-decoded-alone _ set _ _ _ _
    at.token none (octet-is-decoded-alone at alone either) in
    ap (λ x. x ++ rest) pushed ∙ append_assoc out _ _ ∙ ap (λ x. out ++ x) (sym split) ∙ total

-- meanings, decoded: a set without the flags ucschar and iprivate has no characters past ASCII;
-- some: whether it has either
pub unset-flags-lack-past-ascii : (set : TableSet) (some : Bool)
    → some ≡ (set.ucschar || set.iprivate) → not some ≡ true → LacksPastAscii set
unset-flags-lack-past-ascii set some e none = or_parts set.ucschar set.iprivate
    (sym e ∙ not-true some none)

pub decoded-empty-text-is-empty : (lowers : Bool) (set : TableSet) → decoded_text lowers set [] ≡ []
unfolding tokens_from_chars chars decode_after_run
decoded-empty-text-is-empty lowers set = grind (arith, common_steps, decode_run-of-nil-is-nil)

-- meanings, decoded: the last prefix that is copied completes what is appended; done, end: where it
-- begins and ends
pub last-prefix-is-pushed :
    (lowers : Bool) (set : TableSet) (text out new whole : List ℕ) (done end : ℕ) → done ≤ end
    → length text ≤ end → KeepsPrefixWhenDecoded lowers set (drop done text) (end - done)
    → new ≡ out ++ lowered_text_if lowers (drop done text)
    → out ++ decoded_text lowers set (drop done text) ≡ whole → new ≡ whole
last-prefix-is-pushed lowers set text out new whole done end order over prefix pushed total =
    grind (arith, common_steps, decoded-empty-text-is-empty, unchanged-prefix-is-pushed)

-- meanings, decoded: if the first byte of a text is not `%` (37), the prefix of one byte has none
lacks_first : (text : List ℕ) → eqb (get_or text 0 0) 37 ≡ false → lacks 37 (take 1 text) ≡ true
lacks_first text e = grind (arith, common_steps)

-- meanings, decoded: an ASCII character that is not `%` (37) is a prefix without octets
ascii_prefix : (text : List ℕ) → IsUtf8 text → IsValidFor widest_set text → 0 < length text
    → get_or text 0 0 < 128 → eqb (get_or text 0 0) 37 ≡ false → LiteralPrefix text 1
ascii_prefix text u v inside small other = grind (
  arith,
  nat_tests,
  IsCharBoundary-after_ascii text 0 u inside small,
  IsUtf8-take,
  lacks_first text other,
  take-append-drop 1 text,
  text-after-literal-prefix-is-valid,
  literal-prefix-decodes-to-itself,
)

-- meanings, decoded byte by byte: after one character the rest is valid, and completes the whole
pub record CharacterStep (lowers : Bool) (set : TableSet) (text new whole : List ℕ) (i : ℕ) :
    Type 0 where
  pub boundary : IsCharBoundary text (i + 1)
  pub valid : IsValidFor widest_set (drop (i + 1) text)
  pub total : new ++ decoded_text lowers set (drop (i + 1) text) ≡ whole

-- meanings, decoded byte by byte: an ASCII character that is not `%` is appended, in lower case if
-- lowers, and the rest is left
pub character_step : (lowers : Bool) (set : TableSet) (bytes text out new whole : List ℕ) (i : ℕ)
    → bytes ≡ text → IsUtf8 text → IsCharBoundary text i → IsValidFor widest_set (drop i text)
    → i < length bytes → get_or bytes i 0 < 128 → eqb (get_or bytes i 0) 37 ≡ false
    → new ≡ out ++ lowered_text_if lowers (get_or bytes i 0 ∷ []) → out
    ++ decoded_text lowers set (drop i text) ≡ whole → CharacterStep lowers set text new whole i
character_step lowers set bytes text out new whole i same u b v inside small other pushed total =
    let rest = drop i text in
    let below : i < length text = subst (λ x. i < length x) same inside in
    let at : get_or bytes i 0 ≡ get_or text i 0 = ap (λ x. get_or x i 0) same in
    let small_text : get_or text i 0 < 128 = subst (λ x. x < 128) at small in
    let split : rest ≡ get_or text i 0 ∷ drop (i + 1) text = drop_more text i 0 below in
    let first : get_or rest 0 0 ≡ get_or bytes i 0 = ap (λ x. get_or x 0 0) split ∙ sym at in
    let p = ascii_prefix rest (IsUtf8-drop text i u b) v (omega (arith, below, length-drop i text))
    (subst (λ x. x < 128) (sym first) small) (ap (λ x. eqb x 37) first ∙ other) in
    let one : 1 ≡ i + 1 - i = omega arith in
    let taken : take (i + 1 - i) rest ≡ get_or bytes i 0 ∷ [] =
    ap (λ k. take k rest) (sym one) ∙ ap (take 1) split ∙ ap (λ x. x ∷ []) (sym at) in
    record {
      boundary = IsCharBoundary-after_ascii text i u below small_text;
      valid = suffix-of-suffix-is-valid text i 1 p.valid;
      total = unchanged-prefix-is-pushed lowers set text out new whole i (i + 1) (omega arith)
          (subst (KeepsPrefixWhenDecoded lowers set rest) one (p.prefix lowers set))
          (pushed ∙ ap (λ x. out ++ lowered_text_if lowers x) (sym taken)) total;
    }

-- meanings, decoded byte by byte: at the end of a text nothing is left to append
pub none_written : (lowers : Bool) (set : TableSet) (text new whole : List ℕ) (end : ℕ)
    → end ≡ length text → new ++ decoded_text lowers set (drop end text) ≡ whole → new ≡ whole
none_written lowers set text new whole end all total =
    grind (arith, nat_tests, drop_all, append-nil, decoded-empty-text-is-empty)
