-- The character where a scan stops, and those after it that a set lacks, become octets.
use Rattle.uri_mend.proofs.Common.{common_steps, ◌≡◌, ℕ, suc, ◌+◌, ◌-◌, ◌<◌, ◌≤◌, true, false, not, ltb, List, [], ◌∷◌, ◌++◌, ◌&&◌, ◌||◌, length, take, drop, map, get_or, refl, sym, ap, subst, ◌∙◌, arith, ⊎_elim, append_assoc, length-append, length-drop, encode_utf8, is_ascii_hexdigit, len_utf8, nat_le, IsUtf8, IsCharBoundary, chars, encode_utf8_all, take-append-add, agree_below_at, and_left, and_parts, and_right, cases_lt, cond-false, leb-true, ne_eqb, or_cases, drop-drop, drop_at, drop_more, get_or-drop, length-take-le, map-append, take-append-drop, IsCharBoundary-after_ascii, IsCharBoundary-past_char, IsUtf8-between, IsUtf8-drop, encode_ascii, encodes-chars, len_utf8_ascii, length-encode, has_bit, valid_prefix, TableSet, LacksPercent, is_one_of, Octet, print, print-append, char_has_encoding, test_holds_of_each, before_any, from_any, NEVER_HIGH, NEVER_LOW, mended, IsEncodedBetween, IsLackedRun, are_marks, is_never, lacks_marks}
use Rattle.uri_pct.specs.Models.ByteRuns.{is_char_byte}
use Rattle.uri_pct.specs.Models.Scans.{may_begin_octet_or_past_ascii}
use Rattle.uri_pct.specs.Texts.{has_hex_digits_after}
use Rattle.uri_pct.proofs.Offered.{past_ascii_is_no_hexdigit, valid_prefix_stops_at_ascii_outside_set, valid_prefix_stops_at_stray_percent, valid_prefix_stops_where_none_may_begin}
use Rattle.uri_mend.proofs.ComponentSteps.{component-char-is-encoded}

-- runs: a byte of a run that is found by lanes is past ASCII, or one that no component may have
pub byte-of-run-is-never : (b : ℕ) → is_char_byte (has_bit NEVER_LOW NEVER_HIGH) b ≡ true
    → is_never b ≡ true
byte-of-run-is-never b e = grind arith

-- runs: after the character at a boundary a text may be cut
pub boundary-after-char : (text : List ℕ) (start c len : ℕ) → IsUtf8 text
    → IsCharBoundary text start → drop start text ≡ encode_utf8 c ++ drop (start + len_utf8 c) text
    → len ≡ len_utf8 c → IsCharBoundary text (start + len)
boundary-after-char text start c len u at joined size = subst (λ n. IsCharBoundary text (start + n))
    (sym size) (IsCharBoundary-past_char text (drop (start + len_utf8 c) text) start c at.0
    (IsUtf8-drop text start u at) joined)

-- octets: those of two texts, one after the other
octets-of-joined : (xs ys : List ℕ)
    → print (map Octet xs) ++ print (map Octet ys) ≡ print (map Octet (xs ++ ys))
octets-of-joined xs ys = sym (ap print (map-append Octet xs ys)
    ∙ print-append (map Octet xs) (map Octet ys))

-- runs: no octet and no character begins with a byte past ASCII, if the set allows none of those
nothing-begins-past-ascii : (set : TableSet) (b : ℕ) → 128 ≤ b
    → (set.ucschar || set.iprivate) ≡ false → may_begin_octet_or_past_ascii set b ≡ false
unfolding may_begin_octet_or_past_ascii
nothing-begins-past-ascii set b h e =
    cond-false _ _ _ (ne_eqb b 37 (λ d. omega arith)) ∙ and_right (not (ltb b 128)) _ e

-- runs: no octet begins at a `%` before a byte that is no hexadecimal digit
no-digits-before-other : (text : List ℕ) (i : ℕ) → is_ascii_hexdigit (get_or text (i + 1) 0) ≡ false
    → has_hex_digits_after text i ≡ false
unfolding has_hex_digits_after
no-digits-before-other text i e = and_left _ _ e

-- runs: a byte that no component may have is no hexadecimal digit
never-is-no-hexdigit : (b : ℕ) → is_never b ≡ true → is_ascii_hexdigit b ≡ false
unfolding has_bit
never-is-no-hexdigit b e = ⊎_elim
    (λ (h : b < 128).
    let bit : has_bit NEVER_LOW NEVER_HIGH b ≡ true = ⊎_elim
    (λ l. absurd (let d = leb-true 128 b l in omega arith))
    (λ l. l) (or_cases (nat_le 128 b) (has_bit NEVER_LOW NEVER_HIGH b) e) in
    sym (ap (λ t. t && is_ascii_hexdigit b) bit)
    ∙ agree_below_at (λ c. has_bit NEVER_LOW NEVER_HIGH c && is_ascii_hexdigit c) (λ c. false) 128 b
    refl h)
    (λ (h : 128 ≤ b). past_ascii_is_no_hexdigit b h) (cases_lt b 128)

-- runs: what a scan of a set stops at
module _ (set : TableSet) (lacks : LacksPercent set)
    (only : (b : ℕ) → 128 ≤ b → set.ascii b ≡ false)
    (never : (b : ℕ) → has_bit NEVER_LOW NEVER_HIGH b ≡ true → set.ascii b ≡ false)
    (text : List ℕ) (start end : ℕ) (within : end ≤ length text)
    (each : (k : ℕ) → start ≤ k → k < end → is_never (get_or text k 0) ≡ true)
    (past : (k : ℕ) → start ≤ k → k < end → 128 ≤ get_or text k 0
    → (set.ucschar || set.iprivate) ≡ false) where
  -- a scan stops at each byte of a run of such bytes, but for a `%` at its end
  scan-stops-at-each-of-run : (k : ℕ) → start ≤ k → k < end
      → (get_or text k 0 ≡ 37 → k + 1 < end) → valid_prefix set (drop k text) ≡ 0
  scan-stops-at-each-of-run k from l inner =
      grind (
        arith,
        common_steps,
        valid_prefix_stops_at_stray_percent,
        no-digits-before-other,
        never-is-no-hexdigit,
        valid_prefix_stops_at_ascii_outside_set,
        valid_prefix_stops_where_none_may_begin,
        nothing-begins-past-ascii,
      )

  -- the set lacks the run, if no `%` is at its end
  pub run-is-lacked : start ≤ end → IsCharBoundary text end → (get_or text (end - 1) 0 ≡ 37 → ⊥)
      → IsLackedRun set text start end
  run-is-lacked le at other = grind (arith, scan-stops-at-each-of-run)

  -- the set lacks the run without the `%` at its end
  pub run-before-percent-is-lacked : start < end → get_or text (end - 1) 0 ≡ 37
      → IsLackedRun set text start (end - 1)
  run-before-percent-is-lacked some percent = grind (arith, scan-stops-at-each-of-run)

pub empty-run-is-lacked : (set : TableSet) (text : List ℕ) (start : ℕ) → IsCharBoundary text start
    → IsLackedRun set text start start
empty-run-is-lacked set text start at = grind arith

pub ascii-run-ends-at-boundary : (text : List ℕ) (start end : ℕ) → IsUtf8 text
    → IsCharBoundary text start → start ≤ end → end ≤ length text
    → (start < end → get_or text (end - 1) 0 < 128) → IsCharBoundary text end
ascii-run-ends-at-boundary text start end u at le within last =
    grind (arith, common_steps, IsCharBoundary-after_ascii)

module _ (marks : List ℕ) (set : TableSet) (lacks : LacksPercent set)
    (octets : set.pct_encoded ≡ true) (are : are_marks set marks ≡ true) where
  -- a byte that no component may have is no mark
  never-is-no-mark : (b : ℕ) → is_never b ≡ true → is_one_of marks b ≡ false
  never-is-no-mark b e = grind (arith, test_holds_of_each)

  module _ (text : List ℕ) (u : IsUtf8 text) (end : ℕ) where
    -- characters at which a scan stops are mended to their octets
    stopped-chars-are-encoded : (cs : List ℕ) (start : ℕ)
        → start + length (encode_utf8_all cs) ≡ end
        → drop start text ≡ encode_utf8_all cs ++ drop end text → IsCharBoundary text start
        → ((k : ℕ) → start ≤ k → k < end → is_never (get_or text k 0) ≡ true)
        → ((k : ℕ) → start ≤ k → k < end → valid_prefix set (drop k text) ≡ 0)
        → (mended set (before_any marks (drop start text))
        ≡ print (map Octet (encode_utf8_all cs)) ++ mended set (before_any marks (drop end text)))
        × (from_any marks (drop start text) ≡ from_any marks (drop end text))
    stopped-chars-are-encoded [] start size split at never stops = grind arith
    stopped-chars-are-encoded (c ∷ cs) start size split at never stops =
        let rest : List ℕ = encode_utf8_all cs in
        let len = len_utf8 c in
        let w = char_has_encoding c in
        let long : length (encode_utf8 c) ≡ len = length-encode c in
        let some : length (encode_utf8 c) ≡ suc (length w.more) = ap length w.joined in
        let both : length (encode_utf8 c ++ rest) ≡ length (encode_utf8 c) + length rest =
        length-append (encode_utf8 c) rest in
        let inside : start < end = omega (arith, size, both, some) in
        let whole : drop start text ≡ encode_utf8 c ++ (rest ++ drop end text) =
        split ∙ append_assoc (encode_utf8 c) rest (drop end text) in
        let later : drop (start + len) text ≡ rest ++ drop end text = sym (drop-drop len start text)
        ∙ ap (drop len) whole ∙ drop_at (encode_utf8 c) (rest ++ drop end text) len long in
        let v = IsUtf8-drop text start u at in
        let begins : get_or (drop start text) 0 0 ≡ get_or text start 0 =
        get_or-drop start text 0 0 ∙ ap (λ k. get_or text k 0) (omega arith) in
        let step = component-char-is-encoded marks set lacks octets
        (and_parts (lacks_marks set marks) _ are).0 c (drop start text) (drop (start + len) text) v
        (whole ∙ ap (λ t. encode_utf8 c ++ t) (sym later)) (stops start (omega arith) inside)
        (ap (is_one_of marks) begins
        ∙ never-is-no-mark (get_or text start 0) (never start (omega arith) inside)) in
        let next = stopped-chars-are-encoded cs (start + len) (omega (arith, size, both, long))
        later (IsCharBoundary-past_char text (rest ++ drop end text) start c at.0 v whole)
        (λ k a b. never k (omega (arith, a)) b) (λ k a b. stops k (omega (arith, a)) b) in (
          step.0 ∙ ap (λ t. print (map Octet (encode_utf8 c)) ++ t) next.0
              ∙ sym (append_assoc (print (map Octet (encode_utf8 c))) (print (map Octet rest))
              (mended set (before_any marks (drop end text))))
              ∙ ap (λ t. t ++ mended set (before_any marks (drop end text)))
              (octets-of-joined (encode_utf8 c) rest),
          step.1 ∙ next.1,
        )

module _ (set : TableSet) (lacks : LacksPercent set) (octets : set.pct_encoded ≡ true)
    (text : List ℕ) (u : IsUtf8 text) where
  -- a run at which a scan stops is mended to its octets
  lacked-run-is-encoded : (marks : List ℕ) → are_marks set marks ≡ true → (next end : ℕ)
      → IsCharBoundary text next → IsLackedRun set text next end
      → (mended set (before_any marks (drop next text))
      ≡ print (map Octet (take (end - next) (drop next text)))
      ++ mended set (before_any marks (drop end text)))
      × (from_any marks (drop next text) ≡ from_any marks (drop end text))
  lacked-run-is-encoded marks are next end at run =
      let part : List ℕ = take (end - next) (drop next text) in
      let v = IsUtf8-between text next end u run.from at run.boundary in
      let back : encode_utf8_all (chars part) ≡ part = encodes-chars part v in
      let suffix : drop (end - next) (drop next text) ≡ drop end text =
      drop-drop (end - next) next text ∙ ap (λ k. drop k text) (omega (arith, run.from)) in
      let split : drop next text ≡ encode_utf8_all (chars part) ++ drop end text =
      sym (take-append-drop (end - next) (drop next text)) ∙ ap (λ t. part ++ t) suffix
      ∙ ap (λ t. t ++ drop end text) (sym back) in
      let long : length part ≡ end - next = length-take-le (end - next) (drop next text)
      (omega (arith, length-drop next text, run.boundary.0)) in
      let step = stopped-chars-are-encoded marks set lacks octets are text u end (chars part) next
      (omega (arith, ap length back, long, run.from)) split at run.never run.stops in (
        step.0
            ∙ ap (λ t. print (map Octet t) ++ mended set (before_any marks (drop end text))) back,
        step.1,
      )

  -- the character where a scan stops, and such a run after it, are mended to their octets
  pub run-after-scan-is-encoded : (c start next end : ℕ) → IsCharBoundary text start
      → IsCharBoundary text next → drop start text ≡ encode_utf8 c ++ drop (start + len_utf8 c) text
      → next ≡ start + len_utf8 c → valid_prefix set (drop start text) ≡ 0
      → IsLackedRun set text next end → IsEncodedBetween set text start end
  run-after-scan-is-encoded c start next end at from joined place stop passed marks are other =
      let rest = drop start text in
      let run : List ℕ = take (end - next) (drop next text) in
      let X : List ℕ = mended set (before_any marks (drop end text)) in
      let first : rest ≡ encode_utf8 c ++ drop next text =
      joined ∙ ap (λ k. encode_utf8 c ++ drop k text) (sym place) in
      let begins : get_or rest 0 0 ≡ get_or text start 0 =
      get_or-drop start text 0 0 ∙ ap (λ k. get_or text k 0) (omega arith) in
      let step = component-char-is-encoded marks set lacks octets
      (and_parts (lacks_marks set marks) _ are).0 c rest (drop next text)
      (IsUtf8-drop text start u at) first stop (ap (is_one_of marks) begins ∙ other) in
      let more = lacked-run-is-encoded marks are next end from passed in
      let size : end - start ≡ length (encode_utf8 c) + (end - next) =
      omega (arith, length-encode c, place, passed.from) in
      let taken : encode_utf8 c ++ run ≡ take (end - start) rest =
      sym (ap (λ k. take k rest) size
      ∙ ap (take (length (encode_utf8 c) + (end - next))) first
      ∙ take-append-add (encode_utf8 c) (drop next text) (end - next)) in (
        step.0 ∙ ap (λ t. print (map Octet (encode_utf8 c)) ++ t) more.0
            ∙ sym (append_assoc (print (map Octet (encode_utf8 c))) (print (map Octet run)) X)
            ∙ ap (λ t. t ++ X) (octets-of-joined (encode_utf8 c) run)
            ∙ ap (λ t. print (map Octet t) ++ X) taken,
        step.1 ∙ more.1,
      )

  -- an ASCII character where a scan stops is mended to its octet
  pub ascii-after-scan-is-encoded : (start : ℕ) → IsCharBoundary text start → start < length text
      → get_or text start 0 < 128 → valid_prefix set (drop start text) ≡ 0
      → IsEncodedBetween set text start (start + 1)
  ascii-after-scan-is-encoded start at inside small stop =
      let b = get_or text start 0 in
      let one : len_utf8 b ≡ 1 = len_utf8_ascii b small in
      let joined : drop start text ≡ encode_utf8 b ++ drop (start + len_utf8 b) text =
      drop_more text start 0 inside
      ∙ ap (λ t. t ++ drop (start + 1) text) (sym (encode_ascii b small))
      ∙ ap (λ n. encode_utf8 b ++ drop (start + n) text) (sym one) in
      let next = IsCharBoundary-after_ascii text start u inside small in
      run-after-scan-is-encoded b start (start + 1) (start + 1) at next joined
      (ap (λ n. start + n) (sym one)) stop (empty-run-is-lacked set text (start + 1) next)
