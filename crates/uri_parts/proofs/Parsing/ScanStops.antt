-- Where a scan for a set stops: at the first mark, or at a character that is neither.
use Rattle.uri_parts.proofs.Common.{◌≡◌, ℕ, ◌<◌, Bool, true, false, not, List, [], ◌∷◌, length, get_or, drop, refl, sym, ap, ◌∙◌, arith, ◌&&◌, ⊎_elim, inl, inr, ◌⊎◌, IsUtf8, IsUtf8-drop, IsCharBoundary-after_ascii, drop_more, and_right, and_parts, eqb-true, not-true, cases_eq, false≢true, TableSet, LacksPercent, is_one_of, is_valid_for, valid_prefix, after, excludes, excluded_mark_is_no_percent, cut, valid_prefix-ends-by-mark, AreAscii, length_before_marks, first_mark_is_at_boundary, cut_leaves_mark_or_nothing, nothing_is_scanned_after_valid_prefix, before_any, from_any, starts, has_authority}
use Rattle.std.proofs.lemmas.List.Sums.{prefix_len-le-length, prefix_len_passes}
use Rattle.uri_parts.proofs.Parsing.Acceptance.{is_stray, parses_after}

-- parsing: a text in UTF-8 is UTF-8 from its first ASCII delimiter on
pub utf8_from_marks : (marks bs : List ℕ) → AreAscii marks → IsUtf8 bs → IsUtf8 (from_any marks bs)
utf8_from_marks marks bs ascii u = IsUtf8-drop bs _ u (first_mark_is_at_boundary marks ascii bs)

-- parsing: after an ASCII byte, the rest of a text in UTF-8 is UTF-8
pub utf8_after_ascii_byte : (b : ℕ) (rest : List ℕ) → b < 128 → IsUtf8 (b ∷ rest) → IsUtf8 rest
utf8_after_ascii_byte b rest h u = IsUtf8-drop (b ∷ rest) 1 u
    (IsCharBoundary-after_ascii (b ∷ rest) 0 u (omega arith) h)

-- parsing: after an ASCII delimiter at its start, a text in UTF-8 is UTF-8
pub utf8_after_mark : (mark : ℕ) → mark < 128 → (bs : List ℕ) → starts mark bs ≡ true → IsUtf8 bs
    → IsUtf8 (drop 1 bs)
utf8_after_mark mark h [] e u = u
utf8_after_mark mark h (b ∷ rest) e u = utf8_after_ascii_byte b rest
    (let d = eqb-true b mark e in omega arith) u

-- parsing: what is after the `//` before an authority is UTF-8
pub utf8_after_slashes : (rest : List ℕ) → has_authority rest ≡ true → IsUtf8 rest
    → IsUtf8 (drop 2 rest)
utf8_after_slashes [] e u = u
utf8_after_slashes (a ∷ []) e u = absurd (false≢true (sym (and_right _ _ refl) ∙ e))
utf8_after_slashes (a ∷ b ∷ r) e u =
    let p = and_parts _ _ e in
    let c = eqb-true a 47 p.0 in
    let d = eqb-true b 47 p.1 in
    utf8_after_ascii_byte b r (omega arith) (utf8_after_ascii_byte a (b ∷ r) (omega arith) u)

-- parsing: a scan stops before the first delimiter, at a byte that is none
pub record StopsWithin (marks : List ℕ) (set : TableSet) (bs : List ℕ) : Type 0 where
  pub byte : ℕ
  pub rest : List ℕ
  pub other : is_one_of marks byte ≡ false
  pub left : after set bs ≡ byte ∷ rest
  pub stuck : valid_prefix set (byte ∷ rest) ≡ 0
  pub apart : valid_prefix set bs ≡ length_before_marks marks bs → ⊥

module _ (marks : List ℕ) (set : TableSet) (lacks : LacksPercent set)
    (outside : excludes set marks ≡ true) where
  pub scan-stops-at-first-mark-or-within : (bs : List ℕ) → IsUtf8 bs
      → (valid_prefix set bs ≡ length_before_marks marks bs) ⊎ StopsWithin marks set bs
  scan-stops-at-first-mark-or-within bs u =
      let m = length_before_marks marks bs in
      let n = valid_prefix set bs in
      let le = valid_prefix-ends-by-mark marks set lacks outside bs u in
      ⊎_elim (λ e. inl e)
      (λ d.
      let lt : n < length bs =
      omega (arith, le, prefix_len-le-length (λ c. not (is_one_of marks c)) bs) in
      let more = drop_more bs n 0 lt in
      inr (record {
        byte = get_or bs n 0;
        rest = _;
        other = not-true _
            (prefix_len_passes (λ c. not (is_one_of marks c)) bs n 0 (omega (arith, le)));
        left = more;
        stuck = ap (valid_prefix set) (sym more) ∙ nothing_is_scanned_after_valid_prefix set bs;
        apart = d;
      }))
      (cases_eq n m)

  no-stray-percent-at-mark : (bs : List ℕ) → is_stray set (from_any marks bs) ≡ false
  no-stray-percent-at-mark bs = cut_leaves_mark_or_nothing marks (λ r. is_stray set r ≡ false)
      (and_right _ _ refl)
      (λ b rest m. and_right _ _ (excluded_mark_is_no_percent set marks outside b m)) bs

  -- what a test takes after the longest prefix, where it takes nothing but the end and marks
  pub parses_after-is-valid-before-mark : (test : List ℕ → Bool) → ((b : ℕ) (rest : List ℕ)
      → is_one_of marks b ≡ false → valid_prefix set (b ∷ rest) ≡ 0 → test (b ∷ rest) ≡ false)
      → (bs : List ℕ) → IsUtf8 bs → parses_after set test bs
      ≡ (is_valid_for set (before_any marks bs) && test (from_any marks bs))
  parses_after-is-valid-before-mark test stuck bs u =
      grind (arith, no-stray-percent-at-mark, cut, scan-stops-at-first-mark-or-within)
