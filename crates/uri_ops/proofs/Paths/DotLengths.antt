-- The number of bytes that a dot takes identifies it.
use Rattle.uri_ops.proofs.Common.{◌≡◌, ℕ, ◌+◌, ◌-◌, ◌<◌, true, false, List, ◌++◌, length, take, drop, refl, sym, ap, subst, ◌∙◌, arith, append_assoc, Bool, take-add, drop_at, take-append-drop, length-append, length-drop, take_all, false≢true, false_from_ne_true, bytes_eq, list_any, slice_range, IsAbemptyPath, dots, has_slash, is_dot_segment, is_double_dot, is_single_dot, BeginsWithoutDotSegment, dot_len, ends_segment, common_steps}
use Rattle.uri_ops.proofs.Paths.DotBytes.{IsDot, property-of-each-dot, test-of-some-dot}
use Rattle.uri_ops.proofs.Paths.Segments.{equal-bytes-are-equal}
use Rattle.uri_ops.proofs.Paths.TakenSegments.{absolute-path-is-slash-and-rest}

-- dot segments: a dot at the start of a text takes its own length, whatever follows
dot_len-of-leading-dot : (d : List ℕ) → IsDot d → (r : List ℕ) → dot_len (d ++ r) ≡ length d
dot_len-of-leading-dot = property-of-each-dot
    (λ d. (r : List ℕ) → dot_len (d ++ r) ≡ length d) (λ r. refl) (λ r. refl) (λ r. refl)

dot-is-not-empty : (d : List ℕ) → IsDot d → 0 < length d
dot-is-not-empty = property-of-each-dot (λ d. 0 < length d) (omega arith) (omega arith)
    (omega arith)

-- dot segments: the bytes that a dot takes at the start of a text are a dot
prefix-of-dot_len-is-dot : (text : List ℕ) (n : ℕ) → n ≡ dot_len text → 0 < n → IsDot (take n text)
prefix-of-dot_len-is-dot text n is some = grind arith

abempty-path-has-no-dot_len : (r : List ℕ) → IsAbemptyPath r → dot_len r ≡ 0
abempty-path-has-no-dot_len r o = grind (arith, common_steps, absolute-path-is-slash-and-rest)

abempty-path-ends-segment : (r : List ℕ) → IsAbemptyPath r → ends_segment r ≡ true
abempty-path-ends-segment r o = grind (arith, common_steps, absolute-path-is-slash-and-rest)

-- dot segments: where a segment ends, the rest is empty or begins with `/`
pub path-that-ends-segment-is-abempty : (r : List ℕ) → ends_segment r ≡ true → IsAbemptyPath r
path-that-ends-segment-is-abempty r e = grind (arith, common_steps)

-- what is in the bytes of a path from a place on
module _ (path bytes : List ℕ) (n : ℕ) (value : bytes ≡ path) where
  slice-to-end-is-drop : slice_range bytes n (length bytes) ≡ drop n path
  slice-to-end-is-drop = take_all (length bytes
      - n) (drop n bytes) (omega (arith, length-drop n bytes)) ∙ ap (drop n) value

  pub dot_len-of-slice-is-of-drop : (m : ℕ) → m ≡ dot_len (slice_range bytes n (length bytes))
      → m ≡ dot_len (drop n path)
  dot_len-of-slice-is-of-drop m e = e ∙ ap dot_len slice-to-end-is-drop

  pub ends_segment-of-slice-is-of-drop : (b : Bool)
      → b ≡ ends_segment (slice_range bytes n (length bytes)) → ends_segment (drop n path) ≡ b
  ends_segment-of-slice-is-of-drop b e = sym (e ∙ ap ends_segment slice-to-end-is-drop)

-- two dots in a row, by their lengths
module _ (path : List ℕ) (first second : ℕ) (at : first ≡ dot_len path)
    (next : second ≡ dot_len (drop first path)) where
  pub one-dot-length-is-single-dot : second ≡ 0 → 0 < first + second
      → (has_slash (take (first + second) path) ≡ false)
      × (is_single_dot (take (first + second) path) ≡ true)
  one-dot-length-is-single-dot none some = grind arith

  pub two-dot-lengths-are-double-dot : 0 < second → (has_slash (take (first + second) path) ≡ false)
      × (is_double_dot (take (first + second) path) ≡ true)
  two-dot-lengths-are-double-dot some = grind (arith, take-add, prefix-of-dot_len-is-dot)

  -- if a dot segment is first, the lengths find it and what ends it
  IsFoundByDotLengths : List ℕ → Type 0
  IsFoundByDotLengths s = (first + second ≡ length s) × (0 < first + second)

  single-dot-is-found-by-lengths : (s r : List ℕ) → path ≡ s ++ r → IsAbemptyPath r
      → is_single_dot s ≡ true → IsFoundByDotLengths s
  unfolding IsFoundByDotLengths
  single-dot-is-found-by-lengths s r whole rooted single =
      let w = test-of-some-dot (bytes_eq s) single in
      let dot : IsDot s = subst IsDot (sym (equal-bytes-are-equal s w.0 w.1.1)) w.1.0 in
      let one : first ≡ length s = at ∙ ap dot_len whole ∙ dot_len-of-leading-dot s dot r in
      let rest : drop first path ≡ r = ap (drop first) whole ∙ drop_at s r first (sym one) in (
        omega (arith, one, next ∙ ap dot_len rest ∙ abempty-path-has-no-dot_len r rooted),
        omega (arith, one, dot-is-not-empty s dot),
      )

  double-dot-is-found-by-lengths : (s r : List ℕ) → path ≡ s ++ r → is_double_dot s ≡ true
      → (first + second ≡ length s) × (0 < second)
  double-dot-is-found-by-lengths s r whole double =
      let v = test-of-some-dot (λ d. list_any (λ e. bytes_eq s (d ++ e)) dots) double in
      let w = test-of-some-dot (λ e. bytes_eq s (v.0 ++ e)) v.1.1 in
      let same : s ≡ v.0 ++ w.0 = equal-bytes-are-equal s (v.0 ++ w.0) w.1.1 in
      let pieces : path ≡ v.0 ++ (w.0 ++ r) = whole ∙ ap (λ t. t ++ r) same
      ∙ append_assoc v.0 w.0 r in
      let one : first ≡ length v.0 = at ∙ ap dot_len pieces
      ∙ dot_len-of-leading-dot v.0 v.1.0 (w.0 ++ r) in
      let rest : drop first path ≡ w.0 ++ r = ap (drop first) pieces
      ∙ drop_at v.0 (w.0 ++ r) first (sym one) in
      let two : second ≡ length w.0 = next ∙ ap dot_len rest ∙ dot_len-of-leading-dot w.0 w.1.0 r in
      let long : length s ≡ length v.0 + length w.0 = ap length same ∙ length-append v.0 w.0 in
      (omega (arith, one, two, long), omega (arith, two, dot-is-not-empty w.0 w.1.0))

  dot-segment-is-found-by-lengths : (s r : List ℕ) → path ≡ s ++ r → IsAbemptyPath r
      → is_dot_segment s ≡ true → IsFoundByDotLengths s
  unfolding IsFoundByDotLengths
  dot-segment-is-found-by-lengths s r whole rooted dot =
      grind (arith, single-dot-is-found-by-lengths, double-dot-is-found-by-lengths)

  pub no-dot-lengths-no-dot-segment : (0 < first + second
      → ends_segment (drop (first + second) path) ≡ false) → BeginsWithoutDotSegment path
  unfolding IsFoundByDotLengths
  no-dot-lengths-no-dot-segment none end free rooted = false_from_ne_true _ (λ dot.
      let whole = sym (take-append-drop end path) in
      let t = dot-segment-is-found-by-lengths (take end path) (drop end path) whole rooted dot in
      let rest : drop (first + second) path ≡ drop end path = ap (drop (first + second)) whole
      ∙ drop_at (take end path) (drop end path) (first + second) (sym t.0) in
      false≢true (sym (none t.1) ∙ ap ends_segment rest
      ∙ abempty-path-ends-segment (drop end path) rooted))
