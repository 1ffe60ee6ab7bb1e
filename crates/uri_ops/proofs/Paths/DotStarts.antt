-- A path in which neither `.` nor `%` is after a `/` has no dot segment, but for its first.
use Rattle.uri_ops.proofs.Common.{common_steps, ◌≤◌, ◌-◌, inl, inr, subst, drop, ⊎_elim, ◌≡◌, ℕ, zero, suc, ◌+◌, ◌<◌, append_assoc, rules, Bool, true, false, not, List, [], ◌∷◌, ◌++◌, length, take, get_or, refl, sym, ap, ◌∙◌, ◌&&◌, ◌||◌, arith, ◌==◌, take-suc, drop_at, take-append-drop, take_at, cases_lt, and_from, or_from, or_parts, IsAbemptyPath, IsCharBoundary-after_ascii, IsCharBoundary, IsUtf8, IsCutAtSegment, nat_tests, has_slash, is_dot_segment, segments, IsPrefixToSlashDot, BeginsWithoutDotSegment, IsDotlessPrefix, has_slash_dot_at, begins_with_dot}
use Rattle.uri_ops.proofs.Paths.Segments.{AllPass, is_dotless}
use Rattle.uri_ops.proofs.Paths.SlashedSegments.{NoSlashes, slash-in-suffix-is-in-append, first-segment-and-rest-lack-slashes, segments-of-text-lack-slashes, slashed, slashed-of-segments-is-text-after-slash}

-- dot segments: the byte is `.` or `%`, with which each dot segment begins
abbrev pub is_dot_start : ℕ → Bool
is_dot_start c = c == 46 || c == 37

-- such a byte is after a `/`, where one may be before the text
unfoldable has_dot_start_after_slash : Bool → List ℕ → Bool
has_dot_start_after_slash suffix [] = false
has_dot_start_after_slash suffix (c ∷ rest) = (suffix && is_dot_start c)
    || has_dot_start_after_slash (c == 47) rest

-- dot segments: a segment whose first byte begins no dot is none
pub segment-without-dot-start-is-dotless : (c : ℕ) (s : List ℕ) → is_dot_start c ≡ false
    → is_dot_segment (c ∷ s) ≡ false
segment-without-dot-start-is-dotless c s e = grind (arith, nat_tests)

-- dot segments: none begins after a `/` in the text; suffix: whether a `/` is before the text
record HasNoDotStartAfter (text : List ℕ) : Type 0 where
  -- if no dot segment begins in a text, none begins in a suffix of it
  suffix : Bool
  none : has_dot_start_after_slash suffix text ≡ false

-- dot segments: if no dot begins after a `/` in a text, none does in its suffix; the Bool is
-- whether a `/` is before the text
suffix : (b : Bool) (s rest : List ℕ) → has_dot_start_after_slash b (s ++ rest) ≡ false
    → HasNoDotStartAfter rest
unfolding has_dot_start_after_slash
suffix b [] rest e = record { suffix = b; none = e }
suffix b (c ∷ s) rest e = suffix (c == 47) s rest
    (or_parts (b && is_dot_start c) (has_dot_start_after_slash (c == 47) (s ++ rest)) e).1

first-segment-without-dot-start-is-dotless : (s rest : List ℕ)
    → has_dot_start_after_slash true (s ++ rest) ≡ false → is_dotless s ≡ true
unfolding has_dot_start_after_slash
first-segment-without-dot-start-is-dotless [] rest e = refl
first-segment-without-dot-start-is-dotless (c ∷ s) rest e =
    grind (arith, segment-without-dot-start-is-dotless)

segments-without-dot-start-are-dotless : (b : Bool) (segs : List (List ℕ))
    → has_dot_start_after_slash b (slashed segs) ≡ false → AllPass is_dotless segs
unfolding has_dot_start_after_slash slashed
segments-without-dot-start-are-dotless b [] e = refl
segments-without-dot-start-are-dotless b (s ∷ rest) e =
    let first : has_dot_start_after_slash true (s ++ slashed rest) ≡ false =
    (or_parts (b && is_dot_start 47) (has_dot_start_after_slash true (s ++ slashed rest)) e).1 in
    let more = suffix true s (slashed rest) first in
    and_from _ _ (first-segment-without-dot-start-is-dotless s (slashed rest) first)
    (segments-without-dot-start-are-dotless more.suffix rest more.none)

prefix-after-first-segment-is-abempty : (s : List ℕ) (rest : List (List ℕ)) (prefix back : List ℕ)
    → prefix ≡ s ++ slashed rest → has_slash s ≡ false → IsCutAtSegment prefix back
    → IsAbemptyPath (slashed rest ++ back)
unfolding slashed
prefix-after-first-segment-is-abempty s (t ∷ rest) prefix back e free closed = inr (search rules)
prefix-after-first-segment-is-abempty s [] prefix back e free (inl none) = inl none
prefix-after-first-segment-is-abempty s [] prefix back e free (inr ends) =
    grind (arith, common_steps, slash-in-suffix-is-in-append)

first-segment-of-cut-prefix-is-dotless : (path prefix back s : List ℕ) (rest : List (List ℕ))
    → path ≡ prefix ++ back → prefix ≡ s ++ slashed rest → has_slash s ≡ false
    → IsCutAtSegment prefix back → BeginsWithoutDotSegment path → is_dotless s ≡ true
first-segment-of-cut-prefix-is-dotless path prefix back s rest e f free closed h =
    let whole : path ≡ s ++ (slashed rest ++ back) = e ∙ ap (λ t. t ++ back) f
    ∙ append_assoc s (slashed rest) back in
    let segment : take (length s) path ≡ s = ap (take (length s)) whole
    ∙ take_at s (slashed rest ++ back) (length s) refl in
    let suffix : drop (length s) path ≡ slashed rest ++ back = ap (drop (length s)) whole
    ∙ drop_at s (slashed rest ++ back) (length s) refl in
    ap not (ap is_dot_segment (sym segment)
    ∙ h (length s) (ap has_slash segment ∙ free) (subst IsAbemptyPath
    (sym suffix) (prefix-after-first-segment-is-abempty s rest prefix back f free closed)))

path-without-dot-start-has-dotless-segments : (segs : List (List ℕ)) (text : List ℕ)
    → slashed segs ≡ 47 ∷ text → has_dot_start_after_slash false text ≡ false
    → ((s : List ℕ) (rest : List (List ℕ)) → segs ≡ s ∷ rest → is_dotless s ≡ true)
    → AllPass is_dotless segs
unfolding slashed
path-without-dot-start-has-dotless-segments [] text e none first = refl
path-without-dot-start-has-dotless-segments (s ∷ rest) text e none first =
    let more = suffix false s (slashed rest) (ap (λ t. has_dot_start_after_slash false (drop 1 t)) e
    ∙ none) in
    and_from _ _ (first s rest refl)
    (segments-without-dot-start-are-dotless more.suffix rest more.none)

-- the last character is `/`, or the one before the text if that is empty
unfoldable is_after_slash : Bool → List ℕ → Bool
is_after_slash suffix [] = suffix
is_after_slash suffix (c ∷ rest) = is_after_slash (c == 47) rest

-- dot segments: no dot begins after a `/` in a text with one more byte (c),
-- unless c is `.` or `%` after a `/`
byte-that-is-no-dot-adds-no-dot-start : (b : Bool) (t : List ℕ) (c : ℕ)
    → has_dot_start_after_slash b t ≡ false → (is_after_slash b t && is_dot_start c) ≡ false
    → has_dot_start_after_slash b (t ++ c ∷ []) ≡ false
unfolding has_dot_start_after_slash is_after_slash
byte-that-is-no-dot-adds-no-dot-start b [] c e f = or_from (b && is_dot_start c) false f refl
byte-that-is-no-dot-adds-no-dot-start b (d ∷ t) c e f =
    grind (arith, common_steps, (byte-that-is-no-dot-adds-no-dot-start (d == 47) t c))

-- dot segments: after a text that ends with a byte c, a `/` is before exactly if c is one; the Bool
-- is whether one is before the text
slash-last-is_after_slash : (b : Bool) (t : List ℕ) (c : ℕ) → is_after_slash b (t ++ c ∷ [])
    ≡ (c == 47)
unfolding is_after_slash
slash-last-is_after_slash b [] c = refl
slash-last-is_after_slash b (d ∷ t) c = slash-last-is_after_slash (d == 47) t c

-- general fact on prefixes: one more byte is taken; used to scan a path for dot segments
pub take-one-more-byte : (bytes : List ℕ) (i : ℕ) → i < length bytes
    → take (i + 1) bytes ≡ take i bytes ++ get_or bytes i 0 ∷ []
take-one-more-byte bytes i within = let next : i + 1
    ≡ suc i = omega arith in ap (λ n. take n bytes) next ∙ take-suc bytes i 0 within

bytes-without-slash-dot-add-no-dot-start : (bytes : List ℕ) (i n : ℕ) → i + n < length bytes
    → has_dot_start_after_slash false (take (i + 1) bytes) ≡ false
    → ((k : ℕ) → k < n → has_slash_dot_at bytes (i + k) ≡ false)
    → has_dot_start_after_slash false (take (i + n + 1) bytes) ≡ false
bytes-without-slash-dot-add-no-dot-start bytes i zero within dotless none =
    ap (λ m. has_dot_start_after_slash false (take m bytes)) (omega arith) ∙ dotless
bytes-without-slash-dot-add-no-dot-start bytes i (suc n) within dotless none =
    grind (
      arith,
      take-one-more-byte,
      byte-that-is-no-dot-adds-no-dot-start,
      slash-last-is_after_slash,
      bytes-without-slash-dot-add-no-dot-start bytes i n (omega (arith, within)) dotless
          (λ k h. none k (omega (arith, h))),
    )

first-byte-is-no-dot-start : (bytes : List ℕ) → has_dot_start_after_slash false (take 1 bytes)
    ≡ false
unfolding has_dot_start_after_slash
first-byte-is-no-dot-start bytes = grind (arith, common_steps)

-- paths: if no `/` before `.` or `%` is among the first i bytes, nor in a window of n that begins
-- no later, none is up to its end
pub window-extends-dotless-prefix : (bytes : List ℕ) (i at n : ℕ) → at ≤ i
    → ((k : ℕ) → k < i → has_slash_dot_at bytes k ≡ false)
    → ((k : ℕ) → k < n → has_slash_dot_at bytes (at + k) ≡ false) → (k : ℕ) → k < at + n
    → has_slash_dot_at bytes k ≡ false
window-extends-dotless-prefix bytes i at n from passed window k to =
    ⊎_elim (λ (h : k < at). passed k (omega (arith, h, from))) (λ (h : at ≤ k).
    let place : k ≡ at + (k - at) = omega (arith, h) in
    ap (has_slash_dot_at bytes) place ∙ window (k - at) (omega (arith, h, to))) (cases_lt k at)

-- what is known of the text up to such a place
module _ (bytes : List ℕ) (n : ℕ) (h : IsPrefixToSlashDot bytes n) where
  prefix-to-slash-dot-has-no-dot-start : has_dot_start_after_slash false (take n bytes) ≡ false
  prefix-to-slash-dot-has-no-dot-start =
      let some = h.some in
      let within = h.within in
      let end : 0 + (n - 1) + 1 ≡ n = omega (arith, some) in
      ap (λ m. has_dot_start_after_slash false (take m bytes)) (sym end)
      ∙ bytes-without-slash-dot-add-no-dot-start bytes 0 (n - 1) (omega (arith, some, within))
      (first-byte-is-no-dot-start bytes)
      (λ k to. ap (has_slash_dot_at bytes) (omega arith) ∙ h.none k (omega (arith, to)))

  prefix-to-slash-dot-is-cut-at-segment : IsCutAtSegment (take n bytes) (drop n bytes)
  prefix-to-slash-dot-is-cut-at-segment = grind (arith, common_steps, take-one-more-byte)

  pub prefix-to-slash-dot-is-dotless : BeginsWithoutDotSegment bytes → IsDotlessPrefix bytes n
  unfolding slashed
  prefix-to-slash-dot-is-dotless first =
      let prefix = take n bytes in
      record {
        dotless = path-without-dot-start-has-dotless-segments (segments prefix) prefix
            (slashed-of-segments-is-text-after-slash prefix) prefix-to-slash-dot-has-no-dot-start
            (λ s
            rest e. first-segment-of-cut-prefix-is-dotless bytes prefix (drop n bytes) s rest (sym
            (take-append-drop n bytes)) (ap (drop 1) (sym (slashed-of-segments-is-text-after-slash
            prefix) ∙ ap slashed e)) (first-segment-and-rest-lack-slashes s rest (subst NoSlashes e
            (segments-of-text-lack-slashes prefix))).0 prefix-to-slash-dot-is-cut-at-segment first);
        closed = prefix-to-slash-dot-is-cut-at-segment;
      }

  pub prefix-to-slash-dot-ends-at-boundary : IsUtf8 bytes → IsCharBoundary bytes n
  prefix-to-slash-dot-ends-at-boundary u =
      let some = h.some in
      let within = h.within in
      let end : n - 1 + 1 ≡ n = omega (arith, some) in
      ⊎_elim (λ (more : n < length bytes). subst
      (IsCharBoundary bytes) end (IsCharBoundary-after_ascii bytes
      (n - 1) u (omega (arith, more)) (omega (arith, h.ends more))))
      (λ (all : length bytes ≤ n). (within, λ more. absurd (omega (arith, more, all))))
      (cases_lt n (length bytes))

-- dot segments: a path that begins with neither `.` nor `%` has no dot segment first
pub path-without-leading-dot-begins-with-none : (path : List ℕ) → begins_with_dot path ≡ false
    → BeginsWithoutDotSegment path
path-without-leading-dot-begins-with-none path e zero free rooted = refl
path-without-leading-dot-begins-with-none [] e (suc end) free rooted = refl
path-without-leading-dot-begins-with-none (c ∷ rest) e (suc end) free rooted =
    segment-without-dot-start-is-dotless c (take end rest) e
