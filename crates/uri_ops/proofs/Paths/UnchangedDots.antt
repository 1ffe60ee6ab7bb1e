-- Paths whose octets are unchanged, and in which no dot after a `/` begins a dot segment: they have
-- none.
use Rattle.uri_ops.proofs.Common.{common_steps, ◌≡◌, ℕ, zero, suc, ◌+◌, ◌-◌, ◌<◌, ◌≤◌, Bool, true, false, not, ◌&&◌, ◌||◌, List, [], ◌∷◌, ◌++◌, length, get_or, eqb, ltb, leb, ap, arith, refl, sym, ◌∙◌, ⊎_elim, codes, and_from, and_parts, cases_Bool, eqb-true, false≢true, leb-true, ltb-true, not-true, not_from_false, or_cases, or_from, or_left, or_right, nat_tests, get_or-append-add, get_or_append_left, is_one_of, IsAbsolute, is_dot_segment, lacks_dot_segments, segments, HasUnchangedOctets, is_dot_unchanged_at, has_unchanged_octets, is_unchanged_octet, keeps_digits}
use Rattle.uri_ops.proofs.Normal.UnchangedBytes.{unchanged-text-splits}
use Rattle.uri_ops.proofs.Paths.DotStarts.{segment-without-dot-start-is-dotless}
use Rattle.uri_ops.proofs.Paths.Segments.{AllPass, is_dotless}
use Rattle.uri_ops.proofs.Paths.SlashedSegments.{slashed, slashed-of-segments-is-text-after-slash}
use Rattle.uri_ops.proofs.Paths.TakenSegments.{absolute-path-is-slash-and-rest}

-- unchanged dots: what is after a dot begins with another byte than `.`, `/` and `%`
abbrev goes_on : List ℕ → Bool
goes_on [] = false
goes_on (d ∷ rest) = not (is_one_of (codes "./%") d)

-- unchanged dots: such a text is after each dot that is after a `/`; slash: one is before the text
unfoldable dots_go_on : Bool → List ℕ → Bool
dots_go_on slash [] = true
dots_go_on slash (c ∷ rest) = (not (eqb c 46 && slash) || goes_on rest)
    && dots_go_on (eqb c 47) rest

-- unchanged dots: a `/` is before an index of a text, or before the text
abbrev is_after_slash_at : Bool → List ℕ → ℕ → Bool
is_after_slash_at slash text zero = slash
is_after_slash_at slash text (suc k) = eqb (get_or text k 0) 47

-- unchanged dots: if the dot at an index is after a `/`, another byte than `.`, `/` and `%` is next
abbrev DotGoesOn : Bool → List ℕ → ℕ → Type 0
DotGoesOn slash text k = get_or text k 0 ≡ 46 → is_after_slash_at slash text k ≡ true
    → (k + 1 < length text) × (is_one_of (codes "./%") (get_or text (k + 1) 0) ≡ false)

first-dot-goes-on : (slash : Bool) (c : ℕ) (rest : List ℕ) → DotGoesOn slash (c ∷ rest) 0
    → (not (eqb c 46 && slash) || goes_on rest) ≡ true
first-dot-goes-on slash c rest each =
    grind (arith, or_right, eqb-true, or_left, not_from_false, cases_Bool, codes, goes_on)

later-dot-goes-on : (slash : Bool) (c : ℕ) (rest : List ℕ) (k : ℕ)
    → DotGoesOn slash (c ∷ rest) (suc k) → DotGoesOn (eqb c 47) rest k
later-dot-goes-on slash c rest k each dot after = grind arith

dots-go-on-by-index : (slash : Bool) (text : List ℕ)
    → ((k : ℕ) → k < length text → DotGoesOn slash text k) → dots_go_on slash text ≡ true
unfolding dots_go_on
dots-go-on-by-index slash [] each = refl
dots-go-on-by-index slash (c ∷ rest) each = and_from _ _
    (first-dot-goes-on slash c rest (each 0 (omega arith))) (dots-go-on-by-index (eqb c 47) rest
    (λ k h. later-dot-goes-on slash c rest k (each (suc k) (omega (arith, h)))))

octet-of-dot-is-not-unchanged : (alone : Bool) → is_unchanged_octet alone 50 69 ≡ true → ⊥
octet-of-dot-is-not-unchanged alone e =
    false≢true (and_parts (alone || true) false (and_parts true _ e).1).1

-- unchanged dots: a segment that begins with another octet than that of a dot is no dot segment
segment-with-unchanged-octet-is-none : (alone : Bool) (s : List ℕ) → keeps_digits alone s ≡ true
    → is_dot_segment (37 ∷ s) ≡ false
segment-with-unchanged-octet-is-none alone s same =
    grind (arith, octet-of-dot-is-not-unchanged, common_steps)

-- unchanged dots: nor is one that goes on after a dot
segment-that-goes-on-is-none : (d : ℕ) (s : List ℕ) → is_one_of (codes "./%") d ≡ false
    → is_dot_segment (46 ∷ d ∷ s) ≡ false
segment-that-goes-on-is-none d s e = grind (arith, nat_tests)

first-unchanged-segment-is-none : (alone : Bool) (s : List ℕ) (segs : List (List ℕ))
    → HasUnchangedOctets alone s
    → dots_go_on true (s ++ slashed segs) ≡ true → is_dot_segment s ≡ false
unfolding dots_go_on slashed
first-unchanged-segment-is-none alone [] segs same dots = refl
first-unchanged-segment-is-none alone (c ∷ s) segs same dots = ⊎_elim (λ (dot : eqb c 46 ≡ true).
    let first = (and_parts (not (eqb c 46 && true) || goes_on (s ++ slashed segs)) _ dots).0 in
    ap (λ b. is_dot_segment (b ∷ s)) (eqb-true c 46 dot)
    ∙ after-dot s segs (sym (ap (λ b. not (b && true) || goes_on (s ++ slashed segs)) dot)
    ∙ first)) (λ (other : eqb c 46 ≡ false). ⊎_elim (λ (percent : eqb c 37 ≡ true).
    let p = and_parts _ (has_unchanged_octets alone s) same in
    let digits = (and_parts (not (eqb c 0xE2)) _ p.0).1 in
    ap (λ b. is_dot_segment (b ∷ s)) (eqb-true c 37 percent) ∙ segment-with-unchanged-octet-is-none
    alone s (sym (ap (λ b. not b || keeps_digits alone s) percent) ∙ digits))
    (λ e. segment-without-dot-start-is-dotless c s (or_from (eqb c 46) (eqb c 37) other e))
    (cases_Bool (eqb c 37))) (cases_Bool (eqb c 46))
  where
    after-dot : (s : List ℕ) (segs : List (List ℕ)) → goes_on (s ++ slashed segs) ≡ true
        → is_dot_segment (46 ∷ s) ≡ false
    after-dot [] [] e = absurd (false≢true e)
    after-dot [] (t ∷ segs) e = absurd (false≢true e)
    after-dot (d ∷ s) segs e = segment-that-goes-on-is-none d s (not-true _ e)

dots-go-on-in-suffix : (slash : Bool) (s rest : List ℕ) → dots_go_on slash (s ++ rest) ≡ true
    → (b : Bool) × (dots_go_on b rest ≡ true)
unfolding dots_go_on
dots-go-on-in-suffix slash [] rest e = (slash, e)
dots-go-on-in-suffix slash (c ∷ s) rest e = dots-go-on-in-suffix (eqb c 47) s rest
    (and_parts (not (eqb c 46 && slash) || goes_on (s ++ rest)) _ e).1

unchanged-segments-are-dotless : (alone slash : Bool) (segs : List (List ℕ))
    → HasUnchangedOctets alone (slashed segs) → dots_go_on slash (slashed segs) ≡ true
    → AllPass is_dotless segs
unfolding dots_go_on slashed
unchanged-segments-are-dotless alone slash [] same dots = refl
unchanged-segments-are-dotless alone slash (s ∷ segs) same dots =
    let apart = unchanged-text-splits alone s (slashed segs) same in
    let more = dots-go-on-in-suffix true s (slashed segs) dots in
    and_from _ _ (not_from_false _ (first-unchanged-segment-is-none alone s segs apart.0 dots))
    (unchanged-segments-are-dotless alone more.0 segs apart.1 more.1)

path-is-dotless-by-index : (alone : Bool) (path : List ℕ) → HasUnchangedOctets alone path
    → ((k : ℕ) → k < length path → DotGoesOn true path k) → lacks_dot_segments path ≡ true
unfolding dots_go_on
path-is-dotless-by-index alone path same each =
    let whole = slashed-of-segments-is-text-after-slash path in
    unchanged-segments-are-dotless alone false (segments path)
    (ap (has_unchanged_octets alone) whole ∙ same)
    (ap (dots_go_on false) whole ∙ dots-go-on-by-index true path each)

-- unchanged dots: what is known of the dots of a text holds of those of its path
module _ (before path tail : List ℕ) (start : ℕ) (later : 0 < start)
    (early : start ≤ length before)
    (each : (k : ℕ) → start ≤ k → k < length before + length path
    → is_dot_unchanged_at (length before + length path) (before ++ (path ++ tail)) k ≡ true) where
  abbrev text : List ℕ
  text = before ++ (path ++ tail)

  byte-of-path : (k : ℕ) → k < length path → get_or text (length before + k) 0 ≡ get_or path k 0
  byte-of-path k h = get_or-append-add before (path ++ tail) k 0
      ∙ get_or_append_left path tail 0 k h

  dot-of-path-goes-on : IsAbsolute path → (k : ℕ) → k < length path → DotGoesOn true path k
  dot-of-path-goes-on absolute zero h dot after = grind (arith, absolute-path-is-slash-and-rest)
  dot-of-path-goes-on absolute (suc i) h dot after =
      let n : ℕ = length before in
      let limit : ℕ = n + length path in
      let k : ℕ = n + suc i in
      let place : k - 1 ≡ n + i = omega arith in
      let next : k + 1 ≡ n + (suc i + 1) = omega arith in
      let slash : get_or text (k - 1) 0 ≡ get_or path i 0 = ap (λ m. get_or text m 0) place
      ∙ byte-of-path i (omega (arith, h)) in
      let found : (eqb (get_or text k 0) 46 && eqb (get_or text (k - 1) 0) 47) ≡ true = and_from _ _
      (ap (λ b. eqb b 46) (byte-of-path (suc i) h ∙ dot)) (ap (λ b. eqb b 47) slash ∙ after) in
      let other = not (is_one_of (codes "./%") (get_or text (k + 1) 0)) in
      let rest : (leb limit k || (ltb (k + 1) limit && other)) ≡ true =
      sym (ap (λ b. not b || (leb limit k || (ltb (k + 1) limit && other))) found)
      ∙ each k (omega (arith, early)) (omega (arith, h)) in
      ⊎_elim (λ (past : leb limit k ≡ true).
      let over = leb-true limit k past in
      absurd (omega (arith, over, h))) (λ (within : (ltb (k + 1) limit && other) ≡ true).
      let p = and_parts (ltb (k + 1) limit) other within in
      let more : k + 1 < limit = ltb-true (k + 1) limit p.0 in
      let long : suc i + 1 < length path = omega (arith, more) in (
        long,
        ap (is_one_of (codes "./%"))
            (sym (ap (λ m. get_or text m 0) next ∙ byte-of-path (suc i + 1) long)) ∙ not-true _ p.1,
      )) (or_cases (leb limit k) (ltb (k + 1) limit && other) rest)

  -- paths: one in a text, which begins with `/` and whose octets are unchanged, has no dot segment
  -- if no dot segment begins with a dot after a `/` of the text from an index on
  pub path-is-dotless-in-text : (alone : Bool) → IsAbsolute path → HasUnchangedOctets alone path
      → lacks_dot_segments path ≡ true
  path-is-dotless-in-text alone absolute same = path-is-dotless-by-index alone path same
      (dot-of-path-goes-on absolute)
