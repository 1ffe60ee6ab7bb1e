-- Where the last segment of a path begins, by its positions.
use Rattle.std.proofs.lemmas.Grind.{common_steps}
use Rattle.uri_basic.proofs.Common.{◌≡◌, ℕ, zero, suc, ◌+◌, ◌-◌, ◌<◌, ◌≤◌, false, ◌⊎◌, List, [], ◌∷◌, ◌++◌, length, take, drop, get_or, refl, sym, ap, subst, ◌∙◌, arith, append_assoc, eqb, inl, inr, not, ⊎_elim, drop-cons, rules, codes, ◌==◌, slice_range, cases_Bool, cond-true, cond-false, ne_eqb, or_from, eq-eqb, eqb-true, not-false, not_from_true, append-nil, get_or_append_left, length-take-le, take-append-drop, drop_all, drop_at, get_or-take, length-take, take_more, get_or-drop, length-append, length-drop, take-append-le, take_at, IsCharBoundary-after_ascii, IsCharBoundary-from_take, IsCharBoundary, IsUtf8, IsLongestRun, EndsInSlash, before_last_slash, has_slash, up_to_last_slash, before_last_slash-of-slashless-is-empty, before_last_slash-of-slashless-tail, slash-in-suffix-is-in-append, IsDirectoryOrNothing, after_segment, parent, path_left, remove_dot_segments}
use Rattle.std.proofs.Math.Seq.{take-add}
use Rattle.uri_basic.proofs.Segments.{parent-of-directory, parent-of-nothing, path-left-after-last-segment, path-left-of-path}

-- paths: a text has no `/` (47) if none of its bytes is one
no-byte-is-slash : (text : List ℕ) → ((k : ℕ) → k < length text → get_or text k 0 ≡ 47 → ⊥)
    → has_slash text ≡ false
no-byte-is-slash [] h = refl
no-byte-is-slash (c ∷ text) h = or_from (c == 47) (has_slash text)
    (ne_eqb c 47 (λ e. h 0 (omega arith) e))
    (no-byte-is-slash text (λ k l e. h (suc k) (omega arith) e))

suffix-has-no-slash : (text : List ℕ) (i : ℕ)
    → ((k : ℕ) → i ≤ k → k < length text → get_or text k 0 ≡ 47 → ⊥)
    → has_slash (drop i text) ≡ false
suffix-has-no-slash text i h = search (rules, no-byte-is-slash, length-drop, get_or-drop)

up-to-last-slash-of-cut-text : (x y : List ℕ) → has_slash y ≡ false
    → up_to_last_slash (x ++ 47 ∷ y) ≡ x ++ codes "/"
up-to-last-slash-of-cut-text x y e = cond-true _ _ _ (slash-in-suffix-is-in-append x (47 ∷ y) refl)
    ∙ ap (λ t. t ++ codes "/") (before_last_slash-of-slashless-tail x y e)

cut-at-slash : (text : List ℕ) (j : ℕ) → j < length text → get_or text j 0 ≡ 47
    → text ≡ take j text ++ 47 ∷ drop (suc j) text
cut-at-slash text j within e = cc (take-append-drop j text, drop-cons text j 0 within)

-- paths: a text up to a position is the text up to its last `/`, if none is from there on, and one
-- is before it or it is the start
pub prefix-is-up-to-last-slash : (text : List ℕ) (i : ℕ) → i ≤ length text
    → has_slash (drop i text) ≡ false → (i ≡ 0) ⊎ ((0 < i) × (get_or text (i - 1) 0 ≡ 47))
    → take i text ≡ up_to_last_slash text
prefix-is-up-to-last-slash text i within none (inl e) =
    cc (cond-false _ _ _ (ap (λ n. has_slash (drop n text)) (sym e) ∙ none))
prefix-is-up-to-last-slash text i within none (inr at) =
    let j = i - 1 in
    let next : suc j ≡ i = omega (arith, at.0) in
    let cut : text ≡ take j text ++ 47 ∷ drop i text =
    cc (cut-at-slash text j (omega (arith, at.0, within)) at.1) in
    let long : length (take j text ++ codes "/") ≡ i = length-append (take j text) (codes "/")
    ∙ omega (arith, length-take-le j text (omega (arith, at.0, within)), at.0) in
    ap (take i) (cut ∙ sym (append_assoc (take j text) (codes "/") (drop i text)))
    ∙ take_at (take j text ++ codes "/") (drop i text) i long
    ∙ sym (ap up_to_last_slash cut ∙ up-to-last-slash-of-cut-text (take j text) (drop i text) none)

pub last-segment-begins-after-prefix : (d : List ℕ) (i : ℕ) → EndsInSlash d → i < length d
    → ((k : ℕ) → i ≤ k → k + 1 < length d → get_or d k 0 ≡ 47 → ⊥)
    → (i ≡ 0) ⊎ ((0 < i) × (get_or d (i - 1) 0 ≡ 47))
    → take i d ≡ up_to_last_slash (before_last_slash d)
last-segment-begins-after-prefix d i ends within none place =
    let p = ends.0 in
    let long : length d ≡ length p + 1 = ap length ends.1 ∙ length-append p (codes "/") in
    let byte : (k : ℕ) → k < length p → get_or d k 0 ≡ get_or p k 0 =
    λ (k : ℕ) (l : k < length p).
    ap (λ t. get_or t k 0) ends.1 ∙ get_or_append_left p (codes "/") 0 k l in
    let lacks : has_slash (drop i p) ≡ false =
    suffix-has-no-slash p i (λ k l m e. none k l (omega (arith, m, long)) (byte k m ∙ e)) in
    search (rules, take-append-le, prefix-is-up-to-last-slash, before_last_slash-of-slashless-tail)

-- removing dot segments: the parent of a directory, by the text before its last segment
parent-by-prefix : (d : List ℕ) (n : ℕ) → EndsInSlash d → n < length d
    → take n d ≡ up_to_last_slash (before_last_slash d)
    → (n ≡ 0 → parent d ≡ codes "/") × ((n ≡ 0 → ⊥) → parent d ≡ take n d)
parent-by-prefix d n ends within before =
    let p = before_last_slash d in
    let up : parent d ≡ before_last_slash p ++ codes "/" =
    cc (parent-of-directory ends.0, before_last_slash-of-slashless-tail ends.0 [] refl) in
    let long : length (take n d) ≡ n = length-take-le n d (omega (arith, within)) in
    ⊎_elim (search (rules, cond-true, length-append))
    (search (rules, before_last_slash-of-slashless-is-empty, cond-false)) (cases_Bool (has_slash p))

pub nothing-to-pop : (text : List ℕ) (start : ℕ) → start ≡ length text
    → text ≡ take start text ++ parent (drop start text)
nothing-to-pop text start e = search (rules, drop_all, take-append-drop, parent-of-nothing)

pub something-kept-is-directory : (text : List ℕ) (start : ℕ) → start ≤ length text
    → (length text ≡ start → ⊥) → IsDirectoryOrNothing (drop start text)
    → EndsInSlash (drop start text)
something-kept-is-directory text start within some closed = ⊎_elim
    (λ n. absurd (some (omega (arith, within, ap length n, length-drop start text))))
    (λ d. d) closed

-- removing dot segments: of a directory with one segment `/` is left
pub pop-of-only-segment : (text : List ℕ) (start n : ℕ) → EndsInSlash (drop start text)
    → n < length (drop start text)
    → take n (drop start text) ≡ up_to_last_slash (before_last_slash (drop start text)) → n ≡ 0
    → take (start + n) text ++ codes "/" ≡ take start text ++ parent (drop start text)
pop-of-only-segment text start n ends within before e = search (rules, parent-by-prefix)

-- removing dot segments: of a directory with more segments its parent is left
pub pop-of-last-segment : (text : List ℕ) (start n : ℕ) → EndsInSlash (drop start text)
    → n < length (drop start text)
    → take n (drop start text) ≡ up_to_last_slash (before_last_slash (drop start text))
    → (n ≡ 0 → ⊥) → take (start + n) text ≡ take start text ++ parent (drop start text)
pop-of-last-segment text start n ends within before e =
    cc (take-add start n text, (parent-by-prefix (drop start text) n ends within before).1 e)

-- removing dot segments: what is put after the first bytes of a text
pub replaced-suffix : (text new kept : List ℕ) (start : ℕ) → start ≤ length text
    → new ≡ take start text ++ kept
    → (start ≤ length new) × (take start new ≡ take start text) × (drop start new ≡ kept)
replaced-suffix text new kept start within e =
    search (rules, length-take-le, length-append, take_at, drop_at)

-- removing dot segments: a character begins where a directory is cut, before its last segment
pub position-of-last-segment-is-boundary : (text : List ℕ) (start n : ℕ) → IsUtf8 text
    → IsUtf8 (take start text) → start ≤ length text → n < length (drop start text)
    → (0 < n → get_or (drop start text) (n - 1) 0 ≡ 47) → IsCharBoundary text (start + n)
position-of-last-segment-is-boundary text start zero whole prefix within inside slash = subst
    (IsCharBoundary text) (omega arith) (IsCharBoundary-from_take text start whole within prefix)
position-of-last-segment-is-boundary text start (suc n) whole prefix within inside slash =
    let long : suc n < length text - start = omega (arith, inside, length-drop start text) in
    let at : get_or text (start + n) 0 ≡ 47 = sym (get_or-drop start text n 0)
    ∙ ap (λ k. get_or (drop start text) k 0) (omega arith) ∙ slash (omega arith) in
    subst (IsCharBoundary text) (omega arith)
    (IsCharBoundary-after_ascii text (start + n) whole (omega (arith, long)) (omega (arith, at)))

-- paths: a segment that is found by the search for the `/` (47) after it
pub record IsFoundSegment (path : List ℕ) (done end : ℕ) : Type 0 where
  pub byte : get_or path end 0 ≡ 47
  pub lacks : has_slash (slice_range path done end) ≡ false
  pub piece : slice_range path done (end + 1) ≡ slice_range path done end ++ codes "/"
  pub joined : take done path ++ (slice_range path done end ++ codes "/") ≡ take (end + 1) path

-- paths: a run of bytes that are no `/` (47) has none
run-lacks-slash : (path : List ℕ) (done end : ℕ) → IsLongestRun (λ b. not (eqb b 47)) path done end
    → has_slash (take (end - done) (drop done path)) ≡ false
run-lacks-slash path done end run =
    search (rules, no-byte-is-slash, length-take, get_or-drop, get_or-take, not_from_true, eq-eqb)

-- paths: the search for a `/` finds a segment
pub run-is-segment : (path : List ℕ) (done end : ℕ)
    → IsLongestRun (λ b. not (eqb b 47)) path done end → end < length path
    → IsFoundSegment path done end
run-is-segment path done end run within =
    let byte : get_or path end 0 ≡ 47 = eqb-true _ 47 (not-false _ (run.stop within)) in
    let from : done ≤ end = run.from in
    let count : (end + 1) - done ≡ (end - done) + 1 = omega (arith, from) in
    let inside : end - done < length (drop done path) =
    omega (arith, from, within, length-drop done path) in
    let at : get_or (drop done path) (end - done) 0 ≡ 47 = get_or-drop done path (end - done) 0
    ∙ ap (λ k. get_or path k 0) (omega (arith, from)) ∙ byte in
    let piece : slice_range path done (end + 1) ≡ slice_range path done end ++ codes "/" =
    cc (take_more (drop done path) (end - done) 0 inside) in
    record {
      byte = byte;
      lacks = run-lacks-slash path done end run;
      piece = piece;
      joined = ap (λ t. take done path ++ t) (sym piece)
          ∙ sym (take-add done ((end + 1) - done) path)
          ∙ ap (λ n. take n path) (omega (arith, from));
    }

-- paths: what is after the last segment that is found has no `/`
pub rest-after-run-lacks-slash : (path : List ℕ) (done end : ℕ)
    → IsLongestRun (λ b. not (eqb b 47)) path done end → length path ≤ end
    → has_slash (drop done path) ≡ false
rest-after-run-lacks-slash path done end run none =
    search (rules, suffix-has-no-slash, not_from_true, eq-eqb)

pub appended-path-is-without-dots : (old new whole last : List ℕ) (start : ℕ) → start ≡ length old
    → take start new ≡ take start old → IsDirectoryOrNothing (drop start new)
    → has_slash last ≡ false → ((rest : List ℕ)
    → path_left (drop start new) rest ≡ path_left (drop start old) (whole ++ rest))
    → take start new ++ after_segment (drop start new) last last
    ≡ old ++ remove_dot_segments (whole ++ last)
appended-path-is-without-dots old new whole last start at before closed lacks left =
    grind (arith, common_steps, path-left-after-last-segment, path-left-of-path)

-- removing dot segments: all of a text is its prefix, in UTF-8
pub whole-prefix-is-utf8 : (text : List ℕ) (start : ℕ) → start ≡ length text → IsUtf8 text
    → IsUtf8 (take start text)
whole-prefix-is-utf8 text start at whole =
    grind (arith, common_steps, append-nil, drop_all, take-append-drop)

pub slice-to-end : (text bytes : List ℕ) (start : ℕ) → bytes ≡ text
    → take (length bytes - start) (drop start bytes) ≡ drop start text
slice-to-end text bytes start e =
    grind (arith, common_steps, drop_all, length-drop, append-nil, take-append-drop)
