-- Each path that is joined to a base's and leads to a path: where it leads, and how short one is
-- that leads there, where the base's path has no dot segment.
use Rattle.uri_relative.proofs.Common.{◌≡◌, ◌⊎◌, ℕ, suc, ◌+◌, ◌*◌, ◌<◌, ◌≤◌, Bool, true, false, not, cond, eqb, List, [], ◌∷◌, ◌++◌, ◌||◌, length, drop, refl, sym, ap, subst, ◌∙◌, arith, append_assoc, inl, inr, codes, cond-true, false≢true, not_from_false, or_parts, is_one_of, starts, has_colon_in_first_segment, has_slash, is_empty, remove_dot_segments, segments, path-after-slash-appends-its-segments, not-empty-has-length, AllPass, appended-segments-pass-test, dotless_of-append, is_dotless, steps-of-dotless-append-all, NoSlashes, first-segment-and-rest-lack-slashes, is_one_of-slash-is-equality, lacks_slash, remove-dots-by-segments, segments-of-text-lack-slashes, segments-of-text-are-not-none, slashed, slashed-of-append, slashed-of-push, slashed-of-segments-is-text-after-slash, needs_leading_dot, relative_path}
use Rattle.std.specs.List.{list_any, prefix_len}
use Rattle.uri_ops.proofs.Offered.{is_none}
use Rattle.uri_relative.proofs.Climbs.{dir}
use Rattle.uri_relative.proofs.Lengths.{length-of-path-up-to-some, length-of-path-up-to-nothing}
use Rattle.uri_relative.proofs.Shrinking.{segments_left}
use Rattle.uri_relative.proofs.SharedSegments.{BeginWithSameSegment, segments-share-directory-prefix}

-- relativized paths: the first segment (s) of a path has a `:` (58) exactly if the path has one
-- there
colon-is-in-first-segment-alone : (s : List ℕ) (rest : List (List ℕ)) → has_slash s ≡ false
    → has_colon_in_first_segment (s ++ slashed rest) ≡ list_any (λ c. eqb c 58) s
unfolding slashed
colon-is-in-first-segment-alone [] [] e = refl
colon-is-in-first-segment-alone [] (t ∷ rest) e = refl
colon-is-in-first-segment-alone (c ∷ s) rest e =
    let p = or_parts (eqb c 47) (has_slash s) e in
    let more : prefix_len (λ c. not (is_one_of (codes "/") c)) ((c ∷ s) ++ slashed rest)
    ≡ suc (prefix_len (λ c. not (is_one_of (codes "/") c)) (s ++ slashed rest)) =
    cond-true _ _ _ (not_from_false _ (is_one_of-slash-is-equality c ∙ p.0)) ∙ omega arith in
    grind (arith, colon-is-in-first-segment-alone s rest p.1)

same-first-segment-needs-no-leading-dot : (s : List ℕ) (segs tail : List (List ℕ))
    → has_slash s ≡ false → is_empty (s ++ slashed segs) ≡ false
    → starts 47 (s ++ slashed segs) ≡ false → has_colon_in_first_segment (s ++ slashed segs) ≡ false
    → needs_leading_dot (s ++ slashed tail) ≡ false
unfolding slashed
same-first-segment-needs-no-leading-dot [] [] tail free some rootless colon = absurd
    (false≢true (sym some))
same-first-segment-needs-no-leading-dot [] (t ∷ segs) tail free some rootless colon = absurd
    (false≢true (sym rootless))
same-first-segment-needs-no-leading-dot (c ∷ s) segs tail free some rootless colon =
    ap (λ b. b || has_colon_in_first_segment ((c ∷ s) ++ slashed tail)) rootless
    ∙ colon-is-in-first-segment-alone (c ∷ s) tail free
    ∙ sym (colon-is-in-first-segment-alone (c ∷ s) segs free) ∙ colon

-- lengths of relativized paths: one without `../` is no longer than x, if its rest is so; none,
-- misread: whether it is `.`, or needs `./`
path-without-double-dots-is-no-longer : (rest x : List ℕ) (none misread : Bool) → 0 < length x
    → (none ≡ false → length rest ≤ length x)
    → (none ≡ false → misread ≡ true → length rest + 2 ≤ length x)
    → length (cond none (codes ".") (cond misread (codes "./" ++ rest) rest)) ≤ length x
path-without-double-dots-is-no-longer rest x none misread some h room = grind arith

-- lengths of relativized paths: one with k + 1 `../` and a rest is no longer than x, by a count;
-- spare: a byte too many
path-with-double-dots-is-no-longer : (k : ℕ) (rest x : List ℕ) (spare : ℕ) → spare ≤ 1
    → (is_empty rest ≡ false → spare ≡ 0) → 3 * suc k + length rest ≤ length x + spare
    → length (relative_path (suc k) rest) ≤ length x
path-with-double-dots-is-no-longer k rest x spare few exact h =
    grind (arith, length-of-path-up-to-nothing, length-of-path-up-to-some)

-- relativized paths: segments, each after a `/` (47), are `/`, the first, and the others
joined-segments-begin-with-slash : (d : List ℕ) (ds : List (List ℕ)) → slashed (d ∷ ds)
    ≡ 47 ∷ d ++ slashed ds
unfolding slashed
joined-segments-begin-with-slash d ds = refl

-- general fact on lists of segments, for relativized paths: so the text has one byte more than
-- without that `/`
length-of-joined-segments : (d : List ℕ) (ds : List (List ℕ))
    → length (slashed (d ∷ ds)) ≡ 1 + length (d ++ slashed ds)
length-of-joined-segments d ds = ap length (joined-segments-begin-with-slash d ds) ∙ omega arith

equal-segments-have-equal-rest : (ds es : List (List ℕ)) → ds ≡ es → drop 1 (slashed ds)
    ≡ drop 1 (slashed es)
equal-segments-have-equal-rest ds es e = ap (λ t. drop 1 (slashed t)) e

-- relativized paths: a relative path no longer than x leads from a directory (output) to the path
pub record IsReachedByShortPath (output : List (List ℕ)) (x path : List ℕ) : Type 0 where
  pub prefix : List (List ℕ)
  pub up : List (List ℕ)
  pub rest : List ℕ
  pub output_is : output ≡ prefix ++ up
  pub path_is : path ≡ dir prefix ++ rest
  pub short : length (relative_path (length up) rest) ≤ length x

no-byte-is-spare-for-some-rest : (spare : ℕ) (d : List ℕ) (ds up : List (List ℕ))
    → (spare ≡ 0) ⊎ ((d ∷ ds ≡ [] ∷ []) × (0 < length up))
    → is_empty (d ++ slashed ds) ≡ false → spare ≡ 0
unfolding slashed
no-byte-is-spare-for-some-rest spare d ds up h some =
    grind (arith, slashed, equal-segments-have-equal-rest)

-- lengths of relativized paths: there is room for a `./` if the rest below a directory needs one
room-for-leading-dot-or-not-needed : (s d : List ℕ) (segs ds : List (List ℕ)) (enough : Type 0)
    → has_slash s ≡ false → is_empty (s ++ slashed segs) ≡ false
    → starts 47 (s ++ slashed segs) ≡ false → has_colon_in_first_segment (s ++ slashed segs) ≡ false
    → (0 < 0) ⊎ ((d ∷ ds ≡ [] ∷ []) ⊎ (BeginWithSameSegment (s ∷ segs) (d ∷ ds) ⊎ enough))
    → is_empty (d ++ slashed ds) ≡ false → needs_leading_dot (d ++ slashed ds) ≡ true → enough
unfolding slashed BeginWithSameSegment
room-for-leading-dot-or-not-needed s d segs ds enough free some rootless colon (inl h) e f = absurd
    (omega (arith, h))
room-for-leading-dot-or-not-needed s d segs ds enough free some rootless colon (inr (inl h)) e f =
    absurd (false≢true (sym e ∙ ap is_empty (equal-segments-have-equal-rest (d ∷ ds) ([] ∷ []) h)))
room-for-leading-dot-or-not-needed s d segs ds enough free some rootless colon
    (inr (inr (inl h))) e f =
    grind (arith, same-first-segment-needs-no-leading-dot, equal-segments-have-equal-rest)
room-for-leading-dot-or-not-needed s d segs ds enough free some rootless colon
    (inr (inr (inr h))) e f = h

pub segments-left-are-directory-and-rest : (left prefix : List (List ℕ)) (d : List ℕ)
    (ds : List (List ℕ)) → left ≡ prefix ++ d ∷ ds → slashed left ≡ dir prefix ++ (d ++ slashed ds)
segments-left-are-directory-and-rest left prefix d ds e =
    ap slashed e ∙ slashed-of-append prefix (d ∷ ds)
    ∙ ap (λ t. slashed prefix ++ t) (joined-segments-begin-with-slash d ds)
    ∙ sym (append_assoc (slashed prefix) (47 ∷ []) (d ++ slashed ds))
    ∙ ap (λ t. t ++ (d ++ slashed ds)) (sym (slashed-of-push prefix []))

-- relativized paths: one that is no longer leads to what is left of segments, which share a prefix
-- with a directory (output)
parts-are-reached-by-short-path : (output left segs prefix up down : List (List ℕ)) (s : List ℕ)
    (spare : ℕ) → has_slash s ≡ false → is_empty (s ++ slashed segs) ≡ false
    → starts 47 (s ++ slashed segs) ≡ false → has_colon_in_first_segment (s ++ slashed segs) ≡ false
    → output ≡ prefix ++ up → left ≡ prefix ++ down → spare ≤ 1 → 0 < length down
    → (spare ≡ 0) ⊎ ((down ≡ [] ∷ []) × (0 < length up))
    → 3 * length up + length (slashed down) ≤ length (slashed (s ∷ segs)) + spare → (0 < length up)
    ⊎ ((down ≡ [] ∷ []) ⊎ (BeginWithSameSegment (s ∷ segs) down
    ⊎ (3 * length up + length (slashed down) + 2 ≤ length (slashed (s ∷ segs)) + spare)))
    → IsReachedByShortPath output (s ++ slashed segs) (slashed left)
parts-are-reached-by-short-path output left segs prefix up [] s spare free some rootless colon e f
    few down why cost first =
    grind arith
parts-are-reached-by-short-path output left segs prefix [] (d ∷ ds) s spare free some rootless colon
    e f few down why cost first =
    let x = s ++ slashed segs in
    let rest = d ++ slashed ds in
    let n = length-of-joined-segments d ds in
    let m = length-of-joined-segments s segs in
    record {
      prefix = prefix;
      up = [];
      rest = rest;
      output_is = e;
      path_is = segments-left-are-directory-and-rest left prefix d ds f;
      short = path-without-double-dots-is-no-longer rest x (is_empty rest) (needs_leading_dot rest)
          (not-empty-has-length x some)
          (λ h. omega (arith, n, m, cost, no-byte-is-spare-for-some-rest spare d ds [] why h))
          (λ h g. omega (
            arith,
            n,
            m,
            no-byte-is-spare-for-some-rest spare d ds [] why h,
            room-for-leading-dot-or-not-needed s d segs ds _ free some rootless colon first h g,
          ));
    }
parts-are-reached-by-short-path output left segs prefix (u ∷ us) (d ∷ ds) s spare free some rootless
    colon e f few down why cost first =
    let x = s ++ slashed segs in
    let rest = d ++ slashed ds in
    let n = length-of-joined-segments d ds in
    let m = length-of-joined-segments s segs in
    record {
      prefix = prefix;
      up = u ∷ us;
      rest = rest;
      output_is = e;
      path_is = segments-left-are-directory-and-rest left prefix d ds f;
      short = path-with-double-dots-is-no-longer (length us) rest x spare few
          (no-byte-is-spare-for-some-rest spare d ds (u ∷ us) why) (omega (arith, n, m, cost));
    }

-- relativized paths: one that is no longer leads from a directory (output) to what is left of it
-- and the segments
segments-are-reached-by-short-path : (output segs : List (List ℕ)) (s : List ℕ)
    → has_slash s ≡ false → is_empty (s ++ slashed segs) ≡ false
    → starts 47 (s ++ slashed segs) ≡ false → has_colon_in_first_segment (s ++ slashed segs) ≡ false
    → IsReachedByShortPath output (s ++ slashed segs) (slashed (segments_left output (s ∷ segs)))
segments-are-reached-by-short-path output segs s free some rootless colon =
    let w = segments-share-directory-prefix s segs output in
    parts-are-reached-by-short-path output (segments_left output (s ∷ segs)) segs w.prefix w.up
    w.down s w.spare free some rootless colon w.output_is w.left_is w.few w.some w.why w.cost
    w.first

removal-after-directory-leaves-segments : (output segs : List (List ℕ)) (s : List ℕ)
    → AllPass is_dotless output → NoSlashes output → NoSlashes (s ∷ segs)
    → remove_dot_segments (slashed (output ++ s ∷ segs)) ≡ slashed (segments_left output (s ∷ segs))
unfolding segments_left
removal-after-directory-leaves-segments output segs s dotless lack lacks = remove-dots-by-segments
    (output ++ s ∷ segs) (appended-segments-pass-test lacks_slash output (s ∷ segs) lack lacks)
    ∙ ap slashed (grind (arith, dotless_of-append, steps-of-dotless-append-all))

-- relativized paths: one that is no longer leads from a directory (output) to where a path x leads
text-by-segments-is-reached-by-short-path : (output segs : List (List ℕ)) (s x : List ℕ)
    → AllPass is_dotless output → NoSlashes output → segments x ≡ s ∷ segs → is_empty x ≡ false
    → starts 47 x ≡ false → has_colon_in_first_segment x ≡ false
    → IsReachedByShortPath output x (remove_dot_segments (dir output ++ x))
unfolding slashed
text-by-segments-is-reached-by-short-path output segs s x dotless lack e some rootless colon =
    let lacks = subst NoSlashes e (segments-of-text-lack-slashes x) in
    let same : x ≡ s ++ slashed segs =
    ap (λ t. drop 1 t) (sym (slashed-of-segments-is-text-after-slash x) ∙ ap slashed e) in
    grind (
      arith,
      path-after-slash-appends-its-segments,
      removal-after-directory-leaves-segments,
      segments-are-reached-by-short-path,
      first-segment-and-rest-lack-slashes,
    )

pub nonempty-segments-have-first : (segs : List (List ℕ)) → is_none segs ≡ false
    → (s : List ℕ) × (rest : List (List ℕ)) × (segs ≡ s ∷ rest)
unfolding is_none
nonempty-segments-have-first segs e = grind (arith, false≢true, is_none)

-- relativized paths: a relative path no longer than x can replace x after a directory (output)
pub leads : (output : List (List ℕ)) (x : List ℕ) → AllPass is_dotless output → NoSlashes output
    → is_empty x ≡ false → starts 47 x ≡ false → has_colon_in_first_segment x ≡ false
    → IsReachedByShortPath output x (remove_dot_segments (dir output ++ x))
leads output x dotless lack some rootless colon =
    let f = nonempty-segments-have-first (segments x) (segments-of-text-are-not-none x) in
    text-by-segments-is-reached-by-short-path output f.1 f.0 x dotless lack f.2 some rootless colon
