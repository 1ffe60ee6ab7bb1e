-- Removing dot segments makes room for the guard `/.` that is then put before a path.
use Rattle.uri_relative.proofs.Common.{◌≡◌, ◌⊎◌, ℕ, ◌+◌, ◌<◌, ◌≤◌, Bool, true, false, eqb, List, [], ◌∷◌, ◌++◌, ◌||◌, length, refl, sym, ap, ◌∙◌, arith, inl, inr, ⊎_elim, length-append, codes, Option, IfNone, is_some, both_ways, cases_Bool, false≢true, or_parts, nat_tests, Components, components, has_authority, marked, recompose, starts, components-are-split-of-text, recompose-components, equal-to-true-is-IsTrue, IsAbsolute, has_slash, is_double_dot, is_single_dot, remove_dot_segments, with_final_path, dotless_if_absolute, guarded, length-of-slashed-append-is-sum, popped-segments-are-no-longer, property-of-absolute-path-by-segments, removing-dots-lengthens-no-path, dotless_of, closing, end_of, pop, step_of, steps, next_output, NoSlashes, first-segment-and-rest-lack-slashes, remove-dots-by-segments, slashed, settled}
use Rattle.uri_relative.proofs.Settled.{finish-keeps-rootless-path}

pub length-of-first-segment-and-rest : (s : List ℕ) (rest : List (List ℕ))
    → length (slashed (s ∷ rest)) ≡ 1 + length s + length (slashed rest)
unfolding slashed
length-of-first-segment-and-rest s rest = omega (arith, length-append s (slashed rest))

pub no-segments-have-length-zero : length (slashed []) ≡ 0
unfolding slashed
no-segments-have-length-zero = refl

-- what is left of some segments
unfoldable pub segments_left : List (List ℕ) → List (List ℕ) → List (List ℕ)
segments_left output segs = steps output segs ++ closing segs

removal-of-dots-is-no-longer : (s : List ℕ) (rest : List (List ℕ)) → NoSlashes (s ∷ rest)
    → length (slashed (segments_left [] (s ∷ rest))) ≤ length (slashed (s ∷ rest))
unfolding segments_left dotless_of slashed
removal-of-dots-is-no-longer s rest lack = omega (
  arith,
  removing-dots-lengthens-no-path (slashed (s ∷ rest)) refl,
  ap length (remove-dots-by-segments (s ∷ rest) lack),
)

cleaned-segments-are-no-longer : (segs : List (List ℕ)) → NoSlashes segs
    → length (slashed (segments_left [] segs)) ≤ length (slashed segs)
unfolding segments_left steps closing
cleaned-segments-are-no-longer [] lack = omega arith
cleaned-segments-are-no-longer (s ∷ rest) lack = removal-of-dots-is-no-longer s rest lack

-- lengths of paths to relativize: the first segment of the output is kept by the others, or two
-- bytes are gone
Keeps : List ℕ → List (List ℕ) → List (List ℕ) → Type 0
Keeps s output segs = ((tail : List (List ℕ)) × (segments_left output segs ≡ s ∷ tail))
    ⊎ (length (slashed (segments_left output segs)) + 2
    ≤ length (slashed output) + length (slashed segs))

-- lengths of paths to relativize: the last segment (t) keeps the first (s), or leaves two bytes
-- less; single, double: whether it is `.`, or `..`
last-segment-keeps-first-or-leaves-room : (single double : Bool) (s t : List ℕ)
    (output : List (List ℕ)) → 0 < length s → ((tail : List (List ℕ))
    × (next_output single double (s ∷ output) t ++ end_of (single || double) ≡ s ∷ tail))
    ⊎ (length (slashed (next_output single double (s ∷ output) t ++ end_of (single || double))) + 2
    ≤ length (slashed (s ∷ output)) + length (slashed (t ∷ [])))
unfolding next_output pop
last-segment-keeps-first-or-leaves-room true double s t output some = inl (output ++ [] ∷ [], refl)
last-segment-keeps-first-or-leaves-room false true s t [] some =
    grind (arith, nat_tests, length-of-first-segment-and-rest, no-segments-have-length-zero)
last-segment-keeps-first-or-leaves-room false true s t (u ∷ output) some = inl
    (pop (u ∷ output) ++ [] ∷ [], refl)
last-segment-keeps-first-or-leaves-room false false s t output some = inl
    ((output ++ t ∷ []) ++ [], refl)

kept-first-or-room-within-greater-length : (s : List ℕ) (output segs : List (List ℕ)) (n : ℕ)
    → Keeps s output segs → length (slashed output) + length (slashed segs) ≤ n
    → ((tail : List (List ℕ)) × (segments_left output segs ≡ s ∷ tail))
    ⊎ (length (slashed (segments_left output segs)) + 2 ≤ n)
unfolding Keeps
kept-first-or-room-within-greater-length s output segs n e h = grind (arith, Keeps)

-- lengths of paths to relativize: one segment (t) after the first (s), which isn't empty, keeps it
-- or leaves two bytes less; single, double: whether it is `.`, or `..`
next-segment-keeps-first-or-leaves-room : (single double : Bool) (s t : List ℕ)
    (output segs : List (List ℕ)) → 0 < length s
    → ((output : List (List ℕ)) → Keeps s (s ∷ output) segs) → NoSlashes segs
    → ((tail : List (List ℕ)) × (segments_left (next_output single double (s ∷ output) t) segs
    ≡ s ∷ tail))
    ⊎ (length (slashed (segments_left (next_output single double (s ∷ output) t) segs)) + 2
    ≤ length (slashed (s ∷ output)) + length (slashed (t ∷ segs)))
unfolding next_output pop
next-segment-keeps-first-or-leaves-room true double s t output segs some ih lack =
    kept-first-or-room-within-greater-length s (s ∷ output) segs _ (ih output)
    (omega (arith, length-of-first-segment-and-rest t segs))
next-segment-keeps-first-or-leaves-room false true s t [] segs some ih lack =
    grind (arith, nat_tests, cleaned-segments-are-no-longer, length-of-first-segment-and-rest)
next-segment-keeps-first-or-leaves-room false true s t (u ∷ output) segs some ih lack =
    kept-first-or-room-within-greater-length s (s ∷ pop (u ∷ output)) segs _
    (ih (pop (u ∷ output))) (omega (
      arith,
      popped-segments-are-no-longer (u ∷ output),
      length-of-first-segment-and-rest s (pop (u ∷ output)),
      length-of-first-segment-and-rest s (u ∷ output),
      length-of-first-segment-and-rest t segs,
    ))
next-segment-keeps-first-or-leaves-room false false s t output segs some ih lack =
    kept-first-or-room-within-greater-length s (s ∷ (output ++ t ∷ [])) segs _
    (ih (output ++ t ∷ [])) (omega (
      arith,
      length-of-slashed-append-is-sum (s ∷ output) (t ∷ []),
      length-of-first-segment-and-rest t [],
      no-segments-have-length-zero,
      length-of-first-segment-and-rest t segs,
    ))

-- lengths of paths to relativize: removing dot segments keeps the first segment, if it isn't empty,
-- or leaves two bytes less
removal-keeps-first-segment-or-leaves-room : (segs : List (List ℕ)) (s : List ℕ)
    (output : List (List ℕ)) → 0 < length s → NoSlashes segs → Keeps s (s ∷ output) segs
unfolding Keeps segments_left steps step_of closing
removal-keeps-first-segment-or-leaves-room [] s output some lack = inl (output ++ [], refl)
removal-keeps-first-segment-or-leaves-room (t ∷ []) s output some lack =
    last-segment-keeps-first-or-leaves-room (is_single_dot t) (is_double_dot t) s t output some
removal-keeps-first-segment-or-leaves-room (t ∷ u ∷ rest) s output some lack =
    next-segment-keeps-first-or-leaves-room (is_single_dot t) (is_double_dot t) s t output
    (u ∷ rest) some
    (λ out. removal-keeps-first-segment-or-leaves-room (u ∷ rest) s out some
    (first-segment-and-rest-lack-slashes t (u ∷ rest) lack).1)
    (first-segment-and-rest-lack-slashes t (u ∷ rest) lack).1

-- paths to relativize: one whose first segment is not empty begins with one `/`
nonempty-first-segment-has-no-double-slash : (c : ℕ) (s : List ℕ) (tail : List (List ℕ))
    → has_slash (c ∷ s) ≡ false → has_authority (slashed ((c ∷ s) ∷ tail)) ≡ false
unfolding slashed
nonempty-first-segment-has-no-double-slash c s tail e = (or_parts (eqb c 47) (has_slash s) e).0

-- what is left of a path that begins with one `/`
unfoldable LeavesRoomForGuard : List ℕ → Type 0
LeavesRoomForGuard path = has_authority path ≡ false → has_authority (remove_dot_segments path)
    ≡ true
    → length (remove_dot_segments path) + 2 ≤ length path

-- lengths of paths to relativize: if `//` is first after dot segments are removed, two bytes are
-- gone; single, double: whether the first segment is `.`, or `..`
double-slash-after-first-segment-leaves-room : (single double : Bool) (c : ℕ) (s : List ℕ)
    (segs : List (List ℕ)) → has_slash (c ∷ s) ≡ false → NoSlashes segs
    → has_authority (slashed (segments_left (next_output single double [] (c ∷ s)) segs)) ≡ true
    → length (slashed (segments_left (next_output single double [] (c ∷ s)) segs)) + 2
    ≤ length (slashed ((c ∷ s) ∷ segs))
unfolding next_output pop
double-slash-after-first-segment-leaves-room true double c s segs free lack e =
    grind (arith, nat_tests, cleaned-segments-are-no-longer, length-of-first-segment-and-rest)
double-slash-after-first-segment-leaves-room false true c s segs free lack e =
    grind (arith, nat_tests, cleaned-segments-are-no-longer, length-of-first-segment-and-rest)
double-slash-after-first-segment-leaves-room false false c s segs free lack e =
    kept_or (kept-first-or-room-within-greater-length (c ∷ s) ((c ∷ s) ∷ []) segs _
    (removal-keeps-first-segment-or-leaves-room segs (c ∷ s) [] (omega arith) lack)
    (omega (
      arith,
      length-of-first-segment-and-rest (c ∷ s) [],
      length-of-first-segment-and-rest
          (c ∷ s) segs,
      no-segments-have-length-zero,
    )))
  where
    kept_or : ((tail : List (List ℕ)) × (segments_left ((c ∷ s) ∷ []) segs ≡ (c ∷ s) ∷ tail))
        ⊎ (length (slashed (segments_left ((c ∷ s) ∷ []) segs)) + 2 ≤ length
        (slashed ((c ∷ s) ∷ segs)))
        → length (slashed (segments_left ((c ∷ s) ∷ []) segs)) + 2 ≤ length
        (slashed ((c ∷ s) ∷ segs))
    kept_or (inl kept) = absurd
        (both_ways _ (nonempty-first-segment-has-no-double-slash c s kept.0 free)
        (ap (λ t. has_authority (slashed t)) (sym kept.1) ∙ e))
    kept_or (inr room) = room

-- targets to relativize: one segment does not begin with `//` without its dots; single, double:
-- whether it is `.`, or `..`
one-segment-has-no-double-slash : (single double : Bool) (c : ℕ) (s : List ℕ)
    → has_slash (c ∷ s) ≡ false
    → has_authority (slashed (next_output single double [] (c ∷ s) ++ end_of (single || double)))
    ≡ false
unfolding next_output pop slashed
one-segment-has-no-double-slash single double c s free =
    grind (arith, next_output, pop, slashed, or_parts)

-- lengths of paths to relativize: if removing dot segments makes `//` first, two bytes are gone, as
-- many as the guard `/.` takes
removing-dots-of-segments-leaves-room : (s : List ℕ) (rest : List (List ℕ)) → NoSlashes (s ∷ rest)
    → has_authority (slashed (s ∷ rest)) ≡ false
    → has_authority (slashed (dotless_of (s ∷ rest))) ≡ true
    → length (slashed (dotless_of (s ∷ rest))) + 2 ≤ length (slashed (s ∷ rest))
unfolding segments_left dotless_of steps step_of closing slashed next_output
removing-dots-of-segments-leaves-room [] [] lack single double = absurd (false≢true double)
removing-dots-of-segments-leaves-room [] (t ∷ rest) lack single double = absurd
    (false≢true (sym single))
removing-dots-of-segments-leaves-room (c ∷ s) [] lack single double =
    grind (arith, one-segment-has-no-double-slash, first-segment-and-rest-lack-slashes)
removing-dots-of-segments-leaves-room (c ∷ s) (t ∷ rest) lack single double =
    double-slash-after-first-segment-leaves-room (is_single_dot (c ∷ s)) (is_double_dot (c ∷ s)) c s
    (t ∷ rest) (first-segment-and-rest-lack-slashes (c ∷ s) (t ∷ rest) lack).0
    (first-segment-and-rest-lack-slashes (c ∷ s) (t ∷ rest) lack).1 double

-- lengths of paths to relativize: if a path needs the guard `/.` once its dot segments are removed,
-- it is no longer with it
removing-dots-leaves-room-for-guard : (path : List ℕ) → IsAbsolute path → LeavesRoomForGuard path
unfolding LeavesRoomForGuard
removing-dots-leaves-room-for-guard = property-of-absolute-path-by-segments LeavesRoomForGuard
    (grind (arith, remove-dots-by-segments, removing-dots-of-segments-leaves-room))

-- lengths of paths to relativize: a guarded path q is no longer than p, if p has two bytes more
-- where q needs the guard
guarded-path-is-no-longer-with-room : (a : Option (List ℕ)) (p q : List ℕ) → length q ≤ length p
    → (has_authority q ≡ true → length q + 2 ≤ length p) → length (guarded a q) ≤ length p
guarded-path-is-no-longer-with-room a p q h room = grind arith

path-after-authority-is-no-longer : (a : Option (List ℕ)) (p q : List ℕ) → is_some a ≡ true
    → length q ≤ length p → length (guarded a q) ≤ length p
path-after-authority-is-no-longer a p q e h = grind (arith, false≢true)

pub no-slashes-without-authority : (a : Option (List ℕ)) (p : List ℕ)
    → IfNone a (has_authority p ≡ false) → is_some a ≡ false → has_authority p ≡ false
no-slashes-without-authority a p h e = grind (arith, false≢true)

-- lengths of targets to relativize: the path with its dot segments removed and a guard added is no
-- longer; a: the authority
pub target-path-is-no-longer : (a : Option (List ℕ)) (p : List ℕ)
    → IfNone a (has_authority p ≡ false) → length (guarded a (dotless_if_absolute p)) ≤ length p
unfolding LeavesRoomForGuard
target-path-is-no-longer a p none = ⊎_elim (grind (
  arith,
  equal-to-true-is-IsTrue,
  path-after-authority-is-no-longer,
  removing-dots-lengthens-no-path,
  guarded-path-is-no-longer-with-room,
  removing-dots-leaves-room-for-guard,
  no-slashes-without-authority,
))
    (λ h. omega (arith, ap length (finish-keeps-rootless-path a p h))) (cases_Bool (starts 47 p))

-- lengths of targets to relativize: a text is as long as its components with their delimiters
pub length-of-recompose : (c : Components) → length (recompose c)
    ≡ length (marked [] c.scheme (codes ":")) + (length (marked (codes "//") c.authority [])
    + (length c.path + length (marked (codes "?") c.query [] ++ marked (codes "#") c.fragment [])))
length-of-recompose c = grind (arith, nat_tests, length-append)

-- lengths of targets to relativize: one with its dot segments removed is no longer
pub target-is-no-longer-with-final-path : (c : Components)
    → IfNone c.authority (has_authority c.path ≡ false)
    → length (recompose (with_final_path c)) ≤ length (recompose c)
target-is-no-longer-with-final-path c none = omega (
  arith,
  target-path-is-no-longer c.authority c.path none,
  length-of-recompose c,
  length-of-recompose (with_final_path c),
)

pub settled-text-is-no-longer : (text : List ℕ) → length (recompose (settled text)) ≤ length text
settled-text-is-no-longer text = omega (
  arith,
  target-is-no-longer-with-final-path (components text)
      (components-are-split-of-text text).no_authority,
  ap length (recompose-components text),
)
