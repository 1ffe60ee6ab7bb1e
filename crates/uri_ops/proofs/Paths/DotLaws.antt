-- The laws of dot segments, on texts.
use Rattle.uri_ops.proofs.Common.{◌≡◌, ℕ, ◌+◌, ◌<◌, ◌≤◌, Bool, true, false, List, [], ◌∷◌, ◌++◌, length, refl, sym, ap, subst, ◌∙◌, arith, ◌||◌, ⊎_elim, append_assoc, codes, list_all, append-nil, length-append, and_parts, eqb-true, false≢true, IsAbemptyPath, is_single_dot, is_double_dot, is_dot_segment, segments, lacks_dot_segments, run, remove_dot_segments, underflows, directory, IsAbsolute, EndsInSlash, eq_true_from_IsTrue, common_steps}
use Rattle.uri_ops.proofs.Paths.Segments.{pop, is_none, next_output, step_of, steps, end_of, closing, dotless_of, parent, AllPass, is_dotless, pushed-segments-are-not-none, appended-segments-pass-test, segments-after-steps-pass-test, dotless_of-pass-test, dotless_of-of-dotless, dotless_of-is-dotless, dotless_of-with-empty-last, dotless_of-prefix-first, dotless_of-of-directory, dotless_of-is-not-empty}
use Rattle.uri_ops.proofs.Paths.Underflows.{underflows_over, dotless-segments-do-not-underflow, segments-underflow-as-prefix-or-remainder, trailing-slash-changes-no-underflow, parent-underflows-as-segments}
use Rattle.uri_ops.proofs.Paths.SlashedSegments.{slashed, lacks_slash, NoSlashes, slashed-of-append, slashed-of-push, remove-dots-by-segments, underflows-by-segments, directory-by-segments, parent-segments-pass-test, slashed-of-segments-is-text-after-slash, segments-of-text-lack-slashes, segments-of-text-are-not-none, segments-of-slashed-segments}

-- paths: what holds of `/` before each of some segments holds of any list of one segment or more
property-of-slashed-segments-not-none : (P : List ℕ → Type 0)
    → ((s : List ℕ) (rest : List (List ℕ)) → NoSlashes (s ∷ rest) → P (slashed (s ∷ rest)))
    → (segs : List (List ℕ)) → is_none segs ≡ false → NoSlashes segs → P (slashed segs)
unfolding is_none
property-of-slashed-segments-not-none P each [] e f = absurd (false≢true (sym e))
property-of-slashed-segments-not-none P each (s ∷ rest) e f = each s rest f

-- dot segments: what holds of `/` before each of a list of segments holds of any absolute path
pub property-of-absolute-path-by-segments : (P : List ℕ → Type 0)
    → ((s : List ℕ) (rest : List (List ℕ)) → NoSlashes (s ∷ rest) → P (slashed (s ∷ rest)))
    → (path : List ℕ) → IsAbsolute path → P path
property-of-absolute-path-by-segments P each [] h = absurd (false≢true (eq_true_from_IsTrue _ h))
property-of-absolute-path-by-segments P each (c ∷ rest) h =
    subst P (slashed-of-segments-is-text-after-slash rest
    ∙ ap (λ d. d ∷ rest) (sym (eqb-true c 47 (eq_true_from_IsTrue _ h))))
    (property-of-slashed-segments-not-none P each (segments rest)
    (segments-of-text-are-not-none rest) (segments-of-text-lack-slashes rest))

-- paths: what holds of each path of segments that ends in `/` holds of each absolute one that does
property-of-prefix-with-slash-by-segments : (P : List ℕ → Type 0)
    → ((segs : List (List ℕ)) → NoSlashes segs → P (slashed (segs ++ [] ∷ []))) → (prefix : List ℕ)
    → IsAbsolute (prefix ++ codes "/") → P (prefix ++ codes "/")
unfolding slashed
property-of-prefix-with-slash-by-segments P each [] h = each [] refl
property-of-prefix-with-slash-by-segments P each (c ∷ prefix) h =
    subst P (slashed-of-push (segments prefix) []
    ∙ ap (λ t. t ++ 47 ∷ []) (slashed-of-segments-is-text-after-slash prefix
    ∙ ap (λ d. d ∷ prefix) (sym (eqb-true c 47 (eq_true_from_IsTrue _ h)))))
    (each (segments prefix) (segments-of-text-lack-slashes prefix))

-- paths: what holds of segments and a last `/` holds of any absolute path that ends in `/`
pub property-of-path-to-slash-by-segments : (P : List ℕ → Type 0)
    → ((segs : List (List ℕ)) → NoSlashes segs → P (slashed (segs ++ [] ∷ []))) → (path : List ℕ)
    → IsAbsolute path → EndsInSlash path → P path
property-of-path-to-slash-by-segments P each path h e = subst P (sym e.1)
    (property-of-prefix-with-slash-by-segments P each e.0 (subst IsAbsolute e.1 h))

-- dot segments: what follows a path that ends in `/` begins a new segment
pub path-after-slash-appends-its-segments : (segs : List (List ℕ)) (q : List ℕ)
    → slashed (segs ++ [] ∷ []) ++ q ≡ slashed (segs ++ segments q)
path-after-slash-appends-its-segments segs q = ap (λ t. t ++ q) (slashed-of-push segs [])
    ∙ append_assoc (slashed segs) (47 ∷ []) q ∙ ap (λ t. slashed segs ++ t)
    (sym (slashed-of-segments-is-text-after-slash q)) ∙ sym (slashed-of-append segs (segments q))

-- dot segments: no segment has a slash, also after the segments of q are appended
pub appended-segments-lack-slashes : (segs : List (List ℕ)) (q : List ℕ) → NoSlashes segs
    → NoSlashes (segs ++ segments q)
appended-segments-lack-slashes segs q e = appended-segments-pass-test lacks_slash segs
    (segments q) e (segments-of-text-lack-slashes q)

pub segments-with-empty-last-lack-slashes : (segs : List (List ℕ)) → NoSlashes segs
    → NoSlashes (segs ++ [] ∷ [])
segments-with-empty-last-lack-slashes segs e = appended-segments-pass-test lacks_slash segs
    ([] ∷ []) e refl

-- removing dot segments: the segments that are left have no `/`
segments-after-steps-lack-slashes : (segs : List (List ℕ)) → NoSlashes segs
    → NoSlashes (steps [] segs)
segments-after-steps-lack-slashes segs e = segments-after-steps-pass-test lacks_slash lacks_slash
    (λ s f d. f) [] segs refl e

-- removing dot segments: all that is left, also an empty last segment, has no `/`
dotless_of-segments-lack-slashes : (segs : List (List ℕ)) → NoSlashes segs
    → NoSlashes (dotless_of segs)
dotless_of-segments-lack-slashes segs e = dotless_of-pass-test lacks_slash lacks_slash
    (λ s f d. f) refl segs e

-- dot segments: a path without dot segments has none among its segments
pub segments-of-dotless-path-are-dotless : (segs : List (List ℕ)) → NoSlashes segs
    → lacks_dot_segments (slashed segs) ≡ true → AllPass is_dotless segs
segments-of-dotless-path-are-dotless segs e f = (and_parts true (list_all is_dotless segs)
    (sym (ap (list_all is_dotless) (segments-of-slashed-segments segs e)) ∙ f)).1

-- removing dot segments: a path that has none is unchanged (RFC 3986, section 5.2.4)
pub remove-dots-of-dotless : (path : List ℕ) → IsAbsolute path → lacks_dot_segments path ≡ true
    → remove_dot_segments path ≡ path
remove-dots-of-dotless = property-of-absolute-path-by-segments
    (λ path. lacks_dot_segments path ≡ true → remove_dot_segments path ≡ path)
    (λ s rest e f. remove-dots-by-segments (s ∷ rest) e ∙ ap slashed
    (dotless_of-of-dotless (s ∷ rest) (segments-of-dotless-path-are-dotless (s ∷ rest) e f)))

-- dot segments: a path that has none does not underflow
pub dotless-path-does-not-underflow : (path : List ℕ)
    → IsAbsolute path → lacks_dot_segments path ≡ true → underflows path ≡ false
dotless-path-does-not-underflow = property-of-absolute-path-by-segments
    (λ path. lacks_dot_segments path ≡ true → underflows path ≡ false)
    (λ s rest e f. underflows-by-segments (s ∷ rest) e ∙ dotless-segments-do-not-underflow false []
    (s ∷ rest) (segments-of-dotless-path-are-dotless (s ∷ rest) e f))

pub slashed-segments-are-absolute : (segs : List (List ℕ)) → is_none segs ≡ false
    → IsAbsolute (slashed segs)
unfolding is_none slashed
slashed-segments-are-absolute segs e = grind (arith, common_steps)

-- removing dot segments: none is left in an absolute path
pub removing-dots-leaves-no-dot-segment : (path : List ℕ) → IsAbsolute path
    → lacks_dot_segments (remove_dot_segments path) ≡ true
removing-dots-leaves-no-dot-segment = property-of-absolute-path-by-segments
    (λ path. lacks_dot_segments (remove_dot_segments path) ≡ true)
    (λ s rest e. ap lacks_dot_segments (remove-dots-by-segments (s ∷ rest) e)
    ∙ ap (list_all is_dotless) (segments-of-slashed-segments (dotless_of (s ∷ rest))
    (dotless_of-segments-lack-slashes (s ∷ rest) e)) ∙ dotless_of-is-dotless (s ∷ rest))

-- general fact on lists of segments, for dot segments: one with a first is not empty
cons-is-not-none : (s : List ℕ) (rest : List (List ℕ)) → is_none (s ∷ rest) ≡ false
unfolding is_none
cons-is-not-none s rest = refl

-- removing dot segments: an absolute path stays absolute
pub removing-dots-keeps-absolute : (path : List ℕ) → IsAbsolute path
    → IsAbsolute (remove_dot_segments path)
removing-dots-keeps-absolute = property-of-absolute-path-by-segments
    (λ path. IsAbsolute (remove_dot_segments path)) (λ s rest e. subst IsAbsolute
    (sym (remove-dots-by-segments (s ∷ rest) e)) (slashed-segments-are-absolute
    (dotless_of (s ∷ rest)) (dotless_of-is-not-empty (s ∷ rest) (cons-is-not-none s rest))))

-- removing dot segments: twice is the same as once
pub removing_dots_is_idempotent : (path : List ℕ) → IsAbsolute path
    → remove_dot_segments (remove_dot_segments path) ≡ remove_dot_segments path
removing_dots_is_idempotent path h = remove-dots-of-dotless (remove_dot_segments path)
    (removing-dots-keeps-absolute path h) (removing-dots-leaves-no-dot-segment path h)

-- paths: the directory of a path is all its segments but the last, and an empty one
directory-of-slashed-segments-is-parent : (segs : List (List ℕ)) → is_none segs ≡ false
    → NoSlashes segs → directory (slashed segs) ≡ slashed (parent segs ++ [] ∷ [])
unfolding is_none
directory-of-slashed-segments-is-parent [] e f = absurd (false≢true (sym e))
directory-of-slashed-segments-is-parent (s ∷ rest) e f = directory-by-segments s rest f

-- paths: what holds of the empty path and of each absolute path holds of each path that is either
pub rooted : (P : List ℕ → Type 0) → P [] → ((path : List ℕ) → IsAbsolute path → P path)
    → (path : List ℕ) → IsAbemptyPath path → P path
rooted P none each path h = ⊎_elim (λ e. subst P (sym e) none) (each path) h

-- paths: the directory of a path that is empty or begins with `/` is absolute
pub directory-is-absolute : (path : List ℕ) → IsAbemptyPath path → IsAbsolute (directory path)
unfolding directory
directory-is-absolute =
    grind (
      arith,
      rooted,
      directory,
      property-of-absolute-path-by-segments,
      directory-by-segments,
      slashed-segments-are-absolute,
      pushed-segments-are-not-none,
    )

pub directory-ends-in-slash : (path : List ℕ) → IsAbemptyPath path → EndsInSlash (directory path)
unfolding directory
directory-ends-in-slash = rooted (λ path. EndsInSlash (directory path)) ([], refl)
    (property-of-absolute-path-by-segments (λ path. EndsInSlash (directory path)) (λ s rest e. (
      slashed (parent (s ∷ rest)),
      directory-by-segments s rest e ∙ slashed-of-push (parent (s ∷ rest)) [],
    )))

-- paths: a directory's dot segments may be removed before the last segment or after
pub removing-dots-and-directory-swap : (path : List ℕ) → IsAbemptyPath path
    → remove_dot_segments (directory path) ≡ directory (remove_dot_segments path)
unfolding remove_dot_segments directory run
removing-dots-and-directory-swap = rooted
    (λ path. remove_dot_segments (directory path) ≡ directory (remove_dot_segments path)) refl
    (property-of-absolute-path-by-segments (λ path. remove_dot_segments (directory path) ≡ directory
    (remove_dot_segments path)) (λ s rest e. ap remove_dot_segments (directory-by-segments s rest e)
    ∙ remove-dots-by-segments (parent (s ∷ rest) ++ [] ∷ []) (segments-with-empty-last-lack-slashes
    (parent (s ∷ rest)) (parent-segments-pass-test lacks_slash (s ∷ rest) e)) ∙ ap slashed
    (dotless_of-of-directory s rest) ∙ sym (ap directory (remove-dots-by-segments (s ∷ rest) e)
    ∙ directory-of-slashed-segments-is-parent (dotless_of (s ∷ rest)) (dotless_of-is-not-empty (s
    ∷ rest) (cons-is-not-none s rest)) (dotless_of-segments-lack-slashes (s ∷ rest) e))))

pub prefix-dots-may-be-removed-first : (prefix q : List ℕ) → IsAbsolute prefix → EndsInSlash prefix
    → remove_dot_segments (prefix ++ q) ≡ remove_dot_segments (remove_dot_segments prefix ++ q)
prefix-dots-may-be-removed-first prefix q = property-of-path-to-slash-by-segments
    (λ prefix. remove_dot_segments (prefix ++ q) ≡ remove_dot_segments (remove_dot_segments prefix
    ++ q)) (λ segs e. ap remove_dot_segments (path-after-slash-appends-its-segments segs q)
    ∙ remove-dots-by-segments (segs ++ segments q) (appended-segments-lack-slashes segs q e)
    ∙ ap slashed (dotless_of-prefix-first segs (segments q) (segments-of-text-are-not-none q))
    ∙ sym (ap (λ t. remove_dot_segments (t ++ q)) (remove-dots-by-segments (segs ++ [] ∷ [])
    (segments-with-empty-last-lack-slashes segs e) ∙ ap slashed (dotless_of-with-empty-last segs))
    ∙ ap remove_dot_segments (path-after-slash-appends-its-segments (steps [] segs) q)
    ∙ remove-dots-by-segments (steps [] segs ++ segments q) (appended-segments-lack-slashes
    (steps [] segs) q (segments-after-steps-lack-slashes segs e)))) prefix

-- removing dot segments: a base's may be removed before its path is merged (5.2.3)
pub base-dots-may-be-removed-before-merging : (path q : List ℕ) → IsAbemptyPath path
    → remove_dot_segments (directory path ++ q)
    ≡ remove_dot_segments (directory (remove_dot_segments path) ++ q)
base-dots-may-be-removed-before-merging path q h = prefix-dots-may-be-removed-first
    (directory path) q (directory-is-absolute path h) (directory-ends-in-slash path h)
    ∙ ap (λ t. remove_dot_segments (t ++ q)) (removing-dots-and-directory-swap path h)

pub directory-underflows-as-path : (path : List ℕ) → IsAbemptyPath path
    → underflows (directory path) ≡ underflows path
unfolding underflows directory run
directory-underflows-as-path = rooted (λ path. underflows (directory path) ≡ underflows path) refl
    (property-of-absolute-path-by-segments (λ path. underflows (directory path) ≡ underflows path)
    (λ s rest e. ap underflows (directory-by-segments s rest e)
    ∙ underflows-by-segments (parent (s ∷ rest) ++ [] ∷ []) (segments-with-empty-last-lack-slashes
    (parent (s ∷ rest)) (parent-segments-pass-test lacks_slash (s ∷ rest) e))
    ∙ trailing-slash-changes-no-underflow false [] (parent (s ∷ rest))
    ∙ parent-underflows-as-segments false [] (s ∷ rest)
    ∙ sym (underflows-by-segments (s ∷ rest) e)))

pub path-underflows-as-prefix-or-remainder : (prefix q : List ℕ) → IsAbsolute prefix
    → EndsInSlash prefix
    → underflows (prefix ++ q) ≡ (underflows prefix || underflows (remove_dot_segments prefix ++ q))
path-underflows-as-prefix-or-remainder prefix q = property-of-path-to-slash-by-segments (λ prefix.
    underflows (prefix ++ q) ≡ (underflows prefix || underflows (remove_dot_segments prefix ++ q)))
    (λ segs e. ap underflows (path-after-slash-appends-its-segments segs q)
    ∙ underflows-by-segments (segs ++ segments q) (appended-segments-lack-slashes segs q e)
    ∙ segments-underflow-as-prefix-or-remainder segs (segments q)
    ∙ sym (ap (λ b. b || underflows (remove_dot_segments (slashed (segs ++ [] ∷ [])) ++ q))
    (underflows-by-segments (segs ++ [] ∷ []) (segments-with-empty-last-lack-slashes segs e)
    ∙ trailing-slash-changes-no-underflow false [] segs)
    ∙ ap (λ b. underflows_over false [] segs || b) (
    ap (λ t. underflows (t ++ q)) (remove-dots-by-segments (segs ++ [] ∷ [])
    (segments-with-empty-last-lack-slashes segs e) ∙ ap slashed (dotless_of-with-empty-last segs))
    ∙ ap underflows (path-after-slash-appends-its-segments (steps [] segs) q)
    ∙ underflows-by-segments (steps [] segs ++ segments q) (appended-segments-lack-slashes
    (steps [] segs) q (segments-after-steps-lack-slashes segs e))))) prefix

pub merged-path-underflows-as-base-or-remainder : (path q : List ℕ) → IsAbemptyPath path
    → underflows (directory path ++ q)
    ≡ (underflows path || underflows (directory (remove_dot_segments path) ++ q))
merged-path-underflows-as-base-or-remainder path q h =
    grind (
      arith,
      path-underflows-as-prefix-or-remainder,
      directory-is-absolute,
      directory-ends-in-slash,
      directory-underflows-as-path,
      removing-dots-and-directory-swap,
    )

-- paths: two lists of segments, each segment after a `/`, are as long as both texts
pub length-of-slashed-append-is-sum : (xs ys : List (List ℕ))
    → length (slashed (xs ++ ys)) ≡ length (slashed xs) + length (slashed ys)
length-of-slashed-append-is-sum xs ys = ap length (slashed-of-append xs ys)
    ∙ length-append (slashed xs) (slashed ys)

-- removing dot segments: taking the last segment away makes the text no longer
pub popped-segments-are-no-longer : (xs : List (List ℕ)) → length (slashed (pop xs)) ≤ length
    (slashed xs)
unfolding pop slashed
popped-segments-are-no-longer [] = omega arith
popped-segments-are-no-longer (s ∷ []) = omega arith
popped-segments-are-no-longer (s ∷ t ∷ rest) =
    grind (arith, common_steps, length-append, (popped-segments-are-no-longer (t ∷ rest)))

dot-segment-is-not-empty : (s : List ℕ) → is_dot_segment s ≡ true → 0 < length s
dot-segment-is-not-empty s e = grind (arith, common_steps)

-- paths: a segment with its `/` has one byte more
slashed-segment-is-one-longer : (s : List ℕ) → length (slashed (s ∷ [])) ≡ length s + 1
unfolding slashed
slashed-segment-is-one-longer s = omega (arith, length-append s [])

-- removing dot segments: after one more segment the output is no longer than with it; single,
-- double: whether it is `.`, or `..`
next_output-is-no-longer : (single double : Bool) (output : List (List ℕ)) (s : List ℕ)
    → ((single || double) ≡ true → 0 < length s) →
    length (slashed (next_output single double output s ++ end_of (single || double)))
    ≤ length (slashed output) + length (slashed (s ∷ []))
unfolding next_output
next_output-is-no-longer single double output s h =
    grind (
      arith,
      common_steps,
      h,
      length-of-slashed-append-is-sum,
      slashed-segment-is-one-longer,
      popped-segments-are-no-longer,
      append-nil,
    )

-- removing dot segments: the empty segment that a last dot segment leaves shortens no text
segments-with-end_of-are-no-shorter : (xs : List (List ℕ)) (dot : Bool)
    → length (slashed xs) ≤ length (slashed (xs ++ end_of dot))
segments-with-end_of-are-no-shorter xs dot = omega
    (arith, length-of-slashed-append-is-sum xs (end_of dot))

segments-after-steps-are-no-longer : (output segs : List (List ℕ)) → length
    (slashed (steps output segs ++ closing segs)) ≤ length (slashed output) + length (slashed segs)
unfolding steps closing step_of
segments-after-steps-are-no-longer output [] = omega
    (arith, ap (λ t. length (slashed t)) (append-nil output))
segments-after-steps-are-no-longer output (s ∷ []) = next_output-is-no-longer (is_single_dot s)
    (is_double_dot s) output s (dot-segment-is-not-empty s)
segments-after-steps-are-no-longer output (s ∷ t ∷ rest) = omega (
  arith,
  segments-after-steps-are-no-longer (step_of output s) (t ∷ rest),
  next_output-is-no-longer (is_single_dot s) (is_double_dot s) output s
      (dot-segment-is-not-empty s),
  segments-with-end_of-are-no-shorter (step_of output s) (is_dot_segment s),
  length-of-slashed-append-is-sum (s ∷ []) (t ∷ rest),
)

-- removing dot segments: a path gets no longer
pub removing-dots-lengthens-no-path : (path : List ℕ) → IsAbsolute path
    → length (remove_dot_segments path) ≤ length path
unfolding dotless_of slashed
removing-dots-lengthens-no-path = property-of-absolute-path-by-segments
    (λ path. length (remove_dot_segments path) ≤ length path) (λ s rest e. omega (
      arith,
      ap length (remove-dots-by-segments (s ∷ rest) e),
      segments-after-steps-are-no-longer [] (s ∷ rest),
    ))
