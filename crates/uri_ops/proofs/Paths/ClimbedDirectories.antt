-- A reference's path after a directory without dot segments.
use Rattle.uri_ops.proofs.Common.{common_steps, ◌≡◌, ◌<◌, ◌-◌, ◌+◌, ℕ, Bool, eqb, List, ◌++◌, length, take, append_assoc, drop, sym, ap, subst, ◌∙◌, arith, true, before_last_slash, is_empty, IsAbsolute, BeginsWith, EndsIn, IsDotlessDirectory, RemovalState, parent_directory, begins_with_dot, take-append-drop, IsSlashOrStart}
use Rattle.uri_ops.proofs.Targeting.Targets.{appended-absolute-path-is-absolute}
use Rattle.uri_ops.proofs.Paths.LastSlashes.{before_last_slash-of-directory, text-is-empty-if-positions-are-equal, length-of-directory}

pub directory-of-one-byte-is-root : (path : List ℕ) → IsDotlessDirectory path
    → eqb (length path) 1 ≡ is_empty (before_last_slash path)
directory-of-one-byte-is-root path d = text-is-empty-if-positions-are-equal d.closed.0
    (length path) 1 (omega (arith, length-of-directory path d.closed))
    ∙ ap is_empty (sym (before_last_slash-of-directory path d.closed))

pub first-bytes-are-prefix : (text prefix : List ℕ) (n : ℕ) → prefix ≡ take n text
    → BeginsWith text prefix
first-bytes-are-prefix text prefix n e =
    (drop n text, sym (ap (λ t. t ++ drop n text) e ∙ take-append-drop n text))

pub prefix-of-prefix-is-prefix : (text prefix kept : List ℕ) → BeginsWith text prefix
    → BeginsWith prefix kept → BeginsWith text kept
prefix-of-prefix-is-prefix text prefix kept (rest, e) (between, f) =
    (between ++ rest, e ∙ ap (λ t. t ++ rest) f ∙ append_assoc kept between rest)

pub path-with-directory-at-start-is-absolute : (path kept : List ℕ) → IsDotlessDirectory kept
    → BeginsWith path kept → IsAbsolute path
path-with-directory-at-start-is-absolute path kept d (rest, e) =
    subst IsAbsolute (sym e) (appended-absolute-path-is-absolute kept rest d.absolute)

-- paths: the last byte of a directory that a path begins with is a `/` (47) of it, and the path up
-- to it is the directory
pub directory-at-start-ends-at-slash : (path kept : List ℕ)
    → IsDotlessDirectory kept → BeginsWith path kept → (0 < length kept)
    × IsSlashOrStart path 0 (length kept - 1) × (take (length kept - 1 + 1) path ≡ kept)
directory-at-start-ends-at-slash path kept d (rest, e) =
    grind (arith, common_steps, length-of-directory)

pub rest-of-suffix-is-suffix : (text suffix rest : List ℕ) (n : ℕ) → rest ≡ drop n suffix
    → EndsIn text suffix → EndsIn text rest
rest-of-suffix-is-suffix text suffix rest n e (before, f) = (
  before ++ take n suffix,
  f ∙ ap (λ t. before ++ t) (sym (take-append-drop n suffix)) ∙ sym (append_assoc before
      (take n suffix) (drop n suffix)) ∙ ap (λ t. (before ++ take n suffix) ++ t) (sym e),
)

-- removing dot segments: what is kept when a `..` is taken is a directory
pub parent-of-directory-is-directory : (path kept rest : List ℕ) (underflowed : Bool)
    → RemovalState path (parent_directory kept) rest underflowed
    → IsDotlessDirectory (parent_directory kept)
parent-of-directory-is-directory path kept rest underflowed h = grind arith

pub path-beginning-with-dot-is-not-empty : (path : List ℕ) → begins_with_dot path ≡ true
    → 0 < length path
path-beginning-with-dot-is-not-empty path e = grind (arith, common_steps)
