-- Removing dot segments segment by segment, as the code does: the path that is left of a directory
-- and the rest of a path.
use Rattle.uri_basic.proofs.Common.{◌≡◌, ℕ, true, false, List, [], ◌∷◌, ◌++◌, refl, sym, ap, ◌∙◌, rules, append_assoc, inr, ⊎_elim, codes, bytes_eq, cases_Bool, cond-true, cond-false, cond_both, or_parts, append-nil, bytes_eq-Decides, before_last_slash, has_slash, before_last_slash-of-slashless-tail, NoSlashes, first-segment-and-rest-lack-slashes, slashed, output_of, remove_dot_segments, IsDirectoryOrNothing, after_segment, buffers_at, parent, path_left}
use Rattle.uri_relative.proofs.Offered.{text-with-slash-is-nonempty}
use Rattle.uri_basic.proofs.Buffers.{output-after-step, output-of-empty-input}
use Rattle.uri_basic.proofs.Steps.{last-segment-is-text, other-last-segment-begins-with-no-dots, other-segment-begins-with-no-dots, output-after-rooted-segment, output-after-rootless-segment, segment-ends-before-slash}

buffers-at-directory : (p q : List ℕ)
    → buffers_at (p ++ codes "/") q ≡ record { input = 47 ∷ q; output = p }
unfolding buffers_at
buffers-at-directory p q = cond-false _ _ _ (text-with-slash-is-nonempty p [])
    ∙ (λ i. record { input = 47 ∷ q; output = before_last_slash-of-slashless-tail p [] refl i })

pub parent-of-directory : (p : List ℕ) → parent (p ++ codes "/") ≡ before_last_slash p ++ codes "/"
unfolding parent
parent-of-directory p = cond-false _ _ _ (text-with-slash-is-nonempty p [])
    ∙ ap (λ t. before_last_slash t ++ codes "/") (before_last_slash-of-slashless-tail p [] refl)

pub parent-of-nothing : parent [] ≡ []
unfolding parent
parent-of-nothing = refl

path-left-after-directory : (p q : List ℕ)
    → path_left (p ++ codes "/") q ≡ output_of (record { input = 47 ∷ q; output = p })
unfolding path_left
path-left-after-directory p q = ap output_of (buffers-at-directory p q)

path-left-after-nothing : (q : List ℕ)
    → path_left [] q ≡ output_of (record { input = q; output = [] })
unfolding path_left buffers_at
path-left-after-nothing q = refl

-- removing dot segments: nothing is before the whole path
pub path-left-of-path : (path : List ℕ) → path_left [] path ≡ remove_dot_segments path
unfolding path_left buffers_at remove_dot_segments
path-left-of-path path = refl

nothing-left-of-dots : (q : List ℕ) → (path_left [] (codes "./" ++ q) ≡ path_left [] q)
    × (path_left [] (codes "../" ++ q) ≡ path_left [] q) × (path_left [] (codes ".") ≡ [])
    × (path_left [] (codes "..") ≡ [])
unfolding path_left buffers_at
nothing-left-of-dots q = search (rules, output-after-step, output-of-empty-input)

-- removing dot segments: a `/` that is all of the input buffer is moved
output-after-slash : (p : List ℕ)
    → output_of (record { input = codes "/"; output = p }) ≡ p ++ codes "/"
output-after-slash p = output-after-step (record { input = codes "/"; output = p }) refl
    ∙ output-of-empty-input (p ++ codes "/")

-- removing dot segments: `.` leaves the directory, and `..` its parent
directory-left-of-dots : (p q : List ℕ)
    → (path_left (p ++ codes "/") (codes "./" ++ q) ≡ path_left (p ++ codes "/") q)
    × (path_left (p ++ codes "/") (codes "../" ++ q) ≡ path_left (parent (p ++ codes "/")) q)
    × (path_left (p ++ codes "/") (codes ".") ≡ p ++ codes "/")
    × (path_left (p ++ codes "/") (codes "..") ≡ parent (p ++ codes "/"))
directory-left-of-dots p q = (
  search (rules, path-left-after-directory, output-after-step),
  search (rules, path-left-after-directory, output-after-step, parent-of-directory),
  search (rules, path-left-after-directory, output-after-step, output-after-slash),
  path-left-after-directory p (codes "..")
      ∙ output-after-step (record { input = codes "/.."; output = p }) refl
      ∙ output-after-slash (before_last_slash p) ∙ sym (parent-of-directory p),
)

nothing-gets-other-segment : (s q : List ℕ) → has_slash s ≡ false → bytes_eq s (codes ".") ≡ false
    → bytes_eq s (codes "..") ≡ false → path_left [] (s ++ 47 ∷ q) ≡ path_left (s ++ codes "/") q
nothing-gets-other-segment [] q lacks single double =
    path-left-after-nothing (47 ∷ q) ∙ sym (path-left-after-directory [] q)
nothing-gets-other-segment (c ∷ s) q lacks single double =
    let cut = segment-ends-before-slash (c ∷ s) q lacks in
    path-left-after-nothing ((c ∷ s) ++ 47 ∷ q) ∙ output-after-rootless-segment c (s ++ 47 ∷ q) []
    (c ∷ s) (47 ∷ q) (or_parts _ (has_slash s) lacks).0
    (other-segment-begins-with-no-dots (c ∷ s) q lacks single double) cut.0 cut.1
    ∙ sym (path-left-after-directory (c ∷ s) q)

nothing-gets-other-last-segment : (s : List ℕ) → has_slash s ≡ false
    → bytes_eq s (codes ".") ≡ false → bytes_eq s (codes "..") ≡ false → path_left [] s ≡ s
nothing-gets-other-last-segment [] lacks single double =
    path-left-after-nothing [] ∙ output-of-empty-input []
nothing-gets-other-last-segment (c ∷ s) lacks single double =
    let cut = last-segment-is-text (c ∷ s) lacks in
    path-left-after-nothing (c ∷ s)
    ∙ output-after-rootless-segment c s [] (c ∷ s) [] (or_parts _ (has_slash s) lacks).0
    (other-last-segment-begins-with-no-dots (c ∷ s) lacks single double) cut.0 cut.1
    ∙ output-of-empty-input (c ∷ s)

directory-gets-other-segment : (p s q : List ℕ) → has_slash s ≡ false
    → bytes_eq s (codes ".") ≡ false → bytes_eq s (codes "..") ≡ false
    → path_left (p ++ codes "/") (s ++ 47 ∷ q) ≡ path_left ((p ++ codes "/") ++ (s ++ codes "/")) q
directory-gets-other-segment p s q lacks single double =
    let cut = segment-ends-before-slash s q lacks in
    path-left-after-directory p (s ++ 47 ∷ q) ∙ output-after-rooted-segment (s ++ 47 ∷ q) p s
    (47 ∷ q) (other-segment-begins-with-no-dots s q lacks single double) cut.0 cut.1
    ∙ sym (path-left-after-directory (p ++ 47 ∷ s) q) ∙ ap (λ k. path_left k q)
    (append_assoc p (47 ∷ s) (codes "/") ∙ sym (append_assoc p (codes "/") (s ++ codes "/")))

directory-gets-other-last-segment : (p s : List ℕ) → has_slash s ≡ false
    → bytes_eq s (codes ".") ≡ false → bytes_eq s (codes "..") ≡ false
    → path_left (p ++ codes "/") s ≡ (p ++ codes "/") ++ s
directory-gets-other-last-segment p s lacks single double =
    let cut = last-segment-is-text s lacks in
    path-left-after-directory p s ∙ output-after-rooted-segment s p s []
    (other-last-segment-begins-with-no-dots s lacks single double) cut.0 cut.1
    ∙ output-of-empty-input (p ++ 47 ∷ s) ∙ sym (append_assoc p (codes "/") s)

pub after-segment-by-test : (kept s piece : List ℕ)
    → (bytes_eq s (codes ".") ≡ true → after_segment kept s piece ≡ kept)
    × (bytes_eq s (codes "..") ≡ true → after_segment kept s piece ≡ parent kept)
    × (bytes_eq s (codes ".") ≡ false → bytes_eq s (codes "..") ≡ false
    → after_segment kept s piece ≡ kept ++ piece)
unfolding after_segment
after-segment-by-test kept s piece = search (rules, cond-true, bytes_eq-Decides, cond-false)

pub path-left-after-segment : (kept s q : List ℕ) → IsDirectoryOrNothing kept → has_slash s ≡ false
    → path_left kept ((s ++ codes "/") ++ q) ≡ path_left (after_segment kept s (s ++ codes "/")) q
path-left-after-segment kept s q closed lacks =
    let after = after-segment-by-test kept s (s ++ codes "/") in
    ap (path_left kept) (append_assoc s (codes "/") q)
    ∙ ⊎_elim (search (rules, bytes_eq-Decides, nothing-left-of-dots, directory-left-of-dots))
    (λ single. ⊎_elim
    (λ e. ap (λ t. path_left kept (t ++ 47 ∷ q)) ((bytes_eq-Decides s (codes "..")).0 e) ∙ ⊎_elim
    (λ n. cc (n, (nothing-left-of-dots q).1, n, parent-of-nothing))
    (λ d. cc ((directory-left-of-dots d.0 q).1))
    closed
    ∙ ap (λ k. path_left k q) (sym (after.1 e)))
    (search (rules, nothing-gets-other-segment, directory-gets-other-segment))
    (cases_Bool (bytes_eq s (codes ".."))))
    (cases_Bool (bytes_eq s (codes ".")))

pub path-left-after-last-segment : (kept s : List ℕ) → IsDirectoryOrNothing kept
    → has_slash s ≡ false → path_left kept s ≡ after_segment kept s s
path-left-after-last-segment kept s closed lacks =
    let after = after-segment-by-test kept s s in
    ⊎_elim
    (λ e. ap (path_left kept) ((bytes_eq-Decides s (codes ".")).0 e) ∙ ⊎_elim
    (λ n. ap (λ k. path_left k (codes ".")) n ∙ (nothing-left-of-dots []).2 ∙ sym n)
    (λ d. ap (λ k. path_left k (codes ".")) d.1 ∙ (directory-left-of-dots d.0 []).2 ∙ sym d.1)
    closed
    ∙ sym (after.0 e))
    (λ single. ⊎_elim
    (λ e. ap (path_left kept) ((bytes_eq-Decides s (codes "..")).0 e) ∙ ⊎_elim
    (λ n. cc (n, (nothing-left-of-dots []).3, n, parent-of-nothing))
    (λ d. cc ((directory-left-of-dots d.0 []).3))
    closed
    ∙ sym (after.1 e))
    (search (rules, nothing-gets-other-last-segment, directory-gets-other-last-segment))
    (cases_Bool (bytes_eq s (codes ".."))))
    (cases_Bool (bytes_eq s (codes ".")))

-- removing dot segments: what is kept has a property that each way to change it keeps
pub after-segment-keeps : (Q : List ℕ → Type 0) (kept s piece : List ℕ) → Q kept → Q (parent kept)
    → Q (kept ++ piece) → Q (after_segment kept s piece)
unfolding after_segment
after-segment-keeps Q kept s piece same up more = search (rules, cond_both)

pub parent-is-directory : (kept : List ℕ) → IsDirectoryOrNothing kept
    → IsDirectoryOrNothing (parent kept)
unfolding parent
parent-is-directory kept closed = search (rules, parent-of-directory)

pub directory-after-segment : (kept s : List ℕ) → IsDirectoryOrNothing kept
    → IsDirectoryOrNothing (after_segment kept s (s ++ codes "/"))
directory-after-segment kept s closed = after-segment-keeps IsDirectoryOrNothing kept s
    (s ++ codes "/") closed (parent-is-directory kept closed)
    (inr (kept ++ s, sym (append_assoc kept s (codes "/"))))

-- removing dot segments: what is kept of a path, given by its first segment and the others
unfoldable pub kept_of : List ℕ → List ℕ → List (List ℕ) → List ℕ
kept_of kept s [] = after_segment kept s s
kept_of kept s (t ∷ rest) = kept_of (after_segment kept s (s ++ codes "/")) t rest

pub path-left-by-segments : (kept s : List ℕ) (rest : List (List ℕ)) → IsDirectoryOrNothing kept
    → NoSlashes (s ∷ rest) → path_left kept (s ++ slashed rest) ≡ kept_of kept s rest
unfolding kept_of slashed
path-left-by-segments kept s [] closed lack =
    search (rules, append-nil, path-left-after-last-segment, first-segment-and-rest-lack-slashes)
path-left-by-segments kept s (t ∷ rest) closed lack =
    let first = first-segment-and-rest-lack-slashes s (t ∷ rest) lack in
    ap (path_left kept) (sym (append_assoc s (codes "/") (t ++ slashed rest)))
    ∙ path-left-after-segment kept s (t ++ slashed rest) closed first.0 ∙ path-left-by-segments
    (after_segment kept s (s ++ codes "/")) t rest (directory-after-segment kept s closed) first.1
