-- What holds of a path without its dot segments, by its segments.
use native.Mathlib.Omega.{arith}
use Rattle.uri_basic.proofs.Common.{◌≡◌, ℕ, Bool, true, false, not, List, [], ◌∷◌, ◌++◌, refl, sym, ap, subst, ◌∙◌, append_assoc, cond, inl, inr, ⊎_elim, rules, codes, ◌==◌, list_all, and_from, and_parts, cases_Bool, cond-true, cond-false, cond_both, eqb-true, false≢true, or_cases, or_parts, append-nil, list_all-append, TableSet, is_one_of, IsAbemptyPath, Lacks, IsAbsolute, before_last_slash, has_slash, is_empty, last_segment, segments, lacked-delimiters-fail-test, test-of-delimiters-gives-lacks, before_last_slash-passes-test, AllPass, segments-pass-true-test, NoSlashes, segments-of-text-are-not-none, slashed, segments-of-text-lack-slashes, first-segment-and-rest-lack-slashes, slashed-of-segments-is-text-after-slash, appended-absolute-path-is-absolute, eq_true_from_IsTrue, IsDirectoryOrNothing, after_segment, parent, remove_dot_segments}
use Rattle.uri_ops.proofs.Offered.{empty-text-is-set-text, is_set_text, set-text-splits, set-texts-join-at-slash, joined-segments-of-set-text-are-set-texts, is_none}
use Rattle.uri_basic.proofs.Segments.{after-segment-keeps, kept_of, path-left-by-segments, path-left-of-path, parent-is-directory}

property-of-text-with-segments : (P : List ℕ → Type 0)
    → ((s : List ℕ) (rest : List (List ℕ)) → NoSlashes (s ∷ rest) → P (s ++ slashed rest))
    → (path : List ℕ) (segs : List (List ℕ)) → slashed segs ≡ 47 ∷ path → is_none segs ≡ false
    → NoSlashes segs → P path
unfolding slashed is_none
property-of-text-with-segments P each path segs e some lack =
    grind (arith, false≢true, slashed, is_none)

-- paths: what holds of a first segment and others, each after a `/`, holds of any path
pub property-of-path-by-segments : (P : List ℕ → Type 0)
    → ((s : List ℕ) (rest : List (List ℕ)) → NoSlashes (s ∷ rest) → P (s ++ slashed rest))
    → (path : List ℕ) → P path
property-of-path-by-segments P each path = property-of-text-with-segments P each path
    (segments path) (slashed-of-segments-is-text-after-slash path)
    (segments-of-text-are-not-none path) (segments-of-text-lack-slashes path)

-- removing dot segments: a path is what is kept of its segments
pub removal-by-segments : (s : List ℕ) (rest : List (List ℕ)) → NoSlashes (s ∷ rest)
    → remove_dot_segments (s ++ slashed rest) ≡ kept_of [] s rest
removal-by-segments s rest lack =
    sym (path-left-of-path (s ++ slashed rest)) ∙ path-left-by-segments [] s rest (inl refl) lack

-- removing dot segments: what holds of what is kept, if each way to change it keeps that: Q of
-- directories, and R of the path at last; each segment passes the test
kept-segments-keep : (Q R : List ℕ → Type 0) (test : List ℕ → Bool)
    → ((kept s : List ℕ) → Q kept → test s ≡ true → Q (kept ++ (s ++ codes "/")))
    → ((kept s : List ℕ) → Q kept → test s ≡ true → R (kept ++ s))
    → ((kept : List ℕ) → Q kept → Q (parent kept)) → ((kept : List ℕ) → Q kept → R kept)
    → (kept s : List ℕ) (rest : List (List ℕ)) → Q kept → AllPass test (s ∷ rest)
    → R (kept_of kept s rest)
unfolding kept_of
kept-segments-keep Q R test more last up end kept s [] h pass = after-segment-keeps R kept s s
    (end kept h) (end (parent kept) (up kept h)) (last kept s h (and_parts (test s) true pass).0)
kept-segments-keep Q R test more last up end kept s (t ∷ rest) h pass =
    let p = and_parts (test s) (list_all test (t ∷ rest)) pass in
    kept-segments-keep Q R test more last up end (after_segment kept s (s ++ codes "/")) t rest
    (after-segment-keeps Q kept s (s ++ codes "/") h (up kept h) (more kept s h p.0)) p.1

pub bytes-of-append-pass : (p : ℕ → Bool) (x y : List ℕ) → list_all p x ≡ true → list_all p y ≡ true
    → list_all p (x ++ y) ≡ true
bytes-of-append-pass p x y e f = list_all-append p x y ∙ and_from _ _ e f

-- removing dot segments: the bytes of the parent of a directory pass a test that `/` (47) and the
-- directory pass
bytes-of-parent-pass : (p : ℕ → Bool) → p 47 ≡ true → (kept : List ℕ) → list_all p kept ≡ true
    → list_all p (parent kept) ≡ true
unfolding parent
bytes-of-parent-pass p slash kept e =
    search (rules, cond_both, bytes-of-append-pass, before_last_slash-passes-test, and_from)

bytes-of-segments-pass : (p : ℕ → Bool) (s : List ℕ) (rest : List (List ℕ))
    → list_all p (s ++ slashed rest) ≡ true → AllPass (list_all p) (s ∷ rest)
unfolding slashed
bytes-of-segments-pass p s [] e = and_from _ _ (ap (list_all p) (sym (append-nil s)) ∙ e) refl
bytes-of-segments-pass p s (t ∷ rest) e =
    let f = and_parts (list_all p s) _ (sym (list_all-append p s (slashed (t ∷ rest))) ∙ e) in
    and_from _ _ f.0
    (bytes-of-segments-pass p t rest (and_parts (p 47) (list_all p (t ++ slashed rest)) f.1).1)

-- removing dot segments: the bytes that are left of any path pass a test that `/` (47) and the path
-- pass
bytes-without-dots-pass : (p : ℕ → Bool) → p 47 ≡ true → (path : List ℕ)
    → list_all p path ≡ true → list_all p (remove_dot_segments path) ≡ true
bytes-without-dots-pass p slash = property-of-path-by-segments
    (λ path. list_all p path ≡ true → list_all p (remove_dot_segments path) ≡ true)
    (λ s rest lack e.
    ap (list_all p) (removal-by-segments s rest lack)
    ∙ kept-segments-keep (λ t. list_all p t ≡ true) (λ t. list_all p t ≡ true) (list_all p)
    (λ kept t h f. bytes-of-append-pass p kept (t ++ codes "/") h
    (bytes-of-append-pass p t (codes "/") f (and_from _ _ slash refl)))
    (λ kept t h f. bytes-of-append-pass p kept t h f)
    (bytes-of-parent-pass p slash) (λ kept h. h) [] s rest refl
    (bytes-of-segments-pass p s rest e))

-- removing dot segments: any path gets no delimiter that it lacked, such as `?`
pub removal-adds-no-delimiter : (marks : List ℕ) → is_one_of marks 47 ≡ false → (path : List ℕ)
    → Lacks marks path → Lacks marks (remove_dot_segments path)
removal-adds-no-delimiter marks slash path h =
    test-of-delimiters-gives-lacks marks (remove_dot_segments path)
    (bytes-without-dots-pass _ (ap not slash) path (lacked-delimiters-fail-test marks path h))

pub text-is-cut-at-last-slash : (text : List ℕ) → has_slash text ≡ true
    → text ≡ before_last_slash text ++ 47 ∷ last_segment text
text-is-cut-at-last-slash [] e = absurd (false≢true e)
text-is-cut-at-last-slash (c ∷ rest) e =
    let last = cond (c == 47) rest (c ∷ rest) in
    ⊎_elim
    (λ h. ap (λ t. c ∷ t) (text-is-cut-at-last-slash rest h)
    ∙ sym (λ i. cond-true (has_slash rest) (c ∷ before_last_slash rest) [] h i
    ++ 47 ∷ cond-true (has_slash rest) (last_segment rest) last h i))
    (λ h.
    let slash : (c == 47) ≡ true = ⊎_elim (λ s. s) (λ s. absurd (false≢true (sym h ∙ s)))
    (or_cases (c == 47) (has_slash rest) e) in
    ap (λ d. d ∷ rest) (eqb-true c 47 slash)
    ∙ sym (λ i. cond-false (has_slash rest) (c ∷ before_last_slash rest) [] h i
    ++ 47 ∷ (cond-false (has_slash rest) (last_segment rest) last h
    ∙ cond-true (c == 47) rest (c ∷ rest) slash) i))
    (cases_Bool (has_slash rest))

module _ (set : TableSet) (slash : set.ascii 47 ≡ true) where
  set-text-before-last-slash : (text : List ℕ) → is_set_text set text ≡ true
      → is_set_text set (before_last_slash text) ≡ true
  set-text-before-last-slash text e = ⊎_elim
      (λ h. (set-text-splits set (before_last_slash text) (last_segment text)
      (ap (is_set_text set) (sym (text-is-cut-at-last-slash text h)) ∙ e)).0)
      (λ h. ap (is_set_text set) (nothing-before text h) ∙ empty-text-is-set-text set)
      (cases_Bool (has_slash text))
    where
      nothing-before : (t : List ℕ) → has_slash t ≡ false → before_last_slash t ≡ []
      nothing-before [] h = refl
      nothing-before (c ∷ t) h = cond-false _ _ _ (or_parts (c == 47) (has_slash t) h).1

  -- what is kept is a directory, or nothing, and a text of the set
  abbrev IsSetDirectory : List ℕ → Type 0
  IsSetDirectory kept = IsDirectoryOrNothing kept × (is_set_text set kept ≡ true)

  set-directory-with-text : (kept t : List ℕ) → IsSetDirectory kept → is_set_text set t ≡ true
      → is_set_text set (kept ++ t) ≡ true
  set-directory-with-text kept t h e =
      search (rules, is_set_text, append_assoc, set-texts-join-at-slash, set-text-splits)

  set-text-with-slash : (t : List ℕ) → is_set_text set t ≡ true
      → is_set_text set (t ++ codes "/") ≡ true
  set-text-with-slash t e = set-texts-join-at-slash set slash t [] e (empty-text-is-set-text set)

  parent-of-set-directory : (kept : List ℕ) → IsSetDirectory kept → IsSetDirectory (parent kept)
  unfolding parent
  parent-of-set-directory kept h = (
    parent-is-directory kept h.0,
    cond_both (is_empty kept) [] (before_last_slash (before_last_slash kept) ++ codes "/")
        (λ t. is_set_text set t ≡ true) (λ _. empty-text-is-set-text set)
        (search (rules, set-text-with-slash, set-text-before-last-slash)),
  )

  -- removing dot segments: what is left of any path is of the set that the path is of
  pub removal-keeps-set-text : (path : List ℕ) → is_set_text set path ≡ true
      → is_set_text set (remove_dot_segments path) ≡ true
  removal-keeps-set-text = property-of-path-by-segments
      (λ path. is_set_text set path ≡ true → is_set_text set (remove_dot_segments path) ≡ true)
      (λ s rest lack e.
      ap (is_set_text set) (removal-by-segments s rest lack)
      ∙ kept-segments-keep IsSetDirectory (λ t. is_set_text set t ≡ true) (is_set_text set)
      (λ kept t h f. (
        inr (kept ++ t, sym (append_assoc kept t (codes "/"))),
        set-directory-with-text kept (t ++ codes "/") h (set-text-with-slash t f),
      ))
      (λ kept t h f. set-directory-with-text kept t h f)
      parent-of-set-directory (λ kept h. h.1) [] s rest
      (inl refl, empty-text-is-set-text set)
      (joined-segments-of-set-text-are-set-texts set s rest e))

prefix-of-rooted-path-is-rooted : (path : List ℕ) → IsAbemptyPath path
    → IsAbemptyPath (before_last_slash path)
prefix-of-rooted-path-is-rooted path h = grind (arith, rules, cond_both)

-- paths: a path that is empty or begins with `/` begins with `/` if one is after it
rooted-path-with-slash-is-absolute : (path : List ℕ) → IsAbemptyPath path
    → IsAbsolute (path ++ codes "/")
rooted-path-with-slash-is-absolute path h = search (rules, appended-absolute-path-is-absolute)

-- removing dot segments: the parent of a directory that begins with `/` does so too
parent-of-absolute-is-absolute : (kept : List ℕ) → IsAbsolute kept → IsAbsolute (parent kept)
unfolding parent
parent-of-absolute-is-absolute [] h = h
parent-of-absolute-is-absolute (c ∷ kept) h =
    search (rules, rooted-path-with-slash-is-absolute, prefix-of-rooted-path-is-rooted)

-- removing dot segments: after the first `/` of a path `/` is kept
pub root-is-kept : (t : List ℕ) (rest : List (List ℕ))
    → kept_of [] [] (t ∷ rest) ≡ kept_of (codes "/") t rest
unfolding kept_of after_segment
root-is-kept t rest = refl

-- removing dot segments: what is kept after a directory that begins with `/` does so too
kept-of-absolute-is-absolute : (kept s : List ℕ) (rest : List (List ℕ)) → IsAbsolute kept
    → IsAbsolute (kept_of kept s rest)
kept-of-absolute-is-absolute kept s rest h = kept-segments-keep IsAbsolute IsAbsolute (λ t. true)
    (λ k t a e. appended-absolute-path-is-absolute k (t ++ codes "/") a)
    (λ k t a e. appended-absolute-path-is-absolute k t a)
    parent-of-absolute-is-absolute (λ k a. a) kept s rest h (segments-pass-true-test (s ∷ rest))

-- removing dot segments: a path with these segments that begins with `/` still does
segments-of-absolute-stay-absolute : (s : List ℕ) (rest : List (List ℕ)) → NoSlashes (s ∷ rest)
    → IsAbsolute (s ++ slashed rest) → IsAbsolute (remove_dot_segments (s ++ slashed rest))
unfolding slashed
segments-of-absolute-stay-absolute [] [] lack h = absurd (false≢true (eq_true_from_IsTrue _ h))
segments-of-absolute-stay-absolute [] (t ∷ rest) lack h =
    subst IsAbsolute (sym (removal-by-segments [] (t ∷ rest) lack ∙ root-is-kept t rest))
    (kept-of-absolute-is-absolute (codes "/") t rest (search rules))
segments-of-absolute-stay-absolute (c ∷ s) rest lack h =
    search (rules, first-segment-and-rest-lack-slashes, or_parts, eq_true_from_IsTrue)

-- removing dot segments: a path that begins with `/` still does
pub removal-keeps-absolute : (path : List ℕ) → IsAbsolute path
    → IsAbsolute (remove_dot_segments path)
removal-keeps-absolute = property-of-path-by-segments
    (λ path. IsAbsolute path → IsAbsolute (remove_dot_segments path))
    segments-of-absolute-stay-absolute
