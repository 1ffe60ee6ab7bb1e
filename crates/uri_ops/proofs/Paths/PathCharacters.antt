-- The characters of what is left of a path are the path's.
use Rattle.uri_ops.proofs.Common.{common_steps, arith, ◌≡◌, ℕ, Bool, true, false, not, List, [], ◌∷◌, ◌++◌, refl, sym, ap, ◌∙◌, list_all, list_all-append, All-weaker, list_all-from_AllPass, and_from, cond_both, not_from_false, is_one_of, Lacks, before_last_slash, remove_dot_segments, directory, IsAbsolute}
use Rattle.uri_ops.proofs.Paths.Segments.{dotless_of, dotless_of-pass-test}
use Rattle.uri_ops.proofs.Paths.SlashedSegments.{slashed, remove-dots-by-segments}
use Rattle.uri_ops.proofs.Paths.DotLaws.{property-of-absolute-path-by-segments}

-- paths: bytes pass a test, which `/` (47) passes, exactly if those of each segment do
slashed-passes-if-segments-pass : (p : ℕ → Bool) → p 47 ≡ true → (segs : List (List ℕ))
    → list_all p (slashed segs) ≡ list_all (list_all p) segs
unfolding slashed
slashed-passes-if-segments-pass p slash [] = refl
slashed-passes-if-segments-pass p slash (s ∷ rest) =
    grind (arith, common_steps, slashed-passes-if-segments-pass p slash rest)

-- removing dot segments: the bytes left pass a test that `/` (47) and all of the path pass
path-without-dots-passes-test : (p : ℕ → Bool) → p 47 ≡ true → (path : List ℕ) → IsAbsolute path
    → list_all p path ≡ true → list_all p (remove_dot_segments path) ≡ true
path-without-dots-passes-test p slash = property-of-absolute-path-by-segments
    (λ path. list_all p path ≡ true → list_all p (remove_dot_segments path) ≡ true)
    (λ s rest e f. ap (list_all p) (remove-dots-by-segments (s ∷ rest) e)
    ∙ slashed-passes-if-segments-pass p slash (dotless_of (s ∷ rest))
    ∙ dotless_of-pass-test (list_all p) (list_all p) (λ t g d. g) refl (s
    ∷ rest) (sym (slashed-passes-if-segments-pass p slash (s ∷ rest)) ∙ f))

-- paths: the bytes before the last `/` pass a test that all pass
pub before_last_slash-passes-test : (p : ℕ → Bool) (text : List ℕ) → list_all p text ≡ true
    → list_all p (before_last_slash text) ≡ true
before_last_slash-passes-test p [] e = refl
before_last_slash-passes-test p (c ∷ rest) e =
    grind (arith, common_steps, p, cond_both, (before_last_slash-passes-test p rest))

-- paths: a text with a `/` (47) after it passes a test that both pass
text-with-last-slash-passes-test : (p : ℕ → Bool)
    → p 47 ≡ true → (text : List ℕ) → list_all p text ≡ true → list_all p (text ++ 47 ∷ []) ≡ true
text-with-last-slash-passes-test p slash text e = list_all-append p text (47 ∷ [])
    ∙ and_from _ _ e (and_from _ _ slash refl)

-- paths: the bytes of a directory pass a test that `/` (47) and the path's pass
directory-passes-test : (p : ℕ → Bool) → p 47 ≡ true → (path : List ℕ) → list_all p path ≡ true
    → list_all p (directory path) ≡ true
unfolding directory
directory-passes-test p slash path e =
    grind (arith, text-with-last-slash-passes-test, before_last_slash-passes-test)

-- paths: a text that lacks delimiters passes the test for it, byte by byte
pub lacked-delimiters-fail-test : (marks text : List ℕ) → Lacks marks text
    → list_all (λ c. not (is_one_of marks c)) text ≡ true
lacked-delimiters-fail-test marks text h =
    grind (arith, list_all-from_AllPass, All-weaker, not_from_false)

-- paths: if no character is one of the delimiters, the text lacks them
pub test-of-delimiters-gives-lacks : (marks text : List ℕ)
    → list_all (λ c. not (is_one_of marks c)) text ≡ true → Lacks marks text
test-of-delimiters-gives-lacks marks text h = grind (arith, common_steps)

-- removing dot segments: a path gets no delimiter that it lacked, such as `?`
pub removing-dots-adds-no-character : (marks : List ℕ) → is_one_of marks 47 ≡ false
    → (path : List ℕ) → IsAbsolute path → Lacks marks path → Lacks marks (remove_dot_segments path)
removing-dots-adds-no-character marks slash path h e = test-of-delimiters-gives-lacks marks
    (remove_dot_segments path) (path-without-dots-passes-test (λ c. not (is_one_of marks c))
    (not_from_false _ slash) path h (lacked-delimiters-fail-test marks path e))

-- paths: the directory of a path has no delimiter that the path lacks, such as `?`
pub directory-adds-no-character : (marks : List ℕ) → is_one_of marks 47 ≡ false → (path : List ℕ)
    → Lacks marks path → Lacks marks (directory path)
directory-adds-no-character marks slash path e = test-of-delimiters-gives-lacks marks
    (directory path) (directory-passes-test (λ c. not (is_one_of marks c))
    (not_from_false _ slash) path (lacked-delimiters-fail-test marks path e))
