-- The components of any text are a split of it.
use Rattle.uri_parts.proofs.Common.{◌≡◌, ℕ, ◌<◌, Bool, true, false, eqb, List, [], ◌∷◌, ◌++◌, length, drop, refl, sym, ap, subst, ◌∙◌, arith, ⊎_elim, inl, inr, rules, append_assoc, codes, Option, IsTrue, IfSome, IfNone, append-nil, cases_Bool, and_parts, eqb-true, both_ways, not-true, nat_tests, is_one_of, IsSplitOf, recompose, marked, starts, has_scheme, components, has_authority, after_scheme, after_authority, after_query, Components, when, Lacks, IsAbemptyPath, before_any, from_any}
use Rattle.uri_parts.proofs.Splitting.Cuts.{IsEmptyOrMarked, text-is-cut-at-first-mark}
use Rattle.uri_parts.proofs.Splitting.Marks.{has_authority-append}

-- the components of which these are the five
abbrev pub components_of_parts : Option (List ℕ)
    → Option (List ℕ) → List ℕ → Option (List ℕ) → Option (List ℕ) → Components
components_of_parts scheme authority path query fragment = record {
  scheme = scheme;
  authority = authority;
  path = path;
  query = query;
  fragment = fragment;
}

-- general fact on booleans, for splitting a text
pub equal-to-true-is-IsTrue : (b : Bool) → b ≡ true → IsTrue b
equal-to-true-is-IsTrue b h = search rules

-- splitting: a text that begins with a character c is that and what is after it
pub text-with-mark-is-mark-and-rest : (c : ℕ) (text : List ℕ) → starts c text ≡ true → text
    ≡ c ∷ drop 1 text
text-with-mark-is-mark-and-rest c [] h = absurd (both_ways _ refl h)
text-with-mark-is-mark-and-rest c (d ∷ text) h = ap (λ x. x ∷ text) (eqb-true d c h)

scheme-and-rest-are-text : (text : List ℕ) → marked [] (when (has_scheme text)
    (before_any (codes ":/?#") text)) (codes ":") ++ after_scheme text ≡ text
scheme-and-rest-are-text text = grind (arith, append_assoc, text-is-cut-at-first-mark)

authority-and-rest-are-text : (rest : List ℕ) → marked (codes "//") (when (has_authority rest)
    (before_any (codes "/?#") (drop 2 rest))) [] ++ after_authority rest ≡ rest
authority-and-rest-are-text rest =
    grind (arith, nat_tests, append-nil, text-is-cut-at-first-mark, both_ways, eqb-true)

query-and-rest-are-text : (end : List ℕ) → marked (codes "?") (when (starts 63 end)
    (before_any (codes "#") (drop 1 end))) [] ++ after_query end ≡ end
query-and-rest-are-text end =
    grind (arith, nat_tests, append-nil, text-is-cut-at-first-mark, text-with-mark-is-mark-and-rest)

-- splitting: a fragment with its `#`, or nothing, is what is left
fragment-with-hash-is-text : (text : List ℕ) → IsEmptyOrMarked (codes "#") text
    → marked (codes "#") (when (starts 35 text) (drop 1 text)) [] ≡ text
fragment-with-hash-is-text [] begins = refl
fragment-with-hash-is-text (c ∷ text) begins = grind (arith, nat_tests, append-nil)

-- splitting: what is after a path, and does not begin with `?` (63), is empty or begins with `#`
end-without-query-begins-with-hash : (end : List ℕ)
    → IsEmptyOrMarked (codes "?#") end → starts 63 end ≡ false → IsEmptyOrMarked (codes "#") end
end-without-query-begins-with-hash [] begins h = tt
end-without-query-begins-with-hash (c ∷ end) begins h = grind (arith, nat_tests)

text-after-query-begins-with-hash : (end : List ℕ) → IsEmptyOrMarked (codes "?#") end
    → IsEmptyOrMarked (codes "#") (after_query end)
text-after-query-begins-with-hash end begins =
    ⊎_elim (λ h. rw h (text-is-cut-at-first-mark (codes "#") (drop 1 end)).begins)
    (λ h. rw h (end-without-query-begins-with-hash end begins h)) (cases_Bool (starts 63 end))

-- splitting: the components of any text are together the text (RFC 3986, section 5.3)
pub recompose-components : (text : List ℕ) → recompose (components text) ≡ text
recompose-components text =
    let rest = after_scheme text in
    let tail = after_authority rest in
    let end = from_any (codes "?#") tail in
    let p = components text in
    let path = text-is-cut-at-first-mark (codes "?#") tail in
    let fragment = fragment-with-hash-is-text (after_query end)
    (text-after-query-begins-with-hash end path.begins) in
    ap (λ t. marked [] p.scheme (codes ":") ++ (marked (codes "//") p.authority [] ++ (p.path
    ++ (marked (codes "?") p.query [] ++ t)))) fragment ∙ ap (λ t. marked [] p.scheme (codes ":")
    ++ (marked (codes "//") p.authority [] ++ (p.path ++ t))) (query-and-rest-are-text end) ∙ ap
    (λ t. marked [] p.scheme (codes ":") ++ (marked (codes "//") p.authority [] ++ t)) path.whole
    ∙ ap (λ t. marked [] p.scheme (codes ":") ++ t) (authority-and-rest-are-text rest)
    ∙ scheme-and-rest-are-text text

-- splitting: what is before the first `:` (58) of a text that does not begin with it is not empty
prefix-before-colon-is-nonempty : (before from : List ℕ)
    → starts 58 from ≡ true → starts 58 (before ++ from) ≡ false → 0 < length before
prefix-before-colon-is-nonempty [] from h first = absurd (both_ways _ first h)
prefix-before-colon-is-nonempty (c ∷ before) from h first = omega arith

-- splitting: a scheme that is found is not empty and has no delimiter
found-scheme-is-nonempty-and-lacks-marks : (text : List ℕ)
    → IfSome (components text).scheme (λ s. (0 < length s) × Lacks (codes ":/?#") s)
found-scheme-is-nonempty-and-lacks-marks text = ⊎_elim (λ h.
    let cut = text-is-cut-at-first-mark (codes ":/?#") text in
    let tests = and_parts _ _ h in
    let first = ap (starts 58) cut.whole ∙ not-true _ tests.1 in
    rw h (
      prefix-before-colon-is-nonempty (before_any (codes ":/?#") text)
          (from_any (codes ":/?#") text) tests.0 first,
      cut.lacks,
    )) (λ h. rw h tt) (cases_Bool (has_scheme text))

no-scheme-if-none-is-found : (text : List ℕ)
    → IfNone (components text).scheme (has_scheme text ≡ false)
no-scheme-if-none-is-found text = ⊎_elim (λ h. rw h tt) (λ h. rw h refl)
    (cases_Bool (has_scheme text))

-- splitting: a path in a text that is empty or begins with `/`,
-- `?` or `#` is empty or begins with `/`
path-before-marks-is-abempty : (path end : List ℕ)
    → Lacks (codes "?#") path → IsEmptyOrMarked (codes "/?#") (path ++ end) → IsAbemptyPath path
path-before-marks-is-abempty [] end lacks begins = inl refl
path-before-marks-is-abempty (c ∷ path) end lacks begins =
    let other : is_one_of (codes "?#") c ≡ false = lacks 0 0 (omega arith) in
    let slash : eqb c 47 ≡ true = grind (arith, nat_tests) in
    inr (equal-to-true-is-IsTrue _ slash)

-- splitting: an authority that is found has no delimiter,
-- and the path after it is empty or begins with `/`
found-authority-lacks-marks : (rest : List ℕ)
    → IfSome (when (has_authority rest) (before_any (codes "/?#") (drop 2 rest)))
    (λ a. Lacks (codes "/?#") a × IsAbemptyPath (before_any (codes "?#") (after_authority rest)))
found-authority-lacks-marks rest = ⊎_elim (λ h.
    let cut = text-is-cut-at-first-mark (codes "/?#") (drop 2 rest) in
    let tail = from_any (codes "/?#") (drop 2 rest) in
    let path = text-is-cut-at-first-mark (codes "?#") tail in
    let begins = subst (IsEmptyOrMarked (codes "/?#")) (sym path.whole) cut.begins in
    rw h (
      cut.lacks,
      path-before-marks-is-abempty (before_any (codes "?#") tail) (from_any (codes "?#") tail)
          path.lacks begins,
    )) (λ h. rw h tt) (cases_Bool (has_authority rest))

no-slashes-if-no-authority-is-found : (rest : List ℕ)
    → IfNone (when (has_authority rest) (before_any (codes "/?#") (drop 2 rest)))
    (has_authority (before_any (codes "?#") (after_authority rest)) ≡ false)
no-slashes-if-no-authority-is-found rest = ⊎_elim (λ h. rw h tt) (λ h.
    let path = text-is-cut-at-first-mark (codes "?#") rest in
    rw h (sym (has_authority-append (before_any (codes "?#") rest) (from_any (codes "?#") rest)
    path.begins) ∙ ap has_authority path.whole ∙ h)) (cases_Bool (has_authority rest))

found-query-lacks-hash : (end : List ℕ)
    → IfSome (when (starts 63 end) (before_any (codes "#") (drop 1 end))) (λ q. Lacks (codes "#") q)
found-query-lacks-hash end = ⊎_elim
    (λ h. rw h (text-is-cut-at-first-mark (codes "#") (drop 1 end)).lacks) (λ h. rw h tt)
    (cases_Bool (starts 63 end))

-- splitting: the components of any text are a split of it (RFC 3986, appendix B)
pub components-are-split-of-text : (text : List ℕ) → IsSplitOf text (components text)
components-are-split-of-text text =
    let rest = after_scheme text in
    let tail = after_authority rest in
    record {
      whole = recompose-components text;
      scheme = found-scheme-is-nonempty-and-lacks-marks text;
      authority = found-authority-lacks-marks rest;
      path = (text-is-cut-at-first-mark (codes "?#") tail).lacks;
      query = found-query-lacks-hash (from_any (codes "?#") tail);
      no_scheme = no-scheme-if-none-is-found text;
      no_authority = no-slashes-if-no-authority-is-found rest;
    }
