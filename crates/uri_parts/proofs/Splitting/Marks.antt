-- Where each component of a recomposed text is cut: one lemma a component, over its own text.
use Rattle.uri_parts.proofs.Common.{◌≡◌, ℕ, ◌<◌, true, false, eqb, List, [], ◌∷◌, ◌++◌, length, drop, refl, ap, ◌∙◌, arith, append_assoc, codes, Some, None, Option, IfSome, IfNone, append-nil, cond-true, cond-false, and_left, and_from, eqb-true, not_from_false, nat_tests, is_one_of, marked, starts, has_scheme, has_authority, after_scheme, after_authority, after_query, when, Lacks, IsAbemptyPath, before_any, from_any, eq_true_from_IsTrue}
use Rattle.uri_parts.proofs.Splitting.Cuts.{IsEmptyOrMarked, empty-or-marked-for-more-marks, cut-at-end-of-text-without-marks}

-- recomposing: the text of a fragment with its `#`, or nothing
abbrev pub fragment_text : Option (List ℕ) → List ℕ
fragment_text fragment = marked (codes "#") fragment []

-- recomposing: the text of a query and a fragment with their delimiters, or nothing
abbrev pub query_text : Option (List ℕ) → Option (List ℕ) → List ℕ
query_text query fragment = marked (codes "?") query [] ++ fragment_text fragment

pub IsEmptyOrMarked-fragment_text : (fragment : Option (List ℕ))
    → IsEmptyOrMarked (codes "#") (fragment_text fragment)
IsEmptyOrMarked-fragment_text None = tt
IsEmptyOrMarked-fragment_text (Some f) = refl

-- recomposing: a query with its `?`, and what follows, begins with `?` or `#`, if there is any
pub IsEmptyOrMarked-query_text : (query fragment : Option (List ℕ))
    → IsEmptyOrMarked (codes "?#") (query_text query fragment)
IsEmptyOrMarked-query_text None fragment =
    grind (arith, nat_tests, empty-or-marked-for-more-marks, IsEmptyOrMarked-fragment_text)
IsEmptyOrMarked-query_text (Some q) fragment = refl

pub fragment-found : (fragment : Option (List ℕ))
    → when (starts 35 (fragment_text fragment)) (drop 1 (fragment_text fragment)) ≡ fragment
fragment-found None = refl
fragment-found (Some f) = ap Some (append-nil f)

pub query-found : (query fragment : Option (List ℕ)) → IfSome query (λ q. Lacks (codes "#") q) →
    (when (starts 63 (query_text query fragment))
    (before_any (codes "#") (drop 1 (query_text query fragment))) ≡ query)
    × (after_query (query_text query fragment) ≡ fragment_text fragment)
query-found None fragment lacks = grind (arith, nat_tests)
query-found (Some q) fragment lacks =
    let cut = cut-at-end-of-text-without-marks (codes "#") q (fragment_text fragment) lacks
    (IsEmptyOrMarked-fragment_text fragment) in
    let e : (q ++ []) ++ fragment_text fragment ≡ q ++ fragment_text fragment =
    ap (λ t. t ++ fragment_text fragment) (append-nil q) in
    (ap Some (ap (before_any (codes "#")) e ∙ cut.0), ap (from_any (codes "#")) e ∙ cut.1)

-- splitting: `?` and `#` are not `/` (47)
question-or-hash-is-no-slash : (c : ℕ) → is_one_of (codes "?#") c ≡ true → eqb c 47 ≡ false
question-or-hash-is-no-slash c h = grind (arith, nat_tests)

-- recomposing: what is after a path does not make it begin with `//`
pub has_authority-append : (path tail : List ℕ) → IsEmptyOrMarked (codes "?#") tail
    → has_authority (path ++ tail) ≡ has_authority path
has_authority-append [] [] begins = refl
has_authority-append [] (c ∷ tail) begins = and_left _ _ (question-or-hash-is-no-slash c begins)
has_authority-append (a ∷ []) [] begins = refl
has_authority-append (a ∷ []) (c ∷ tail) begins =
    grind (arith, nat_tests, question-or-hash-is-no-slash)
has_authority-append (a ∷ d ∷ path) tail begins = refl

-- general fact on lists, for texts that begin with a delimiter: such a text is not empty
pub cons_is_not_nil : (c : ℕ) (xs : List ℕ) → c ∷ xs ≡ [] → ⊥
cons_is_not_nil c xs e = cc

pub rooted-path-ends-authority : (path tail : List ℕ) → IsAbemptyPath path
    → IsEmptyOrMarked (codes "?#") tail → IsEmptyOrMarked (codes "/?#") (path ++ tail)
rooted-path-ends-authority [] tail rooted begins =
    grind (arith, nat_tests, empty-or-marked-for-more-marks)
rooted-path-ends-authority (c ∷ path) tail rooted begins =
    grind (arith, nat_tests, cons_is_not_nil, codes, eqb-true, eq_true_from_IsTrue)

-- recomposing: the authority that is found is the one that was written,
-- and path and tail are left after it
pub authority-found : (authority : Option (List ℕ)) (path tail : List ℕ)
    → IfSome authority (λ a. Lacks (codes "/?#") a × IsAbemptyPath path)
    → IfNone authority (has_authority path ≡ false) → IsEmptyOrMarked (codes "?#") tail
    → (when (has_authority (marked (codes "//") authority [] ++ (path ++ tail))) (before_any
    (codes "/?#") (drop 2 (marked (codes "//") authority [] ++ (path ++ tail)))) ≡ authority)
    × (after_authority (marked (codes "//") authority [] ++ (path ++ tail)) ≡ path ++ tail)
authority-found None path tail some none begins = grind (arith, nat_tests, has_authority-append)
authority-found (Some a) path tail some none begins =
    let cut = cut-at-end-of-text-without-marks (codes "/?#") a (path ++ tail) some.0
    (rooted-path-ends-authority path tail some.1 begins) in
    let e : (a ++ []) ++ (path ++ tail) ≡ a ++ (path ++ tail) =
    ap (λ t. t ++ (path ++ tail)) (append-nil a) in
    (ap Some (ap (before_any (codes "/?#")) e ∙ cut.0), ap (from_any (codes "/?#")) e ∙ cut.1)

-- splitting: a byte that is none of `:`, `/`, `?`, `#` is not 58
other-byte-is-no-colon : (c : ℕ) → is_one_of (codes ":/?#") c ≡ false → eqb c 58 ≡ false
other-byte-is-no-colon c e = grind (arith, nat_tests)

-- recomposing: a scheme with its `:` (58) does not begin with `:`
scheme-does-not-begin-with-colon : (s rest : List ℕ) → 0 < length s → Lacks (codes ":/?#") s
    → starts 58 (s ++ (58 ∷ rest)) ≡ false
scheme-does-not-begin-with-colon [] rest h lacks = absurd (omega arith)
scheme-does-not-begin-with-colon (c ∷ s) rest h lacks = other-byte-is-no-colon c
    (lacks 0 0 (omega arith))

pub scheme-found : (scheme : Option (List ℕ)) (rest : List ℕ) →
    IfSome scheme (λ s. (0 < length s) × Lacks (codes ":/?#") s)
    → IfNone scheme (has_scheme (marked [] scheme (codes ":") ++ rest) ≡ false) →
    (when (has_scheme (marked [] scheme (codes ":") ++ rest))
    (before_any (codes ":/?#") (marked [] scheme (codes ":") ++ rest)) ≡ scheme)
    × (after_scheme (marked [] scheme (codes ":") ++ rest) ≡ rest)
scheme-found None rest some none =
    (ap (λ t. when t (before_any (codes ":/?#") rest)) none, cond-false _ _ _ none)
scheme-found (Some s) rest some none =
    let text : List ℕ = (s ++ codes ":") ++ rest in
    let e : text ≡ s ++ (58 ∷ rest) = append_assoc s (codes ":") rest in
    let cut = cut-at-end-of-text-without-marks (codes ":/?#") s (58 ∷ rest) some.1 refl in
    let back : from_any (codes ":/?#") text ≡ 58 ∷ rest = ap (from_any (codes ":/?#")) e ∙ cut.1 in
    let t : has_scheme text ≡ true = and_from _ _ (ap (starts 58) back) (not_from_false _
    (ap (starts 58) e ∙ scheme-does-not-begin-with-colon s rest some.0 some.1)) in (
      ap (λ t. when t (before_any (codes ":/?#") text)) t
          ∙ ap Some (ap (before_any (codes ":/?#")) e ∙ cut.0),
      cond-true _ _ _ t ∙ ap (drop 1) back,
    )
