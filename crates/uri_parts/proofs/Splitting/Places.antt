-- At their positions the components of a text can be cut out, and what is cut out is them.
use Rattle.std.proofs.lemmas.Grind.{common_steps}
use Rattle.uri_parts.proofs.Common.{◌≡◌, ℕ, ◌+◌, ◌-◌, ◌<◌, ◌≤◌, List, [], ◌∷◌, ◌++◌, length, get_or, refl, sym, ap, subst, ◌∙◌, arith, append_assoc, length-append, codes, Some, None, Option, IfSome, slice_range, nat_lt, is_some, option_map, unwrap_or, IsUtf8, IsCharBoundary, append-nil, drop-append_seam, take-append_seam, IsCharBoundary-start, IsCharBoundary-end, IsCharBoundary-before_ascii, IsCharBoundary-after_ascii, lt-ltb, le-ltb, or_right, nat_tests, Components, IsSplitOf, recompose, marked, IsAbemptyPath, Lacks, positions_of, delimited_length, before_fragment}
use Rattle.uri_parts.proofs.Splitting.Cuts.{IsEmptyOrMarked, empty-or-marked-for-more-marks}
use Rattle.uri_parts.proofs.Splitting.Marks.{query_text, fragment_text, IsEmptyOrMarked-query_text, IsEmptyOrMarked-fragment_text, rooted-path-ends-authority}
use Rattle.uri_parts.proofs.Splitting.Recompose.{components_of_parts}

-- positions: a text may be cut at both positions, and between them is this component
pub record IsComponentAt (text : List ℕ) (start end : ℕ) (part : Option (List ℕ)) : Type 0 where
  pub ordered : start ≤ end
  pub starts : IsCharBoundary text start
  pub ends : IsCharBoundary text end
  pub holds : Some (slice_range text start end) ≡ part

-- general fact on lists, for positions: the byte after a prefix is at its length
pub get_or-after-prefix : (before rest : List ℕ) (c : ℕ)
    → get_or (before ++ (c ∷ rest)) (length before) 0 ≡ c
get_or-after-prefix [] rest c = refl
get_or-after-prefix (b ∷ before) rest c = get_or-after-prefix before rest c

-- positions: a text may be cut before a delimiter, and at its end
pub boundary_before_mark : (before rest : List ℕ) → IsEmptyOrMarked (codes ":/?#") rest
    → IsCharBoundary (before ++ rest) (length before)
boundary_before_mark before [] begins = rw (append-nil before) (IsCharBoundary-end before)
boundary_before_mark before (c ∷ rest) begins =
    grind (arith, nat_tests, get_or-after-prefix, IsCharBoundary-before_ascii, length-append)

-- positions: a text may be cut after an ASCII character
pub boundary_after_mark : (before rest : List ℕ) (c : ℕ) → c < 128 → IsUtf8 (before ++ (c ∷ rest))
    → IsCharBoundary (before ++ (c ∷ rest)) (length before + 1)
boundary_after_mark before rest c ascii utf8 =
    grind (arith, get_or-after-prefix, IsCharBoundary-after_ascii, length-append)

-- general fact on lists, for positions: what is after a prefix is at the length of the prefix
pub slice-between-prefix-and-suffix : (before part suffix : List ℕ)
    → slice_range (before ++ (part ++ suffix)) (length before) (length before + length part) ≡ part
slice-between-prefix-and-suffix before part suffix =
    grind (arith, common_steps, drop-append_seam, take-append_seam)

-- positions: a component with a delimiter, or nothing, after it is between its positions
component-before-mark-is-slice : (text before part suffix : List ℕ) (start end : ℕ)
    → text ≡ before ++ (part ++ suffix) → start ≡ length before → end ≡ start + length part
    → IsCharBoundary text start → IsEmptyOrMarked (codes ":/?#") suffix
    → IsComponentAt text start end (Some part)
component-before-mark-is-slice text before part suffix start end whole at_start at_end starts mark =
    grind (arith, common_steps)

-- positions: a component with a delimiter before it,
-- and one or nothing after it, is between its positions
component-between-marks-is-slice : (text before part suffix : List ℕ) (c start end : ℕ)
    → text ≡ before ++ (c ∷ (part ++ suffix))
    → start ≡ length before + 1 → end ≡ start + length part → c < 128
    → IsUtf8 text → IsEmptyOrMarked (codes ":/?#") suffix → IsComponentAt text start end (Some part)
component-between-marks-is-slice text before part suffix c start end whole at_start at_end ascii
    utf8 begins =
    let joined : text ≡ (before ++ (c ∷ [])) ++ (part ++ suffix) = whole
    ∙ sym (append_assoc before (c ∷ []) (part ++ suffix)) in
    let n : start ≡ length (before ++ (c ∷ [])) = omega (arith, length-append before (c ∷ [])) in
    let valid : IsUtf8 (before ++ (c ∷ (part ++ suffix))) = rw (← whole) utf8 in
    let starts : IsCharBoundary text start =
    rw (whole, at_start) (boundary_after_mark before (part ++ suffix) c ascii valid) in
    component-before-mark-is-slice text (before ++ (c ∷ [])) part suffix start end joined n at_end
    starts begins

abbrev scheme_text : Option (List ℕ) → List ℕ
scheme_text scheme = marked [] scheme (codes ":")

-- positions: the text of an authority with its `//`, or nothing
abbrev marked_authority : Option (List ℕ) → List ℕ
marked_authority authority = marked (codes "//") authority []

length-scheme_text : (scheme : Option (List ℕ))
    → length (scheme_text scheme) ≡ delimited_length 1 scheme
length-scheme_text None = refl
length-scheme_text (Some s) = omega (arith, length-append s (codes ":"))

length-marked_authority : (authority : Option (List ℕ))
    → length (marked_authority authority) ≡ delimited_length 2 authority
length-marked_authority None = refl
length-marked_authority (Some a) = omega (arith, length-append a [])

length-query_text : (query : Option (List ℕ))
    → length (marked (codes "?") query []) ≡ delimited_length 1 query
length-query_text None = refl
length-query_text (Some q) = omega (arith, length-append q [])

query-end-or-path-end : (path_end : ℕ) (query : Option (List ℕ)) → unwrap_or
    (option_map (λ q. path_end + 1 + length q) query) path_end ≡ path_end + delimited_length 1 query
query-end-or-path-end path_end None = omega arith
query-end-or-path-end path_end (Some q) = omega arith

-- splitting: what begins with `#` ends a scheme too
pub fragment-mark-is-component-mark : (text : List ℕ) → IsEmptyOrMarked (codes "#") text
    → IsEmptyOrMarked (codes ":/?#") text
fragment-mark-is-component-mark text begins =
    grind (arith, nat_tests, empty-or-marked-for-more-marks)

authority-after-scheme-is-slice : (text : List ℕ) (scheme : Option (List ℕ)) (a path
    suffix : List ℕ) → text ≡ scheme_text scheme ++ (marked_authority (Some a) ++ (path ++ suffix))
    → IsUtf8 text → IsAbemptyPath path → IsEmptyOrMarked (codes "?#") suffix → IsComponentAt text
    (delimited_length 1 scheme + 2) (delimited_length 1 scheme + 2 + length a) (Some a)
authority-after-scheme-is-slice text scheme a path suffix whole utf8 rooted begins =
    let prefix : List ℕ = scheme_text scheme ++ (47 ∷ []) in
    let joined : text ≡ prefix ++ (47 ∷ (a ++ (path ++ suffix))) =
    whole ∙ ap (λ t. scheme_text scheme ++ (47 ∷ 47 ∷ (t ++ (path ++ suffix)))) (append-nil a)
    ∙ sym (append_assoc (scheme_text scheme) (47 ∷ []) (47 ∷ (a ++ (path ++ suffix)))) in
    let n : delimited_length 1 scheme + 2 ≡ length prefix + 1 =
    omega (arith, length-append (scheme_text scheme) (47 ∷ []), length-scheme_text scheme) in
    component-between-marks-is-slice text prefix a (path ++ suffix) 47
    (delimited_length 1 scheme + 2) (delimited_length 1 scheme + 2 + length a) joined n refl
    (omega arith) utf8 (empty-or-marked-for-more-marks (codes "/?#") (codes ":/?#")
    (path ++ suffix) (λ c e. or_right _ _ e) (rooted-path-ends-authority path suffix rooted begins))

path-begins-at-boundary : (text : List ℕ) (scheme authority : Option (List ℕ)) (path suffix
    : List ℕ) → text ≡ scheme_text scheme ++ (marked_authority authority ++ (path ++ suffix))
    → IsUtf8 text → IfSome authority (λ a. IsAbemptyPath path) → IsEmptyOrMarked (codes "?#") suffix
    → IsCharBoundary text (delimited_length 1 scheme + delimited_length 2 authority)
path-begins-at-boundary text scheme (Some a) path suffix whole utf8 rooted begins =
    grind (arith, nat_tests, authority-after-scheme-is-slice)
path-begins-at-boundary text None None path suffix whole utf8 rooted begins =
    IsCharBoundary-start text utf8
path-begins-at-boundary text (Some s) None path suffix whole utf8 rooted begins =
    grind (arith, nat_tests, append_assoc, boundary_after_mark)

path-after-authority-is-slice : (text : List ℕ) (scheme authority : Option (List ℕ)) (path suffix
    : List ℕ) → text ≡ scheme_text scheme ++ (marked_authority authority ++ (path ++ suffix))
    → IsUtf8 text → IfSome authority (λ a. IsAbemptyPath path) → IsEmptyOrMarked (codes "?#") suffix
    → IsComponentAt text (delimited_length 1 scheme + delimited_length 2 authority)
    (delimited_length 1 scheme + delimited_length 2 authority + length path) (Some path)
path-after-authority-is-slice text scheme authority path suffix whole utf8 rooted begins =
    let start : ℕ = delimited_length 1 scheme + delimited_length 2 authority in
    let prefix : List ℕ = scheme_text scheme ++ marked_authority authority in
    let joined : text ≡ prefix ++ (path ++ suffix) = whole
    ∙ sym (append_assoc (scheme_text scheme) (marked_authority authority) (path ++ suffix)) in
    let n : start ≡ length prefix = omega (
      arith,
      length-append (scheme_text scheme) (marked_authority authority),
      length-scheme_text scheme,
      length-marked_authority authority,
    ) in
    component-before-mark-is-slice text prefix path suffix start (start + length path) joined n refl
    (path-begins-at-boundary text scheme authority path suffix whole utf8 rooted begins)
    (empty-or-marked-for-more-marks (codes "?#") (codes ":/?#") suffix
    (λ c e. or_right _ _ (or_right _ _ e)) begins)

-- positions: the text of a scheme, an authority and a path
abbrev pub hierarchy_text : Option (List ℕ) → Option (List ℕ) → List ℕ → List ℕ
hierarchy_text scheme authority path = (scheme_text scheme ++ marked_authority authority) ++ path

length-hierarchy_text : (scheme authority : Option (List ℕ)) (path : List ℕ)
    → length (hierarchy_text scheme authority path)
    ≡ delimited_length 1 scheme + delimited_length 2 authority + length path
length-hierarchy_text scheme authority path =
    grind (arith, length-append, length-scheme_text, length-marked_authority)

hierarchy-append : (scheme authority : Option (List ℕ)) (path suffix : List ℕ)
    → scheme_text scheme ++ (marked_authority authority ++ (path ++ suffix))
    ≡ hierarchy_text scheme authority path ++ suffix
hierarchy-append scheme authority path suffix = grind (arith, nat_tests, append_assoc)

query-after-path-is-slice : (text hierarchy q suffix : List ℕ) → text ≡ hierarchy
    ++ (marked (codes "?") (Some q) [] ++ suffix) → IsUtf8 text → IsEmptyOrMarked (codes "#") suffix
    → IsComponentAt text (length hierarchy + 1) (length hierarchy + 1 + length q) (Some q)
query-after-path-is-slice text hierarchy q suffix whole utf8 begins =
    let joined : text ≡ hierarchy ++ (63 ∷ (q ++ suffix)) = whole
    ∙ ap (λ t. hierarchy ++ (63 ∷ (t ++ suffix))) (append-nil q) in
    component-between-marks-is-slice text hierarchy q suffix 63 (length hierarchy + 1)
    (length hierarchy + 1 + length q) joined refl refl (omega arith) utf8
    (fragment-mark-is-component-mark suffix begins)

-- positions: a fragment after `#` is from there to the end of the text
fragment-after-all-else-is-slice : (text before f : List ℕ) → text
    ≡ before ++ fragment_text (Some f) → IsUtf8 text
    → IsComponentAt text (length before + 1) (length text) (Some f)
fragment-after-all-else-is-slice text before f whole utf8 =
    let n : length text ≡ length before + 1 + length f = omega (
      arith,
      ap length whole,
      length-append before (fragment_text (Some f)),
      length-append f [],
    ) in
    component-between-marks-is-slice text before f [] 35
    (length before + 1) (length text) whole refl n (omega arith) utf8 tt

pub authority-of-split-is-at-positions : (text : List ℕ) (scheme authority : Option
    (List ℕ)) (path : List ℕ) (query fragment : Option (List ℕ))
    → IsSplitOf text (components_of_parts scheme authority path query fragment) → IsUtf8 text
    → (let at = positions_of (components_of_parts scheme authority path query fragment) in
    IfSome at.authority (λ a. IsComponentAt text a.start a.end authority))
authority-of-split-is-at-positions text scheme None path query fragment split utf8 = tt
authority-of-split-is-at-positions text scheme (Some a) path query fragment split utf8 =
    authority-after-scheme-is-slice text scheme a path (query_text query fragment)
    (sym split.whole) utf8 split.authority.1 (IsEmptyOrMarked-query_text query fragment)

-- splitting: with an authority, the path is empty or begins with `/` (RFC 3986, section 3.3)
pub authority_has_abempty_path : (authority : Option (List ℕ)) (path : List ℕ)
    → IfSome authority (λ a. Lacks (codes "/?#") a × IsAbemptyPath path)
    → IfSome authority (λ a. IsAbemptyPath path)
authority_has_abempty_path None path some = tt
authority_has_abempty_path (Some a) path some = some.1

pub path-of-split-is-at-positions : (text : List ℕ) (p : Components) → IsSplitOf text p
    → IsUtf8 text
    → IsComponentAt text (positions_of p).path_start (positions_of p).path_end (Some p.path)
path-of-split-is-at-positions text p split utf8 =
    path-after-authority-is-slice text p.scheme p.authority p.path (query_text p.query p.fragment)
    (sym split.whole) utf8 (authority_has_abempty_path p.authority p.path split.authority)
    (IsEmptyOrMarked-query_text p.query p.fragment)

pub query-of-split-is-at-positions : (text : List ℕ) (scheme authority : Option
    (List ℕ)) (path : List ℕ) (query fragment : Option (List ℕ))
    → IsSplitOf text (components_of_parts scheme authority path query fragment) → IsUtf8 text
    → (let at = positions_of (components_of_parts scheme authority path query fragment) in
    IfSome at.query_end (λ end. IsComponentAt text (at.path_end + 1) end query))
query-of-split-is-at-positions text scheme authority path None fragment split utf8 = tt
query-of-split-is-at-positions text scheme authority path (Some q) fragment split utf8 =
    let hierarchy : List ℕ = hierarchy_text scheme authority path in
    let whole : text ≡ hierarchy ++ query_text (Some q) fragment = sym split.whole
    ∙ hierarchy-append scheme authority path (query_text (Some q) fragment) in
    let n = length-hierarchy_text scheme authority path in
    let Lies : ℕ → Type 0 = λ k. IsComponentAt text (k + 1) (k + 1 + length q) (Some q) in
    subst Lies n (query-after-path-is-slice text hierarchy q (fragment_text fragment) whole utf8
    (IsEmptyOrMarked-fragment_text fragment))

-- positions: the text up to a fragment's `#`
abbrev pub before_hash : Components → List ℕ
before_hash p = hierarchy_text p.scheme p.authority p.path ++ marked (codes "?") p.query []

-- positions: the text before the fragment and its `#` ends where the positions say
pub length-before_hash : (p : Components)
    → length (before_hash p) ≡ before_fragment (positions_of p)
length-before_hash p =
    let path_end : ℕ = delimited_length 1 p.scheme + delimited_length 2 p.authority
    + length p.path in
    let n : length (before_hash p) ≡ path_end + delimited_length 1 p.query = omega (
      arith,
      length-append (hierarchy_text p.scheme p.authority p.path) (marked (codes "?") p.query []),
      length-hierarchy_text p.scheme p.authority p.path,
      length-query_text p.query,
    ) in
    n ∙ sym (query-end-or-path-end path_end p.query)

pub recompose-before_hash : (p : Components)
    → recompose p ≡ before_hash p ++ fragment_text p.fragment
recompose-before_hash p =
    grind (arith, nat_tests, hierarchy-append, query_text, append_assoc, fragment_text)

-- splitting: a text is what is before its fragment, and the fragment with its `#`
pub split-text-is-before-fragment-and-fragment : (text : List ℕ) (p : Components) → IsSplitOf text p
    → text ≡ before_hash p ++ fragment_text p.fragment
split-text-is-before-fragment-and-fragment text p split = sym split.whole ∙ recompose-before_hash p

pub longer_than_before_fragment_if_some : (text before : List ℕ) (fragment : Option (List ℕ)) → text
    ≡ before ++ fragment_text fragment → nat_lt (length before) (length text) ≡ is_some fragment
longer_than_before_fragment_if_some text before None whole =
    le-ltb (length before) (length text) (omega (arith, ap length whole, length-append before []))
longer_than_before_fragment_if_some text before (Some f) whole = lt-ltb (length before)
    (length text) (omega (arith, ap length whole, length-append before (fragment_text (Some f))))

pub fragment-is-slice-to-end : (text before : List ℕ) (fragment : Option (List ℕ))
    → text ≡ before ++ fragment_text fragment → IsUtf8 text → length before < length text
    → IsComponentAt text (length before + 1) (length text) fragment
fragment-is-slice-to-end text before None whole utf8 less =
    absurd (omega (arith, ap length whole, length-append before []))
fragment-is-slice-to-end text before (Some f) whole utf8 less = fragment-after-all-else-is-slice
    text before f whole utf8
