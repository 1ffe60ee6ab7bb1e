-- Whether a path has dot segments with percent-encoded dots, or without: RFC 3986, section 3.3.
use Rattle.uri_basic.proofs.Common.{◌≡◌, ℕ, Bool, true, false, not, List, [], ◌∷◌, ◌++◌, ◌&&◌, refl, sym, ap, ◌∙◌, ◌||◌, drop, rules, codes, list_all, list_any, and_left, and_parts, not-true, or_from, or_parts, list_any-append, IsAbsolute, directory, is_dot_segment, lacks_dot_segments, segments, up_to_last_slash, appended-segments-lack-slashes, path-after-slash-appends-its-segments, property-of-absolute-path-by-segments, segments-of-dotless-path-are-dotless, AllPass, is_dotless, pop, popped-segments-pass-test, before_last_slash-of-slashed-is-popped, lacks_slash, segments-of-slashed-segments, segments-of-text-lack-slashes, slashed, slashed-of-append, slashed-of-push, slashed-of-segments-is-text-after-slash, has_encoded_dot_segment, has_literal_dot_segment, is_literal_dot_segment}
use Rattle.uri_relative.proofs.Offered.{directory-of-dotless-segments}

-- dot segments: a segment is one, and a dot of it is percent-encoded
abbrev is_encoded : List ℕ → Bool
is_encoded s = is_dot_segment s && not (is_literal_dot_segment s)

-- paths: two texts with a `/` between them have the segments of both
segments-at-slash : (x y : List ℕ) → segments (x ++ 47 ∷ y) ≡ segments x ++ segments y
segments-at-slash x y =
    let one = slashed-of-segments-is-text-after-slash x in
    let other = slashed-of-segments-is-text-after-slash y in
    let whole : (47 ∷ x) ++ (47 ∷ y) ≡ slashed (segments x ++ segments y) =
    sym (slashed-of-append (segments x) (segments y) ∙ (λ i. one i ++ other i)) in
    ap (drop 1) (ap segments whole ∙ segments-of-slashed-segments (segments x ++ segments y)
    (appended-segments-lack-slashes (segments x) y (segments-of-text-lack-slashes x)))

-- paths: a segment of two texts with a `/` between them passes a test if one of them has such
passing-segment-at-slash : (p : List ℕ → Bool) (x y : List ℕ)
    → list_any p (segments (x ++ 47 ∷ y)) ≡ (list_any p (segments x) || list_any p (segments y))
passing-segment-at-slash p x y =
    ap (list_any p) (segments-at-slash x y) ∙ list_any-append p (segments x) (segments y)

-- dot segments: two paths with a `/` between them have an encoded one if one of them has
pub encoded-dots-at-slash : (x y : List ℕ) → has_encoded_dot_segment (x ++ 47 ∷ y)
    ≡ (has_encoded_dot_segment x || has_encoded_dot_segment y)
encoded-dots-at-slash = passing-segment-at-slash is_encoded

-- dot segments: two paths with a `/` between them have a `.` or `..` if one of them has
pub literal-dots-at-slash : (x y : List ℕ) → has_literal_dot_segment (x ++ 47 ∷ y)
    ≡ (has_literal_dot_segment x || has_literal_dot_segment y)
literal-dots-at-slash = passing-segment-at-slash is_literal_dot_segment

dotless-segments-have-no-encoded-dot : (xs : List (List ℕ)) → AllPass is_dotless xs
    → list_any is_encoded xs ≡ false
dotless-segments-have-no-encoded-dot [] e = refl
dotless-segments-have-no-encoded-dot (s ∷ xs) e =
    let f = and_parts (is_dotless s) (list_all is_dotless xs) e in
    or_from _ _ (and_left (is_dot_segment s) _ (not-true _ f.0))
    (dotless-segments-have-no-encoded-dot xs f.1)

pub dotless-path-has-no-encoded-dot : (path : List ℕ) → lacks_dot_segments path ≡ true
    → has_encoded_dot_segment path ≡ false
dotless-path-has-no-encoded-dot path e = dotless-segments-have-no-encoded-dot (segments path) e

-- dot segments: a segment that is none is neither `.` nor `..`
dotless-segment-is-not-literal : (s : List ℕ) → is_dot_segment s ≡ false
    → is_literal_dot_segment s ≡ false
dotless-segment-is-not-literal s e = search (rules, or_parts, or_from)

-- dot segments: segments that are none are neither `.` nor `..`
dotless-segments-are-not-literal : (xs : List (List ℕ)) → AllPass is_dotless xs
    → list_any is_literal_dot_segment xs ≡ false
dotless-segments-are-not-literal [] e = refl
dotless-segments-are-not-literal (s ∷ xs) e =
    let f = and_parts (is_dotless s) (list_all is_dotless xs) e in
    or_from _ _ (dotless-segment-is-not-literal s (not-true _ f.0))
    (dotless-segments-are-not-literal xs f.1)

pub dotless-path-has-no-literal-dot : (path : List ℕ) → lacks_dot_segments path ≡ true
    → has_literal_dot_segment path ≡ false
dotless-path-has-no-literal-dot path e = dotless-segments-are-not-literal (segments path) e

-- dot segments: a path has no encoded one after the directory of a path without dot segments, if it
-- has none itself
pub encoded-dots-after-directory : (base way : List ℕ) → IsAbsolute base
    → lacks_dot_segments base ≡ true → has_encoded_dot_segment way ≡ false
    → has_encoded_dot_segment (directory base ++ way) ≡ false
encoded-dots-after-directory base way h dotless e = property-of-absolute-path-by-segments
    (λ p. lacks_dot_segments p ≡ true → has_encoded_dot_segment (directory p ++ way) ≡ false)
    (λ s rest lack d.
    let xs = pop (s ∷ rest) in
    let pass = segments-of-dotless-path-are-dotless (s ∷ rest) lack d in
    ap (λ t. has_encoded_dot_segment (t ++ way)) (directory-of-dotless-segments s rest lack pass)
    ∙ ap has_encoded_dot_segment (path-after-slash-appends-its-segments xs way)
    ∙ ap (list_any is_encoded) (segments-of-slashed-segments (xs ++ segments way)
    (appended-segments-lack-slashes xs way (popped-segments-pass-test lacks_slash (s ∷ rest) lack)))
    ∙ list_any-append is_encoded xs (segments way)
    ∙ or_from _ _ (dotless-segments-have-no-encoded-dot xs
    (popped-segments-pass-test is_dotless (s ∷ rest) pass)) e)
    base h dotless

pub directory-of-dotless-path-is-up-to-last-slash : (base : List ℕ) → IsAbsolute base
    → lacks_dot_segments base ≡ true → up_to_last_slash base ≡ directory base
unfolding slashed
directory-of-dotless-path-is-up-to-last-slash = property-of-absolute-path-by-segments
    (λ p. lacks_dot_segments p ≡ true → up_to_last_slash p ≡ directory p)
    (λ s rest lack d.
    ap (λ t. t ++ codes "/") (before_last_slash-of-slashed-is-popped (s ∷ rest) lack)
    ∙ sym (slashed-of-push (pop (s ∷ rest)) [])
    ∙ sym (directory-of-dotless-segments s rest lack
    (segments-of-dotless-path-are-dotless (s ∷ rest) lack d)))
