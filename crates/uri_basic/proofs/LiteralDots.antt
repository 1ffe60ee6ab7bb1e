-- Which targets of the basic algorithm have a segment `.` or `..`: RFC 3986, sections 5.2.2, 5.2.4.
use Rattle.uri_basic.proofs.Common.{◌≡◌, ℕ, true, false, not, List, [], ◌∷◌, ◌++◌, refl, sym, ap, ◌∙◌, append_assoc, inl, ⊎_elim, rules, Ok, bytes_eq, codes, is_some, list_any, and_from, and_parts, both_ways, cases_Bool, cond_both, or_from, or_parts, append-nil, not_some_is_none, some_is_not_none, Components, components, recompose, before_last_slash, has_slash, last_segment, before_last_slash-of-slashless-is-empty, NoSlashes, first-segment-and-rest-lack-slashes, segments-of-joined-segments, slashed, has_literal_dot_segment, is_literal_dot_segment, takes_base_path, IsDirectoryOrNothing, after_segment, parent, remove_dot_segments, basic_resolution_of_texts, is_ambiguous, target}
use Rattle.uri_basic.proofs.DotSegments.{literal-dots-at-slash}
use Rattle.uri_basic.proofs.Kept.{property-of-path-by-segments, removal-by-segments, text-is-cut-at-last-slash}
use Rattle.uri_basic.proofs.Segments.{directory-after-segment, kept_of}
use Rattle.uri_basic.proofs.Targets.{basic-target-has-its-components, result-by-test}

no-literal-dot-before-last-slash : (t : List ℕ) → has_literal_dot_segment t ≡ false
    → has_literal_dot_segment (before_last_slash t) ≡ false
no-literal-dot-before-last-slash t e = ⊎_elim
    (λ h. (or_parts _ _ (sym (literal-dots-at-slash (before_last_slash t) (last_segment t))
    ∙ ap has_literal_dot_segment (sym (text-is-cut-at-last-slash t h)) ∙ e)).0)
    (λ h. ap has_literal_dot_segment (before_last_slash-of-slashless-is-empty t h))
    (cases_Bool (has_slash t))

-- removing dot segments: a text has no `.` and `..` with a `/` after it, if it has none
no-literal-dot-with-slash : (t : List ℕ) → has_literal_dot_segment t ≡ false
    → has_literal_dot_segment (t ++ codes "/") ≡ false
no-literal-dot-with-slash t e = literal-dots-at-slash t [] ∙ or_from _ _ e refl

no-literal-dot-in-parent : (kept : List ℕ) → has_literal_dot_segment kept ≡ false
    → has_literal_dot_segment (parent kept) ≡ false
unfolding parent
no-literal-dot-in-parent kept e =
    search (rules, cond_both, no-literal-dot-with-slash, no-literal-dot-before-last-slash)

no-literal-dot-after-directory : (kept t : List ℕ) → IsDirectoryOrNothing kept
    → has_literal_dot_segment kept ≡ false → has_literal_dot_segment t ≡ false
    → has_literal_dot_segment (kept ++ t) ≡ false
no-literal-dot-after-directory kept t closed e f =
    search (rules, append_assoc, literal-dots-at-slash, or_from, or_parts)

-- removing dot segments: a segment that is neither `.` nor `..` has none
no-literal-dot-in-other-segment : (s : List ℕ) → has_slash s ≡ false
    → bytes_eq s (codes ".") ≡ false → bytes_eq s (codes "..") ≡ false
    → has_literal_dot_segment s ≡ false
unfolding slashed
no-literal-dot-in-other-segment s lacks single double =
    ap has_literal_dot_segment (sym (append-nil s)) ∙ ap (list_any is_literal_dot_segment)
    (segments-of-joined-segments s [] (and_from _ _ (ap not lacks) refl))
    ∙ or_from _ _ (or_from _ _ single double) refl

no-literal-dot-after-segment : (kept s piece : List ℕ) → has_literal_dot_segment kept ≡ false
    → (bytes_eq s (codes ".") ≡ false → bytes_eq s (codes "..") ≡ false
    → has_literal_dot_segment (kept ++ piece) ≡ false)
    → has_literal_dot_segment (after_segment kept s piece) ≡ false
unfolding after_segment
no-literal-dot-after-segment kept s piece e more =
    search (rules, cond_both, no-literal-dot-in-parent)

no-literal-dot-is-kept : (kept s : List ℕ) (rest : List (List ℕ)) → IsDirectoryOrNothing kept
    → has_literal_dot_segment kept ≡ false → NoSlashes (s ∷ rest)
    → has_literal_dot_segment (kept_of kept s rest) ≡ false
unfolding kept_of
no-literal-dot-is-kept kept s [] closed e lack = no-literal-dot-after-segment kept s s e
    (λ single double. no-literal-dot-after-directory kept s closed e
    (no-literal-dot-in-other-segment s (first-segment-and-rest-lack-slashes s [] lack).0
    single double))
no-literal-dot-is-kept kept s (t ∷ rest) closed e lack =
    let g = first-segment-and-rest-lack-slashes s (t ∷ rest) lack in
    no-literal-dot-is-kept (after_segment kept s (s ++ codes "/")) t rest
    (directory-after-segment kept s closed)
    (no-literal-dot-after-segment kept s (s ++ codes "/") e
    (λ single double. no-literal-dot-after-directory kept (s ++ codes "/") closed e
    (no-literal-dot-with-slash s (no-literal-dot-in-other-segment s g.0 single double))))
    g.1

removal-leaves-no-literal-dot : (path : List ℕ)
    → has_literal_dot_segment (remove_dot_segments path) ≡ false
removal-leaves-no-literal-dot = property-of-path-by-segments
    (λ path. has_literal_dot_segment (remove_dot_segments path) ≡ false)
    (λ s rest lack. ap has_literal_dot_segment (removal-by-segments s rest lack)
    ∙ no-literal-dot-is-kept [] s rest (inl refl) refl lack)

-- targets: one has no segment `.` or `..`, unless its path is the base's
target-has-no-literal-dot : (base r : Components) → takes_base_path r ≡ false
    → has_literal_dot_segment (target base r).path ≡ false
target-has-no-literal-dot base r own =
    search (rules, cond_both, removal-leaves-no-literal-dot, both_ways, and_from, not_some_is_none)

-- targets: with a reference that takes the base's path, the target has it
target-has-taken-path : (base r : Components) → takes_base_path r ≡ true
    → (target base r).path ≡ base.path
target-has-taken-path base r takes =
    search (rules, and_parts, cond_both, both_ways, some_is_not_none)

pub target-with-literal-dot-has-base-path : (base target reference : List ℕ)
    → is_some (components base).scheme ≡ true → basic_resolution_of_texts base reference ≡ Ok target
    → has_literal_dot_segment (components target).path ≡ true
    → (takes_base_path (components reference) ≡ true)
    × ((components target).path ≡ (components base).path)
target-with-literal-dot-has-base-path base text reference some e literal =
    let b = components base in
    let r = components reference in
    let f = result-by-test (is_ambiguous (target b r)) (recompose (target b r)) text e in
    let same : (components text).path ≡ (target b r).path =
    cc (basic-target-has-its-components base reference some f.0) in
    let takes : takes_base_path r ≡ true = ⊎_elim (λ h. h)
    (λ h. absurd (both_ways _ (ap has_literal_dot_segment same ∙ target-has-no-literal-dot b r h)
    literal))
    (cases_Bool (takes_base_path r)) in
    (takes, same ∙ target-has-taken-path b r takes)
