-- Where removing dot segments of section 5.2.4 is removing those of `Resolver`, or changes nothing.
use Rattle.uri_basic.proofs.Common.{◌≡◌, ℕ, false, not, List, [], ◌∷◌, ◌++◌, refl, sym, ap, ◌∙◌, ◌&&◌, append_assoc, rules, bytes_eq, codes, list_any, not_from_false, or_parts, append-nil, IsAbsolute, is_dot_segment, is_double_dot, is_single_dot, property-of-absolute-path-by-segments, closing, dotless_of, end_of, next_output, pop, step_of, next_output-passes-test, steps, NoSlashes, before_last_slash-of-slashed-is-popped, first-segment-and-rest-lack-slashes, lacks_slash, remove-dots-by-segments, segments-of-joined-segments, slashed, segments-of-slashed-segments, slashed-of-push, has_encoded_dot_segment, has_literal_dot_segment, is_literal_dot_segment, after_segment, remove_dot_segments}
use Rattle.uri_ops.specs.Dots as Dots
use Rattle.uri_basic.proofs.Kept.{property-of-path-by-segments, removal-by-segments, root-is-kept}
use Rattle.uri_basic.proofs.Segments.{after-segment-by-test, kept_of, parent-of-directory}

segment-leaves : (out : List (List ℕ)) (s : List ℕ)
    → (step_of out (codes ".") ≡ out) × (step_of out (codes "..") ≡ pop out)
    × (is_dot_segment s ≡ false → step_of out s ≡ out ++ s ∷ [])
unfolding step_of next_output
segment-leaves out s = search (rules, or_parts, next_output)

-- dot segments: a directory after a segment and its `/` is that of the segments that are left
directory-by-segments : (out : List (List ℕ)) (s : List ℕ) → NoSlashes out
    → (is_dot_segment s && not (is_literal_dot_segment s)) ≡ false
    → after_segment (slashed out ++ codes "/") s (s ++ codes "/")
    ≡ slashed (step_of out s) ++ codes "/"
directory-by-segments out s lack literal =
    grind (
      after-segment-by-test,
      segment-leaves,
      parent-of-directory,
      before_last_slash-of-slashed-is-popped,
      rules,
      append_assoc,
      slashed-of-push,
    )

path-by-segments : (out : List (List ℕ)) (s : List ℕ) → NoSlashes out
    → (is_dot_segment s && not (is_literal_dot_segment s)) ≡ false
    → after_segment (slashed out ++ codes "/") s s
    ≡ slashed (step_of out s ++ end_of (is_dot_segment s))
path-by-segments out s lack literal =
    grind (
      after-segment-by-test,
      segment-leaves,
      rules,
      slashed-of-push,
      parent-of-directory,
      before_last_slash-of-slashed-is-popped,
      append_assoc,
    )

-- dot segments: what is kept is what `Resolver` leaves of segments without an encoded dot segment
kept-is-what-is-left : (out : List (List ℕ)) (s : List ℕ) (rest : List (List ℕ)) → NoSlashes out
    → NoSlashes (s ∷ rest)
    → list_any (λ t. is_dot_segment t && not (is_literal_dot_segment t)) (s ∷ rest) ≡ false
    → kept_of (slashed out ++ codes "/") s rest
    ≡ slashed (steps out (s ∷ rest) ++ closing (s ∷ rest))
unfolding kept_of steps closing step_of
kept-is-what-is-left out s [] lack segs literal =
    path-by-segments out s lack (or_parts _ false literal).0
kept-is-what-is-left out s (t ∷ rest) lack segs literal =
    let l = or_parts (is_dot_segment s && not (is_literal_dot_segment s)) _ literal in
    let g = first-segment-and-rest-lack-slashes s (t ∷ rest) segs in
    ap (λ k. kept_of k t rest) (directory-by-segments out s lack l.0)
    ∙ kept-is-what-is-left (step_of out s) t rest
    (next_output-passes-test lacks_slash (is_single_dot s) (is_double_dot s) out s lack
    (λ d. not_from_false _ g.0)) g.1 l.1

-- removing dot segments: section 5.2.4 leaves of segments what `Resolver` leaves
same-removal-of-segments : (s : List ℕ) (rest : List (List ℕ)) → NoSlashes (s ∷ rest)
    → has_encoded_dot_segment (slashed (s ∷ rest)) ≡ false
    → Dots.remove_dot_segments (slashed (s ∷ rest)) ≡ remove_dot_segments (slashed (s ∷ rest))
unfolding slashed dotless_of
same-removal-of-segments s rest lack literal =
    let test = λ (t : List ℕ). is_dot_segment t && not (is_literal_dot_segment t) in
    remove-dots-by-segments (s ∷ rest) lack ∙ sym (removal-by-segments [] (s ∷ rest) lack
    ∙ root-is-kept s rest ∙ kept-is-what-is-left [] s rest refl lack
    (ap (list_any test) (sym (segments-of-slashed-segments (s ∷ rest) lack)) ∙ literal))

-- removing dot segments: a path that begins with `/` and has no encoded dot segment
pub same-removal : (path : List ℕ) → IsAbsolute path → has_encoded_dot_segment path ≡ false
    → Dots.remove_dot_segments path ≡ remove_dot_segments path
same-removal = property-of-absolute-path-by-segments
    (λ path. has_encoded_dot_segment path ≡ false
    → Dots.remove_dot_segments path ≡ remove_dot_segments path) same-removal-of-segments

kept-segments-stay : (kept s : List ℕ) (rest : List (List ℕ))
    → list_any is_literal_dot_segment (s ∷ rest) ≡ false
    → kept_of kept s rest ≡ kept ++ (s ++ slashed rest)
unfolding kept_of slashed
kept-segments-stay kept s [] e =
    let f = or_parts (bytes_eq s (codes ".")) _ (or_parts _ false e).0 in
    (after-segment-by-test kept s s).2 f.0 f.1 ∙ ap (λ t. kept ++ t) (sym (append-nil s))
kept-segments-stay kept s (t ∷ rest) e =
    let p = or_parts (is_literal_dot_segment s) _ e in
    let f = or_parts (bytes_eq s (codes ".")) _ p.0 in
    ap (λ k. kept_of k t rest) ((after-segment-by-test kept s (s ++ codes "/")).2 f.0 f.1)
    ∙ kept-segments-stay (kept ++ (s ++ codes "/")) t rest p.1
    ∙ append_assoc kept (s ++ codes "/") (t ++ slashed rest)
    ∙ ap (λ r. kept ++ r) (append_assoc s (codes "/") (t ++ slashed rest))

pub removal-of-path-without-dots : (path : List ℕ) → has_literal_dot_segment path ≡ false
    → remove_dot_segments path ≡ path
removal-of-path-without-dots = property-of-path-by-segments
    (λ path. has_literal_dot_segment path ≡ false → remove_dot_segments path ≡ path)
    (search (rules, removal-by-segments, kept-segments-stay, segments-of-joined-segments))
