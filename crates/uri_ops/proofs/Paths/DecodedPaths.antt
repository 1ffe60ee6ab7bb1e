-- The decoded form of a path, as printed: its segments, and its dot segments, which may be removed
-- before or after decoding.
use Rattle.uri_ops.proofs.Common.{◌≡◌, ℕ, true, false, List, [], ◌∷◌, ◌++◌, map, refl, sym, ap, subst, ◌∙◌, arith, lit<, list_all, IsUtf8, IsUtf8-append, IsUtf8-nil, IsUtf8-encode, encode_ascii, low_scalar, append-nil, map-append, and_parts, and_from, not_from_false, TableSet, LacksPercent, IsSubset, unreserved_set, allows, is_valid_for, IsAbemptyPath, utf8_around_ascii_byte, has_slash, remove_dot_segments, underflows, directory, IsAbsolute, print_decoded}
use Rattle.uri_ops.proofs.Paths.Segments.{dotless_of, parent, AllPass, appended-segments-pass-test, dotless_of-pass-test}
use Rattle.uri_ops.proofs.Paths.SlashedSegments.{slashed, NoSlashes, first-segment-and-rest-lack-slashes, remove-dots-by-segments, underflows-by-segments, directory-by-segments, parent-segments-pass-test}
use Rattle.uri_ops.proofs.Paths.DotLaws.{property-of-absolute-path-by-segments, rooted}
use Rattle.uri_ops.proofs.Meanings.AllowedParts.{is_set_text, set-text-from-utf8, set-text-is-utf8, set-text-is-valid, empty-text-is-set-text, print_decoded-of-nil-is-nil, decoded-text-is-utf8, decoding-keeps-decoded-bytes, decoding-splits-at-slash, validity-splits-at-slash}
use Rattle.uri_ops.proofs.Paths.DotBytes.{single-dot-by-decoded-bytes, double-dot-by-decoded-bytes}
use Rattle.uri_ops.proofs.Meanings.Lacking.{decoding-adds-no-reserved}
use Rattle.uri_ops.proofs.Paths.SegmentMaps.{KeepsDots, dotless_of-and-map-swap, parent-and-map-swap, underflows_over-of-mapped-segments}

-- paths: two texts in UTF-8 with a `/` (47) between them are UTF-8
pub utf8-joined-at-slash-is-utf8 : (x y : List ℕ) → IsUtf8 x → IsUtf8 y → IsUtf8 (x ++ 47 ∷ y)
utf8-joined-at-slash-is-utf8 x y u v = IsUtf8-append x (47 ∷ y) u
    (subst IsUtf8 (ap (λ t. t ++ y) (encode_ascii 47 (lit< tt)))
    (IsUtf8-append _ y (IsUtf8-encode 47 (low_scalar 47 (omega arith))) v))

-- paths: if a text with a `/` (47) is valid for a set, so are both sides
pub set-text-splits : (set : TableSet) (x y : List ℕ) → is_set_text set (x ++ 47 ∷ y) ≡ true
    → (is_set_text set x ≡ true) × (is_set_text set y ≡ true)
set-text-splits set x y e =
    let u = set-text-is-utf8 set (x ++ 47 ∷ y) e in
    let v = utf8_around_ascii_byte x 47 y (lit< tt) u in
    let p = and_parts (is_valid_for set x) _
    (sym (validity-splits-at-slash set x y v.0) ∙ set-text-is-valid set (x ++ 47 ∷ y) e) in (
      set-text-from-utf8 set x v.0 p.0,
      set-text-from-utf8 set y v.1 (and_parts (allows set 47) (is_valid_for set y) p.1).1,
    )

-- paths: two valid texts with a `/` (47) between them are valid for a set that has `/`
pub set-texts-join-at-slash : (set : TableSet) → set.ascii 47 ≡ true → (x y : List ℕ)
    → is_set_text set x ≡ true → is_set_text set y ≡ true → is_set_text set (x ++ 47 ∷ y) ≡ true
set-texts-join-at-slash set slash x y e f =
    grind (
      arith,
      set-text-is-utf8,
      set-text-from-utf8,
      utf8-joined-at-slash-is-utf8,
      validity-splits-at-slash,
      set-text-is-valid,
    )

-- paths: the segments of a valid text are valid
pub joined-segments-of-set-text-are-set-texts : (set : TableSet) (s : List ℕ) (rest : List (List ℕ))
    → is_set_text set (s ++ slashed rest) ≡ true → AllPass (is_set_text set) (s ∷ rest)
unfolding slashed
joined-segments-of-set-text-are-set-texts set s [] e = and_from _ _
    (ap (is_set_text set) (sym (append-nil s)) ∙ e) refl
joined-segments-of-set-text-are-set-texts set s (t ∷ rest) e = let p = set-text-splits set s
    (t ++ slashed rest) e in
    and_from _ _ p.0 (joined-segments-of-set-text-are-set-texts set t rest p.1)

-- paths: the segments of a valid path that begins with `/` are valid
segments-of-set-text-are-set-texts : (set : TableSet) (segs : List (List ℕ))
    → is_set_text set (slashed segs) ≡ true → AllPass (is_set_text set) segs
unfolding slashed
segments-of-set-text-are-set-texts set [] e = refl
segments-of-set-text-are-set-texts set (s ∷ rest) e = joined-segments-of-set-text-are-set-texts
    set s rest (set-text-splits set [] (s ++ slashed rest) e).1

-- paths: a valid segment, and others each after a `/` (47), are a valid text
joined-set-texts-are-set-text : (set : TableSet) → set.ascii 47 ≡ true → (s : List ℕ) (rest : List
    (List ℕ)) → AllPass (is_set_text set) (s ∷ rest) → is_set_text set (s ++ slashed rest) ≡ true
unfolding slashed
joined-set-texts-are-set-text set slash s [] e = ap (is_set_text set) (append-nil s)
    ∙ (and_parts (is_set_text set s) true e).0
joined-set-texts-are-set-text set slash s (t ∷ rest) e =
    let p = and_parts (is_set_text set s) (list_all (is_set_text set) (t ∷ rest)) e in
    set-texts-join-at-slash set slash s (t ++ slashed rest) p.0
    (joined-set-texts-are-set-text set slash t rest p.1)

-- paths: valid segments, each after a `/` (47), are a valid text
slashed-set-texts-are-set-text : (set : TableSet) → set.ascii 47 ≡ true → (segs : List (List ℕ))
    → AllPass (is_set_text set) segs → is_set_text set (slashed segs) ≡ true
unfolding slashed
slashed-set-texts-are-set-text set slash [] e = empty-text-is-set-text set
slashed-set-texts-are-set-text set slash (s ∷ rest) e = set-texts-join-at-slash set slash [] (s
    ++ slashed rest) (empty-text-is-set-text set) (joined-set-texts-are-set-text set slash s rest e)

decoding-joined-segments-is-by-segment : (set : TableSet) (s : List ℕ) (rest : List (List ℕ))
    → AllPass (is_set_text set) (s ∷ rest) → print_decoded set (s ++ slashed rest)
    ≡ print_decoded set s ++ slashed (map (print_decoded set) rest)
unfolding slashed
decoding-joined-segments-is-by-segment set s [] e = ap (print_decoded set) (append-nil s)
    ∙ sym (append-nil (print_decoded set s))
decoding-joined-segments-is-by-segment set s (t ∷ rest) e =
    let p = and_parts (is_set_text set s) (list_all (is_set_text set) (t ∷ rest)) e in
    decoding-splits-at-slash set s (t ++ slashed rest) (set-text-is-utf8 set s p.0) ∙ ap
    (λ x. print_decoded set s ++ 47 ∷ x) (decoding-joined-segments-is-by-segment set t rest p.1)

-- decoded paths: decoding leaves a `/` (47) at the start
pub decoding-keeps-first-slash : (set : TableSet) (y : List ℕ) → print_decoded set (47 ∷ y)
    ≡ 47 ∷ print_decoded set y
decoding-keeps-first-slash set y = decoding-splits-at-slash set [] y IsUtf8-nil
    ∙ ap (λ x. x ++ 47 ∷ print_decoded set y) (print_decoded-of-nil-is-nil set)

decoding-slashed-segments-is-by-segment : (set : TableSet) (segs : List (List ℕ))
    → AllPass (is_set_text set) segs
    → print_decoded set (slashed segs) ≡ slashed (map (print_decoded set) segs)
unfolding slashed
decoding-slashed-segments-is-by-segment set [] e = print_decoded-of-nil-is-nil set
decoding-slashed-segments-is-by-segment set (s ∷ rest) e = decoding-keeps-first-slash set (s
    ++ slashed rest) ∙ ap (λ x. 47 ∷ x) (decoding-joined-segments-is-by-segment set s rest e)

module _ (set : TableSet) (lacks : LacksPercent set) (wide : IsSubset unreserved_set set) where
  pub decoding-keeps-dot-segments : (s : List ℕ) → is_set_text set s ≡ true
      → KeepsDots (print_decoded set) s
  decoding-keeps-dot-segments s e =
      grind (
        arith,
        decoded-text-is-utf8,
        decoding-keeps-decoded-bytes,
        single-dot-by-decoded-bytes,
        set-text-is-utf8,
        double-dot-by-decoded-bytes,
      )

  pub decoding-adds-no-slash : (s : List ℕ) → is_set_text set s ≡ true → has_slash s ≡ false
      → has_slash (print_decoded set s) ≡ false
  decoding-adds-no-slash s e f = decoding-adds-no-reserved 47 set lacks wide refl refl s e f

  decoded-segments-lack-slashes : (segs : List (List ℕ))
      → AllPass (is_set_text set) segs → NoSlashes segs → NoSlashes (map (print_decoded set) segs)
  decoded-segments-lack-slashes [] e f = refl
  decoded-segments-lack-slashes (s ∷ rest) e f =
      let p = and_parts (is_set_text set s) (list_all (is_set_text set) rest) e in
      let q = first-segment-and-rest-lack-slashes s rest f in
      and_from _ _ (not_from_false _ (decoding-adds-no-slash s p.0 q.0))
      (decoded-segments-lack-slashes rest p.1 q.1)

  -- the segments of what is left
  dotless_of-set-texts-are-set-texts : (segs : List (List ℕ)) → AllPass (is_set_text set) segs
      → AllPass (is_set_text set) (dotless_of segs)
  dotless_of-set-texts-are-set-texts segs e = dotless_of-pass-test
      (is_set_text set) (is_set_text set) (λ s h d. h) (empty-text-is-set-text set) segs e

  -- dot segments may be removed before or after decoding
  pub removing-dots-and-decoding-swap : (path : List ℕ) → IsAbsolute path
      → is_set_text set path ≡ true
      → remove_dot_segments (print_decoded set path) ≡ print_decoded set (remove_dot_segments path)
  removing-dots-and-decoding-swap = property-of-absolute-path-by-segments
      (λ path. is_set_text set path ≡ true → remove_dot_segments (print_decoded set path)
      ≡ print_decoded set (remove_dot_segments path)) (λ s rest f e.
      let p = segments-of-set-text-are-set-texts set (s ∷ rest) e in
      ap remove_dot_segments (decoding-slashed-segments-is-by-segment set (s ∷ rest) p)
      ∙ remove-dots-by-segments (map (print_decoded set) (s ∷ rest)) (decoded-segments-lack-slashes
      (s ∷ rest) p f) ∙ ap slashed (dotless_of-and-map-swap (print_decoded set)
      (is_set_text set) decoding-keeps-dot-segments (print_decoded-of-nil-is-nil set) (s ∷ rest) p)
      ∙ sym (decoding-slashed-segments-is-by-segment set
      (dotless_of (s ∷ rest)) (dotless_of-set-texts-are-set-texts (s ∷ rest) p))
      ∙ sym (ap (print_decoded set) (remove-dots-by-segments (s ∷ rest) f)))

  -- decoding changes no underflow
  pub decoding-keeps-underflow : (path : List ℕ) → IsAbsolute path → is_set_text set path ≡ true
      → underflows (print_decoded set path) ≡ underflows path
  decoding-keeps-underflow = property-of-absolute-path-by-segments (λ path. is_set_text set path
      ≡ true → underflows (print_decoded set path) ≡ underflows path) (λ s rest f e.
      let p = segments-of-set-text-are-set-texts set (s ∷ rest) e in
      ap underflows (decoding-slashed-segments-is-by-segment set (s ∷ rest) p)
      ∙ underflows-by-segments (map (print_decoded set) (s ∷ rest))
      (decoded-segments-lack-slashes (s ∷ rest) p f) ∙ underflows_over-of-mapped-segments
      (print_decoded set) (is_set_text set) decoding-keeps-dot-segments false [] (s ∷ rest) p
      ∙ sym (underflows-by-segments (s ∷ rest) f))

  pub dotless-set-text-is-set-text : set.ascii 47 ≡ true → (path : List ℕ) → IsAbsolute path
      → is_set_text set path ≡ true → is_set_text set (remove_dot_segments path) ≡ true
  dotless-set-text-is-set-text slash = property-of-absolute-path-by-segments
      (λ path. is_set_text set path ≡ true → is_set_text set (remove_dot_segments path) ≡ true)
      (λ s rest f e. ap (is_set_text set) (remove-dots-by-segments (s ∷ rest) f)
      ∙ slashed-set-texts-are-set-text set slash
      (dotless_of (s ∷ rest)) (dotless_of-set-texts-are-set-texts (s ∷ rest)
      (segments-of-set-text-are-set-texts set (s ∷ rest) e)))

  parent-of-set-texts-are-set-texts : (s : List ℕ) (rest : List (List ℕ))
      → AllPass (is_set_text set) (s ∷ rest)
      → AllPass (is_set_text set) (parent (s ∷ rest) ++ [] ∷ [])
  parent-of-set-texts-are-set-texts s rest e =
      grind (arith, appended-segments-pass-test, parent-segments-pass-test, empty-text-is-set-text)

  -- nor does it matter to a directory
  pub directory-of-set-text-is-set-text : set.ascii 47 ≡ true → (path : List ℕ) → IsAbemptyPath path
      → is_set_text set path ≡ true → is_set_text set (directory path) ≡ true
  unfolding directory
  directory-of-set-text-is-set-text slash = rooted (λ path. is_set_text set path ≡ true
      → is_set_text set (directory path) ≡ true) (λ e. set-texts-join-at-slash set slash [] []
      (empty-text-is-set-text set) (empty-text-is-set-text set))
      (property-of-absolute-path-by-segments (λ path. is_set_text set path ≡ true
      → is_set_text set (directory path) ≡ true) (λ s rest f e. ap (is_set_text set)
      (directory-by-segments s rest f) ∙ slashed-set-texts-are-set-text set slash (parent (s ∷ rest)
      ++ [] ∷ []) (parent-of-set-texts-are-set-texts s rest
      (segments-of-set-text-are-set-texts set (s ∷ rest) e))))

  pub directory-and-decoding-swap : (path : List ℕ) → IsAbemptyPath path → is_set_text set path
      ≡ true → directory (print_decoded set path) ≡ print_decoded set (directory path)
  unfolding directory
  directory-and-decoding-swap = rooted (λ path. is_set_text set path ≡ true
      → directory (print_decoded set path) ≡ print_decoded set (directory path))
      (λ e. ap directory (print_decoded-of-nil-is-nil set) ∙ sym (decoding-keeps-first-slash set []
      ∙ ap (λ x. 47 ∷ x) (print_decoded-of-nil-is-nil set)))
      (property-of-absolute-path-by-segments (λ path. is_set_text set path ≡ true
      → directory (print_decoded set path) ≡ print_decoded set (directory path)) (λ s rest f e.
      let p = segments-of-set-text-are-set-texts set (s ∷ rest) e in
      ap directory (decoding-slashed-segments-is-by-segment set (s ∷ rest) p)
      ∙ directory-by-segments (print_decoded set s)
      (map (print_decoded set) rest) (decoded-segments-lack-slashes (s ∷ rest) p f)
      ∙ ap (λ t. slashed (t ++ [] ∷ [])) (parent-and-map-swap (print_decoded set)
      (is_set_text set) decoding-keeps-dot-segments (s ∷ rest) p)
      ∙ ap (λ t. slashed (map (print_decoded set) (parent (s ∷ rest)) ++ t ∷ []))
      (sym (print_decoded-of-nil-is-nil set))
      ∙ ap slashed (sym (map-append (print_decoded set) (parent (s ∷ rest)) ([] ∷ [])))
      ∙ sym (decoding-slashed-segments-is-by-segment set
      (parent (s ∷ rest) ++ [] ∷ []) (parent-of-set-texts-are-set-texts s rest p))
      ∙ sym (ap (print_decoded set) (directory-by-segments s rest f))))
