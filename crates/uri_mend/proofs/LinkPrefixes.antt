-- A text whose prefix shows where its path begins: the prefix has its scheme and its authority.
use Rattle.std.proofs.lemmas.Grind.{common_steps}
use Rattle.uri_mend.proofs.Common.{◌≡◌, ℕ, ◌+◌, ◌-◌, ◌<◌, ◌≤◌, Bool, true, false, not, List, [], ◌∷◌, ◌++◌, ◌||◌, ◌&&◌, length, take, drop, refl, sym, ap, subst, ◌∙◌, arith, ⊎_elim, length-append, list_any, codes, IfSome, None, Option, Some, is_some, IsCharBoundary, IsUtf8, drop-append_seam, take-append_seam, both_ways, cases_Bool, cond-true, cond-false, drop-append-le, length-take-le, IsCharBoundary-at_seam, is_one_of, Components, components, after_authority, after_scheme, before_any, from_any, has_authority, has_scheme, marked, recompose, starts, when, Kind, IsOfKind, is_scheme, ArePackedPositionsOf, packed, before_any-at-mark, before_any-past-other, from_any-at-mark, from_any-past-other, only-split-is-components, before_path, IsLink, with_ends_at, can_be_mended, has_false_scheme, link_components, IsMendedByPieces, IsPathMendedByPieces, dot_segment_if, mended_path, mended_tail, query_of_tail, Link}
use Rattle.uri_parts.specs.Positions.{positions_of}
use Rattle.uri_parts.specs.declared.packed_positions.PackedPositions.{PackedPositions}
use Rattle.uri_parts.proofs.Offered.{utf8_after_scheme, utf8_after_authority}
use Rattle.uri_mend.proofs.LinkComponents.{link-components-without-false-scheme}
use Rattle.uri_mend.proofs.LinkPieces.{path-without-false-scheme, prefix-without-false-scheme, query-without-false-scheme, text-is-cut-before-path, text-without-false-scheme-is-mended}
use Rattle.uri_mend.proofs.MendedPositions.{length-before-path}
use Rattle.uri_mend.proofs.MendedReferences.{link-components-are-mendable}
use Rattle.uri_mend.proofs.Unchanged.{prefix_components, prefix-components-are-split, prefix-components-are-text-before-path, no_text_of_kind_has_rejected_scheme_and_authority}

-- prefixes: the text is not empty
abbrev pub is_some_text : List ℕ → Bool
is_some_text [] = false
is_some_text (c ∷ rest) = true

-- prefixes: a text that has one of the marks is cut there, whatever follows it
record IsCutAlike (marks p s : List ℕ) : Type 0 where
  before : before_any marks (p ++ s) ≡ before_any marks p
  from : from_any marks (p ++ s) ≡ from_any marks p ++ s

cut-at-mark-of-prefix : (marks p s : List ℕ) → is_some_text (from_any marks p) ≡ true
    → IsCutAlike marks p s
cut-at-mark-of-prefix marks [] s some = absurd (both_ways _ refl some)
cut-at-mark-of-prefix marks (c ∷ p) s some = ⊎_elim
    (λ m. record {
      before = before_any-at-mark marks c (p ++ s) m ∙ sym (before_any-at-mark marks c p m);
      from = from_any-at-mark marks c (p ++ s) m
          ∙ ap (λ t. t ++ s) (sym (from_any-at-mark marks c p m));
    })
    (λ m.
    let rest = cut-at-mark-of-prefix marks p s
    (sym (ap is_some_text (from_any-past-other marks c p m)) ∙ some) in
    record {
      before = before_any-past-other marks c (p ++ s) m ∙ ap (λ t. c ∷ t) rest.before
          ∙ sym (before_any-past-other marks c p m);
      from = from_any-past-other marks c (p ++ s) m ∙ rest.from
          ∙ ap (λ t. t ++ s) (sym (from_any-past-other marks c p m));
    }) (cases_Bool (is_one_of marks c))

starts-of-prefix : (mark : ℕ) (p s : List ℕ) → is_some_text p ≡ true
    → starts mark (p ++ s) ≡ starts mark p
starts-of-prefix mark p s some = grind (arith, both_ways)

-- prefixes: two bytes decide whether an authority follows
authority-of-prefix : (p s : List ℕ) → 2 ≤ length p → has_authority (p ++ s) ≡ has_authority p
authority-of-prefix p s l = grind (arith, common_steps)

authority-has-two-bytes : (p : List ℕ) → has_authority p ≡ true → 2 ≤ length p
authority-has-two-bytes [] e = absurd (both_ways _ refl e)
authority-has-two-bytes (a ∷ []) e =
    absurd (both_ways _ (Rattle.std.proofs.lemmas.Bool.and_right _ _ refl) e)
authority-has-two-bytes (a ∷ b ∷ p) e = omega arith

-- prefixes: it shows where the scheme and the authority end
pub record ShowsPath (p : List ℕ) : Type 0 where
  pub mark : is_some_text (from_any (codes ":/?#") p) ≡ true
  pub two : 2 ≤ length (after_scheme p)
  pub ended : has_authority (after_scheme p) ≡ true
      → is_some_text (from_any (codes "/?#") (drop 2 (after_scheme p))) ≡ true

module _ (p s : List ℕ) (shows : ShowsPath p) where
  cut-at-scheme : IsCutAlike (codes ":/?#") p s
  cut-at-scheme = cut-at-mark-of-prefix (codes ":/?#") p s shows.mark

  scheme-is-that-of-prefix : has_scheme (p ++ s) ≡ has_scheme p
  scheme-is-that-of-prefix = grind (arith, starts, p, cut-at-scheme, starts-of-prefix, codes, shows)

  rest-is-that-of-prefix : after_scheme (p ++ s) ≡ after_scheme p ++ s
  rest-is-that-of-prefix = ⊎_elim
      (λ e. cond-true _ _ _ (scheme-is-that-of-prefix ∙ e) ∙ ap (drop 1) cut-at-scheme.from
      ∙ drop-one (from_any (codes ":/?#") p) shows.mark
      ∙ ap (λ t. t ++ s) (sym (cond-true _ _ _ e)))
      (λ e. cond-false _ _ _ (scheme-is-that-of-prefix ∙ e)
      ∙ ap (λ t. t ++ s) (sym (cond-false _ _ _ e)))
      (cases_Bool (has_scheme p))
    where
      drop-one : (t : List ℕ) → is_some_text t ≡ true → drop 1 (t ++ s) ≡ drop 1 t ++ s
      drop-one [] some = absurd (both_ways _ refl some)
      drop-one (c ∷ t) some = refl

  false-scheme-is-that-of-prefix : has_false_scheme (p ++ s) ≡ has_false_scheme p
  unfolding has_false_scheme
  false-scheme-is-that-of-prefix = ap
      (λ t. starts 58 t && not (is_scheme (before_any (codes ":/?#") (p ++ s)))) cut-at-scheme.from
      ∙ ap (λ t. t && not (is_scheme (before_any (codes ":/?#") (p ++ s))))
      (starts-of-prefix 58 (from_any (codes ":/?#") p) s shows.mark)
      ∙ ap (λ t. starts 58 (from_any (codes ":/?#") p) && not (is_scheme t)) cut-at-scheme.before

  authority-is-that-of-prefix : has_authority (after_scheme (p ++ s))
      ≡ has_authority (after_scheme p)
  authority-is-that-of-prefix = ap has_authority rest-is-that-of-prefix
      ∙ authority-of-prefix (after_scheme p) s shows.two

  bytes-of-authority : drop 2 (after_scheme (p ++ s)) ≡ drop 2 (after_scheme p) ++ s
  bytes-of-authority = ap (drop 2) rest-is-that-of-prefix
      ∙ drop-append-le 2 (after_scheme p) s shows.two

  -- the scheme of the text is that of the prefix
  scheme-of-text-is-that-of-prefix : (components (p ++ s)).scheme ≡ (components p).scheme
  scheme-of-text-is-that-of-prefix =
      ap (λ t. when t (before_any (codes ":/?#") (p ++ s))) scheme-is-that-of-prefix
      ∙ ap (when (has_scheme p)) cut-at-scheme.before

  -- the authority of the text is that of the prefix
  pub authority-of-text-is-that-of-prefix
      : (components (p ++ s)).authority ≡ (components p).authority
  authority-of-text-is-that-of-prefix = ⊎_elim
      (λ e. ap (λ t. when t (before_any (codes "/?#") (drop 2 (after_scheme (p ++ s)))))
      authority-is-that-of-prefix ∙ ap (λ t. when (has_authority (after_scheme p)) t)
      (ap (before_any (codes "/?#")) bytes-of-authority
      ∙ (cut-at-mark-of-prefix (codes "/?#") (drop 2 (after_scheme p)) s (shows.ended e)).before))
      (λ e. ap (λ t. when t (before_any (codes "/?#") (drop 2 (after_scheme (p ++ s)))))
      (authority-is-that-of-prefix ∙ e)
      ∙ sym (ap (λ t. when t (before_any (codes "/?#") (drop 2 (after_scheme p)))) e))
      (cases_Bool (has_authority (after_scheme p)))

text-with-mark-is-cut : (marks p : List ℕ) → list_any (is_one_of marks) p ≡ true
    → is_some_text (from_any marks p) ≡ true
text-with-mark-is-cut marks [] e = absurd (both_ways _ refl e)
text-with-mark-is-cut marks (c ∷ p) e = ⊎_elim
    (λ m. ap is_some_text (from_any-at-mark marks c p m))
    (λ m. ap is_some_text (from_any-past-other marks c p m)
    ∙ text-with-mark-is-cut marks p (sym (ap (λ t. t || list_any (is_one_of marks) p) m) ∙ e))
    (cases_Bool (is_one_of marks c))

authority-begins-with-mark : (p : List ℕ) → has_authority p ≡ true
    → is_some_text (from_any (codes ":/?#") p) ≡ true
authority-begins-with-mark p e = grind (arith, both_ways, from_any-at-mark)

path-starts-after-prefix : (p : List ℕ) (before : PackedPositions) → ArePackedPositionsOf p before
    → before.path_start ≡ length (before_path (components p))
path-starts-after-prefix p before e =
    ap (λ (x : PackedPositions). x.path_start) e ∙ sym (length-before-path (components p))

-- prefixes: how long is what follows an authority
length-of-tail : (p : List ℕ) (before : PackedPositions) → ArePackedPositionsOf p before
    → before.path_start + length (after_authority (after_scheme p)) ≡ length p
length-of-tail p before e =
    ap (λ n. n + length (after_authority (after_scheme p))) (path-starts-after-prefix p before e)
    ∙ sym (ap length (text-is-cut-before-path p)
    ∙ length-append (before_path (components p)) (after_authority (after_scheme p)))

positions-show-path : (p : List ℕ) (before : PackedPositions) → ArePackedPositionsOf p before
    → before.path_start < length p → (before.host_start ≡ 0 → 2 ≤ length p - before.path_start)
    → (before.host_start ≡ 0 → before.scheme_end ≡ 0
    → is_some_text (from_any (codes ":/?#") p) ≡ true) → ShowsPath p
positions-show-path p before e some two mark =
    grind (arith, length-of-tail, authority-begins-with-mark, authority-has-two-bytes)

-- prefixes: positions of a scheme and an authority, with these ends of a path and a query
positions_before : Option (List ℕ) → Option (List ℕ) → ℕ → ℕ → PackedPositions
positions_before scheme authority path_end query_end = with_ends_at (packed (positions_of (record {
  scheme = scheme;
  authority = authority;
  path = [];
  query = None;
  fragment = None;
}))) path_end query_end

positions-by-scheme-and-authority : (p q : Components) (path_end query_end : ℕ)
    → p.scheme ≡ q.scheme → p.authority ≡ q.authority
    → with_ends_at (packed (positions_of p)) path_end query_end
    ≡ with_ends_at (packed (positions_of q)) path_end query_end
positions-by-scheme-and-authority p q path_end query_end scheme authority =
    grind (arith, positions_before)

pub link-of-prefix : (text p s : List ℕ) (before : PackedPositions) → IsUtf8 text → text ≡ p ++ s
    → ArePackedPositionsOf p before → has_false_scheme p ≡ false → ShowsPath p
    → IsLink text (let x : Link = record {
      path_start = before.path_start;
      has_false_scheme = false;
      before = before;
    } in x)
link-of-prefix text p s before u e at none shows =
    let kept : has_false_scheme text ≡ false =
    ap has_false_scheme e ∙ false-scheme-is-that-of-prefix p s shows ∙ none in
    let tail = after_authority (after_scheme text) in
    let prefix = before_path (components text) in
    let link = link-components-without-false-scheme text kept in
    let scheme : (components text).scheme ≡ (components p).scheme =
    ap (λ t. (components t).scheme) e ∙ scheme-of-text-is-that-of-prefix p s shows in
    let authority : (components text).authority ≡ (components p).authority =
    ap (λ t. (components t).authority) e ∙ authority-of-text-is-that-of-prefix p s shows in
    let same : prefix ≡ before_path (components p) =
    ap (λ x. marked [] x (codes ":") ++ marked (codes "//") (components text).authority []) scheme
    ∙ ap (λ x. marked [] (components p).scheme (codes ":") ++ marked (codes "//") x []) authority in
    let start : before.path_start ≡ length prefix =
    path-starts-after-prefix p before at ∙ ap length (sym same) in
    let whole = text-is-cut-before-path text in
    let first : take before.path_start text ≡ prefix =
    ap (λ n. take n text) start ∙ ap (take (length prefix)) whole ∙ take-append_seam prefix tail in
    let second : drop before.path_start text ≡ tail =
    ap (λ n. drop n text) start ∙ ap (drop (length prefix)) whole ∙ drop-append_seam prefix tail in
    record {
      boundary = subst (IsCharBoundary text) (sym start)
          (IsCharBoundary-at_seam text prefix tail whole
          (utf8_after_authority (after_scheme text) (utf8_after_scheme text u)));
      alone = λ h. absurd (both_ways _ refl h);
      prefix = first ∙ sym (prefix-without-false-scheme text kept);
      pieces = λ kind sets. text-without-false-scheme-is-mended text kept kind sets
          ∙ ap (λ t. t ++ mended_tail kind tail) (prefix-without-false-scheme text kept ∙ sym first)
          ∙ ap (λ t. take before.path_start text ++ mended_tail kind t) (sym second);
      path = λ kind sets. path-without-false-scheme text kept kind sets
          ∙ ap (mended_path kind) (sym second);
      query = query-without-false-scheme text kept ∙ ap query_of_tail (sym second);
      before = λ path_end query_end.
          ap (λ (x : PackedPositions). with_ends_at x path_end query_end) at
          ∙ positions-by-scheme-and-authority (components p) (link_components text) path_end
          query_end (sym (ap (λ (x : Components). x.scheme) link ∙ scheme))
          (sym (ap (λ (x : Components). x.authority) link ∙ authority));
    }

pub text-with-prefix-can-be-mended : (kind : Kind) (text p s : List ℕ) → text ≡ p ++ s
    → has_false_scheme p ≡ false → ShowsPath p → IsOfKind kind p → can_be_mended kind text ≡ true
text-with-prefix-can-be-mended kind text p s e none shows h =
    let link = link-components-without-false-scheme text
    (ap has_false_scheme e ∙ false-scheme-is-that-of-prefix p s shows ∙ none) in
    ⊎_elim
    (λ can. can)
    (λ can. absurd (no_text_of_kind_has_rejected_scheme_and_authority kind text p can h (sym
    (ap (λ (x : Components). x.scheme) link ∙ ap (λ t. (components t).scheme) e
    ∙ scheme-of-text-is-that-of-prefix p s shows)) (sym (ap (λ (x : Components). x.authority) link
    ∙ ap (λ t. (components t).authority) e ∙ authority-of-text-is-that-of-prefix p s shows))))
    (cases_Bool (can_be_mended kind text))

pub prefix-shows-path : (text : List ℕ) (index : ℕ) (before : PackedPositions) → index ≤ length text
    → ArePackedPositionsOf (take index text) before → before.path_start < index
    → (before.host_start ≡ 0 → 2 ≤ index - before.path_start) → (before.host_start ≡ 0
    → before.scheme_end ≡ 0 → list_any (is_one_of (codes ":/?#")) (take index text) ≡ true)
    → ShowsPath (take index text)
prefix-shows-path text index before inside at some two mark =
    let size : length (take index text) ≡ index = length-take-le index text inside in
    positions-show-path (take index text) before at (omega (arith, some, size))
    (λ h. let l = two h in omega (arith, l, size))
    (λ h e. text-with-mark-is-cut (codes ":/?#") (take index text) (mark h e))

pub link-of-cut : (text prefix tail : List ℕ) (dot : Bool) (before : PackedPositions) → IsUtf8 text
    → text ≡ prefix ++ tail → IsCharBoundary text (length prefix) → (dot ≡ true → prefix ≡ [])
    → prefix ≡ before_path (link_components text) → IsMendedByPieces text prefix dot tail
    → IsPathMendedByPieces (link_components text).path dot tail
    → (link_components text).query ≡ query_of_tail tail → ArePackedPositionsOf prefix before
    → IsLink text (let x : Link = record {
      path_start = length prefix;
      has_false_scheme = dot;
      before = before;
    } in x)
unfolding prefix_components
link-of-cut text prefix tail dot before u whole boundary alone same pieces path query at =
    let p = link_components text in
    let first : take (length prefix) text ≡ prefix =
    ap (take (length prefix)) whole ∙ take-append_seam prefix tail in
    let second : drop (length prefix) text ≡ tail =
    ap (drop (length prefix)) whole ∙ drop-append_seam prefix tail in
    let parts : components prefix ≡ prefix_components p =
    ap components (same ∙ sym (prefix-components-are-text-before-path p))
    ∙ only-split-is-components (recompose (prefix_components p)) (prefix_components p)
    (prefix-components-are-split p (link-components-are-mendable text u)) in
    record {
      boundary = boundary;
      alone = λ e. ap length (alone e);
      prefix = first ∙ same;
      pieces = λ kind sets. pieces kind sets
          ∙ ap (λ t. t ++ (dot_segment_if dot ++ mended_tail kind tail)) (sym first)
          ∙ ap (λ t. take (length prefix) text ++ (dot_segment_if dot ++ mended_tail kind t))
          (sym second);
      path = λ kind sets. path kind sets
          ∙ ap (λ t. dot_segment_if dot ++ mended_path kind t) (sym second);
      query = query ∙ ap query_of_tail (sym second);
      before = λ path_end query_end.
          ap (λ (x : PackedPositions). with_ends_at x path_end query_end) at
          ∙ positions-by-scheme-and-authority (components prefix) p path_end query_end
          (ap (λ (x : Components). x.scheme) parts) (ap (λ (x : Components). x.authority) parts);
    }

pub holds-where-some : {A : Type 0} (o : Option A) (P : Type 0) → IfSome o (λ _. P)
    → is_some o ≡ true → P
holds-where-some None P h e = absurd (both_ways _ refl e)
holds-where-some (Some x) P h e = h
