-- The substrings of a text between the positions of its components.
use Rattle.std.proofs.lemmas.Grind.{common_steps}
use Rattle.uri_ops.proofs.Common.{◌≡◌, ℕ, ◌+◌, ◌-◌, ◌≤◌, true, List, [], ◌∷◌, ◌++◌, length, take, drop, refl, sym, ap, subst, ◌∙◌, arith, append_assoc, length-append, option_map, codes, Option, Some, None, IfSome, slice_range, IsUtf8, IsCharBoundary, drop-append_seam, take-append_seam, IsCharBoundary-from_drop, IsUtf8-append, IsUtf8-drop, nat_tests, AuthorityPositions, Positions, components, marked, Kind, is_authority, IsTextOf, ArePositionsOf, authority_at, before_fragment, host_end_of, host_is_at_positions, slice_range-from-start, boundary-at-fragment-mark, fragment_text, boundary_after_mark, before_hash, split-text-is-before-fragment-and-fragment, length-before_hash, slice-between-prefix-and-suffix, components-are-split-of-text, recompose-components, IsAbsolute, EndsIn, IsSlashOrStart, before_path, common_steps}
use Rattle.std.proofs.lemmas.Option.{none-some}
use Rattle.uri_parts.proofs.Offered.{path_is_at_positions}
use Rattle.uri_ops.proofs.Normal.NormalTexts.{text-has-parts-of-kind}
use Rattle.uri_ops.proofs.Normal.WrittenPlaces.{length-before_path-is-path_start}
use Rattle.uri_ops.proofs.Paths.LastSlashes.{cut, slash-position-is-prefix-length, prefix-through-slash-ends-in-slash}

pub host-ends-within-authority : (kind : Kind) (text : List ℕ) → IsTextOf kind text → (a : List ℕ)
    → (components text).authority ≡ Some a → host_end_of a ≤ length a
host-ends-within-authority kind text w a e =
    let h = subst (λ o. IfSome o (λ a. IsUtf8 a × (is_authority kind a ≡ true))) e
    (text-has-parts-of-kind kind text w).authority in
    (host_is_at_positions kind.userinfo kind.reg_name a h.1 h.0).ends.0

-- positions in a target: those of an authority are in the text, and the authority ends with it
pub record Within (text : List ℕ) (places : AuthorityPositions) : Type 0 where
  pub start : places.start ≤ places.end
  pub host_start : places.host_start ≤ places.end
  pub host_end : places.host_end ≤ places.end
  pub end : places.end ≡ length text

pub authority-positions-are-in-prefix : (text : List ℕ) (p : Positions)
    (places : AuthorityPositions) → ArePositionsOf text p
    → ((a : List ℕ) → (components text).authority ≡ Some a → host_end_of a ≤ length a)
    → p.authority ≡ Some places → Within (before_path (components text)) places
authority-positions-are-in-prefix text p places at host e = grind (arith, length-append)

-- positions in a target: after a scheme of n bytes (with its `:`), an authority is n bytes further
-- on; moved: its positions there
pub authority-positions-after-scheme : (text : List ℕ)
    (p : Positions) (n : ℕ) (places moved : AuthorityPositions) → ArePositionsOf text p
    → (components text).scheme ≡ None → p.authority ≡ Some places → moved.start ≡ n + places.start
    → moved.host_start ≡ n + places.host_start → moved.host_end ≡ n + places.host_end → moved.end
    ≡ n + places.end → Some moved ≡ option_map (authority_at (n + 2)) (components text).authority
authority-positions-after-scheme text p n places moved at none e start host_start host_end end =
    grind (arith, nat_tests, none-some)

-- positions in a target: the text begins with a scheme, which ends at `end`, and its `:`
pub record HasScheme (text : List ℕ) (scheme : Option (List ℕ)) (end : ℕ) : Type 0 where
  pub cut : IsCharBoundary text (end + 1)
  pub holds : take (end + 1) text ≡ marked [] scheme (codes ":")

text-begins-with-its-scheme : (text : List ℕ) (scheme : Option (List ℕ)) (rest : List ℕ)
    → marked [] scheme (codes ":") ++ rest ≡ text → IsUtf8 text → (end : ℕ)
    → Some end ≡ option_map length scheme → HasScheme text scheme end
text-begins-with-its-scheme text scheme rest whole utf8 end e =
    grind (arith, common_steps, none-some, boundary_after_mark)

-- targets: after a `/` (47) in the middle of a path a character begins; the text up to it is
-- prefix, left and `/`
position-after-inner-slash-is-boundary : (text prefix path suffix left right : List ℕ) (start slash
    : ℕ) → text ≡ prefix ++ (path ++ suffix) → start ≡ length prefix → path ≡ left ++ 47 ∷ right
    → slash ≡ length left → IsUtf8 text → IsCharBoundary text (start + slash + 1)
    × (take (start + slash + 1) text ≡ prefix ++ (left ++ codes "/"))
position-after-inner-slash-is-boundary text prefix path suffix left right start slash whole
    n e m utf8 =
    let joined : text ≡ (prefix ++ left) ++ 47 ∷ (right ++ suffix) = whole ∙ ap (λ t. prefix
    ++ (t ++ suffix)) e ∙ ap (λ t. prefix ++ t) (append_assoc left (47 ∷ right) suffix)
    ∙ sym (append_assoc prefix left (47 ∷ (right ++ suffix))) in
    let k : start + slash + 1 ≡ length (prefix ++ left) + 1 = omega
    (arith, n, m, length-append prefix left) in
    let l : start + slash + 1 ≡ length ((prefix ++ left) ++ codes "/") = omega
    (arith, k, length-append (prefix ++ left) (codes "/")) in (
      subst (IsCharBoundary text) (sym k) (subst (λ t. IsCharBoundary t
          (length (prefix ++ left) + 1)) (sym joined) (boundary_after_mark (prefix ++ left)
          (right ++ suffix) 47 (omega arith) (subst IsUtf8 joined utf8))),
      ap (take (start + slash + 1)) (joined ∙ sym (append_assoc (prefix ++ left) (codes "/") (right
          ++ suffix))) ∙ ap (λ j. take j (((prefix ++ left) ++ codes "/") ++ (right ++ suffix))) l
          ∙ take-append_seam ((prefix ++ left) ++ codes "/") (right ++ suffix)
          ∙ append_assoc prefix left (codes "/"),
    )

module _ (text : List ℕ) (p : Positions) (utf8 : IsUtf8 text) (at : ArePositionsOf text p) where
  pub slice-of-scheme : (end : ℕ) → p.scheme_end ≡ Some end
      → HasScheme text (components text).scheme end
  slice-of-scheme end e = text-begins-with-its-scheme text (components text).scheme _
      (recompose-components text) utf8 end (sym e ∙ ap (λ (q : Positions). q.scheme_end) at)

  pub path_start-is-boundary : IsCharBoundary text p.path_start
  path_start-is-boundary = (path_is_at_positions text p utf8 at).starts

  pub slice-before-path : slice_range text 0 p.path_start ≡ before_path (components text)
  slice-before-path =
      let c = components text in
      let suffix = c.path ++ (marked (codes "?") c.query [] ++ marked (codes "#") c.fragment []) in
      slice_range-from-start text p.path_start ∙ ap (λ k. take k text)
      (ap (λ (q : Positions). q.path_start) at ∙ sym (length-before_path-is-path_start c))
      ∙ ap (take (length (before_path c))) (sym (append_assoc (marked [] c.scheme (codes ":"))
      (marked (codes "//") c.authority []) suffix ∙ recompose-components text))
      ∙ take-append_seam (before_path c) suffix

  query-ends-after-its-length : before_fragment p
      ≡ p.path_end + length (marked (codes "?") (components text).query [])
  query-ends-after-its-length =
      grind (arith, length-before_hash, length-append, length-before_path-is-path_start)

  pub path_end-is-boundary : IsCharBoundary text p.path_end
  path_end-is-boundary = (path_is_at_positions text p utf8 at).ends

  pub query-end-is-boundary : IsCharBoundary text (before_fragment p)
  query-end-is-boundary = boundary-at-fragment-mark text p at (before_fragment p) refl

  pub slice-of-query : slice_range text p.path_end (before_fragment p)
      ≡ marked (codes "?") (components text).query []
  slice-of-query =
      let c = components text in
      let prefix = before_path c ++ c.path in
      let query = marked (codes "?") c.query [] in
      let n : p.path_end ≡ length prefix = omega (
        arith,
        length-append (before_path c) c.path,
        length-before_path-is-path_start c,
        ap (λ (q : Positions). q.path_end) at,
      ) in
      let m : before_fragment p ≡ length prefix + length query = omega
      (arith, n, query-ends-after-its-length) in
      let whole : text ≡ prefix ++ (query ++ fragment_text c.fragment) =
      split-text-is-before-fragment-and-fragment text c (components-are-split-of-text text)
      ∙ append_assoc prefix query (fragment_text c.fragment) in
      ap (λ k. slice_range text k (before_fragment p)) n ∙ ap (slice_range text (length prefix)) m
      ∙ ap (λ t. slice_range t (length prefix) (length prefix + length query)) whole
      ∙ slice-between-prefix-and-suffix prefix query (fragment_text c.fragment)

  pub slice-of-fragment : drop (before_fragment p) text
      ≡ marked (codes "#") (components text).fragment []
  slice-of-fragment =
      let c = components text in
      ap (λ k. drop k text) (ap before_fragment at ∙ sym (length-before_hash c))
      ∙ ap (drop (length (before_hash c))) (split-text-is-before-fragment-and-fragment text c
      (components-are-split-of-text text))
      ∙ drop-append_seam (before_hash c) (fragment_text c.fragment)

  text-is-prefix-path-query-and-fragment : text ≡ before_path (components text)
      ++ ((components text).path ++ (marked (codes "?") (components text).query []
      ++ marked (codes "#") (components text).fragment []))
  text-is-prefix-path-query-and-fragment =
      grind (arith, nat_tests, append_assoc, recompose-components)

  pub slice-after-path : drop p.path_end text ≡ marked (codes "?") (components text).query []
      ++ marked (codes "#") (components text).fragment []
  slice-after-path =
      let c = components text in
      let prefix = before_path c ++ c.path in
      let suffix = marked (codes "?") c.query [] ++ marked (codes "#") c.fragment [] in
      let n : p.path_end ≡ length prefix = omega (
        arith,
        length-append (before_path c) c.path,
        length-before_path-is-path_start c,
        ap (λ (q : Positions). q.path_end) at,
      ) in
      ap (λ k. drop k text) n ∙ ap (drop (length prefix)) (text-is-prefix-path-query-and-fragment
      ∙ sym (append_assoc (before_path c) c.path suffix)) ∙ drop-append_seam prefix suffix

  -- a text from a suffix of its path on
  pub from_path_suffix : (rest : List ℕ) → EndsIn (components text).path rest
      → IsUtf8 rest → (length rest ≤ p.path_end) × IsCharBoundary text (p.path_end - length rest)
      × (drop (p.path_end - length rest) text ≡ rest ++ (marked (codes "?")
      (components text).query [] ++ marked (codes "#") (components text).fragment []))
  from_path_suffix rest (before, e) u =
      let c = components text in
      let prefix = before_path c ++ before in
      let suffix = marked (codes "?") c.query [] ++ marked (codes "#") c.fragment [] in
      let whole : text ≡ prefix ++ (rest ++ suffix) = text-is-prefix-path-query-and-fragment
      ∙ ap (λ t. before_path c ++ (t ++ suffix)) e
      ∙ ap (λ t. before_path c ++ t) (append_assoc before rest suffix)
      ∙ sym (append_assoc (before_path c) before (rest ++ suffix)) in
      let n : p.path_end ≡ length prefix + length rest = omega (
        arith,
        length-append (before_path c) before,
        length-append before rest,
        ap length e,
        length-before_path-is-path_start c,
        ap (λ (q : Positions). q.path_end) at,
      ) in
      let start : p.path_end - length rest ≡ length prefix = omega (arith, n) in
      let dropped : drop (p.path_end - length rest) text ≡ rest ++ suffix =
      ap (λ k. drop k text) start ∙ ap (drop (length prefix)) whole
      ∙ drop-append_seam prefix (rest ++ suffix) in
      let within : p.path_end - length rest ≤ length text = omega
      (arith, start, ap length whole, length-append prefix (rest ++ suffix)) in
      let utf8_suffix : IsUtf8 suffix = subst IsUtf8 slice-after-path
      (IsUtf8-drop text p.path_end utf8 path_end-is-boundary) in (
        omega (arith, n),
        IsCharBoundary-from_drop text (p.path_end - length rest) within
            (subst IsUtf8 (sym dropped) (IsUtf8-append rest suffix u utf8_suffix)),
        dropped,
      )

  pub slice-through-path : slice_range text 0 p.path_end
      ≡ before_path (components text) ++ (components text).path
  slice-through-path =
      let c = components text in
      let prefix = before_path c ++ c.path in
      let suffix = marked (codes "?") c.query [] ++ marked (codes "#") c.fragment [] in
      let n : p.path_end ≡ length prefix = omega (
        arith,
        length-append (before_path c) c.path,
        length-before_path-is-path_start c,
        ap (λ (q : Positions). q.path_end) at,
      ) in
      slice_range-from-start text p.path_end
      ∙ ap (λ k. take k text) n ∙ ap (take (length prefix)) (text-is-prefix-path-query-and-fragment
      ∙ sym (append_assoc (before_path c) c.path suffix)) ∙ take-append_seam prefix suffix

  pub slice-before-fragment : slice_range text 0 (before_fragment p)
      ≡ (before_path (components text) ++ (components text).path) ++ marked (codes "?")
      (components text).query []
  slice-before-fragment =
      let c = components text in
      let prefix = before_path c ++ c.path in
      let query = marked (codes "?") c.query [] in
      let n : before_fragment p ≡ length (prefix ++ query) = omega (
        arith,
        length-append prefix query,
        length-append (before_path c) c.path,
        length-before_path-is-path_start c,
        ap (λ (q : Positions). q.path_end) at,
        query-ends-after-its-length,
      ) in
      slice_range-from-start text (before_fragment p) ∙ ap (λ k. take k text) n
      ∙ ap (take (length (prefix ++ query))) (split-text-is-before-fragment-and-fragment text c
      (components-are-split-of-text text))
      ∙ take-append_seam (prefix ++ query) (fragment_text c.fragment)

  -- a text up to a `/` of its path is what is before the path, and the path up to that `/`
  pub through_slash : (slash : ℕ)
      → IsAbsolute (components text).path → IsSlashOrStart (components text).path 0 slash
      → IsCharBoundary text (p.path_start + slash + 1) × (take (p.path_start + slash + 1) text
      ≡ before_path (components text) ++ take (slash + 1) (components text).path)
  through_slash slash absolute place =
      let c = components text in
      let parted = position-after-inner-slash-is-boundary text
      (before_path c) c.path _ (take slash c.path) (drop (slash + 1) c.path) p.path_start
      slash text-is-prefix-path-query-and-fragment (ap (λ (q : Positions). q.path_start) at
      ∙ sym (length-before_path-is-path_start c)) (cut c.path slash absolute place)
      (slash-position-is-prefix-length c.path slash absolute place) utf8 in (
        parted.0,
        parted.1 ∙ ap (λ t. before_path c ++ t)
            (sym (prefix-through-slash-ends-in-slash c.path slash absolute place)),
      )
