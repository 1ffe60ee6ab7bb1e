-- A text with another fragment in place of its own has the same components but that one.
use Rattle.uri_parts.proofs.Common.{◌≡◌, ℕ, ◌-◌, true, false, not, List, [], ◌∷◌, ◌++◌, length, take, sym, refl, ap, subst, ◌∙◌, arith, ◌&&◌, append_assoc, codes, Option, Some, None, IfSome, IfNone, slice_range, IsCharBoundary, append-nil, take-append_seam, All-append, All-cons, All-nil, All-weaker, and_parts, and_from, nat_tests, TableSet, is_one_of, is_valid_for, Positions, Components, IsSplitOf, Lacks, components, recompose, marked, starts, has_scheme, before_any, from_any, IsWithFragment, StaysOfKind, Kind, IsOfKind, absent_or_passes, is_scheme, is_authority, components_meet_rules, ArePositionsOf, positions_of, before_fragment, IfSome-weaken}
use Rattle.uri_parts.proofs.Splitting.Cuts.{IsEmptyOrMarked, text-is-cut-at-first-mark, cut-at-end-of-text-without-marks}
use Rattle.uri_parts.proofs.Splitting.Marks.{fragment_text, IsEmptyOrMarked-fragment_text}
use Rattle.uri_parts.proofs.Splitting.Places.{before_hash, recompose-before_hash, split-text-is-before-fragment-and-fragment, length-before_hash, boundary_before_mark, fragment-mark-is-component-mark}
use Rattle.uri_parts.proofs.Splitting.Recompose.{components-are-split-of-text}
use Rattle.uri_parts.proofs.Splitting.Splits.{only-split-is-components}

-- splitting: a tail such as a fragment, after a text, makes no scheme of it
tail-without-colon-keeps-first-colon : (marks prefix back tail : List ℕ) → Lacks marks prefix
    → IsEmptyOrMarked marks back → IsEmptyOrMarked marks tail → starts 58 tail ≡ false
    → starts 58 (from_any marks ((prefix ++ back) ++ tail)) ≡ starts 58 back
tail-without-colon-keeps-first-colon marks prefix [] tail lacks begins ends other =
    ap (λ t. starts 58 (from_any marks (t ++ tail))) (append-nil prefix)
    ∙ ap (starts 58) (cut-at-end-of-text-without-marks marks prefix tail lacks ends).1 ∙ other
tail-without-colon-keeps-first-colon marks prefix (c ∷ back) tail lacks begins ends other =
    ap (λ t. starts 58 (from_any marks t)) (append_assoc prefix (c ∷ back) tail) ∙ ap
    (starts 58) (cut-at-end-of-text-without-marks marks prefix (c ∷ (back ++ tail)) lacks begins).1

-- replacing a fragment: a fragment with its `#`, or nothing, does not begin with `:` (58)
fragment-begins-with-no-colon : (tail : List ℕ) → IsEmptyOrMarked (codes "#") tail
    → starts 58 tail ≡ false
fragment-begins-with-no-colon [] begins = refl
fragment-begins-with-no-colon (c ∷ tail) begins = grind (arith, nat_tests)

-- replacing a fragment: with one after it, a text begins with `:` (58) exactly if it does without
fragment-keeps-first-colon : (text tail : List ℕ) → IsEmptyOrMarked (codes "#") tail
    → starts 58 (text ++ tail) ≡ starts 58 text
fragment-keeps-first-colon [] tail begins = fragment-begins-with-no-colon tail begins
fragment-keeps-first-colon (c ∷ text) tail begins = refl

-- replacing a fragment: with one after it, a text has a scheme exactly if it does without
fragment-keeps-scheme : (text tail : List ℕ) → IsEmptyOrMarked (codes "#") tail
    → has_scheme (text ++ tail) ≡ has_scheme text
fragment-keeps-scheme text tail begins =
    let marks = codes ":/?#" in
    let cut = text-is-cut-at-first-mark marks text in
    let suffix = tail-without-colon-keeps-first-colon marks
    (before_any marks text) (from_any marks text) tail cut.lacks cut.begins
    (fragment-mark-is-component-mark tail begins) (fragment-begins-with-no-colon tail begins) in
    let colon : starts 58 (from_any marks (text ++ tail)) ≡ starts 58 (from_any marks text) =
    ap (λ t. starts 58 (from_any marks (t ++ tail))) (sym cut.whole) ∙ suffix in
    ap (λ t. t && not (starts 58 (text ++ tail))) colon ∙ ap (λ t. starts 58 (from_any marks text)
    && not t) (fragment-keeps-first-colon text tail begins)

-- general fact on options, for replacing a fragment: components that are absent
IfNone-follows-implication : (o : Option (List ℕ)) (P Q : Type 0) → (P → Q) → IfNone o P
    → IfNone o Q
IfNone-follows-implication None P Q f h = f h
IfNone-follows-implication (Some x) P Q f h = tt

other-fragment-keeps-split : (text : List ℕ) (p : Components) (fragment : Option (List ℕ))
    → IsSplitOf text p → (let q = record p { fragment = fragment } in IsSplitOf (recompose q) q)
other-fragment-keeps-split text p fragment split =
    let before = before_hash p in
    let same : has_scheme text ≡ has_scheme before =
    ap has_scheme (split-text-is-before-fragment-and-fragment text p split) ∙ fragment-keeps-scheme
    before (fragment_text p.fragment) (IsEmptyOrMarked-fragment_text p.fragment) in
    let made : has_scheme (recompose (record p { fragment = fragment })) ≡ has_scheme before =
    ap has_scheme (recompose-before_hash (record p { fragment = fragment })) ∙ fragment-keeps-scheme
    before (fragment_text fragment) (IsEmptyOrMarked-fragment_text fragment) in
    record {
      whole = refl;
      scheme = split.scheme;
      authority = split.authority;
      path = split.path;
      query = split.query;
      no_scheme = IfNone-follows-implication p.scheme _ _ (λ e. made ∙ sym same
          ∙ e) split.no_scheme;
      no_authority = split.no_authority;
    }

-- replacing a fragment: the byte is not `#`, as no byte of a component before the fragment is
abbrev is_other : ℕ → Type 0
is_other c = is_one_of (codes "#") c ≡ false

-- replacing a fragment: a text without some delimiters has no `#`, if that is one of them
text-lacking-marks-lacks-hash : (all text : List ℕ)
    → ((c : ℕ) → is_one_of all c ≡ false → is_other c) → Lacks all text → Lacks (codes "#") text
text-lacking-marks-lacks-hash all text less lacks = All-weaker (λ c. is_one_of all c ≡ false)
    is_other less text lacks

-- replacing a fragment: a component with its delimiters (before,
-- suffix) has no `#`, if none of them has
marked-text-lacks-hash : (before suffix : List ℕ) (part : Option (List ℕ))
    → Lacks (codes "#") before → IfSome part (λ x. Lacks (codes "#") x)
    → Lacks (codes "#") suffix → Lacks (codes "#") (marked before part suffix)
marked-text-lacks-hash before suffix None b p e = All-nil is_other
marked-text-lacks-hash before suffix (Some x) b p e =
    All-append is_other (before ++ x) suffix (All-append is_other before x b p) e

text-before-fragment-lacks-hash : (text : List ℕ) (p : Components) → IsSplitOf text p
    → Lacks (codes "#") (before_hash p)
text-before-fragment-lacks-hash text p split =
    let Hash : List ℕ → Type 0 = Lacks (codes "#") in
    let nil : Hash [] = All-nil is_other in
    let scheme = marked-text-lacks-hash [] (codes ":") p.scheme nil
    (IfSome-weaken p.scheme _ Hash (λ s h. text-lacking-marks-lacks-hash (codes ":/?#") s
    (λ c e. grind (arith, nat_tests)) h.1) split.scheme) (All-cons is_other 58 [] refl nil) in
    let authority = marked-text-lacks-hash (codes "//") [] p.authority
    (All-cons is_other 47 (codes "/") refl (All-cons is_other 47 [] refl nil))
    (IfSome-weaken p.authority _ Hash (λ a h. text-lacking-marks-lacks-hash (codes "/?#") a
    (λ c e. grind (arith, nat_tests)) h.0) split.authority) nil in
    let path = text-lacking-marks-lacks-hash (codes "?#") p.path (λ c e. grind (arith, nat_tests))
    split.path in
    let query = marked-text-lacks-hash
    (codes "?") [] p.query (All-cons is_other 63 [] refl nil) split.query nil in
    All-append is_other _ _
    (All-append is_other _ _ (All-append is_other _ _ scheme authority) path) query

text-before-first-hash-is-before-fragment : (text : List ℕ) → before_any (codes "#") text
    ≡ before_hash (components text)
text-before-first-hash-is-before-fragment text =
    let c = components text in
    let split = components-are-split-of-text text in
    ap (before_any (codes "#")) (split-text-is-before-fragment-and-fragment text c split)
    ∙ (cut-at-end-of-text-without-marks (codes "#") (before_hash c) (fragment_text c.fragment)
    (text-before-fragment-lacks-hash text c split) (IsEmptyOrMarked-fragment_text c.fragment)).0

joined-text-is-with-fragment : (text made : List ℕ) (fragment : Option (List ℕ)) → made
    ≡ before_hash (components text) ++ fragment_text fragment → IsWithFragment text fragment made
joined-text-is-with-fragment text made fragment e =
    let c = components text in
    let q = record c { fragment = fragment } in
    record {
      parts = ap components (e ∙ sym (recompose-before_hash q))
          ∙ only-split-is-components (recompose q) q
          (other-fragment-keeps-split text c fragment (components-are-split-of-text text));
      whole = e ∙ ap (λ t. t ++ fragment_text fragment)
          (sym (text-before-first-hash-is-before-fragment text));
    }

-- replacing a fragment: a character begins where the fragment's `#` is, or the text ends
boundary-before-fragment : (text before tail : List ℕ)
    → text ≡ before ++ tail → IsEmptyOrMarked (codes "#") tail → IsCharBoundary text (length before)
boundary-before-fragment text before tail e begins =
    grind (arith, nat_tests, boundary_before_mark, fragment-mark-is-component-mark)

-- general fact on slices, for replacing a fragment:
-- what is between 0 and mark is the prefix of that length
pub slice_range-from-start : (text : List ℕ) (mark : ℕ) → slice_range text 0 mark ≡ take mark text
slice_range-from-start text mark = let n : mark - 0 ≡ mark = omega arith in ap (λ n. take n text) n

-- for callers: a text up to the position where its fragment begins
module _ (text : List ℕ) (p : Positions) (at : ArePositionsOf text p) (mark : ℕ)
    (here : mark ≡ before_fragment p) where
  length-before-fragment-is-mark : length (before_hash (components text)) ≡ mark
  length-before-fragment-is-mark = length-before_hash (components text)
      ∙ sym (here ∙ ap before_fragment at)

  whole : text ≡ before_hash (components text) ++ fragment_text (components text).fragment
  whole = split-text-is-before-fragment-and-fragment text (components text)
      (components-are-split-of-text text)

  pub boundary-at-fragment-mark : IsCharBoundary text mark
  boundary-at-fragment-mark =
      let c = components text in
      subst (IsCharBoundary text) length-before-fragment-is-mark (boundary-before-fragment text
      (before_hash c) (fragment_text c.fragment) whole (IsEmptyOrMarked-fragment_text c.fragment))

  text-to-mark-is-before-fragment : take mark text ≡ before_hash (components text)
  text-to-mark-is-before-fragment =
      let c = components text in
      ap (λ n. take n text) (sym length-before-fragment-is-mark)
      ∙ ap (take (length (before_hash c))) whole
      ∙ take-append_seam (before_hash c) (fragment_text c.fragment)

  pub stripped_is_without_fragment : (made : List ℕ) → made ≡ take mark text
      → IsWithFragment text None made
  stripped_is_without_fragment made e = joined-text-is-with-fragment text made None
      (e ∙ text-to-mark-is-before-fragment ∙ sym (append-nil _))

-- replacing a fragment: `#` (35) and a fragment, after a text that has none, give it that one
pub appended_is_with_fragment : (text kept made fragment : List ℕ) → IsWithFragment text None kept
    → made ≡ kept ++ (35 ∷ fragment) → IsWithFragment text (Some fragment) made
appended_is_with_fragment text kept made fragment w e =
    let before = before_hash (components text) in
    let prefix : kept ≡ before = w.whole ∙ append-nil (before_any (codes "#") text)
    ∙ text-before-first-hash-is-before-fragment text in
    joined-text-is-with-fragment text made (Some fragment) (e ∙ ap (λ t. t
    ++ (35 ∷ fragment)) prefix ∙ ap (λ t. before ++ (35 ∷ t)) (sym (append-nil fragment)))

-- replacing a fragment: with a fragment that is valid for the kind, a text stays of the kind
of_kind : (kind : Kind) (text made : List ℕ) (fragment : Option (List ℕ))
    → IsOfKind kind text → absent_or_passes fragment (is_valid_for kind.fragment) ≡ true
    → IsWithFragment text fragment made → IsOfKind kind made
of_kind kind text made fragment h valid w =
    let p = components text in
    let prefix = absent_or_passes p.scheme is_scheme && absent_or_passes p.authority
    (is_authority kind)
    && is_valid_for kind.path p.path && absent_or_passes p.query (is_valid_for kind.query) in
    let whole = and_parts (prefix && absent_or_passes p.fragment (is_valid_for kind.fragment)) _
    h in
    let kept = and_parts prefix _ whole.0 in
    ap (components_meet_rules kind) w.parts ∙ and_from _ _ (and_from prefix _ kept.0 valid) whole.1

pub text-without-fragment-stays-of-kind : (kind : Kind) (text made : List ℕ) → IsOfKind kind text
    → IsWithFragment text None made → IsOfKind kind made
text-without-fragment-stays-of-kind kind text made h w = of_kind kind text made None h refl w

-- replacing a fragment: without its fragment a text meets the
-- rules of its kind; set: those of fragments
pub stays_of_kind_without_fragment : (set : TableSet) (text made : List ℕ)
    → IsWithFragment text None made → StaysOfKind set text made
stays_of_kind_without_fragment set text made w =
    record { of_kind = λ kind e h. text-without-fragment-stays-of-kind kind text made h w }

-- replacing a fragment: with a valid one a text meets the rules
-- of its kind; set: those of fragments
pub stays_of_kind_with_fragment : (set : TableSet) (text made fragment : List ℕ)
    → is_valid_for set fragment ≡ true
    → IsWithFragment text (Some fragment) made → StaysOfKind set text made
stays_of_kind_with_fragment set text made fragment valid w = grind (arith, nat_tests, of_kind)

pub positions_stay_with_fragment : (text made : List ℕ) (fragment : Option (List ℕ)) (p : Positions)
    → ArePositionsOf text p → IsWithFragment text fragment made → ArePositionsOf made p
positions_stay_with_fragment text made fragment p at w = at ∙ ap positions_of (sym w.parts)
