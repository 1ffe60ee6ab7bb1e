-- Removing dot segments from a path whose substrings are changed one after the other, as by
-- decoding them.
use Rattle.uri_ops.proofs.Common.{◌≡◌, ℕ, ◌<◌, Bool, true, false, List, [], ◌∷◌, ◌++◌, length, take, drop, refl, sym, ap, subst, ◌∙◌, ◌||◌, ⊎_elim, inl, inr, append_assoc, arith, codes, ◌==◌, eqb-true, append-nil, drop_at, take-append-drop, take_at, TableSet, IsAbemptyPath, cons_is_not_nil, equal-to-true-is-IsTrue, IsComponentSet, before_last_slash, has_slash, is_double_dot, is_empty, is_single_dot, lacks_dot_segments, remove_dot_segments, underflows, IsCutAtSegment, RemovalState, IsDotlessDirectory, parent_directory, IsFirstSegment, IsDotlessPrefix, print_decoded, eq_true_from_IsTrue, common_steps}
use Rattle.uri_ops.specs.Models.SegmentModes.{KeepsSlashesAndDots}
use Rattle.uri_ops.proofs.Meanings.AllowedParts.{is_set_text, empty-text-is-set-text, set-text-is-utf8, decoding-splits-at-slash, print_decoded-of-nil-is-nil}
use Rattle.uri_ops.proofs.Paths.DotLaws.{removing-dots-leaves-no-dot-segment, remove-dots-of-dotless}
use Rattle.uri_ops.proofs.Paths.LeftPaths.{removal-state-has-directory, removal-state-of-equals, removal-passes-double-dot, removal-passes-dotless-prefix, removal-state-without-rest-is-done, removal-passes-single-dot}
use Rattle.uri_ops.proofs.Paths.DecodedPaths.{decoding-keeps-dot-segments, decoding-adds-no-slash, set-text-splits, set-texts-join-at-slash, decoding-keeps-first-slash, removing-dots-and-decoding-swap}
use Rattle.uri_ops.proofs.Paths.DecodedStarts.{decoding-keeps-emptiness}
use Rattle.uri_ops.proofs.Paths.DotRuns.{not-empty-has-length}

-- paths: copying a path keeps its slashes and dot segments, as decoding does
pub identity-keeps-slashes-and-dots : KeepsSlashesAndDots (λ text. text) (λ text. true)
identity-keeps-slashes-and-dots = grind arith

module _ (set : TableSet) (w : IsComponentSet (codes "?#[]") set) (slash : set.ascii 47 ≡ true)
  where
    decoded-dotless-path-is-dotless : (text : List ℕ) → is_set_text set text ≡ true
        → lacks_dot_segments text ≡ true → lacks_dot_segments (print_decoded set text) ≡ true
    decoded-dotless-path-is-dotless text e f =
        let decoded = decoding-keeps-first-slash set text in
        let removed : remove_dot_segments (print_decoded set (47 ∷ text))
        ≡ print_decoded set (47 ∷ text) = removing-dots-and-decoding-swap set w.percent w.unreserved
        (47 ∷ text) (equal-to-true-is-IsTrue _ refl) (set-texts-join-at-slash set slash [] text
        (empty-text-is-set-text set) e) ∙ ap (print_decoded set) (remove-dots-of-dotless (47 ∷ text)
        (equal-to-true-is-IsTrue _ refl) f) in
        ap lacks_dot_segments (sym decoded) ∙ ap lacks_dot_segments (sym removed)
        ∙ ap (λ t. lacks_dot_segments (remove_dot_segments t)) decoded
        ∙ removing-dots-leaves-no-dot-segment (47
        ∷ print_decoded set text) (equal-to-true-is-IsTrue _ refl)

    pub decoding-keeps-slashes-and-dots : KeepsSlashesAndDots (print_decoded set) (is_set_text set)
    decoding-keeps-slashes-and-dots = record {
      nothing = print_decoded-of-nil-is-nil set;
      none = empty-text-is-set-text set;
      empty = decoding-keeps-emptiness set w.percent w.unreserved;
      cut = set-text-splits set;
      join = set-texts-join-at-slash set slash;
      pieces = λ x y e. decoding-splits-at-slash set x y (set-text-is-utf8 set x e);
      free = decoding-adds-no-slash set w.percent w.unreserved;
      single = λ s e. (decoding-keeps-dot-segments set w.percent w.unreserved s e).single;
      double = λ s e. (decoding-keeps-dot-segments set w.percent w.unreserved s e).double;
      dotless = decoded-dotless-path-is-dotless;
    }

-- paths: a path that may be after an authority, and has a byte, has `/` (47) first
abempty-path-begins-with-slash : (c : ℕ) (text : List ℕ) → IsAbemptyPath (c ∷ text) → c ≡ 47
abempty-path-begins-with-slash c text h = ⊎_elim (λ none. absurd (cons_is_not_nil c text none))
    (λ a. eqb-true c 47 (eq_true_from_IsTrue _ a)) h

pub text-with-bytes-is-not-empty : (text : List ℕ) → 0 < length text → is_empty text ≡ false
text-with-bytes-is-not-empty text some = grind (arith, common_steps)

module _ (change : List ℕ → List ℕ) (among : List ℕ → Bool)
    (p : KeepsSlashesAndDots change among) where
  -- what is after a segment
  record IsAfter (text s left : List ℕ) : Type 0 where
    tail : List ℕ
    whole : change text ≡ change s ++ tail
    rooted : IsAbemptyPath tail
    rest : drop 1 tail ≡ change left
    segment : among s ≡ true
    more : among left ≡ true

  change-continues-after-segment : (s tail : List ℕ) → IsAbemptyPath tail → among (s ++ tail) ≡ true
      → IsAfter (s ++ tail) s (drop 1 tail)
  change-continues-after-segment s [] h e = record {
    tail = [];
    whole = ap change (append-nil s) ∙ sym (append-nil (change s));
    rooted = inl refl;
    rest = sym p.nothing;
    segment = ap among (sym (append-nil s)) ∙ e;
    more = p.none;
  }
  change-continues-after-segment s (c ∷ text) h e =
      let mark = abempty-path-begins-with-slash c text h in
      let q = p.cut s text (ap (λ d. among (s ++ d ∷ text)) (sym mark) ∙ e) in
      record {
        tail = 47 ∷ change text;
        whole = ap (λ d. change (s ++ d ∷ text)) mark ∙ p.pieces s text q.0;
        rooted = inr (equal-to-true-is-IsTrue _ refl);
        rest = refl;
        segment = q.0;
        more = q.1;
      }

  -- what is after a prefix without dot segments
  record IsInTwo (prefix left : List ℕ) : Type 0 where
    whole : change (prefix ++ left) ≡ change prefix ++ change left
    closed : IsCutAtSegment (change prefix) (change left)
    prefix_among : among prefix ≡ true
    more : among left ≡ true

  change-splits-after-dotless-prefix : (prefix left : List ℕ)
      → IsCutAtSegment prefix left → among (prefix ++ left) ≡ true → IsInTwo prefix left
  change-splits-after-dotless-prefix prefix left closed e = ⊎_elim (λ none.
      let only : prefix ++ left ≡ prefix = ap (λ t. prefix ++ t) none ∙ append-nil prefix in
      let nothing : change left ≡ [] = ap change none ∙ p.nothing in
      record {
        whole = ap change only ∙ sym (ap (λ t. change prefix ++ t) nothing
            ∙ append-nil (change prefix));
        closed = inl nothing;
        prefix_among = ap among (sym only) ∙ e;
        more = ap among none ∙ p.none;
      }) (λ d.
      let all : prefix ++ left ≡ d.0 ++ 47 ∷ left = ap (λ t. t ++ left) d.1
      ∙ append_assoc d.0 (47 ∷ []) left in
      let q = p.cut d.0 left (ap among (sym all) ∙ e) in
      let ended : change prefix ≡ change d.0 ++ codes "/" = ap change d.1 ∙ p.pieces d.0 [] q.0
      ∙ ap (λ t. change d.0 ++ 47 ∷ t) p.nothing in
      record {
        whole = ap change all ∙ p.pieces d.0 left q.0 ∙ sym (append_assoc (change d.0)
            (47 ∷ []) (change left)) ∙ ap (λ t. t ++ change left) (sym ended);
        closed = inr (change d.0, ended);
        prefix_among = ap among d.1 ∙ p.join d.0 [] q.0 p.none;
        more = q.1;
      }) closed

  pub removal-ends-with-nothing-left : (path kept rest : List ℕ) (underflowed : Bool)
      → RemovalState path kept (change rest) underflowed → (length rest == 0) ≡ true
      → (kept ≡ remove_dot_segments path) × (underflowed ≡ underflows path)
  removal-ends-with-nothing-left path kept rest underflowed h e =
      grind (arith, common_steps, removal-state-without-rest-is-done)

  -- one step further
  module _ (path kept rest : List ℕ) (underflowed : Bool)
      (h : RemovalState path kept (change rest) underflowed) (e : among rest ≡ true)
      (some : 0 < length rest) where
    changed-rest-has-bytes : 0 < length (change rest)
    changed-rest-has-bytes = not-empty-has-length (change rest) (p.empty rest e
        ∙ text-with-bytes-is-not-empty rest some)

    pub kept-text-is-directory : IsDotlessDirectory kept
    kept-text-is-directory = removal-state-has-directory path kept (change rest) underflowed h
        changed-rest-has-bytes

    module _ (test : List ℕ → Bool)
        (same : (s : List ℕ) → among s ≡ true → test (change s) ≡ test s)
        (left : List ℕ) (n : ℕ) (first : IsFirstSegment test rest n) (is : left ≡ drop n rest) where
      change-continues-after-first-segment : IsAfter rest (take first.end rest) left
      change-continues-after-first-segment =
          let all = take-append-drop first.end rest in
          subst (IsAfter rest (take first.end rest)) (sym (is ∙ first.rest))
          (subst (λ t. IsAfter t (take first.end rest) (drop 1 (drop first.end rest))) all
          (change-continues-after-segment (take first.end rest) (drop first.end rest) first.suffix
          (ap among all ∙ e)))

      record IsChanged : Type 0 where
        end : ℕ
        segment : has_slash (take end (change rest)) ≡ false
        suffix : IsAbemptyPath (drop end (change rest))
        passes : test (take end (change rest)) ≡ true
        after_that : change left ≡ drop 1 (drop end (change rest))
        more : among left ≡ true

      first_changed : IsChanged
      first_changed =
          let b = change-continues-after-first-segment in
          let s = take first.end rest in
          let prefix : take (length (change s)) (change rest) ≡ change s =
          ap (take (length (change s))) b.whole ∙ take_at (change s) b.tail _ refl in
          let tail : drop (length (change s)) (change rest) ≡ b.tail =
          ap (drop (length (change s))) b.whole ∙ drop_at (change s) b.tail _ refl in
          record {
            end = length (change s);
            segment = ap has_slash prefix ∙ p.free s b.segment first.segment;
            suffix = subst IsAbemptyPath (sym tail) b.rooted;
            passes = ap test prefix ∙ same s b.segment ∙ first.passes;
            after_that = sym (ap (drop 1) tail ∙ b.rest);
            more = b.more;
          }

    pub removal-step-at-single-dot : (left : List ℕ) (n : ℕ) → IsFirstSegment is_single_dot rest n
        → left ≡ drop n rest
        → RemovalState path kept (change left) underflowed × (among left ≡ true)
    removal-step-at-single-dot left n first is =
        let c = first_changed is_single_dot p.single left n first is in (
          removal-state-of-equals path kept kept _ (change left)
              underflowed underflowed refl c.after_that refl (removal-passes-single-dot path kept
              (change rest) underflowed h changed-rest-has-bytes c.end c.segment c.suffix c.passes),
          c.more,
        )

    pub removal-step-at-double-dot : (left : List ℕ) (n : ℕ) → IsFirstSegment is_double_dot rest n
        → left ≡ drop n rest → RemovalState path (parent_directory kept) (change left) (underflowed
        || is_empty (before_last_slash kept)) × (among left ≡ true)
    removal-step-at-double-dot left n first is =
        let c = first_changed is_double_dot p.double left n first is in (
          removal-state-of-equals path (parent_directory kept) (parent_directory kept) _
              (change left) _ _ refl c.after_that refl (removal-passes-double-dot path kept
              (change rest) underflowed h changed-rest-has-bytes c.end c.segment c.suffix c.passes),
          c.more,
        )

    module _ (prefix left : List ℕ) (n : ℕ) (f : IsDotlessPrefix rest n) (is : prefix ≡ take n rest)
        (rest_is : left ≡ drop n rest) where
      two : IsInTwo (take n rest) (drop n rest)
      two = change-splits-after-dotless-prefix (take n rest) (drop n rest) f.closed
          (ap among (take-append-drop n rest) ∙ e)

      pub prefix_among : among prefix ≡ true
      prefix_among = ap among is ∙ two.prefix_among

      pub removal-keeps-changed-prefix :
          RemovalState path (kept ++ change prefix) (change left) underflowed × (among left ≡ true)
      removal-keeps-changed-prefix =
          let m = length (change (take n rest)) in
          let all : change rest ≡ change (take n rest) ++ change (drop n rest) =
          ap change (sym (take-append-drop n rest)) ∙ two.whole in
          let head : take m (change rest) ≡ change (take n rest) =
          ap (take m) all ∙ take_at (change (take n rest)) (change (drop n rest)) m refl in
          let tail : drop m (change rest) ≡ change (drop n rest) =
          ap (drop m) all ∙ drop_at (change (take n rest)) (change (drop n rest)) m refl in
          let closed : IsCutAtSegment (take m (change rest)) (drop m (change rest)) =
          subst (λ t. IsCutAtSegment t (drop m (change rest))) (sym head)
          (subst (IsCutAtSegment (change (take n rest))) (sym tail) two.closed) in (
            removal-state-of-equals path (kept ++ take m (change rest))
                (kept ++ change prefix) _ (change left) underflowed underflowed
                (ap (λ t. kept ++ change t) is ∙ ap (λ t. kept ++ t) (sym head))
                (ap change rest_is ∙ sym tail) refl (removal-passes-dotless-prefix path
                kept (change rest) underflowed h changed-rest-has-bytes m (ap lacks_dot_segments
                head ∙ p.dotless (take n rest) two.prefix_among f.dotless) closed),
            ap among rest_is ∙ two.more,
          )
