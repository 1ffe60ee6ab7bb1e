-- The outcomes of errors in a fragment, a query, a path and a port.
use Rattle.error_laws.proofs.Common.{◌≡◌, ℕ, ◌+◌, ◌<◌, ◌≤◌, Bool, true, false, cond, eqb, List, [], ◌∷◌, drop, Some, None, refl, sym, ap, subst, ◌∙◌, arith, ◌&&◌, ◌||◌, inl, ⊎_elim, inr, ◌⊎◌, length-drop, codes, Ok, IsUtf8, cases_Bool, cond-true, cond-false, and_parts, and_from, or_left, or_right, or_from, or_parts, both_ways, eq-eqb, eqb-true, ne_eqb, ltb-true, lt-ltb, not-true, not_from_false, or_cases, same_Some, none-some, IsUtf8-nil, IsCharBoundary-from_take, nat_tests, valid_prefix, TableSet, LacksPercent, digit_set, is_one_of, IsValidFor, excludes, ParseError, starts, is_end, unexpected, stray_percent, Kind, OptionalParseError, ◌>>=◌, error_from_end, error_from_fragment, error_from_query, error_from_path, error_from_abempty_path, error_from_port, error_from_host, is_next, is_at_end, scan_end, scan, scan-stops-at-stray-percent-or-goes-on, IsEmptyOrMarked, empty-or-marked-for-more-marks, begins-with-no-other, is_unrooted, is_late_from_port}
use Rattle.uri_pct.proofs.Offered.{empty_text_has_empty_valid_prefix, valid_prefix_is_longest}
use Rattle.error_laws.proofs.KindFacts.{Facts}
use Rattle.error_laws.proofs.LongerTexts.{empty-text-is-end}
use Rattle.error_laws.proofs.Marks.{At}
use Rattle.error_laws.proofs.Outcomes.{Outcome, carry, stop, Follows, follows-with-more-marks, shared-mark-is-at, shared-mark-follows, digits-end-alike, other-byte-is-not-next, scan-outcome}
use Rattle.error_laws.proofs.SharedPrefixes.{IsPosition, position-after-mark, scan-goes-on, Alike, scan-ends-at-position, next-is-shared, bytes-are-shared, position-is-shared, scanned-part-is-valid}

scan-stays-at-end : (text : List ℕ) (set : TableSet) (i : ℕ) → drop i text ≡ []
    → scan text set i ≡ Ok i
scan-stays-at-end text set i d =
    grind (arith, nat_tests, empty_text_has_empty_valid_prefix, scan-goes-on)

module _ (kind : Kind) (text : List ℕ) (i : ℕ) (d : drop i text ≡ []) where
  end-has-no-error : error_from_end kind text i ≡ None
  unfolding error_from_end
  end-has-no-error = cond-true _ _ _ (ap is_end d ∙ empty-text-is-end)

  end-has-no-fragment-error : error_from_fragment kind text i ≡ None
  unfolding error_from_fragment
  end-has-no-fragment-error = cond-false _ _ _ (ap (starts 35) d) ∙ end-has-no-error

  end-has-no-query-error : error_from_query kind text i ≡ None
  unfolding error_from_query
  end-has-no-query-error = cond-false _ _ _ (ap (starts 63) d) ∙ end-has-no-fragment-error

  pub end-has-no-path-error : error_from_path kind text i ≡ None
  unfolding error_from_path
  end-has-no-path-error = ap (λ r. r >>= error_from_query kind text)
      (scan-stays-at-end text kind.path i d) ∙ end-has-no-query-error

  end-has-no-abempty-path-error : error_from_abempty_path kind text i ≡ None
  unfolding error_from_abempty_path
  end-has-no-abempty-path-error =
      grind (arith, nat_tests, scan-stays-at-end, end-has-no-query-error)

  pub end-has-no-port-error : error_from_port kind text i ≡ None
  unfolding error_from_port
  end-has-no-port-error = ap (error_from_abempty_path kind text)
      (cond-false _ _ _ (ap (starts 58) d)) ∙ end-has-no-abempty-path-error

  pub end-has-no-host-error : error_from_host kind text i ≡ None
  unfolding error_from_host
  end-has-no-host-error = grind (arith, nat_tests, scan-stays-at-end, end-has-no-port-error)

module _ (kind : Kind) (f : Facts kind) (text : List ℕ) (u : IsUtf8 text) where
  -- the end of the text
  end-outcome : (i : ℕ) (r : ParseError) → IsPosition text i → error_from_end kind text i ≡ Some r
      → Outcome text r.index false (At [] i) i (λ t. error_from_end kind t i)
  unfolding error_from_end
  end-outcome i r a e = ⊎_elim
      (λ o. absurd (none-some r (sym (cond-true _ _ _ o) ∙ e)))
      (λ o. subst (λ x. Outcome text x.index false (At [] i) i (λ t. error_from_end kind t i))
      (same_Some (unexpected i) r (sym (cond-false _ _ _ o) ∙ e))
      (stop text i (At [] i) i (λ t. error_from_end kind t i) [] u (omega arith) a IsUtf8-nil
      (λ other w d. (subst (IsEmptyOrMarked []) (sym d) tt, end-has-no-error kind other i d))))
      (cases_Bool (is_at_end text i))

  -- a component after its mark, or what follows it alone
  component-outcome : (mark : ℕ) (set : TableSet) (marks : List ℕ)
      (next : List ℕ → ℕ → OptionalParseError)
      → mark < 128 → LacksPercent set → excludes set marks ≡ true → is_one_of marks 37 ≡ false
      → is_one_of marks mark ≡ false → is_one_of (mark ∷ marks) mark ≡ true
      → ((t : List ℕ) (i : ℕ) → drop i t ≡ [] → next t i ≡ None)
      → ((i : ℕ) (r : ParseError) → IsPosition text i → next text i ≡ Some r
      → Outcome text r.index false (At marks i) i (λ t. next t i))
      → (i : ℕ) (r : ParseError) → IsPosition text i
      → cond (is_next text mark i) (scan text set (i + 1) >>= next text) (next text i) ≡ Some r
      → Outcome text r.index false (At (mark ∷ marks) i) i
      (λ t. cond (is_next t mark i) (scan t set (i + 1) >>= next t) (next t i))
  component-outcome mark set marks next small lacks outside plain apart is ended outcome i r a e =
      ⊎_elim
      (λ s.
      let b = position-after-mark text mark i small s a in
      let end : ℕ = scan_end text set (i + 1) in
      let o = scan-outcome text u set marks lacks outside plain (i + 1) b next r
      (λ other w d. ended other end d)
      (λ t. outcome end r (scan-ends-at-position text set lacks (i + 1) b) t)
      (sym (cond-true _ _ _ s) ∙ e) in
      let from = o.from in
      let l : i < r.index = omega arith in
      carry text r.index false _ _ end i _ _ (omega arith) o (λ other w at. (
        shared-mark-is-at r.index text other w mark (mark ∷ marks) i is l s,
        cond-true _ _ _ (next-is-shared r.index text other w mark i l ∙ s),
      )))
      (λ s. carry text r.index false _ _ i i _ _ (omega arith)
      (outcome i r a (sym (cond-false _ _ _ s) ∙ e)) (λ other w at. (
        empty-or-marked-for-more-marks marks (mark ∷ marks) (drop i other)
            (λ c m. or_right _ _ m) at,
        cond-false _ _ _ (begins-with-no-other mark marks (drop i other) apart at),
      ))) (cases_Bool (is_next text mark i))

  fragment-outcome : (i : ℕ) (r : ParseError) → IsPosition text i
      → error_from_fragment kind text i ≡ Some r
      → Outcome text r.index false (At (codes "#") i) i (λ t. error_from_fragment kind t i)
  unfolding error_from_fragment
  fragment-outcome = component-outcome 35 kind.fragment [] (error_from_end kind) (omega arith)
      f.apart.fragment_lacks refl refl refl refl (end-has-no-error kind) end-outcome

  query-outcome : (i : ℕ) (r : ParseError) → IsPosition text i
      → error_from_query kind text i ≡ Some r
      → Outcome text r.index false (At (codes "?#") i) i (λ t. error_from_query kind t i)
  unfolding error_from_query
  query-outcome = component-outcome 63 kind.query (codes "#") (error_from_fragment kind)
      (omega arith) f.apart.query_lacks f.apart.query_marks refl refl refl
      (end-has-no-fragment-error kind) fragment-outcome

  pub path-outcome : (i : ℕ) (r : ParseError) → IsPosition text i
      → error_from_path kind text i ≡ Some r
      → Outcome text r.index false (At (codes "?#") (scan_end text kind.path i))
      (scan_end text kind.path i) (λ t. error_from_path kind t i)
  unfolding error_from_path
  path-outcome i r a e =
      let end : ℕ = scan_end text kind.path i in
      scan-outcome text u kind.path (codes "?#") f.apart.path_lacks f.apart.path_marks refl i a
      (error_from_query kind) r (λ other w d. end-has-no-query-error kind other end d)
      (λ t. query-outcome end r (scan-ends-at-position text kind.path f.apart.path_lacks i a) t) e

  module _ (i : ℕ) (a : IsPosition text i) where
    abbrev end : ℕ
    end = scan_end text kind.path i

    abbrev is_rooted : List ℕ → ℕ → Bool
    is_rooted t n = eqb n i || is_next t 47 i

    abbrev next : List ℕ → ℕ → OptionalParseError
    next t n = cond (is_rooted t n) (error_from_query kind t n) (Some (unexpected i))

    later_unless_equal : eqb end i ≡ false → i < end
    later_unless_equal z = let ne : end ≡ i → ⊥ = λ s. both_ways _ z (eq-eqb end i s) in
        omega (arith, ne)

    -- after an authority
    rooted-path-outcome : (r : ParseError) → is_rooted text end ≡ true
        → (scan text kind.path i >>= next text) ≡ Some r
        → Outcome text r.index false (At (codes "/?#") i) i (λ t. scan t kind.path i >>= next t)
    rooted-path-outcome r rooted e =
        let empty_or_slash : (eqb end i ≡ true) ⊎ ((i < end) × (is_next text 47 i ≡ true)) =
        ⊎_elim (λ z. inl z)
        (λ z.
        let later : i < end = later_unless_equal z in
        inr (later, ⊎_elim (λ y. absurd (both_ways _ z y)) (λ y. y) (or_cases _ _ rooted)))
        (cases_Bool (eqb end i)) in
        let shared : (n : ℕ) (other : List ℕ) → Alike n text other → end ≤ n
        → is_rooted other end ≡ true = λ n other w le. ⊎_elim
        (λ z. or_left _ _ z)
        (λ z. or_right _ _ (next-is-shared n text other w 47 i (omega (arith, z.0, le)) ∙ z.1))
        empty_or_slash in
        let o = scan-outcome text u kind.path (codes "?#") f.apart.path_lacks f.apart.path_marks
        refl i a next r
        (λ other w d. cond-true _ _ _ (shared end other w (omega arith))
        ∙ end-has-no-query-error kind other end d)
        (λ t.
        let q = query-outcome end r (scan-ends-at-position text kind.path f.apart.path_lacks i a)
        (sym (cond-true _ _ _ rooted) ∙ t) in
        carry text r.index false _ _ end end _ _ (omega arith) q (λ other w at.
        (at, cond-true _ _ _ (shared r.index other w q.from)))) e in
        let from = o.from in
        carry text r.index false _ _ end i _ _ (omega arith) o (λ other w at. (
          ⊎_elim
              (λ z. empty-or-marked-for-more-marks (codes "?#") (codes "/?#") (drop i other)
              (λ c m. or_right _ _ m) (subst (λ k. At (codes "?#") k other) (eqb-true _ _ z) at))
              (λ z. shared-mark-is-at r.index text other w 47 (codes "/?#") i refl
              (omega (arith, z.0, from)) z.1) empty_or_slash,
          refl,
        ))

    -- a path that begins with no `/` after an authority, and then has a stray `%`
    unrooted-path-outcome : (r : ParseError) → is_unrooted kind text i ≡ true
        → (scan text kind.path i >>= next text) ≡ Some r
        → Outcome text r.index true (Follows true (codes "/?#") i r.index) i
        (λ t. scan t kind.path i >>= next t)
    unrooted-path-outcome r late e =
        let q = and_parts _ _ late in
        let p = and_parts _ _ q.0 in
        let le : i < end = ltb-true _ _ p.0 in
        let k : ℕ = valid_prefix kind.path (drop i text) in
        let b = scan-ends-at-position text kind.path f.apart.path_lacks i a in
        let v = scanned-part-is-valid text kind.path f.apart.path_lacks i a in
        subst (λ x. Outcome text x.index true (Follows true (codes "/?#") i x.index) i
        (λ t. scan t kind.path i >>= next t))
        (same_Some (stray_percent end) r (sym (ap (λ r. r >>= next text)
        (cond-true _ _ _ (and_from _ _ f.adjoins.path_octets q.1))) ∙ e))
        record {
          from = omega arith;
          within = b.le;
          is = λ other w.
              let stop : ℕ = scan_end other kind.path i in
              let c = position-is-shared end text other w u i (omega (arith, le)) a in
              let same = sym (bytes-are-shared end text other w i k (omega arith)) in
              let far = valid_prefix_is_longest kind.path f.apart.path_lacks (drop i other) k
              c.utf8 (IsCharBoundary-from_take (drop i other) k c.utf8
              (omega (arith, length-drop i other, w.in_other))
              (subst IsUtf8 same v.0)) (subst (IsValidFor kind.path) same v.1) in
              let past = ne_eqb stop i (λ z. omega (arith, far, le, z)) in
              let rootless = next-is-shared end text other w 47 i le ∙ not-true _ p.1 in (
                le,
                ⊎_elim
                    (λ h. (stray_percent stop, ap (λ r. r >>= next other) (cond-true _ _ _ h)))
                    (λ h. (
                      unexpected i,
                      ap (λ r. r >>= next other) (cond-false _ _ _ h)
                          ∙ cond-false _ _ _ (or_from _ _ past rootless),
                    )) (cases_Bool (kind.path.pct_encoded && is_next other 37 stop)),
              );
        }

    -- a path that begins with no `/` after an authority, and has no stray `%`
    rootless-path-outcome : (r : ParseError) → is_rooted text end ≡ false
        → is_unrooted kind text i ≡ false → (scan text kind.path i >>= next text) ≡ Some r
        → Outcome text r.index false (At (codes "/?#") i) i (λ t. scan t kind.path i >>= next t)
    rootless-path-outcome r rootless counted e =
        let o = or_parts (eqb end i) (is_next text 47 i) rootless in
        let t = sym (scan-stops-at-stray-percent-or-goes-on text kind.path i (next text)) ∙ e in
        ⊎_elim
        (λ s. absurd (both_ways _ counted (and_from _ _ (and_from _ _
        (lt-ltb i end (later_unless_equal o.0)) (not_from_false _ o.1)) (and_parts _ _ s).1)))
        (λ s. subst (λ x. Outcome text x.index false (At (codes "/?#") i) i
        (λ t. scan t kind.path i >>= next t))
        (same_Some _ _ (sym (cond-false _ _ _ rootless) ∙ sym (cond-false _ _ _ s) ∙ t))
        (stop text i (At (codes "/?#") i) i (λ t. scan t kind.path i >>= next t) [] u (omega arith)
        a IsUtf8-nil (λ other w d. (
          subst (IsEmptyOrMarked (codes "/?#")) (sym d) tt,
          ap (λ r. r >>= next other) (scan-stays-at-end other kind.path i d)
              ∙ cond-true _ _ _ (or_left _ _ (eq-eqb i i refl))
              ∙ end-has-no-query-error kind other i d,
        )))) (cases_Bool (kind.path.pct_encoded && is_next text 37 end))

    abempty-outcome-by-late : (late : Bool) (r : ParseError) → is_unrooted kind text i ≡ late
        → (scan text kind.path i >>= next text) ≡ Some r
        → Outcome text r.index late (Follows late (codes "/?#") i r.index) i
        (λ t. scan t kind.path i >>= next t)
    abempty-outcome-by-late true r l e = unrooted-path-outcome r l e
    abempty-outcome-by-late false r l e = ⊎_elim
        (λ h. rooted-path-outcome r h e)
        (λ h. rootless-path-outcome r h l e) (cases_Bool (is_rooted text end))

    pub abempty-path-outcome : (late : Bool) (r : ParseError) → is_unrooted kind text i ≡ late
        → error_from_abempty_path kind text i ≡ Some r
        → Outcome text r.index late (Follows late (codes "/?#") i r.index) i
        (λ t. error_from_abempty_path kind t i)
    unfolding error_from_abempty_path
    abempty-path-outcome = abempty-outcome-by-late

  -- a port, or none, and what follows
  pub port-outcome : (i : ℕ) (a : IsPosition text i) (late : Bool) (r : ParseError)
      → is_late_from_port kind text i ≡ late → error_from_port kind text i ≡ Some r
      → Outcome text r.index late (Follows late (codes ":/?#") i r.index) i
      (λ t. error_from_port kind t i)
  unfolding error_from_port is_late_from_port
  port-outcome i a late r l e =
      let end : ℕ = scan_end text digit_set (i + 1) in ⊎_elim
      (λ s.
      let b = position-after-mark text 58 i (omega arith) s a in
      let same : cond (is_next text 58 i) end i ≡ end = cond-true _ _ _ s in
      let o = abempty-path-outcome end (scan-ends-at-position text digit_set refl (i + 1) b) late r
      (ap (is_unrooted kind text) (sym same) ∙ l)
      (ap (error_from_abempty_path kind text) (sym same) ∙ e) in
      let from = o.from in
      let below : i < r.index = omega arith in
      carry text r.index late _ _ end i _ _ (omega arith) o (λ other w h. (
        shared-mark-follows r.index text other w late 58 (codes ":/?#") i refl below s,
        ap (error_from_abempty_path kind other) (cond-true _ _ _
            (next-is-shared r.index text other w 58 i below ∙ s)
            ∙ digits-end-alike r.index text other w late (codes "/?#") (i + 1) refl u b from h),
      )))
      (λ s.
      let same : cond (is_next text 58 i) end i ≡ i = cond-false _ _ _ s in
      let o = abempty-path-outcome i a late r (ap (is_unrooted kind text) (sym same) ∙ l)
      (ap (error_from_abempty_path kind text) (sym same) ∙ e) in
      carry text r.index late _ _ i i _ _ (omega arith) o (λ other w h. (
        follows-with-more-marks late (codes "/?#") (codes ":/?#") i r.index other
            (λ c m. or_right _ _ m) h,
        ap (error_from_abempty_path kind other) (cond-false _ _ _
            (other-byte-is-not-next r.index text other w late 58 (codes "/?#") i i refl
            (omega arith) o.from s h)),
      ))) (cases_Bool (is_next text 58 i))
