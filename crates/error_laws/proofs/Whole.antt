-- The outcomes of errors in a whole text: the law of viable prefixes, and its exceptions.
use Rattle.error_laws.proofs.Common.{◌≡◌, ℕ, ◌+◌, ◌<◌, ◌≤◌, Bool, true, false, cond, eqb, List, [], ◌∷◌, ◌++◌, length, get_or, take, drop, Some, None, refl, sym, ap, subst, ◌∙◌, arith, ◌&&◌, ⊎_elim, length-drop, take-append-drop, zero-add, codes, is_none, slice_index, IsUtf8, drop-drop, get_or-drop, cases_Bool, cases_lt, cond-true, cond-false, and_parts, and_left, and_right, and_cases, both_ways, false≢true, ltb-true, lt-ltb, not-true, not-false, or_right, same_Some, IsUtf8-nil, valid_prefix, TableSet, scheme_set, excludes, valid_prefix_of_superset_goes_on_from_subset, ParseError, has_authority, starts, unexpected, stray_percent, Kind, IsTextOf, is_of_kind, first_segment_set, OptionalParseError, ◌>>=◌, refusal, error_from_path, error_from_authority, error_from_hier_part, error_from_relative_path, is_next, scan_end, scan, scan-stops-at-stray-percent-or-goes-on, nothing-is-scanned-at-mark, IsEmptyOrMarked, empty-or-marked-for-more-marks, begins-with-mark, begins-with-no-other, IsViablePrefix, begins_without_letter, has_late_error, is_late_from_authority, is_late_from_hier}
use Rattle.std.specs.Char.{is_ascii_alphabetic}
use Rattle.uri_parts.proofs.Offered.{utf8_after_slashes, parses-is-is_of_kind, slashes-begin-with-no-colon, slashes-begin-with-no-scheme, no-error-iff-text-is-parsed, errors_on_literals, parsed_error-is-refusal}
use Rattle.error_laws.proofs.Marks.{literal-is-utf8, At}
use Rattle.error_laws.proofs.AuthorityOutcomes.{authority-outcome}
use Rattle.error_laws.proofs.HostOutcomes.{scan-stops-at-its-end}
use Rattle.error_laws.proofs.KindFacts.{Facts, path-stops-with-segment}
use Rattle.error_laws.proofs.Outcomes.{Any, Outcome, carry, stop, shared-mark-is-at, scan-is-passed, scan-outcome}
use Rattle.error_laws.proofs.PathOutcomes.{path-outcome, end-has-no-path-error}
use Rattle.error_laws.proofs.SharedPrefixes.{IsPosition, position-after-mark, Alike, byte-is-shared, scan-ends-at-position, prefix-is-alike, next-is-shared, slashes-are-shared, scan-is-shared}

position-after-slashes : (text : List ℕ) (i : ℕ) → IsPosition text i
    → has_authority (drop i text) ≡ true → IsPosition text (i + 2)
position-after-slashes text i a h =
    let l = two_bytes (drop i text) h in
    record {
      utf8 = subst IsUtf8 (drop-drop 2 i text) (utf8_after_slashes (drop i text) h a.utf8);
      le = omega (arith, l, length-drop i text);
    }
  where
    two_bytes : (bs : List ℕ) → has_authority bs ≡ true → 2 ≤ length bs
    two_bytes [] e = absurd (false≢true e)
    two_bytes (a ∷ []) e = absurd (false≢true (sym (and_right _ _ refl) ∙ e))
    two_bytes (a ∷ b ∷ bs) e = omega arith

-- error law: a text that is empty or begins with `?` or `#` has no `/` (47) first
no-slash-at-path-end : (xs : List ℕ) → IsEmptyOrMarked (codes "?#") xs
    → eqb (get_or xs 0 0) 47 ≡ false
no-slash-at-path-end xs m = grind (arith, begins-with-no-other, codes)

-- error law: a text that is alike up to the end of its path begins with no `//` there either
no-slashes-alike : (n : ℕ) (text other : List ℕ) → Alike n text other → (i k : ℕ) → i ≤ k → k ≤ n
    → At (codes "?#") k other → has_authority (drop i text) ≡ false
    → has_authority (drop i other) ≡ false
no-slashes-alike n text other w i k le within at h =
    let byte : (j : ℕ) → i + j ≡ k → eqb (get_or (drop i other) j 0) 47 ≡ false = λ j e.
    let same : i + j ≡ k + 0 = omega arith in
    ap (λ b. eqb b 47) (get_or-drop i other j 0 ∙ ap (λ m. get_or other m 0) same
    ∙ sym (get_or-drop k other 0 0)) ∙ no-slash-at-path-end (drop k other) at in ⊎_elim
    (λ (l : i + 1 < k). slashes-are-shared n text other w i (omega (arith, l, within)) ∙ h)
    (λ (l : k ≤ i + 1). ⊎_elim
    (λ (m : i < k). and_right _ _ (byte 1 (omega arith)))
    (λ (m : k ≤ i). and_left _ _ (byte 0 (omega arith))) (cases_lt i k)) (cases_lt (i + 1) k)

module _ (kind : Kind) where
  -- after a scheme nothing has to follow
  end-has-no-hier-part-error : (text : List ℕ) (i : ℕ) → drop i text ≡ []
      → error_from_hier_part kind text i ≡ None
  unfolding error_from_hier_part
  end-has-no-hier-part-error text i d = cond-false _ _ _ (ap has_authority d)
      ∙ end-has-no-path-error kind text i d

  letter-and-colon-have-no-error : refusal kind (codes "a:") ≡ None
  unfolding errors_on_literals
  letter-and-colon-have-no-error = end-has-no-hier-part-error (codes "a:") 2 refl

module _ (kind : Kind) (f : Facts kind) (text : List ℕ) (u : IsUtf8 text) where
  start : IsPosition text 0
  start = record { utf8 = u; le = omega arith }

  abbrev scheme : ℕ
  scheme = scan_end text scheme_set 0

  at_scheme : IsPosition text scheme
  at_scheme = scan-ends-at-position text scheme_set refl 0 start

  -- an error in an authority after `//`
  slashes-outcome : (i : ℕ) (late : Bool) (r : ParseError) (error : List ℕ → OptionalParseError)
      → IsPosition text i → has_authority (drop i text) ≡ true
      → ((other : List ℕ) → has_authority (drop i other) ≡ true
      → error other ≡ error_from_authority kind other (i + 2))
      → is_late_from_authority kind text (i + 2) ≡ late → error text ≡ Some r
      → Outcome text r.index late Any i error
  slashes-outcome i late r error a h passed l e =
      let o = authority-outcome kind f text u (i + 2) (position-after-slashes text i a h) late r l
      (sym (passed text h) ∙ e) in
      carry text r.index late _ _ (i + 2) i _ _ (omega arith) o (λ other w q.
      (tt, passed other (slashes-are-shared r.index text other w i o.from ∙ h)))

  hier-part-outcome : (i : ℕ) (late : Bool) (r : ParseError) → IsPosition text i
      → is_late_from_hier kind text i ≡ late → error_from_hier_part kind text i ≡ Some r
      → Outcome text r.index late Any i (λ t. error_from_hier_part kind t i)
  unfolding error_from_hier_part
  hier-part-outcome i late r a l e = ⊎_elim
      (λ h. slashes-outcome i late r (λ t. error_from_hier_part kind t i) a h
      (λ other s. cond-true _ _ _ s)
      (sym (ap (λ b. b && is_late_from_authority kind text (i + 2)) h) ∙ l) e)
      (λ h.
      let o = path-outcome kind f text u i r a (sym (cond-false _ _ _ h) ∙ e) in
      let end : ℕ = scan_end text kind.path i in
      subst (λ y. Outcome text r.index y Any i (λ t. error_from_hier_part kind t i))
      (sym (and_left _ _ h) ∙ l)
      (carry text r.index false _ _ end i _ _ (omega arith) o (λ other w at. (
        tt,
        cond-false _ _ _ (no-slashes-alike r.index text other w i end (omega arith) o.from at h),
      )))) (cases_Bool (has_authority (drop i text)))

  -- a path without a scheme and an authority
  module _ (needs : kind.needs_scheme ≡ false) (none : has_authority text ≡ false) where
    abbrev segment : TableSet
    segment = first_segment_set kind

    abbrev end : ℕ
    end = scan_end text segment 0

    abbrev next : List ℕ → ℕ → OptionalParseError
    next t n = cond (is_next t 58 n) (Some (unexpected n)) (error_from_path kind t n)

    -- the same with the test for `//`, of which nothing has to be known then
    abbrev tested : List ℕ → ℕ → OptionalParseError
    tested t n = cond (has_authority t) (error_from_authority kind t 2) (next t n)

    segment-marks-end-segments : excludes segment (codes "/?#") ≡ true
    segment-marks-end-segments = (and_parts _ _ f.apart.segment_marks).1

    at_end : IsPosition text end
    at_end = scan-ends-at-position text segment f.apart.segment_lacks 0 start

    ended : (other : List ℕ) → Alike end text other → drop end other ≡ []
        → tested other end ≡ None
    ended other w d = cond-false _ _ _ (no-slashes-alike end text other w 0 end (omega arith)
        (omega arith) (subst (IsEmptyOrMarked (codes "?#")) (sym d) tt) none)
        ∙ cond-false _ _ _ (ap (starts 58) d) ∙ end-has-no-path-error kind other end d

    after-segment-outcome : (r : ParseError) → tested text end ≡ Some r
        → Outcome text r.index false (At (codes "/?#") end) end (λ t. tested t end)
    after-segment-outcome r e =
        let path : ℕ = scan_end text kind.path end in
        let t = sym (cond-false _ _ _ none) ∙ e in ⊎_elim
        (λ c. subst (λ x. Outcome text x.index false (At (codes "/?#") end) end (λ t. tested t end))
        (same_Some (unexpected end) r (sym (cond-true _ _ _ c) ∙ t))
        (stop text end (At (codes "/?#") end) end (λ t. tested t end) [] u (omega arith) at_end
        IsUtf8-nil
        (λ other w d. (subst (IsEmptyOrMarked (codes "/?#")) (sym d) tt, ended other w d))))
        (λ c.
        let o = path-outcome kind f text u end r at_end (sym (cond-false _ _ _ c) ∙ t) in
        let from = o.from in
        carry text r.index false _ _ path end _ _ (omega arith) o (λ other w at.
        let at' : At (codes "/?#") end other = ⊎_elim
        (λ (m : end < path). ⊎_elim
        (λ s. shared-mark-is-at r.index text other w 47 (codes "/?#") end refl
        (omega (arith, m, from)) s)
        (λ s. absurd (let z = path-stops-with-segment kind f (drop end text)
        (scan-stops-at-its-end text segment 0) c s in omega (arith, z, m)))
        (cases_Bool (is_next text 47 end)))
        (λ (m : path ≤ end). subst (λ j. At (codes "/?#") j other) (path_stays m)
        (empty-or-marked-for-more-marks (codes "?#") (codes "/?#") (drop path other)
        (λ c m. or_right _ _ m) at))
        (cases_lt end path) in (
          at',
          cond-false _ _ _ (no-slashes-alike r.index text other w 0 path (omega arith) from at none)
              ∙ cond-false _ _ _ (begins-with-no-other 58 (codes "/?#") (drop end other) refl at'),
        )))
        (cases_Bool (is_next text 58 end))
      where
        path_stays : scan_end text kind.path end ≤ end → scan_end text kind.path end ≡ end
        path_stays m = omega arith

    -- without `:` after a first segment there is none after what may be in a scheme
    no-scheme-before-segment : (t : List ℕ) → is_next t 58 (scan_end t segment 0) ≡ false
        → is_next t 58 (scan_end t scheme_set 0) ≡ false
    no-scheme-before-segment t n = ⊎_elim
        (λ c.
        let w = valid_prefix_of_superset_goes_on_from_subset _ _ f.apart.scheme_within refl t in
        let z = nothing-is-scanned-at-mark segment (codes ":/?#") f.apart.segment_lacks
        f.apart.segment_marks (drop (scan_end t scheme_set 0) t)
        (begins-with-mark 58 (codes ":/?#") (drop (scan_end t scheme_set 0) t) refl c) in
        let d = ap (λ n. valid_prefix segment (drop n t)) (zero-add (valid_prefix scheme_set t)) in
        let same : scan_end t scheme_set 0 ≡ scan_end t segment 0 = omega (arith, w, z, d) in
        absurd (both_ways _ n (ap (is_next t 58) (sym same) ∙ c)))
        (λ c. c) (cases_Bool (is_next t 58 (scan_end t scheme_set 0)))

    relative-outcome : (r : ParseError) → error_from_relative_path kind text segment 0 ≡ Some r
        → Outcome text r.index false Any 0 (refusal kind)
    unfolding error_from_relative_path refusal
    relative-outcome r e =
        let stray : Bool = segment.pct_encoded && is_next text 37 end in
        let o = scan-outcome text u segment (codes "/?#") f.apart.segment_lacks
        segment-marks-end-segments refl 0 start tested r ended (after-segment-outcome r)
        (scan-stops-at-stray-percent-or-goes-on text segment 0 (tested text)
        ∙ ap (cond stray (Some (stray_percent end))) (cond-false _ _ _ none)
        ∙ sym (scan-stops-at-stray-percent-or-goes-on text segment 0 (next text)) ∙ e) in
        let from = o.from in
        carry text r.index false _ _ end 0 _ _ (omega arith) o (λ other w at.
        let passed : (go : List ℕ → ℕ → OptionalParseError)
        → (scan other segment 0 >>= go other) ≡ go other end = λ go.
        scan-is-passed text u segment (codes "/?#") f.apart.segment_lacks
        segment-marks-end-segments refl 0 start go r.index other w from at in
        let same = scan-is-shared r.index text other w u segment (codes "/?#")
        f.apart.segment_lacks segment-marks-end-segments 0 start from at in (
          tt,
          cond-false _ _ _ (no-scheme-before-segment other (ap (is_next other 58) same
              ∙ begins-with-no-other 58 (codes "/?#") (drop end other) refl at))
              ∙ cond-false _ _ _ needs
              ∙ ap (cond (has_authority other) (error_from_authority kind other 2)) (passed next)
              ∙ sym (passed tested),
        ))

  -- an error at the start
  start-outcome : Outcome text 0 false Any 0 (refusal kind)
  start-outcome = stop _ 0 Any 0 _ _ u (omega arith) start (literal-is-utf8 _ refl)
      (λ other w d. (tt, ap (refusal kind) d ∙ letter-and-colon-have-no-error _))

  scheme-is-shared : (n : ℕ) (other : List ℕ) → Alike n text other → scheme ≤ n
      → is_next other 58 scheme ≡ true → scan_end other scheme_set 0 ≡ scheme
  scheme-is-shared n other w le s = scan-is-shared n text other w u scheme_set (codes ":") refl refl
      0 start le (begins-with-mark 58 (codes ":") (drop scheme other) refl s)

  -- a scheme, and what follows it
  scheme-outcome : (late : Bool) (r : ParseError) → is_next text 58 scheme ≡ true
      → is_ascii_alphabetic (slice_index text 0) ≡ true
      → is_late_from_hier kind text (scheme + 1) ≡ late
      → error_from_hier_part kind text (scheme + 1) ≡ Some r
      → Outcome text r.index late Any 0 (refusal kind)
  unfolding refusal
  scheme-outcome late r s letter l e =
      let o = hier-part-outcome _ _ r (position-after-mark _ 58 _ (omega arith) s at_scheme) l e in
      let from = o.from in
      carry _ _ _ _ _ _ 0 _ _ (omega arith) o (λ other w q.
      let colon = next-is-shared _ _ _ w 58 _ (omega (arith, from)) ∙ s in
      let same = scheme-is-shared _ _ w (omega (arith, from)) colon in (
        tt,
        cond-true _ _ _ (ap (is_next other 58) same ∙ colon) ∙ cond-true _ _ _
            (ap is_ascii_alphabetic (byte-is-shared _ _ _ w 0 (omega (arith, from))) ∙ letter)
            ∙ ap (λ k. error_from_hier_part kind other (k + 1)) same,
      ))

  -- no scheme where one is needed
  missing-scheme-outcome : kind.needs_scheme ≡ true → (late : Bool)
      → begins_without_letter text scheme ≡ late → Outcome text scheme late Any 0 (refusal kind)
  unfolding refusal
  missing-scheme-outcome needs true l =
      let p = and_parts _ _ l in
      record {
        from = omega arith;
        within = at_scheme.le;
        is = λ other w.
            let last : ℕ = scan_end other scheme_set 0 in
            let first = byte-is-shared scheme text other w 0 (ltb-true _ _ p.0) in (
              tt,
              ⊎_elim
                  (λ c. (
                    unexpected 0,
                    cond-true _ _ _ c ∙ cond-false _ _ _ (ap is_ascii_alphabetic first
                        ∙ not-true _ p.1),
                  ))
                  (λ c. (unexpected last, cond-false _ _ _ c ∙ cond-true _ _ _ needs))
                  (cases_Bool (is_next other 58 last)),
            );
      }
  missing-scheme-outcome needs false l = ⊎_elim
      (λ (some : 0 < scheme).
      let letter = not-false _ (⊎_elim (λ z. absurd (both_ways _ z (lt-ltb 0 _ some)))
      (λ z. z) (and_cases _ _ l)) in
      stop _ _ Any 0 _ _ u (omega arith) at_scheme (literal-is-utf8 (codes ":") refl) (λ other w d.
      let colon : is_next other 58 scheme ≡ true = ap (starts 58) d in
      let same = scheme-is-shared scheme other w (omega arith) colon in (
        tt,
        cond-true _ _ _ (ap (is_next other 58) same ∙ colon) ∙ cond-true _ _ _
            (ap is_ascii_alphabetic (byte-is-shared scheme text other w 0 some) ∙ letter)
            ∙ ap (λ k. error_from_hier_part kind other (k + 1)) same ∙ end-has-no-hier-part-error
            kind other (scheme + 1) (sym (drop-drop 1 scheme other) ∙ ap (drop 1) d),
      )))
      (λ (none : scheme ≤ 0).
      let z : 0 ≡ scheme = omega arith in
      subst (λ n. Outcome text n false Any 0 (refusal kind)) z start-outcome) (cases_lt 0 scheme)

  refusal-outcome : (late : Bool) (r : ParseError) → has_late_error kind text ≡ late
      → refusal kind text ≡ Some r → Outcome text r.index late Any 0 (refusal kind)
  unfolding refusal has_late_error
  refusal-outcome late r l e =
      let by_index : (x : ParseError) → Some x ≡ Some r
      → Outcome text x.index late Any 0 (refusal kind)
      → Outcome text r.index late Any 0 (refusal kind) = λ x same o.
      subst (λ y. Outcome text y.index late Any 0 (refusal kind)) (same_Some x r same) o in
      let on_time : (x : ℕ) → false ≡ late → Outcome text x false Any 0 (refusal kind)
      → Outcome text x late Any 0 (refusal kind) = λ x z o.
      subst (λ y. Outcome text x y Any 0 (refusal kind)) z o in ⊎_elim
      (λ s.
      let l' = sym (cond-true _ _ _ s) ∙ l in
      let e' = sym (cond-true _ _ _ s) ∙ e in ⊎_elim
      (λ a. scheme-outcome late r s a
      (sym (ap (λ b. b && is_late_from_hier kind text (scheme + 1)) a) ∙ l')
      (sym (cond-true _ _ _ a) ∙ e'))
      (λ a. by_index (unexpected 0) (sym (cond-false _ _ _ a) ∙ e')
      (on_time 0 (sym (and_left _ _ a) ∙ l') start-outcome))
      (cases_Bool (is_ascii_alphabetic (slice_index text 0))))
      (λ s.
      let l' = sym (cond-false _ _ _ s) ∙ l in
      let e' = sym (cond-false _ _ _ s) ∙ e in ⊎_elim
      (λ n. by_index (unexpected scheme) (sym (cond-true _ _ _ n) ∙ e')
      (missing-scheme-outcome n late (sym (cond-true _ _ _ n) ∙ l')))
      (λ n.
      let l'' = sym (cond-false _ _ _ n) ∙ l' in
      let e'' = sym (cond-false _ _ _ n) ∙ e' in ⊎_elim
      (λ h. slashes-outcome 0 late r (refusal kind) start h (λ other k.
      let z : scan_end other scheme_set 0 ≡ 0 = omega
      (arith, slashes-begin-with-no-scheme other k) in
      cond-false _ _ _ (ap (is_next other 58) z ∙ slashes-begin-with-no-colon other k)
      ∙ cond-false _ _ _ n ∙ cond-true _ _ _ k)
      (sym (ap (λ b. b && is_late_from_authority kind text 2) h) ∙ l'') e)
      (λ h. on_time r.index (sym (and_left _ _ h) ∙ l'')
      (relative-outcome n h r (sym (cond-false _ _ _ h) ∙ e'')))
      (cases_Bool (has_authority text)))
      (cases_Bool kind.needs_scheme))
      (cases_Bool (is_next text 58 scheme))

  -- a text without an error is of the kind
  no-error-iff-of-kind : (t : List ℕ) → IsUtf8 t
      → is_none (refusal kind t) ≡ is_of_kind kind t
  no-error-iff-of-kind t v = ap is_none (sym (parsed_error-is-refusal _ _ _ f.known refl refl t))
      ∙ no-error-iff-text-is-parsed _ t _ f.apart v ∙ parses-is-is_of_kind _ _ f.apart t v

  pub text-before-error-is-viable : (r : ParseError) → has_late_error kind text ≡ false
      → refusal kind text ≡ Some r → IsViablePrefix kind (take r.index text)
  text-before-error-is-viable r l e =
      let o = refusal-outcome false r l e in
      let (other, (w, (p, z))) = o.is in
      let same : other ≡ take r.index text ++ drop r.index other =
      sym (take-append-drop r.index other) ∙ ap (λ t. t ++ drop r.index other) (sym w.same) in (
        drop r.index other,
        subst (IsTextOf kind) same record {
          utf8 = w.utf8;
          grammar = sym (no-error-iff-of-kind other w.utf8) ∙ ap is_none z;
        },
      )

  pub late-error-begins-no-text : (r : ParseError) → has_late_error kind text ≡ true
      → refusal kind text ≡ Some r → IsViablePrefix kind (take r.index text) → ⊥
  late-error-begins-no-text r l e (more, t) =
      let o = refusal-outcome _ r l e in
      let other : List ℕ = take r.index text ++ more in
      let q = o.is other (prefix-is-alike _ _ _ o.within t.utf8) in
      both_ways _ (ap is_none q.1.1) (no-error-iff-of-kind _ t.utf8 ∙ t.grammar)
