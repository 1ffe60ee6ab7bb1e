-- A whole text is parsed where it is of its kind.
use Rattle.std.proofs.lemmas.Grind.{common_steps}
use Rattle.uri_parts.proofs.Common.{◌≡◌, ℕ, Bool, true, false, cond, eqb, not, List, [], ◌∷◌, get_or, drop, refl, sym, ap, ◌∙◌, ◌||◌, ◌&&◌, ⊎_elim, lit<, arith, codes, is_some, IsUtf8, is_ascii_alphabetic, cases_Bool, cond-true, cond-false, and_left, and_right, and_from, and_parts, eq-eqb, eqb-true, ne_eqb, not_from_true, not_from_false, both_ways, false≢true, false_from_ne_true, or_left, and-true, and_assoc, nat_tests, TableSet, is_one_of, scheme_set, is_valid_for, valid_prefix, after, cut, valid_prefix_at_mark_is_empty, AreAscii-by-test, length_before_marks, before_any, from_any, starts, has_authority, has_scheme, after_scheme, after_authority, components, when, Kind, absent_or_passes, is_scheme, is_authority, has_colon_in_first_segment, is_of_kind}
use Rattle.uri_parts.proofs.Parsing.Acceptance.{parses_path, parses_authority, parses_relative, parses_hier_part, parses_schemeless, parses}
use Rattle.uri_parts.proofs.Parsing.ScanStops.{utf8_from_marks, utf8_after_mark, utf8_after_slashes}
use Rattle.uri_parts.proofs.TextKinds.Separations.{SeparatesComponents}
use Rattle.uri_parts.proofs.Parsing.Accepts.{fragment_is_valid, query_and_fragment_are_valid, parses_path-is-valid-path-and-end}
use Rattle.uri_parts.proofs.Splitting.Hierarchies.{hierarchy_is_valid, parses_hier_part-is-valid, parses_authority-is-valid}
use Rattle.uri_parts.proofs.Splitting.Relative.{scheme_set_lacks_percent, scheme_set_excludes_delimiters, scan_stops_at_first_colon, colon_in_first_segment-is-at-start, parses_relative-without-scheme, parses_relative-rejects-scheme, parses_relative-after-scheme-chars}
use Rattle.uri_parts.proofs.Splitting.Cuts.{from_any-at-mark}

-- general fact on booleans, for parsing a whole text
and-of-six-regrouped : (a b p q f c : Bool)
    → (((((a && b) && p) && q) && f) && c) ≡ (a && (c && (b && (p && (q && f)))))
and-of-six-regrouped false b p q f c = refl
and-of-six-regrouped true false p q f true = refl
and-of-six-regrouped true false p q f false = refl
and-of-six-regrouped true true false q f true = refl
and-of-six-regrouped true true false q f false = refl
and-of-six-regrouped true true true false f true = refl
and-of-six-regrouped true true true false f false = refl
and-of-six-regrouped true true true true false true = refl
and-of-six-regrouped true true true true false false = refl
and-of-six-regrouped true true true true true true = refl
and-of-six-regrouped true true true true true false = refl

-- parsing: a text that begins with `//` begins with a delimiter that ends a scheme
pub slashes-are-first-mark : (bs : List ℕ) → has_authority bs ≡ true → from_any (codes ":/?#") bs
    ≡ bs
slashes-are-first-mark [] e = refl
slashes-are-first-mark (b ∷ rest) e = from_any-at-mark (codes ":/?#") b rest
    (ap (is_one_of (codes ":/?#")) (eqb-true b 47 (and_parts _ _ e).0))

-- parsing: what begins with `//` does not begin with `:` (58)
pub slashes-begin-with-no-colon : (bs : List ℕ) → has_authority bs ≡ true → starts 58 bs ≡ false
slashes-begin-with-no-colon [] e = refl
slashes-begin-with-no-colon (b ∷ rest) e = ap (λ c. eqb c 58) (eqb-true b 47 (and_parts _ _ e).0)

-- parsing: what begins with `//` has no scheme
pub slashes-begin-with-no-scheme : (bs : List ℕ) → has_authority bs ≡ true
    → valid_prefix scheme_set bs ≡ 0
slashes-begin-with-no-scheme [] e = absurd (false≢true e)
slashes-begin-with-no-scheme (b ∷ rest) e = valid_prefix_at_mark_is_empty (codes ":/?#") scheme_set
    scheme_set_lacks_percent scheme_set_excludes_delimiters b
    rest (ap (is_one_of (codes ":/?#")) (eqb-true b 47 (and_parts _ _ e).0))

pub slashes-follow-no-scheme-characters : (text : List ℕ) → (eqb (valid_prefix scheme_set text) 0
    && has_authority (after scheme_set text)) ≡ has_authority text
slashes-follow-no-scheme-characters text = grind (arith, nat_tests, slashes-begin-with-no-scheme)

-- parsing: `:` (58) does not begin a scheme
pub colon_is_no_letter : (text : List ℕ) → starts 58 text ≡ true
    → is_ascii_alphabetic (get_or text 0 0) ≡ false
colon_is_no_letter [] e = absurd (false≢true e)
colon_is_no_letter (b ∷ rest) e = ap is_ascii_alphabetic (eqb-true b 58 e)

after_scheme-is-after-colon : (text : List ℕ) → has_scheme text ≡ true
    → after_scheme text ≡ drop 1 (from_any (codes ":/?#") text)
after_scheme-is-after-colon text e = cond-true _ _ _ e

after_scheme-without-scheme-is-whole : (text : List ℕ) → has_scheme text ≡ false
    → after_scheme text ≡ text
after_scheme-without-scheme-is-whole text e = cond-false _ _ _ e

-- parsing: the scheme of a text, if there is one, meets its rule
scheme_ok : List ℕ → Bool
scheme_ok text = absent_or_passes (when (has_scheme text) (before_any (codes ":/?#") text))
    is_scheme

-- parsing: the parser's test of a scheme is the grammar's, if there is one
scheme_ok-tests-scheme-if-present : (text : List ℕ) → has_scheme text ≡ true
    → scheme_ok text ≡ is_scheme (before_any (codes ":/?#") text)
unfolding scheme_ok
scheme_ok-tests-scheme-if-present text e = grind (arith, nat_tests)

-- parsing: the parser's test of a scheme passes if there is none
scheme_ok-holds-without-scheme : (text : List ℕ) → has_scheme text ≡ false → scheme_ok text ≡ true
unfolding scheme_ok
scheme_ok-holds-without-scheme text e = grind (arith, nat_tests)

scheme-begins-with-letter-iff-text-does : (text : List ℕ) → has_scheme text ≡ true
    → is_ascii_alphabetic (get_or (before_any (codes ":/?#") text) 0 0)
    ≡ is_ascii_alphabetic (get_or text 0 0)
scheme-begins-with-letter-iff-text-does [] e = refl
scheme-begins-with-letter-iff-text-does (b ∷ rest) e = grind (arith, common_steps)

-- parsing: a scheme is valid exactly if a scan by its set ends at the first delimiter
scheme-validity-by-prefix-length : (text : List ℕ) → IsUtf8 text
    → is_valid_for scheme_set (before_any (codes ":/?#") text)
    ≡ eqb (valid_prefix scheme_set text) (length_before_marks (codes ":/?#") text)
scheme-validity-by-prefix-length text u = cut (codes ":/?#") scheme_set scheme_set_lacks_percent
    scheme_set_excludes_delimiters text u

-- parsing: what is after the scheme of a text is UTF-8
pub utf8_after_scheme : (text : List ℕ) → IsUtf8 text → IsUtf8 (after_scheme text)
utf8_after_scheme text u = ⊎_elim
    (λ e. rw e (utf8_after_mark 58 (lit< tt) (from_any (codes ":/?#") text) (and_parts _ _ e).0
    (utf8_from_marks (codes ":/?#") text (AreAscii-by-test (codes ":/?#") refl) u)))
    (λ e. rw e u) (cases_Bool (has_scheme text))

-- parsing: what is after the authority of a text is UTF-8
pub utf8_after_authority : (rest : List ℕ) → IsUtf8 rest → IsUtf8 (after_authority rest)
utf8_after_authority rest u = ⊎_elim (λ e. rw e (utf8_from_marks (codes "/?#")
    (drop 2 rest) (AreAscii-by-test (codes "/?#") refl) (utf8_after_slashes rest e u)))
    (λ e. rw e u) (cases_Bool (has_authority rest))

module _ (segment : TableSet) (kind : Kind) (w : SeparatesComponents segment kind) where
  -- the scheme that is needed, and the first segment without one
  unmixed : List ℕ → Bool
  unmixed text = is_some (when (has_scheme text) (before_any (codes ":/?#") text))
      || (not kind.needs_scheme && (is_some (when (has_authority (after_scheme text))
      (before_any (codes "/?#") (drop 2 (after_scheme text))))
      || not
      (has_colon_in_first_segment (before_any (codes "?#") (after_authority (after_scheme text))))))

  tail_ok : List ℕ → Bool
  tail_ok text = hierarchy_is_valid segment kind w (after_scheme text)

  is_of_kind-by-scheme-segment-and-tail : (text : List ℕ) → IsUtf8 text
      → is_of_kind kind text ≡ (scheme_ok text && (unmixed text && tail_ok text))
  unfolding scheme_ok unmixed tail_ok hierarchy_is_valid query_and_fragment_are_valid
      fragment_is_valid
  is_of_kind-by-scheme-segment-and-tail text u = and-of-six-regrouped (scheme_ok text)
      (absent_or_passes (components text).authority (is_authority kind)) (is_valid_for kind.path
      (components text).path) (absent_or_passes (components text).query (is_valid_for kind.query))
      (absent_or_passes (components text).fragment (is_valid_for kind.fragment)) (unmixed text)
      ∙ ap (λ t. scheme_ok text
      && (unmixed text && (absent_or_passes (when (has_authority (after_scheme text))
      (before_any (codes "/?#") (drop 2 (after_scheme text)))) (is_authority kind) && t)))
      (sym (parses_path-is-valid-path-and-end segment kind w
      (after_authority (after_scheme text)) (utf8_after_authority _ (utf8_after_scheme text u))))

  first-segment-rule-holds-with-scheme : (text : List ℕ) → has_scheme text ≡ true
      → unmixed text ≡ true
  unfolding unmixed
  first-segment-rule-holds-with-scheme text e =
      or_left _ _ (ap (λ t. is_some (when t (before_any (codes ":/?#") text))) e)

  first-segment-rule-with-authority : (text : List ℕ)
      → has_scheme text ≡ false → has_authority text ≡ true → unmixed text ≡ not kind.needs_scheme
  unfolding unmixed
  first-segment-rule-with-authority text e f =
      grind (arith, nat_tests, after_scheme-without-scheme-is-whole, and-true)

  first-segment-rule-with-path-alone : (text : List ℕ) → has_scheme text ≡ false
      → has_authority text ≡ false → unmixed text ≡ (not kind.needs_scheme && not (starts 58 text))
  unfolding unmixed
  first-segment-rule-with-path-alone text e f = grind (
    arith,
    nat_tests,
    after_scheme-without-scheme-is-whole,
    colon_in_first_segment-is-at-start,
  )

  tail-without-authority-is-parsed-path : (text : List ℕ)
      → has_scheme text ≡ false → has_authority text ≡ false → tail_ok text ≡ parses_path kind text
  unfolding tail_ok hierarchy_is_valid
  tail-without-authority-is-parsed-path text e f =
      ap (hierarchy_is_valid segment kind w) (after_scheme-without-scheme-is-whole text e) ∙ ap
      (λ t. absent_or_passes (when t (before_any (codes "/?#") (drop 2 text))) (is_authority kind)
      && parses_path kind (cond t (from_any (codes "/?#") (drop 2 text)) text)) f

  tail-with-authority-is-parsed-authority : (text : List ℕ) → IsUtf8 text → has_scheme text ≡ false
      → has_authority text ≡ true → tail_ok text ≡ parses_authority kind (drop 2 text)
  unfolding tail_ok
  tail-with-authority-is-parsed-authority text u e f = ap (hierarchy_is_valid segment kind w)
      (after_scheme-without-scheme-is-whole text e)
      ∙ sym (parses_authority-is-valid segment kind w text f u)

  -- a colon after the characters of a scheme
  text-with-scheme-is-parsed-by-parts : (text : List ℕ) → IsUtf8 text
      → starts 58 (after scheme_set text) ≡ true → (is_ascii_alphabetic (get_or text 0 0)
      && parses_hier_part kind (drop 1 (after scheme_set text)))
      ≡ (scheme_ok text && (unmixed text && tail_ok text))
  unfolding tail_ok
  text-with-scheme-is-parsed-by-parts text u s =
      let eq = scan_stops_at_first_colon scheme_set scheme_set_lacks_percent
      scheme_set_excludes_delimiters text u s in
      let back : after scheme_set text ≡ from_any (codes ":/?#") text = ap (λ n. drop n text) eq in
      ⊎_elim (λ c.
      let h : has_scheme text ≡ false = and_right _ _ (not_from_true _ c) in
      let a : has_authority text ≡ false =
      false_from_ne_true _ (λ t. both_ways _ (slashes-begin-with-no-colon text t) c) in
      and_left _ _ (colon_is_no_letter text c) ∙ sym (and_right _ _ (and_left _ _
      (first-segment-rule-with-path-alone text h a ∙ and_right _ _ (not_from_true _ c))))) (λ c.
      let h : has_scheme text ≡ true =
      and_from _ _ (sym (ap (starts 58) back) ∙ s) (not_from_false _ c) in
      let valid : is_scheme (before_any (codes ":/?#") text) ≡ is_ascii_alphabetic
      (get_or text 0 0) = ap (λ t. is_ascii_alphabetic (get_or (before_any (codes ":/?#") text) 0 0)
      && t) (scheme-validity-by-prefix-length text u ∙ eq-eqb _ _ eq)
      ∙ and-true _ ∙ scheme-begins-with-letter-iff-text-does text h in
      ap (λ t. is_ascii_alphabetic (get_or text 0 0) && t) (ap (λ r. parses_hier_part kind
      (drop 1 r)) back ∙ ap (parses_hier_part kind) (sym (after_scheme-is-after-colon text h))
      ∙ parses_hier_part-is-valid segment kind w (after_scheme text) (utf8_after_scheme text u))
      ∙ ap (λ t. t && tail_ok text) (sym (scheme_ok-tests-scheme-if-present text h ∙ valid))
      ∙ ap (λ t. scheme_ok text && (t && tail_ok text))
      (sym (first-segment-rule-holds-with-scheme text h))) (cases_Bool (starts 58 text))

  schemeless-text-with-slashes-parses-authority : (text : List ℕ) → has_authority text ≡ true
      → parses_schemeless segment kind (valid_prefix scheme_set text) (after scheme_set text)
      ≡ parses_authority kind (drop 2 text)
  unfolding parses_schemeless
  schemeless-text-with-slashes-parses-authority text a = cond-true _ _ _
      (slashes-follow-no-scheme-characters text ∙ a)
      ∙ ap (λ n. parses_authority kind (drop 2 (drop n text))) (slashes-begin-with-no-scheme text a)

  schemeless-text-without-slashes-parses-relative : (text : List ℕ) → has_authority text ≡ false
      → parses_schemeless segment kind (valid_prefix scheme_set text) (after scheme_set text)
      ≡ parses_relative segment kind text
  unfolding parses_schemeless
  schemeless-text-without-slashes-parses-relative text a = cond-false _ _ _
      (slashes-follow-no-scheme-characters text ∙ a)
      ∙ parses_relative-after-scheme-chars segment kind w text

  text-without-scheme-is-parsed-by-parts : (text : List ℕ)
      → IsUtf8 text → starts 58 (after scheme_set text) ≡ false → (not kind.needs_scheme
      && parses_schemeless segment kind (valid_prefix scheme_set text) (after scheme_set text))
      ≡ (scheme_ok text && (unmixed text && tail_ok text))
  text-without-scheme-is-parsed-by-parts text u s = ⊎_elim (λ h.
      let a : has_authority text ≡ false =
      false_from_ne_true _ (λ t. both_ways _ (slashes-begin-with-no-colon text t)
      (sym (ap (starts 58) (slashes-are-first-mark text t)) ∙ (and_parts _ _ h).0)) in
      let ne : eqb (valid_prefix scheme_set text) (length_before_marks (codes ":/?#") text)
      ≡ false =
      ne_eqb _ _ (λ e. both_ways _ s (ap (λ n. starts 58 (drop n text)) e ∙ (and_parts _ _ h).0)) in
      and_right _ _ (schemeless-text-without-slashes-parses-relative text a
      ∙ parses_relative-rejects-scheme segment kind w text u h)
      ∙ sym (and_left _ _ (scheme_ok-tests-scheme-if-present text h
      ∙ and_right _ _ (scheme-validity-by-prefix-length text u ∙ ne)))) (λ h. ⊎_elim (λ a.
      ap (λ t. not kind.needs_scheme && t) (schemeless-text-with-slashes-parses-authority text a
      ∙ sym (tail-with-authority-is-parsed-authority text u h a))
      ∙ ap (λ t. t && tail_ok text) (sym (first-segment-rule-with-authority text h a))
      ∙ ap (λ t. t && (unmixed text && tail_ok text)) (sym (scheme_ok-holds-without-scheme text h)))
      (λ a. ap (λ t. not kind.needs_scheme && t) (schemeless-text-without-slashes-parses-relative
      text a ∙ parses_relative-without-scheme segment kind w text u h)
      ∙ sym (and_assoc (not kind.needs_scheme) (not (starts 58 text)) (parses_path kind text))
      ∙ ap (λ t. (not kind.needs_scheme && not (starts 58 text))
      && t) (sym (tail-without-authority-is-parsed-path text h a))
      ∙ ap (λ t. t && tail_ok text) (sym (first-segment-rule-with-path-alone text h a))
      ∙ ap (λ t. t && (unmixed text && tail_ok text)) (sym (scheme_ok-holds-without-scheme text h)))
      (cases_Bool (has_authority text))) (cases_Bool (has_scheme text))

  pub parses-is-is_of_kind : (text : List ℕ) → IsUtf8 text
      → parses segment kind text ≡ is_of_kind kind text
  unfolding parses
  parses-is-is_of_kind text u =
      ⊎_elim (λ s. cond-true _ _ _ s ∙ text-with-scheme-is-parsed-by-parts text u s)
      (λ s. cond-false _ _ _ s ∙ text-without-scheme-is-parsed-by-parts text u s) (cases_Bool
      (starts 58 (after scheme_set text))) ∙ sym (is_of_kind-by-scheme-segment-and-tail text u)
