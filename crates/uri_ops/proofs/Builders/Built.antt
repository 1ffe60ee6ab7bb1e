-- The text of a builder's parts is of its kind, with these components, exactly if nothing is
-- rejected.
use Rattle.uri_ops.proofs.Common.{◌≡◌, ℕ, ◌<◌, Bool, true, false, not, ◌&&◌, ◌||◌, List, [], ◌++◌, length, refl, sym, ap, subst, ◌∙◌, cond, string_bytes, arith, codes, Option, Some, None, IfSome, IfNone, is_some, unwrap_or, slice_index, is_ascii_alphabetic, IsUtf8, IsUtf8-from_is_utf8, and_parts, false≢true, TableSet, scheme_set, is_valid_for, positions_of, IsSplitOf, IsAbemptyPath, Lacks, has_authority, has_scheme, components, marked, starts, IsOfKind, Kind, components_meet_rules, has_colon_in_first_segment, absent_or_passes, is_authority, is_scheme, query_text, components-are-split-of-text, equal-to-true-is-IsTrue, scheme_set_lacks_percent, scheme_set_excludes_delimiters, valid_text_lacks_excluded_marks, only-split-is-components, scheme-rule-holds-without-need, BuilderParts, MeetsOrFailed, as_components, is_authority_text, is_scheme_text, is_text_for, meet_rules, parts_text, IsTextOfParts, refusal, build_error_of_path, HasComponentSets, is_empty, Draft, draft_parts, is_at_end, eq_true_from_IsTrue, authority_has_abempty_path, common_steps}
use Rattle.uri_ops.specs.declared.build.error.BuildError.{BuildError}
use Rattle.uri_ops.specs.declared.build.error.BuildError.TheVariants.{FirstPathSegmentContainsColon, NonemptyRootlessPath, PathStartsWithDoubleSlash}
use Rattle.uri_ops.proofs.Builders.PartRules.{in-order-parts-pass-their-test}
use Rattle.uri_ops.proofs.Builders.BuilderAuthorities.{authority-lacks-its-ends, authority-text-meets-rule, authority-text-is-utf8}
use Rattle.uri_ops.proofs.Builders.Drafting.{meet_rules-gives-rules}
use Rattle.uri_ops.proofs.Meanings.ComponentEnds.{no_scheme, path-set-excludes-its-ends, query-set-excludes-its-end}
use Rattle.uri_ops.proofs.Meanings.AllowedParts.{is_set_text, set-text-from-utf8, empty-text-is-set-text, set-text-is-utf8, set-text-is-valid}
use Rattle.uri_ops.proofs.Meanings.TextParts.{ArePartsOfKind, components-of-kind-meet-grammar}
use Rattle.uri_ops.proofs.Normal.NormalComponents.{text-with-first-letter-is-not-empty}

-- building: a text that passes a builder's test of a set is UTF-8 and valid for it
text-for-set-is-set-text : (set : TableSet) (x : List ℕ) → is_text_for set x ≡ true
    → is_set_text set x ≡ true
unfolding is_text_for
text-for-set-is-set-text set x e = let p = and_parts _ (is_valid_for set x) e in
    set-text-from-utf8 set x (IsUtf8-from_is_utf8 x p.0) p.1

-- building: a text that passes a builder's test of a scheme is a scheme in UTF-8
scheme-text-is-utf8-scheme : (x : List ℕ) → is_scheme_text x ≡ true → IsUtf8 x
    × (is_scheme x ≡ true)
unfolding is_scheme_text
scheme-text-is-utf8-scheme x e = let p = and_parts _
    (is_scheme x) e in (IsUtf8-from_is_utf8 x p.0, p.1)

-- general fact on options, for a builder's parts:
-- what a test implies holds of a part that passes it, if there is one
passing-option-has-property : (o : Option (List ℕ)) (test : List ℕ → Bool) (P : List ℕ → Type 0)
    → ((x : List ℕ) → test x ≡ true → P x) → absent_or_passes o test ≡ true → IfSome o P
passing-option-has-property o test q f h = grind (arith, common_steps)

-- building: a path that passes its test, or the empty one for none, is UTF-8 and valid
passing-path-is-set-text : (set : TableSet) (o : Option (List ℕ))
    → absent_or_passes o (is_text_for set) ≡ true → is_set_text set (unwrap_or o []) ≡ true
passing-path-is-set-text set None h = empty-text-is-set-text set
passing-path-is-set-text set (Some x) h = text-for-set-is-set-text set x h

-- building: the path may follow the scheme and the authority without any of the three errors
record IsAcceptedPath (scheme authority : Option (List ℕ)) (path : List ℕ) : Type 0 where
  rooted : IfSome authority (λ a. IsAbemptyPath path)
  no_authority : IfNone authority (has_authority path ≡ false)
  no_colon : (is_some scheme || (is_some authority || not (has_colon_in_first_segment path))) ≡ true

-- building: the first of the three errors that the path of a builder's parts may have
first_build_error : Option (List ℕ) → Option (List ℕ) → List ℕ → Option BuildError
first_build_error scheme authority path = cond
    (is_some authority) (cond (is_empty path || starts 47 path) None (Some NonemptyRootlessPath))
    (cond (has_authority path) (Some PathStartsWithDoubleSlash) (cond (not (is_some scheme)
    && has_colon_in_first_segment path) (Some FirstPathSegmentContainsColon) None))

some-is-not-none : {A : Type 0} {x : A} → Some x ≡ None → ⊥
some-is-not-none e = false≢true (sym (ap is_some e))

-- building: if a test alone decides an error (x) and there is none, the test passed
no-error-means-test-passed : (t : Bool) (x : BuildError) → cond t None (Some x) ≡ None → t ≡ true
no-error-means-test-passed t x e = grind (arith, common_steps, some-is-not-none)

-- building: if a test decides an error (x) and there is none,
-- the test failed and the rest has no error
no-error-means-no-cause : (t : Bool) (x : BuildError) (rest : Option BuildError)
    → cond t (Some x) rest ≡ None → (t ≡ false) × (rest ≡ None)
no-error-means-no-cause t x rest e = grind (arith, common_steps, some-is-not-none)

-- building: a path that is empty or whose first byte is `/` (47) may be after an authority
empty-or-slash-first-is-abempty : (path : List ℕ) → (is_empty path || starts 47 path) ≡ true
    → IsAbemptyPath path
empty-or-slash-first-is-abempty path e = grind (arith, common_steps, equal-to-true-is-IsTrue)

-- building: a path that may be after an authority is empty or has `/` (47) as its first byte
abempty-is-empty-or-slash-first : (path : List ℕ) → IsAbemptyPath path
    → (is_empty path || starts 47 path) ≡ true
abempty-is-empty-or-slash-first path r = grind (arith, common_steps, eq_true_from_IsTrue)

path-without-build-error-is-accepted : (scheme authority : Option (List ℕ)) (path : List ℕ)
    → first_build_error scheme authority path ≡ None → IsAcceptedPath scheme authority path
unfolding first_build_error
path-without-build-error-is-accepted scheme authority path e =
    grind (
      arith,
      common_steps,
      empty-or-slash-first-is-abempty,
      no-error-means-test-passed,
      no-error-means-no-cause,
    )

accepted-path-has-no-build-error : (scheme authority : Option (List ℕ)) (path : List ℕ)
    → IsAcceptedPath scheme authority path → first_build_error scheme authority path ≡ None
unfolding first_build_error
accepted-path-has-no-build-error scheme authority path p =
    grind (arith, common_steps, abempty-is-empty-or-slash-first)

refusal-is-first_build_error : (p : BuilderParts)
    → refusal p ≡ first_build_error p.scheme p.authority (unwrap_or p.path [])
unfolding build_error_of_path first_build_error
refusal-is-first_build_error p = refl

-- general fact on booleans, for a builder's rules: needs, s, r: whether a scheme is needed, is
-- there, or may be missing before the path
scheme-rule-from-need-and-colon-rules : (needs s r : Bool)
    → (s || not needs) ≡ true → (s || r) ≡ true → (s || (not needs && r)) ≡ true
scheme-rule-from-need-and-colon-rules needs s r a b = grind (arith, common_steps)

module _ (kind : Kind) (sets : HasComponentSets kind) (p : BuilderParts)
    (rules : meet_rules kind p ≡ true) where
  path_or_empty : List ℕ
  path_or_empty = unwrap_or p.path []

  path-is-set-text : is_set_text kind.path path_or_empty ≡ true
  unfolding path_or_empty
  path-is-set-text = passing-path-is-set-text kind.path p.path
      (meet_rules-gives-rules kind p rules).path

  accepted-parts-are-of-kind : (is_some p.scheme || not kind.needs_scheme) ≡ true
      → IsAcceptedPath p.scheme p.authority path_or_empty → ArePartsOfKind kind (as_components p)
  unfolding path_or_empty
  accepted-parts-are-of-kind needs pass =
      let r = meet_rules-gives-rules _ p rules in
      record {
        scheme = passing-option-has-property _ _ _ scheme-text-is-utf8-scheme r.scheme;
        authority = passing-option-has-property
            p.authority (is_authority_text kind) (λ a. IsUtf8 a × (is_authority kind a ≡ true)) (λ
            a h. (authority-text-is-utf8 kind a h, authority-text-meets-rule kind a h)) r.authority;
        path = path-is-set-text;
        query = passing-option-has-property p.query (is_text_for kind.query)
            (λ q. is_set_text kind.query q ≡ true) (text-for-set-is-set-text kind.query) r.query;
        fragment = passing-option-has-property p.fragment (is_text_for kind.fragment) (λ f.
            is_set_text kind.fragment f ≡ true) (text-for-set-is-set-text kind.fragment) r.fragment;
        needs = scheme-rule-from-need-and-colon-rules kind.needs_scheme (is_some p.scheme) _ needs
            pass.no_colon;
      }

  query-lacks-its-end : (q : List ℕ) → is_set_text kind.query q ≡ true → Lacks (codes "#") q
  query-lacks-its-end q h = valid_text_lacks_excluded_marks kind.query (codes "#")
      sets.query.percent (query-set-excludes-its-end kind sets) q (set-text-is-utf8 kind.query q h)
      (set-text-is-valid kind.query q h)

  authority-lacks-ends-before-abempty-path : (authority : Option (List ℕ)) (path : List ℕ)
      → absent_or_passes authority (is_authority_text kind) ≡ true
      → IfSome authority (λ a. IsAbemptyPath path)
      → IfSome authority (λ a. Lacks (codes "/?#") a × IsAbemptyPath path)
  authority-lacks-ends-before-abempty-path authority path h r =
      grind (arith, common_steps, authority-lacks-its-ends)

  scheme-text-lacks-its-ends : (scheme : Option (List ℕ)) → absent_or_passes scheme is_scheme_text
      ≡ true → IfSome scheme (λ s. (0 < length s) × Lacks (codes ":/?#") s)
  scheme-text-lacks-its-ends None h = tt
  scheme-text-lacks-its-ends (Some s) h =
      let r = scheme-text-is-utf8-scheme s h in
      let q = and_parts (is_ascii_alphabetic (slice_index s 0)) (is_valid_for scheme_set s) r.1 in (
        text-with-first-letter-is-not-empty s q.0,
        valid_text_lacks_excluded_marks scheme_set
            (codes ":/?#") scheme_set_lacks_percent scheme_set_excludes_delimiters s r.0 q.1,
      )

  accepted-parts-without-scheme-have-none : (scheme authority : Option (List ℕ))
      (path : List ℕ) (query fragment : Option (List ℕ)) → IsAcceptedPath scheme authority path
      → IfNone scheme (has_scheme (marked [] scheme (codes ":")
      ++ (marked (codes "//") authority [] ++ (path ++ query_text query fragment))) ≡ false)
  accepted-parts-without-scheme-have-none scheme authority path query fragment pass =
      grind (arith, no_scheme, query_text)

  accepted-parts-are-split-of-text : (needs : (is_some p.scheme || not kind.needs_scheme) ≡ true)
      → IsAcceptedPath p.scheme p.authority path_or_empty
      → IsSplitOf (parts_text p) (as_components p)
  unfolding path_or_empty
  accepted-parts-are-split-of-text needs pass =
      let r = meet_rules-gives-rules _ p rules in
      let parts = accepted-parts-are-of-kind needs pass in
      record {
        whole = refl;
        scheme = scheme-text-lacks-its-ends _ r.scheme;
        authority = authority-lacks-ends-before-abempty-path _ _ r.authority pass.rooted;
        path = valid_text_lacks_excluded_marks kind.path (codes "?#") sets.path.percent
            (path-set-excludes-its-ends _ sets) (unwrap_or p.path [])
            (set-text-is-utf8 _ _ path-is-set-text) (set-text-is-valid _ _ path-is-set-text);
        query = passing-option-has-property _ _ _
            (λ q h. query-lacks-its-end q (text-for-set-is-set-text _ q h)) r.query;
        no_scheme = accepted-parts-without-scheme-have-none _ _ _ _ _ pass;
        no_authority = pass.no_authority;
      }

  -- where nothing is rejected
  pub accepted-parts-have-their-text : (is_some p.scheme || not kind.needs_scheme) ≡ true
      → refusal p ≡ None → IsTextOfParts kind p
  unfolding path_or_empty
  accepted-parts-have-their-text needs e =
      let pass = path-without-build-error-is-accepted _ _ _
      (sym (refusal-is-first_build_error p) ∙ e) in
      let same = only-split-is-components _ _ (accepted-parts-are-split-of-text needs pass) in
      record {
        of_kind = ap (components_meet_rules kind) same
            ∙ components-of-kind-meet-grammar _ _ (accepted-parts-are-of-kind needs pass);
        components = same;
      }

pub text-of-parts-is-accepted : (kind : Kind) (p : BuilderParts) → IsTextOfParts kind p
    → refusal p ≡ None
text-of-parts-is-accepted kind p w =
    let split = subst (IsSplitOf (parts_text p)) w.components (components-are-split-of-text _) in
    let meets : components_meet_rules kind (as_components p)
    ≡ true = sym (ap (components_meet_rules kind) w.components) ∙ w.of_kind in
    refusal-is-first_build_error p ∙ accepted-path-has-no-build-error _ _ _ (record {
      rooted = authority_has_abempty_path _ _ split.authority;
      no_authority = split.no_authority;
      no_colon = scheme-rule-holds-without-need kind.needs_scheme (is_some p.scheme)
          (is_some p.authority || not (has_colon_in_first_segment (unwrap_or p.path [])))
          (and_parts _ _ meets).1;
    })

-- what a builder builds
module _ (kind : Kind) (sets : HasComponentSets kind) (d : Draft) (whole : d.failed ≡ false)
    (meets : MeetsOrFailed kind (draft_parts d))
    (at : is_at_end kind.needs_scheme (draft_parts d) ≡ true) where
  pub built-draft-is-text-of-parts : refusal (draft_parts d) ≡ None
      → IsTextOfParts kind (draft_parts d)
  built-draft-is-text-of-parts e = accepted-parts-have-their-text _ sets _ (meets whole)
      (in-order-parts-pass-their-test _ _ _ at whole).0 e

  pub built-text-is-of-kind : refusal (draft_parts d) ≡ None → IsOfKind kind (string_bytes d.text)
  built-text-is-of-kind e = subst (IsOfKind kind) (d.ok whole).whole
      (built-draft-is-text-of-parts e).of_kind

  pub built-positions-are-of-parts : refusal (draft_parts d) ≡ None → positions_of
      (components (string_bytes d.text)) ≡ positions_of (as_components (draft_parts d))
  built-positions-are-of-parts e = ap positions_of (ap components (sym (d.ok whole).whole)
      ∙ (built-draft-is-text-of-parts e).components)
