-- References are derived from their components: RFC 3986, sections 3 and 4.
use Rattle.uri_abnf.proofs.Common.{◌≡◌, ℕ, List, [], ◌++◌, refl, sym, ap, subst, ◌∙◌, ⊎_elim, append_assoc, append-nil, arith, Option, None, Some, codes, IfSome, IsSome, is_some, cases_Bool, false≢true, None-from-not-is_some, Components, marked, Abnf, IsOf, lit, opt, ◌⋅◌, ◌∣◌, Rules, IsDerived, path_rule, unrooted_path_rule, scheme}
use Rattle.uri_parts.proofs.Offered.{query_text}
use Rattle.uri_abnf.proofs.Delimited.{after-gives, after-is-had}
use Rattle.uri_abnf.proofs.Rules.{AreMade, tail, hierarchy, after_colon, relative}
use Rattle.uri_abnf.proofs.Texts.{cut-gives, cut-is-had, either-gives, left-is-had, right-is-had, mark-gives, mark-is-had, slashes-mark, colon-mark, same-text, question-mark, hash-mark}

module _ (r : Rules) where
  -- the text is derived as an authority, if there is one, and a path
  record IsHierarchy (other : Abnf) (t : List ℕ) : Type 0 where
    authority : Option (List ℕ)
    path : List ℕ
    whole : marked (codes "//") authority [] ++ path ≡ t
    authority_is_of : IfSome authority (IsOf r.authority)
    path_is_of : IsOf (path_rule r other authority) path

  with-authority : (other : Abnf) (t : List ℕ) → IsOf (lit "//" ⋅ r.authority ⋅ r.path_abempty) t
      → IsHierarchy other t
  with-authority other t l =
      let k = cut-gives (lit "//") (r.authority ⋅ r.path_abempty) t l in
      let j = cut-gives r.authority r.path_abempty k.y k.second in
      let s = mark-gives (codes "//") slashes-mark k.x k.first in
      record {
        authority = Some j.x;
        path = j.y;
        whole = grind (arith, append-nil);
        authority_is_of = j.first;
        path_is_of = j.second;
      }

  without-authority : (other : Abnf) (t : List ℕ) → IsOf (r.path_absolute ∣ other ∣ r.path_empty) t
      → IsHierarchy other t
  without-authority other t l = grind arith

  hierarchy-gives : (other : Abnf) (t : List ℕ) → IsOf (hierarchy r other) t → IsHierarchy other t
  hierarchy-gives other t l = ⊎_elim
      (λ abc. ⊎_elim
      (λ ab. ⊎_elim
      (λ a. with-authority other t a)
      (λ b. without-authority other t
      (left-is-had _ r.path_empty t (left-is-had r.path_absolute other t b)))
      (either-gives _ r.path_absolute t ab))
      (λ c. without-authority other t
      (left-is-had _ r.path_empty t (right-is-had r.path_absolute other t c)))
      (either-gives _ other t abc))
      (λ d. without-authority other t (right-is-had _ r.path_empty t d))
      (either-gives _ r.path_empty t l)

  hierarchy-is-had : (other : Abnf) (a : Option (List ℕ)) (path : List ℕ)
      → IfSome a (IsOf r.authority) → IsOf (path_rule r other a) path
      → IsOf (hierarchy r other) (marked (codes "//") a [] ++ path)
  hierarchy-is-had other None path h l = grind (arith, left-is-had, right-is-had, either-gives)
  hierarchy-is-had other (Some x) path h l = left-is-had _ r.path_empty _ (left-is-had _ other _
      (left-is-had _ r.path_absolute _ (cut-is-had (lit "//") (r.authority ⋅ r.path_abempty)
      (codes "//") ((x ++ []) ++ path) (mark-is-had (codes "//") slashes-mark) (cut-is-had
      r.authority r.path_abempty (x ++ []) path (subst (IsOf r.authority) (sym (append-nil x)) h)
      l))))

  -- the text is derived as a query and a fragment, each if there is one
  record IsTail (t : List ℕ) : Type 0 where
    query : Option (List ℕ)
    fragment : Option (List ℕ)
    whole : t ≡ query_text query fragment
    query_is_of : IfSome query (IsOf r.query)
    fragment_is_of : IfSome fragment (IsOf r.fragment)

  tail-gives : (t : List ℕ) → IsOf (tail r) t → IsTail t
  tail-gives t l =
      let k = cut-gives (opt (lit "?" ⋅ r.query)) (opt (lit "#" ⋅ r.fragment)) t l in
      let a = after-gives (codes "?") question-mark r.query k.x k.first in
      let b = after-gives (codes "#") hash-mark r.fragment k.y k.second in
      grind arith

  query-gives : (t : List ℕ) → IsOf (opt (lit "?" ⋅ r.query)) t
      → (k : IsTail t) × (k.fragment ≡ None)
  query-gives t l =
      let a = after-gives (codes "?") question-mark r.query t l in (
        record {
          query = a.part;
          fragment = None;
          whole = sym (append-nil _ ∙ a.whole);
          query_is_of = a.is_of;
          fragment_is_of = tt;
        },
        refl,
      )

  tail-is-had : (a b : Option (List ℕ)) → IfSome a (IsOf r.query) → IfSome b (IsOf r.fragment)
      → IsOf (tail r) (query_text a b)
  tail-is-had a b h i = cut-is-had (opt (lit "?" ⋅ r.query)) (opt (lit "#" ⋅ r.fragment)) _ _
      (after-is-had (codes "?") question-mark r.query a h)
      (after-is-had (codes "#") hash-mark r.fragment b i)

  -- the text after `scheme ":"` and of what is after the path
  record HasScheme (rest : Abnf) (t : List ℕ) : Type 0 where
    scheme_part : List ℕ
    hierarchy_part : List ℕ
    rest_part : List ℕ
    whole : t ≡ scheme_part ++ (codes ":" ++ (hierarchy_part ++ rest_part))
    scheme_is_of : IsOf scheme scheme_part
    derived : IsHierarchy r.path_rootless hierarchy_part
    rest_is_of : IsOf rest rest_part

  after-colon-gives : (rest : Abnf) (t : List ℕ) → IsOf (after_colon r rest) t → HasScheme rest t
  after-colon-gives rest t l =
      let k = cut-gives scheme (lit ":" ⋅ hierarchy r r.path_rootless ⋅ rest) t l in
      let c = cut-gives (lit ":") (hierarchy r r.path_rootless ⋅ rest) k.y k.second in
      let j = cut-gives (hierarchy r r.path_rootless) rest c.y c.second in
      let colon = mark-gives (codes ":") colon-mark c.x c.first in
      record {
        scheme_part = k.x;
        hierarchy_part = j.x;
        rest_part = j.y;
        whole = grind arith;
        scheme_is_of = k.first;
        derived = hierarchy-gives r.path_rootless j.x j.first;
        rest_is_of = j.second;
      }

  with-scheme-is-had : (rest : Abnf) (o a : Option (List ℕ)) (path end : List ℕ) → IsSome o
      → IfSome o (IsOf scheme) → IfSome a (IsOf r.authority)
      → IsOf (path_rule r (unrooted_path_rule r o) a) path → IsOf rest end → IsOf
      (after_colon r rest) (marked [] o (codes ":") ++ (marked (codes "//") a [] ++ (path ++ end)))
  with-scheme-is-had rest None a path end some s h l e = absurd (false≢true some)
  with-scheme-is-had rest (Some x) a path end some s h l e = subst (IsOf (after_colon r rest))
      (grind (arith, append_assoc)) (cut-is-had scheme
      (lit ":" ⋅ hierarchy r r.path_rootless ⋅ rest) x _ s (cut-is-had (lit ":")
      (hierarchy r r.path_rootless ⋅ rest) (codes ":") _ (mark-is-had (codes ":") colon-mark)
      (cut-is-had (hierarchy r r.path_rootless) rest (marked (codes "//") a [] ++ path) end
      (hierarchy-is-had r.path_rootless a path h l) e)))

  without-scheme-is-had : (o a : Option (List ℕ)) (path end : List ℕ) → o ≡ None
      → IfSome a (IsOf r.authority) → IsOf (path_rule r (unrooted_path_rule r o) a) path
      → IsOf (tail r) end
      → IsOf (relative r) (marked [] o (codes ":") ++ (marked (codes "//") a [] ++ (path ++ end)))
  without-scheme-is-had None a path end none h l e = subst (IsOf (relative r))
      (append_assoc (marked (codes "//") a []) path end)
      (cut-is-had (hierarchy r r.path_noscheme) (tail r) (marked (codes "//") a [] ++ path) end
      (hierarchy-is-had r.path_noscheme a path h l) e)
  without-scheme-is-had (Some x) a path end none h l e = absurd (cc none)

  -- the text of a hierarchy and of what is after the path, as recomposed
  parts-are-whole : (other : Abnf) (x y : List ℕ) (h : IsHierarchy other x) (k : IsTail y)
      → marked (codes "//") h.authority [] ++ (h.path ++ query_text k.query k.fragment) ≡ x ++ y
  parts-are-whole other x y h k = sym (append_assoc _ h.path (query_text k.query k.fragment))
      ∙ ap (λ z. z ++ query_text k.query k.fragment) h.whole ∙ ap (λ z. x ++ z) (sym k.whole)

  scheme-derives : (rest : Abnf) (t : List ℕ) (s : HasScheme rest t) (k : IsTail s.rest_part)
      → (p : Components) × IsDerived r t p × IsSome p.scheme × (p.fragment ≡ k.fragment)
  scheme-derives rest t s k =
      let h = s.derived in (
        record {
          scheme = Some s.scheme_part;
          authority = h.authority;
          path = h.path;
          query = k.query;
          fragment = k.fragment;
        },
        record {
          whole = ap (λ z. (s.scheme_part ++ codes ":") ++ z)
              (parts-are-whole r.path_rootless s.hierarchy_part s.rest_part h k)
              ∙ append_assoc s.scheme_part (codes ":") (s.hierarchy_part ++ s.rest_part)
              ∙ sym s.whole;
          scheme = s.scheme_is_of;
          authority = h.authority_is_of;
          path = h.path_is_of;
          query = k.query_is_of;
          fragment = k.fragment_is_of;
        },
        refl,
        refl,
      )

  relative-derives : (t : List ℕ) → IsOf (relative r) t
      → (p : Components) × IsDerived r t p × (p.scheme ≡ None)
  relative-derives t l =
      let j = cut-gives (hierarchy r r.path_noscheme) (tail r) t l in
      let h = hierarchy-gives r.path_noscheme j.x j.first in
      let k = tail-gives j.y j.second in (
        record {
          scheme = None;
          authority = h.authority;
          path = h.path;
          query = k.query;
          fragment = k.fragment;
        },
        record {
          whole = parts-are-whole r.path_noscheme j.x j.y h k ∙ sym j.whole;
          scheme = tt;
          authority = h.authority_is_of;
          path = h.path_is_of;
          query = k.query_is_of;
          fragment = k.fragment_is_of;
        },
        refl,
      )

module _ (r : Rules) (made : AreMade r) where
  -- the rules with a scheme have the texts that are derived with one
  pub with-scheme-derives : (t : List ℕ) → IsOf r.with_scheme t
      → (p : Components) × IsDerived r t p × IsSome p.scheme
  with-scheme-derives t l =
      let s = after-colon-gives r (tail r) t
      (same-text {h = after_colon r (tail r)} (λ cs. (made.with_scheme cs).0) l) in
      let k = scheme-derives r (tail r) t s (tail-gives r s.rest_part s.rest_is_of) in
      (k.0, k.1, k.2)

  pub derived-is-with-scheme : (t : List ℕ) (p : Components) → IsDerived r t p → IsSome p.scheme
      → IsOf r.with_scheme t
  derived-is-with-scheme t p d some = subst (IsOf r.with_scheme) d.whole
      (same-text {g = after_colon r (tail r)} (λ cs. (made.with_scheme cs).1)
      (with-scheme-is-had r (tail r) p.scheme p.authority p.path _ some d.scheme d.authority d.path
      (tail-is-had r p.query p.fragment d.query d.fragment)))

  -- the rule of references has the texts that are derived
  pub reference-derives : (t : List ℕ) → IsOf r.reference t → (p : Components) × IsDerived r t p
  reference-derives t l = ⊎_elim
      (λ a. let k = with-scheme-derives t a in (k.0, k.1))
      (λ b. let k = relative-derives r t b in (k.0, k.1))
      (either-gives r.with_scheme (relative r) t (same-text (λ cs. (made.reference cs).0) l))

  derived-is-relative : (t : List ℕ) (p : Components) → IsDerived r t p → p.scheme ≡ None
      → IsOf (relative r) t
  derived-is-relative t p d none = subst (IsOf (relative r)) d.whole
      (without-scheme-is-had r p.scheme p.authority p.path _ none d.authority d.path
      (tail-is-had r p.query p.fragment d.query d.fragment))

  pub derived-is-reference : (t : List ℕ) (p : Components) → IsDerived r t p → IsOf r.reference t
  derived-is-reference t p d = same-text {g = r.with_scheme ∣ relative r}
      (λ cs. (made.reference cs).1) (⊎_elim
      (λ some. left-is-had r.with_scheme (relative r) t (derived-is-with-scheme t p d some))
      (λ none. right-is-had r.with_scheme (relative r) t
      (derived-is-relative t p d (None-from-not-is_some p.scheme none)))
      (cases_Bool (is_some p.scheme)))

  -- the absolute rules have those without a fragment
  pub absolute-derives : (t : List ℕ) → IsOf r.absolute t
      → (p : Components) × IsDerived r t p × IsSome p.scheme × (p.fragment ≡ None)
  absolute-derives t l =
      let s = after-colon-gives r (opt (lit "?" ⋅ r.query)) t
      (same-text {h = after_colon r (opt (lit "?" ⋅ r.query))} (λ cs. (made.absolute cs).0) l) in
      let q = query-gives r s.rest_part s.rest_is_of in
      let k = scheme-derives r (opt (lit "?" ⋅ r.query)) t s q.0 in
      (k.0, k.1, k.2, k.3 ∙ q.1)

  pub derived-is-absolute : (t : List ℕ) (p : Components) → IsDerived r t p → IsSome p.scheme
      → p.fragment ≡ None → IsOf r.absolute t
  derived-is-absolute t p d some none = subst (IsOf r.absolute) (grind arith) (same-text
      {g = after_colon r (opt (lit "?" ⋅ r.query))} (λ cs. (made.absolute cs).1) (with-scheme-is-had
      r (opt (lit "?" ⋅ r.query)) p.scheme p.authority p.path _ some d.scheme d.authority d.path
      (subst (IsOf (opt (lit "?" ⋅ r.query))) (sym (append-nil _))
      (after-is-had (codes "?") question-mark r.query p.query d.query))))
