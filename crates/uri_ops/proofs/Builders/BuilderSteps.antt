-- What each step of a builder makes of its text: the text of the parts so changed.
use Rattle.uri_ops.proofs.Common.{common_steps, arith, ◌≡◌, ℕ, false, List, [], ◌++◌, length, refl, sym, ap, ◌∙◌, codes, Option, Some, None, unwrap_or, recompose, Lengths, BuilderParts, with_authority, with_fragment, with_path, with_query, with_scheme, IsDraft, after_part, part_in, parts_in}
use Rattle.uri_ops.proofs.Builders.Drafting.{IsDraftOfParts, recompose-with-fragment-appended, recompose-with-query-appended, text-of-parts-is-their-draft}

-- building: the text of five components, each with its delimiters
abbrev whole : Option (List ℕ) → Option (List ℕ) → List ℕ → Option (List ℕ) → Option (List ℕ)
    → List ℕ
whole scheme authority path query fragment = recompose (record {
  scheme = scheme;
  authority = authority;
  path = path;
  query = query;
  fragment = fragment;
})

module _ (lengths : Lengths) (text : List ℕ) (draft : IsDraft lengths text) where
  old : BuilderParts
  old = parts_in lengths text false

  abbrev rest : List ℕ
  rest = after_part 1 lengths.scheme text

  abbrev from_path : List ℕ
  from_path = after_part 2 lengths.authority rest

  abbrev from_query : List ℕ
  from_query = after_part 0 lengths.path from_path

  abbrev from_fragment : List ℕ
  from_fragment = after_part 1 lengths.query from_query

  query-without-length-is-absent : lengths.query ≡ None → old.query ≡ None
  unfolding old
  query-without-length-is-absent e = ap (λ n. part_in 1 n from_query) e

  fragment-without-length-is-absent : lengths.fragment ≡ None → old.fragment ≡ None
  unfolding old
  fragment-without-length-is-absent e = ap (λ n. part_in 1 n from_fragment) e

  -- the old text, and a new part after it
  longer-text-is-parts-and-more : (more : List ℕ) → text ++ more
      ≡ whole old.scheme old.authority (unwrap_or old.path []) old.query old.fragment ++ more
  unfolding old
  longer-text-is-parts-and-more more = ap (λ t. t ++ more) (sym draft.whole)

  pub text-with-scheme-is-draft : (x : List ℕ) → lengths.scheme ≡ None → lengths.authority ≡ None
      → lengths.path ≡ None → lengths.query ≡ None → lengths.fragment ≡ None
      → IsDraftOfParts (with_scheme x (parts_in lengths text false))
      (record lengths { scheme = Some (length x) }) (text ++ (x ++ codes ":"))
  text-with-scheme-is-draft x s a p q f = grind (arith, common_steps)

  pub text-with-authority-is-draft : (x : List ℕ) → lengths.authority ≡ None → lengths.path ≡ None
      → lengths.query ≡ None → lengths.fragment ≡ None
      → IsDraftOfParts (with_authority x (parts_in lengths text false))
      (record lengths { authority = Some (length x) }) (text ++ (codes "//" ++ x))
  text-with-authority-is-draft x a p q f = grind (arith, common_steps)

  pub text-with-path-is-draft : (x : List ℕ) → lengths.path ≡ None
      → lengths.query ≡ None → lengths.fragment ≡ None → IsDraftOfParts (with_path x
      (parts_in lengths text false)) (record lengths { path = Some (length x) }) (text ++ x)
  text-with-path-is-draft x p q f = grind (arith, common_steps)

  pub text-with-query-is-draft : (x : List ℕ) → lengths.query ≡ None → lengths.fragment ≡ None
      → IsDraftOfParts (with_query x (parts_in lengths text false))
      (record lengths { query = Some (length x) }) (text ++ (codes "?" ++ x))
  unfolding old
  text-with-query-is-draft x q f = text-of-parts-is-their-draft _ _ _ refl
      (ap (λ (l : Lengths). record l { query = Some (length x) }) (sym draft.counted))
      (longer-text-is-parts-and-more _ ∙ (λ i. whole old.scheme old.authority (unwrap_or old.path
      []) (query-without-length-is-absent q i) (fragment-without-length-is-absent f i) ++ (codes "?"
      ++ x)) ∙ recompose-with-query-appended _ _ _ x ∙ sym (λ i. whole old.scheme old.authority
      (unwrap_or old.path []) (Some x) (fragment-without-length-is-absent f i)))

  pub text-with-fragment-is-draft : (x : List ℕ) → lengths.fragment ≡ None
      → IsDraftOfParts (with_fragment x (parts_in lengths text false))
      (record lengths { fragment = Some (length x) }) (text ++ (codes "#" ++ x))
  unfolding old
  text-with-fragment-is-draft x f = text-of-parts-is-their-draft (with_fragment x old)
      (record lengths { fragment = Some (length x) }) (text ++ (codes "#" ++ x)) refl
      (ap (λ (l : Lengths). record l { fragment = Some (length x) }) (sym draft.counted))
      (longer-text-is-parts-and-more (codes "#" ++ x) ∙ (λ i. whole old.scheme old.authority
      (unwrap_or old.path []) old.query (fragment-without-length-is-absent f i) ++ (codes "#" ++ x))
      ∙ recompose-with-fragment-appended old.scheme old.authority old.query
      (unwrap_or old.path []) x)
