-- The text of the parts of a builder: parsing it gives the parts, and a text with these parts is
-- such a text.
use Rattle.uri_ops.proofs.Common.{common_steps, ◌≡◌, ℕ, ◌+◌, Bool, true, false, List, [], ◌++◌, length, refl, sym, ap, ◌∙◌, arith, append_assoc, append-nil, codes, Option, Some, None, option_map, unwrap_or, is_none, and_from, drop-append_seam, take-append_seam, nat_tests, marked, recompose, Kind, absent_or_passes, components_of_parts, Lengths, BuilderParts, is_authority_text, is_scheme_text, is_text_for, meet_rules, parts_text, IsDraft, after_part, lengths_of, part_in, parts_in}

-- building: a component with its delimiters (before,
-- suffix) is passed over by its length, to the rest
after_part-skips-delimited-component : (before suffix : List ℕ) (marks : ℕ)
    → marks ≡ length before + length suffix → (o : Option (List ℕ)) (rest : List ℕ)
    → after_part marks (option_map length o) (marked before o suffix ++ rest) ≡ rest
after_part-skips-delimited-component before suffix marks e rest q = grind (arith, common_steps)

part_in-finds-delimited-component : (before suffix : List ℕ) (o : Option (List ℕ)) (rest : List ℕ)
    → part_in (length before) (option_map length o) (marked before o suffix ++ rest) ≡ o
part_in-finds-delimited-component before suffix o rest =
    grind (arith, common_steps, append_assoc, drop-append_seam, take-append_seam)

path-is-component-without-delimiters : (o : Option (List ℕ)) → unwrap_or o [] ≡ marked [] o []
path-is-component-without-delimiters o = grind (arith, common_steps, append-nil)

builder-parts-of-equal-components : {s1 s2 a1 a2 p1 p2 q1 q2 f1 f2 : Option (List ℕ)}
    {failed : Bool}
    → s1 ≡ s2 → a1 ≡ a2 → p1 ≡ p2 → q1 ≡ q2 → f1 ≡ f2 → (let x : BuilderParts = record {
      scheme = s1;
      authority = a1;
      path = p1;
      query = q1;
      fragment = f1;
      failed = failed;
    } in x)
    ≡ record { scheme = s2; authority = a2; path = p2; query = q2; fragment = f2; failed = failed }
builder-parts-of-equal-components {failed = failed} s a p q f = grind (arith, nat_tests)

-- building: the parts that are read back from a text, by their lengths, are those it was made of
parts_in-of-own-text : (p : BuilderParts) → parts_in (lengths_of p) (parts_text p) p.failed ≡ p
parts_in-of-own-text p =
    let F : List ℕ = marked (codes "#") p.fragment [] in
    let Q : List ℕ = marked (codes "?") p.query [] ++ F in
    let P : List ℕ = unwrap_or p.path [] ++ Q in
    let A : List ℕ = marked (codes "//") p.authority [] ++ P in
    let rest : after_part 1 (option_map length p.scheme) (marked [] p.scheme (codes ":") ++ A)
    ≡ A = after_part-skips-delimited-component [] (codes ":") 1 refl p.scheme A in
    let path : after_part 2 (option_map length p.authority) A ≡ P =
    after_part-skips-delimited-component (codes "//") [] 2 refl p.authority P in
    let marked_path : P ≡ marked [] p.path [] ++ Q = ap (λ t. t ++ Q)
    (path-is-component-without-delimiters p.path) in
    let query : after_part 0 (option_map length p.path) P ≡ Q =
    ap (after_part 0 (option_map length p.path)) marked_path
    ∙ after_part-skips-delimited-component [] [] 0 refl p.path Q in
    let fragment : after_part 1 (option_map length p.query) Q ≡ F =
    after_part-skips-delimited-component (codes "?") [] 1 refl p.query F in
    let to_path = ap (after_part 2 (option_map length p.authority)) rest ∙ path in
    let to_query = ap (after_part 0 (option_map length p.path)) to_path ∙ query in
    let to_fragment = ap (after_part 1 (option_map length p.query)) to_query ∙ fragment in
    builder-parts-of-equal-components (part_in-finds-delimited-component [] (codes ":") p.scheme A)
    (ap (part_in 2 (option_map length p.authority)) rest
    ∙ part_in-finds-delimited-component (codes "//") [] p.authority P)
    (ap (part_in 0 (option_map length p.path)) (to_path ∙ marked_path)
    ∙ part_in-finds-delimited-component [] [] p.path Q)
    (ap (part_in 1 (option_map length p.query)) to_query
    ∙ part_in-finds-delimited-component (codes "?") [] p.query F)
    (ap (part_in 1 (option_map length p.fragment)) (to_fragment ∙ sym (append-nil F))
    ∙ part_in-finds-delimited-component (codes "#") [] p.fragment [])

parts-from-their-lengths-and-text : (p : BuilderParts) (lengths : Lengths) (text : List ℕ)
    → lengths ≡ lengths_of p → text ≡ parts_text p → parts_in lengths text p.failed ≡ p
parts-from-their-lengths-and-text p lengths text n t = ap (λ l. parts_in l text p.failed) n
    ∙ ap (λ x. parts_in (lengths_of p) x p.failed) t ∙ parts_in-of-own-text p

-- building: the text and the lengths are a builder's draft, and these are its parts
pub record IsDraftOfParts (p : BuilderParts) (lengths : Lengths) (text : List ℕ) : Type 0 where
  pub draft : IsDraft lengths text
  pub parts : parts_in lengths text false ≡ p

pub text-of-parts-is-their-draft : (p : BuilderParts) (lengths : Lengths) (text : List ℕ) → p.failed
    ≡ false → lengths ≡ lengths_of p → text ≡ parts_text p → IsDraftOfParts p lengths text
text-of-parts-is-their-draft p lengths text f n t =
    grind (arith, nat_tests, parts-from-their-lengths-and-text)

-- building: each of a builder's parts is absent or meets its rule
pub record MeetsEachRule (kind : Kind) (p : BuilderParts) : Type 0 where
  pub scheme : absent_or_passes p.scheme is_scheme_text ≡ true
  pub authority : absent_or_passes p.authority (is_authority_text kind) ≡ true
  pub path : absent_or_passes p.path (is_text_for kind.path) ≡ true
  pub query : absent_or_passes p.query (is_text_for kind.query) ≡ true
  pub fragment : absent_or_passes p.fragment (is_text_for kind.fragment) ≡ true

-- building: parts that pass the test `meet_rules` meet each rule of the grammar
pub meet_rules-gives-rules : (kind : Kind) (p : BuilderParts) → meet_rules kind p ≡ true
    → MeetsEachRule kind p
meet_rules-gives-rules kind p e = grind (arith, nat_tests)

-- building: parts that meet each rule of the grammar pass the test `meet_rules`
pub rules-give-meet_rules : (kind : Kind) (p : BuilderParts) → MeetsEachRule kind p
    → meet_rules kind p ≡ true
rules-give-meet_rules kind p r = and_from _ _ r.scheme
    (and_from _ _ r.authority (and_from _ _ r.path (and_from _ _ r.query r.fragment)))

pub absent-part-has-no-length : (mark : ℕ) (n : Option ℕ) (text : List ℕ)
    → is_none (part_in mark n text) ≡ true → n ≡ None
absent-part-has-no-length mark n text e = grind (arith, common_steps)

pub recompose-with-query-appended : (scheme authority : Option (List ℕ)) (path x : List ℕ)
    → recompose (components_of_parts scheme authority path None None) ++ (codes "?" ++ x)
    ≡ recompose (components_of_parts scheme authority path (Some x) None)
recompose-with-query-appended scheme authority path x =
    grind (arith, nat_tests, append-nil, append_assoc)

pub recompose-with-fragment-appended : (scheme authority query : Option (List ℕ)) (path x : List ℕ)
    → recompose (components_of_parts scheme authority path query None) ++ (codes "#" ++ x)
    ≡ recompose (components_of_parts scheme authority path query (Some x))
recompose-with-fragment-appended scheme authority query path x =
    grind (arith, nat_tests, append-nil, append_assoc)
