-- A text that is put together of components has the positions that their lengths give.
use Rattle.uri_ops.proofs.Common.{common_steps, ◌≡◌, ℕ, ◌+◌, List, [], ◌∷◌, ◌++◌, length, ap, ◌∙◌, arith, length-append, option_map, codes, Option, AuthorityPositions, Positions, AuthorityParts, authority_parts, recompose_authority, Components, marked, components, authority_at, delimited_length, positions_of, option_and_then, nat_tests, Kind, authority_meaning, meaning_of, normal_authority, normal_components, normal_parts, normal_part, normal_path_text, normal_scheme, normal_text, PortFunction, before_path, authority_parts_at, positions_by_authority_parts}
use Rattle.uri_ops.proofs.Normal.NormalPieces.{five-appended-texts-are-one, normal_path-by-components}

-- positions in a normal text: a component with a delimiter after
-- it has one byte more, or none if it is absent
pub length-with-delimiter-after : (part : Option (List ℕ)) (mark : ℕ)
    → length (marked [] part (mark ∷ [])) ≡ delimited_length 1 part
length-with-delimiter-after part mark = grind (arith, common_steps, length-append)

-- positions in a normal text: a component with a delimiter before
-- it has that many bytes more, or none if it is absent
pub length-with-delimiter-before : (mark : List ℕ) (part : Option (List ℕ))
    → length (marked mark part []) ≡ delimited_length (length mark) part
length-with-delimiter-before mark part = grind (arith, common_steps, length-append)

-- positions in a normal text: userinfo, host and port that are appended have the positions of these
-- parts; o0 to o3: the text between them
pub pushed-authority-parts-have-positions : (p : AuthorityParts) (o0 o1 o2 o3 : List ℕ)
    → o1 ≡ o0 ++ marked [] p.userinfo (codes "@") → o2 ≡ o1 ++ p.host
    → o3 ≡ o2 ++ marked (codes ":") p.port [] → (let x : AuthorityPositions = record
    { start = length o0; host_start = length o1; host_end = length o2; end = length o3 } in x)
    ≡ authority_parts_at (length o0) p
pushed-authority-parts-have-positions p o0 o1 o2 o3 e1 e2 e3 =
    grind (arith, common_steps, length-with-delimiter-after)

pub positions-of-parts-are-of-text : (place : ℕ) (p : AuthorityParts)
    → authority_parts (recompose_authority p) ≡ p
    → authority_parts_at place p ≡ authority_at place (recompose_authority p)
positions-of-parts-are-of-text place p cut = grind (arith, nat_tests)

pub positions-with-parts-are-of-components : (c : Components) (parts : Option AuthorityParts)
    → option_map (authority_parts_at (delimited_length 1 c.scheme + 2)) parts
    ≡ option_map (authority_at (delimited_length 1 c.scheme + 2)) c.authority
    → positions_by_authority_parts c parts ≡ positions_of c
positions-with-parts-are-of-components c parts e = ap
    (λ a. let x : Positions = record (positions_of c) { authority = a } in x) e

-- positions in a normal text: a component at position 0 ends at its length
pub option_map-adding-zero-is-unchanged : (part : Option (List ℕ))
    → option_map (λ s. 0 + length s) part ≡ option_map length part
option_map-adding-zero-is-unchanged part = grind (arith, common_steps)

-- positions in a normal text: the path begins where the text before it ends
pub length-before_path-is-path_start : (p : Components) → length (before_path p)
    ≡ (positions_of p).path_start
length-before_path-is-path_start p = omega (
  arith,
  length-append (marked [] p.scheme (codes ":")) (marked (codes "//") p.authority []),
  length-with-delimiter-after p.scheme 58,
  length-with-delimiter-before (codes "//") p.authority,
)

-- positions in a normal text: those of its path, and of the end of the query, are these
record EndsAt (p : Components) (start stop : ℕ) (query : Option ℕ) : Type 0 where
  pub starts : start ≡ (positions_of p).path_start
  pub stops : stop ≡ (positions_of p).path_end
  pub queries : query ≡ (positions_of p).query_end

-- positions in a normal text: path and query end where they were appended;
-- o2, o3: the text before and after the path
pushed-path-and-query-end-at-lengths :
    (p : Components) (o2 o3 : List ℕ) (start stop : ℕ) (query : Option ℕ) → length o2
    ≡ (positions_of p).path_start → o3 ≡ o2 ++ p.path → start ≡ length o2 → stop ≡ length o3
    → query ≡ option_map (λ s. length o3 + 1 + length s) p.query → EndsAt p start stop query
pushed-path-and-query-end-at-lengths p o2 o3 start stop query n2 e3 starts stops queries =
    grind (arith, common_steps)

-- positions in a normal text: components that are appended have the positions of these;
-- o0 to o3: the text between them
pub pushed-components-have-positions : (p : Components) (parts : Option AuthorityParts) (o0 o1
    o2 o3 : List ℕ) (start stop : ℕ) (end query : Option ℕ) (authority : Option AuthorityPositions)
    → o0 ≡ [] → o1 ≡ o0 ++ marked [] p.scheme (codes ":")
    → o2 ≡ o1 ++ marked (codes "//") p.authority [] → o3 ≡ o2 ++ p.path
    → start ≡ length o2 → stop ≡ length o3 → end ≡ option_map (λ s. length o0 + length s) p.scheme
    → authority ≡ option_map (authority_parts_at (length o1 + 2)) parts
    → query ≡ option_map (λ s. length o3 + 1 + length s) p.query → (let x : Positions = record {
      scheme_end = end;
      authority = authority;
      path_start = start;
      path_end = stop;
      query_end = query;
    } in x) ≡ positions_by_authority_parts p parts
pushed-components-have-positions p parts o0 o1 o2 o3 start stop end query authority e0 e1 e2 e3
    starts stops ends lies queries =
    grind (arith, common_steps)

-- positions in a normal text or target: a prefix, a path and a query that are appended have the
-- positions of these; o0, o2, o3: the text between them
pub pushed-prefix-and-path-have-positions : (p : Components) (o0 o2 o3 : List ℕ)
    (start stop : ℕ) (end query : Option ℕ) (authority : Option AuthorityPositions)
    → o0 ≡ [] → o2 ≡ o0 ++ before_path p → o3 ≡ o2 ++ p.path → start ≡ length o2
    → stop ≡ length o3 → end ≡ (positions_of p).scheme_end → authority ≡ (positions_of p).authority
    → query ≡ option_map (λ s. length o3 + 1 + length s) p.query → (let x : Positions = record {
      scheme_end = end;
      authority = authority;
      path_start = start;
      path_end = stop;
      query_end = query;
    } in x) ≡ positions_of p
pushed-prefix-and-path-have-positions p o0 o2 o3 start stop end query authority e0 e2 e3 starts
    stops ends lies queries =
    grind (arith, nat_tests, pushed-path-and-query-end-at-lengths, length-before_path-is-path_start)

option_map-of-three-functions-splits : {A B C D : Type 0} (f : C → D) (h : B → C) (k : A → B)
    (o : Option A) → option_map (λ a. f (h (k a))) o ≡ option_map f (option_map h (option_map k o))
option_map-of-three-functions-splits f h k o = grind (arith, common_steps)

-- a normal text: its five components, appended one after the other, are the text, and have the
-- positions of its components; old, o1 to o4, new: the text between them
pub pushed-components-are-normal-text : (kind : Kind) (ports : PortFunction) (text : List ℕ)
    (old o1 o2 o3 o4 new : List ℕ) (start stop : ℕ) (end query : Option ℕ) (places : Option
    AuthorityPositions) → (let p = components text in let scheme = normal_scheme p.scheme in
    let m = meaning_of kind ports text in
    let meaning = authority_meaning kind (option_and_then ports scheme) in
    let authority = option_map normal_authority (option_map meaning p.authority) in
    o1 ≡ old ++ marked [] scheme (codes ":") → o2 ≡ o1 ++ marked (codes "//") authority []
    → o3 ≡ o2 ++ normal_path_text kind.path p.scheme authority p.path
    → o4 ≡ o3 ++ marked (codes "?") (normal_part kind.query p.query) []
    → new ≡ o4 ++ marked (codes "#") (normal_part kind.fragment p.fragment) [] → start ≡ length o2
    → stop ≡ length o3 → end ≡ option_map (λ s. length old + length s) scheme → places
    ≡ option_map (λ a. authority_parts_at (length o1 + 2) (normal_parts (meaning a))) p.authority
    → query ≡ option_map (λ s. length o3 + 1 + length s) (normal_part kind.query p.query)
    → (new ≡ old ++ normal_text m) × (old ≡ [] → (let x : Positions = record {
      scheme_end = end;
      authority = places;
      path_start = start;
      path_end = stop;
      query_end = query;
    } in x)
    ≡ positions_by_authority_parts (normal_components m) (option_map normal_parts m.authority)))
pushed-components-are-normal-text kind ports text old o1 o2 o3 o4 new start stop end query places
    e1 e2 e3 e4 e5 starts stops ends lies queries =
    let p = components text in
    let m = meaning_of kind ports text in
    let meaning = authority_meaning kind (option_and_then ports (normal_scheme p.scheme)) in
    let path : o3 ≡ o2 ++ (normal_components m).path =
    e3 ∙ ap (λ t. o2 ++ t) (normal_path-by-components kind ports text) in (
      five-appended-texts-are-one old _ _ _ _ _ o1 o2 o3 o4 new e1 e2 path e4 e5,
      λ empty. pushed-components-have-positions (normal_components m)
          (option_map normal_parts m.authority) old o1 o2 o3 start stop end query
          places empty e1 e2 path starts stops ends (lies ∙ option_map-of-three-functions-splits
          (authority_parts_at (length o1 + 2)) normal_parts meaning p.authority) queries,
    )
