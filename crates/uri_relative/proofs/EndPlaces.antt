-- The positions of the components after a scheme, and of a query and a fragment.
use Rattle.uri_relative.proofs.Common.{◌≡◌, ℕ, ◌+◌, ◌-◌, ◌≤◌, List, [], length, refl, sym, ap, ◌∙◌, arith, length-append, option_map, subst, codes, true, false, is_some, IfSome, Option, Some, None, false≢true, nat_tests, Components, marked, authority_at, delimited_length, positions_of}
use Rattle.std.proofs.lemmas.Option.{none-some, same_Some}
use Rattle.uri_parts.specs.declared.positions.AuthorityPositions.{AuthorityPositions}
use Rattle.uri_parts.specs.declared.positions.Positions.{Positions}

-- relativized references: an authority's positions are all from n on
pub record AuthorityBeginsAfter (n : ℕ) (places : AuthorityPositions) : Type 0 where
  pub start : n ≤ places.start
  pub host_start : n ≤ places.host_start
  pub host_end : n ≤ places.host_end
  pub end : n ≤ places.end

pub authority-begins-after-scheme : (n : ℕ) (authority : Option (List ℕ))
    (places : AuthorityPositions)
    → Some places ≡ option_map (authority_at (n + 2)) authority → AuthorityBeginsAfter n places
authority-begins-after-scheme n authority places e = grind (arith, none-some, nat_tests, same_Some)

-- relativized references: the positions of an authority, moved back by n, are those in a text
-- without the bytes before its `//`
pub authority-positions-without-scheme : (n : ℕ) (authority : Option (List ℕ))
    (places moved : AuthorityPositions) → Some places ≡ option_map (authority_at (n + 2)) authority
    → moved.start ≡ places.start - n → moved.host_start ≡ places.host_start - n
    → moved.host_end ≡ places.host_end - n → moved.end ≡ places.end - n
    → Some moved ≡ option_map (authority_at 2) authority
authority-positions-without-scheme n authority places moved e start host_start host_end end =
    grind (arith, none-some, nat_tests, same_Some)

-- relativized references: an authority begins n + 2 bytes into a text with a scheme of n bytes
-- (with its `:`)
pub authority-positions-of-components : (t : Components) (n : ℕ) (places : AuthorityPositions)
    → n ≡ delimited_length 1 t.scheme → (positions_of t).authority ≡ Some places
    → Some places ≡ option_map (authority_at (n + 2)) t.authority
authority-positions-of-components t n places m e =
    sym e ∙ ap (λ k. option_map (authority_at (k + 2)) t.authority) (sym m)

absent-authority-has-no-positions : (n m : ℕ) (authority : Option (List ℕ))
    → None ≡ option_map (authority_at n) authority → None ≡ option_map (authority_at m) authority
absent-authority-has-no-positions n m authority e = grind (arith, none-some)

pub no-authority-positions-no-authority : (t : Components) → (positions_of t).authority ≡ None
    → None ≡ option_map (authority_at 2) t.authority
no-authority-positions-no-authority t e =
    absent-authority-has-no-positions (delimited_length 1 t.scheme + 2) 2 t.authority (sym e)

pub scheme-end-is-scheme-length : (t : Components) (p : Positions) (end : ℕ) → p ≡ positions_of t
    → p.scheme_end ≡ Some end → end + 1 ≡ delimited_length 1 t.scheme
scheme-end-is-scheme-length t p end at e =
    marked_at t.scheme (sym e ∙ ap (λ (q : Positions). q.scheme_end) at)
  where
    marked_at : (scheme : Option (List ℕ)) → Some end ≡ option_map length scheme
        → end + 1 ≡ delimited_length 1 scheme
    marked_at None f = absurd (none-some end (sym f))
    marked_at (Some s) f = omega (arith, same_Some _ _ f)

pub query-ends-after-scheme : (t : Components) (p : Positions) (n : ℕ) → p ≡ positions_of t
    → n ≡ delimited_length 1 t.scheme → IfSome p.query_end (λ q. n ≤ q)
query-ends-after-scheme t p n at m =
    subst (λ (end : Option ℕ). IfSome end (λ q. n ≤ q))
    (sym (ap (λ (q : Positions). q.query_end) at)) (after t.query)
  where
    after : (query : Option (List ℕ))
        → IfSome (option_map (λ q. (positions_of t).path_end + 1 + length q) query) (λ q. n ≤ q)
    after None = tt
    after (Some q) = omega (arith, m)

pub positions-of-text-without-scheme-stay : (t : Components) (p : Positions) → p ≡ positions_of t
    → p.scheme_end ≡ None → p ≡ positions_of (record t { scheme = None })
positions-of-text-without-scheme-stay t p at e = grind (arith, none-some)

-- relativized references: leaving out a scheme of n bytes moves the positions n bytes back; start,
-- end: of the path
pub positions-without-scheme : (t : Components) (p : Positions) (n : ℕ)
    (authority : Option AuthorityPositions) (start end : ℕ) (query : Option ℕ)
    → p ≡ positions_of t → n ≡ delimited_length 1 t.scheme
    → authority ≡ option_map (authority_at 2) t.authority → start ≡ p.path_start - n
    → end ≡ p.path_end - n → query ≡ option_map (λ q. q - n) p.query_end
    → (let q : Positions = record {
      scheme_end = None;
      authority = authority;
      path_start = start;
      path_end = end;
      query_end = query;
    } in q) ≡ positions_of (record t { scheme = None })
positions-without-scheme t p n authority start end query at m a s e q =
    let u : Components = record t { scheme = None } in
    let s0 : start ≡ (positions_of u).path_start = omega
    (arith, m, s, ap (λ (q : Positions). q.path_start) at) in
    let e0 : end ≡ (positions_of u).path_end = omega
    (arith, m, e, ap (λ (q : Positions). q.path_end) at) in
    let q0 : query ≡ (positions_of u).query_end =
    q ∙ ap (option_map (λ q. q - n)) (ap (λ (q : Positions). q.query_end) at)
    ∙ query_back t.query in
    λ i. record {
      scheme_end = None;
      authority = a i;
      path_start = s0 i;
      path_end = e0 i;
      query_end = q0 i;
    }
  where
    query_back : (query : Option (List ℕ))
        → option_map (λ q. q - n)
        (option_map (λ q. (positions_of t).path_end + 1 + length q) query)
        ≡ option_map
        (λ q. (positions_of (record t { scheme = None })).path_end + 1 + length q) query
    query_back None = refl
    query_back (Some q) = ap Some (omega (arith, m))

pub query-end-by-length : (n : ℕ) (query : Option (List ℕ)) → is_some query ≡ true
    → Some (n + length (marked (codes "?") query [])) ≡ option_map (λ q. n + 1 + length q) query
query-end-by-length n query e = grind (arith, false≢true, length-append)

pub no-query-no-query-end : (n : ℕ) (query : Option (List ℕ)) → is_some query ≡ false
    → None ≡ option_map (λ q. n + 1 + length q) query
no-query-no-query-end n query e = grind (arith, false≢true)
