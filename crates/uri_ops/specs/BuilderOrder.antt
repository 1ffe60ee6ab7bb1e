-- What a builder holds in a state it may hold before the steps that follow: RFC 3986, section 3.
use Rattle.std.specs.Prelude.{◌≡◌, ◌&&◌, ◌||◌, ℕ, Bool, true, false, List, [], ◌∷◌, Option, Some, None, refl, is_none, is_some}
use Rattle.std.specs.Option.{option_map_or}
use Rattle.std.proofs.lemmas.Bool.{and_from, and_parts, false≢true}
use Rattle.uri_ops.specs.BuilderParts.{BuilderParts, lacks_host_and_port, lacks_port}
use Rattle.uri_ops.specs.Builders.{HoldsAlsoIn, any_authority, ends_in_authority, has_path, has_path_before_fragment, has_path_last, has_needed_scheme, is_at_end, is_before_authority, is_before_fragment, is_before_host, is_before_path, is_before_port, is_before_query, is_before_userinfo, is_fresh, is_fresh_reference, is_in_authority, lacks_query_and_fragment, lacks_all, lacks_authority, lacks_path, is_in_order}
use Rattle.uri_ops.specs.Dots.{is_empty}

-- where `t` implies `u`, "`f` or `t`" implies "`f` or `u`": `f` is that a builder is marked failed
later : (f t u : Bool) → (t ≡ true → u ≡ true) → (f || t) ≡ true → (f || u) ≡ true
later true t u next h = refl
later false t u next h = next h

-- what a builder may hold in the state of a test, it may hold in that of another test, which the
-- first test implies
weaker : (test next : BuilderParts → Bool)
    → ((p : BuilderParts) → test p ≡ true → next p ≡ true)
    → HoldsAlsoIn (is_in_order test) (is_in_order next)
unfolding is_in_order
weaker test next implied needs p h =
    later p.failed (has_needed_scheme needs p && test p) (has_needed_scheme needs p && next p)
    (λ e. let q = and_parts (has_needed_scheme needs p) (test p) e in
    and_from _ _ q.0 (implied p q.1)) h

-- what a fresh builder of a kind that needs no scheme may hold, any fresh builder may hold: no part
pub fresh_reference_is_fresh : HoldsAlsoIn is_fresh_reference is_fresh
unfolding is_in_order is_fresh
fresh_reference_is_fresh needs p h =
    later p.failed (has_needed_scheme needs p && lacks_all p) (lacks_all p)
    (λ e. (and_parts (has_needed_scheme needs p) (lacks_all p) e).1) h

-- a fresh builder of a kind that needs no scheme may begin with the authority
pub fresh_reference_is_before_authority : HoldsAlsoIn is_fresh_reference is_before_authority
fresh_reference_is_before_authority =
    weaker lacks_all lacks_authority (λ p e. (and_parts (is_none p.scheme) (lacks_authority p) e).1)

-- where a builder may begin an authority, it may set the path without one
pub before_authority_is_before_path : HoldsAlsoIn is_before_authority is_before_path
before_authority_is_before_path = weaker lacks_authority lacks_path
    (λ p e. (and_parts (is_none p.authority) (lacks_path p) e).1)

-- a fresh builder of a kind that needs no scheme may begin with the path
pub fresh_reference_is_before_path : HoldsAlsoIn is_fresh_reference is_before_path
fresh_reference_is_before_path needs p h = before_authority_is_before_path needs p
    (fresh_reference_is_before_authority needs p h)

-- what a builder may hold where its authority passes `takes`, it may hold where the authority
-- passes `next`, if the first test implies the second
goes_on : (takes next : List ℕ → Bool)
    → ((authority : List ℕ) → takes authority ≡ true → next authority ≡ true)
    → HoldsAlsoIn (is_in_order (ends_in_authority takes)) (is_in_order (ends_in_authority next))
goes_on takes next implied = weaker (ends_in_authority takes) (ends_in_authority next)
    (λ p e. let q = and_parts (option_map_or takes p.authority false) (lacks_path p) e in
    and_from _ _ (of_some p.authority q.0) q.1)
  where
    of_some : (o : Option (List ℕ)) → option_map_or takes o false ≡ true
        → option_map_or next o false ≡ true
    of_some None e = e
    of_some (Some authority) e = implied authority e

-- where a builder may add the userinfo, it may add the host without one (section 3.2)
pub before_userinfo_is_before_host : HoldsAlsoIn is_before_userinfo is_before_host
before_userinfo_is_before_host = goes_on is_empty lacks_host_and_port of_empty
  where
    of_empty : (authority : List ℕ) → is_empty authority ≡ true → lacks_host_and_port authority
        ≡ true
    of_empty [] e = refl
    of_empty (c ∷ authority) e = absurd (false≢true e)

-- where a builder may add the port, it is within an authority, of which any text is allowed
pub before_port_is_in_authority : HoldsAlsoIn is_before_port is_in_authority
before_port_is_in_authority = goes_on lacks_port any_authority (λ authority e. refl)

-- where a builder has an authority last, which passes `takes`, it may set the path next
leaves : (takes : List ℕ → Bool)
    → HoldsAlsoIn (is_in_order (ends_in_authority takes)) is_before_path
leaves takes = weaker (ends_in_authority takes) lacks_path
    (λ p e. (and_parts (option_map_or takes p.authority false) (lacks_path p) e).1)

-- where a builder may add the port, it may set the path without one
pub before_port_is_before_path : HoldsAlsoIn is_before_port is_before_path
before_port_is_before_path = leaves lacks_port

-- where a builder is within an authority, of which any text is allowed, it may set the path next
pub in_authority_is_before_path : HoldsAlsoIn is_in_authority is_before_path
in_authority_is_before_path = leaves any_authority

-- where a builder may set the query, it may set the fragment without one
pub before_query_is_before_fragment : HoldsAlsoIn is_before_query is_before_fragment
before_query_is_before_fragment = weaker has_path_last has_path_before_fragment
    (λ p e. let q = and_parts (is_some p.path) (lacks_query_and_fragment p) e in
    and_from _ _ q.0 (and_parts (is_none p.query) (is_none p.fragment) q.1).1)

-- where a builder may set the fragment, it may end without one
pub before_fragment_is_at_end : HoldsAlsoIn is_before_fragment is_at_end
before_fragment_is_at_end = weaker has_path_before_fragment has_path
    (λ p e. (and_parts (is_some p.path) (is_none p.fragment) e).0)

-- where a builder may set the query, it may end without query and fragment
pub before_query_is_at_end : HoldsAlsoIn is_before_query is_at_end
before_query_is_at_end needs p h = before_fragment_is_at_end needs p
    (before_query_is_before_fragment needs p h)
