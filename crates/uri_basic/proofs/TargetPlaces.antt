-- Where the components of a target are.
use Rattle.uri_basic.proofs.Common.{◌≡◌, ℕ, ◌+◌, ◌-◌, ◌≤◌, true, false, List, [], ◌++◌, length, rules, ap, arith, option_map, unwrap_or, IfOk, Ok, Option, Result, Some, codes, is_some, IsUtf8, both_ways, cond_both, length-append, Components, components, marked, recompose, starts, IsOfKind, Kind, ArePackedPositionsOf, packed, authority_at, delimited_length, host_end_of, positions_of, recompose-components, is_empty, text-of-kind-has-needed-scheme, basic_resolution_of_texts, is_ambiguous, target}
use Rattle.uri_parts.specs.declared.packed_positions.PackedPositions.{PackedPositions}
use Rattle.uri_parts.specs.declared.positions.AuthorityPositions.{AuthorityPositions}
use Rattle.uri_ops.specs.Models.Places.{before_path}
use Rattle.uri_ops.proofs.Offered.{length-before_path-is-path_start, length-with-delimiter-after}
use Rattle.uri_basic.specs.Models.Pieces.{ArePlacesToHost, after_path}
use Rattle.uri_basic.proofs.Targets.{basic-target-has-its-components, result-by-test}

-- general fact on results, for targets: what follows from two facts of a value
pub if-both-ok : {T E : Type 0} (result : Result T E) (P Q R : T → Type 0)
    → ((made : T) → P made → Q made → R made) → IfOk result P → IfOk result Q → IfOk result R
if-both-ok h e g k f p q = grind arith

-- targets: what the basic algorithm returns has the positions that the target has; the texts are
-- what the code holds of the base, in two steps, and of the reference
pub basic-result-is-at : (kind : Kind) → kind.needs_scheme ≡ true
    → (b r held base : List ℕ) → b ≡ held → held ≡ base → IsUtf8 held → IsOfKind kind base
    → (text : List ℕ) (places : PackedPositions) → basic_resolution_of_texts b r ≡ Ok text
    → places ≡ packed (positions_of (target (components b) (components r)))
    → ArePackedPositionsOf text places
basic-result-is-at kind needs b r held base at same utf8 of_kind text places e is =
    let t = target (components b) (components r) in
    let f = result-by-test (is_ambiguous t) (recompose t) text e in
    search (rules, basic-target-has-its-components, text-of-kind-has-needed-scheme)

-- targets: the scheme and the authority are these
record HasPrefix (scheme authority : Option (List ℕ)) (t : Components) : Type 0 where
  scheme_is : t.scheme ≡ scheme
  authority_is : t.authority ≡ authority

-- targets: where the host of an authority begins and ends, after a scheme, or 0 if there is none
abbrev host_start_after : Option (List ℕ) → Option (List ℕ) → ℕ
host_start_after scheme authority = unwrap_or (option_map (λ (a : AuthorityPositions). a.host_start)
    (option_map (authority_at (delimited_length 1 scheme + 2)) authority)) 0

abbrev host_end_after : Option (List ℕ) → Option (List ℕ) → ℕ
host_end_after scheme authority = unwrap_or (option_map (λ (a : AuthorityPositions). a.host_end)
    (option_map (authority_at (delimited_length 1 scheme + 2)) authority)) 0

places-by-prefix : (scheme authority : Option (List ℕ)) (t : Components) (places : PackedPositions)
    → HasPrefix scheme authority t → places.scheme_end ≡ unwrap_or (option_map length scheme) 0
    → places.host_start ≡ host_start_after scheme authority
    → places.host_end ≡ host_end_after scheme authority → ArePlacesToHost t places
places-by-prefix scheme authority t places p s start end = search (rules, unwrap_or, option_map)

-- targets: the base has the target's positions up to the host of a reference with no prefix
pub places-of-base : (b r : Components) (places : PackedPositions)
    → places ≡ packed (positions_of b) → is_some r.scheme ≡ false → is_some r.authority ≡ false
    → ArePlacesToHost (target b r) places
places-of-base b r places at s a = grind (arith, rules, places-by-prefix, cond_both, both_ways)

-- targets: the base's scheme and the moved host are the target's positions up to the host
pub places-of-authority : (b r : Components) (own from made : PackedPositions) (scheme : List ℕ)
    → own ≡ packed (positions_of r) → from ≡ packed (positions_of b)
    → scheme ≡ marked [] b.scheme (codes ":") → is_some r.scheme ≡ false
    → is_some r.authority ≡ true → made.scheme_end ≡ from.scheme_end
    → made.host_start ≡ length scheme + own.host_start
    → made.host_end ≡ length scheme + own.host_end → ArePlacesToHost (target b r) made
places-of-authority b r own from made scheme at base is s a ends starts stops =
    grind (arith, length-with-delimiter-after)

host-within-parts : (scheme authority : Option (List ℕ)) (rest : List ℕ)
    → ((a : List ℕ) → authority ≡ Some a → host_end_of a ≤ length a)
    → (host_start_after scheme authority
    ≤ length (marked [] scheme (codes ":") ++ (marked (codes "//") authority [] ++ rest)))
    × (host_end_after scheme authority
    ≤ length (marked [] scheme (codes ":") ++ (marked (codes "//") authority [] ++ rest)))
host-within-parts scheme authority rest h =
    grind (arith, rules, length-append, length-with-delimiter-after)

pub host-is-within-text : (text : List ℕ) (own : PackedPositions)
    → ((a : List ℕ) → (components text).authority ≡ Some a → host_end_of a ≤ length a)
    → own ≡ packed (positions_of (components text))
    → (own.host_start ≤ length text) × (own.host_end ≤ length text)
host-is-within-text text own host at =
    let p = components text in
    let in_parts = host-within-parts p.scheme p.authority (p.path ++ after_path p) host in
    search (rules, recompose-components)

-- targets: the positions of a target, by its texts up to the path, with the path, and whole
pub written-target-is-at : (t : Components) (places made : PackedPositions) (o1 o2 o3 last : List ℕ)
    → ArePlacesToHost t places → o1 ≡ before_path t → o2 ≡ o1 ++ t.path
    → o3 ≡ o2 ++ after_path t → last ≡ marked (codes "#") t.fragment []
    → made.scheme_end ≡ places.scheme_end → made.host_start ≡ places.host_start
    → made.host_end ≡ places.host_end → made.path_start ≡ length o1 → made.path_end ≡ length o2
    → made.query_end ≡ length o3 - length last → made ≡ packed (positions_of t)
written-target-is-at t places made o1 o2 o3 last to e1 e2 e3 el s hs he ps pe qe =
    grind (arith, rules, length-before_path-is-path_start, length-append, codes, marked)

-- targets: the fragment is the reference's
pub fragment-of-target : (b r : Components) → (target b r).fragment ≡ r.fragment
fragment-of-target b r = search (rules, cond_both)

pub query-of-target-with-path : (b r : Components) → is_empty r.path ≡ false
    → (target b r).query ≡ r.query
query-of-target-with-path b r some = search (rules, cond_both, both_ways)

-- targets: the fragment is no longer than the text that it ends
pub fragment-fits-in-target : (t : Components) (o2 o3 last : List ℕ) → o3 ≡ o2 ++ after_path t
    → last ≡ marked (codes "#") t.fragment [] → length last ≤ length o3
fragment-fits-in-target t o2 o3 last e3 el = omega (
  arith,
  ap length e3,
  ap length el,
  length-append o2 (after_path t),
  length-append (marked (codes "?") t.query []) (marked (codes "#") t.fragment []),
)
