-- The components of a text, and the parts of its authority, at their offsets.
use Rattle.fluent_uri_c.proofs.Common.{◌≡◌, ◌∙◌, ◌+◌, ◌-◌, ◌<◌, ◌≤◌, ℕ, true, List, length, take, drop, refl, ap, arith, inl, inr, subst, sym, Option, Some, None, IfSome, option_map, slice_range, IsUtf8, drop-drop, take-take, take_rest, none-some, same_Some, Positions, components, Kind, IsOfKind, authority_is_at_positions, Parts, AreSpansOf, IsSpan, absent, authority_host_number, authority_start, fragment_start, host_of, host_start, path_start, port_of, port_start, query_start, userinfo_of}
use Rattle.std.proofs.lemmas.Slice.{between_is}
use Rattle.uri_parts.specs.declared.positions.AuthorityPositions.{AuthorityPositions}
use Rattle.uri_parts.specs.Authority.{authority_parts, is_authority_for}
use Rattle.uri_parts.specs.Positions.{ArePositionsOf, authority_at, delimited_length, host_start_of, host_end_of}
use Rattle.uri_parts.proofs.Offered.{host_is_at_positions, port_follows_host, port_is_after_host, userinfo_is_before_host, IsComponentAt, authority-of-text-of-kind-is-valid}
use Rattle.uri_ops.proofs.Offered.{components-of-utf8-are-utf8}
use Rattle.fluent_uri_c.specs.declared.parts.Span.{Span}

pub IsSpan-of-positions : (text : List ℕ) (begin start end : ℕ) (part : Option (List ℕ))
    → start ≡ begin → IsComponentAt text start end part
    → IsSpan text begin part (record { start = start; end = end })
IsSpan-of-positions text begin start end None here place = absurd (none-some _ (sym place.holds))
IsSpan-of-positions text begin start end (Some part) here place =
    (here, place.ordered, place.ends.0, same_Some _ _ place.holds)

-- parts for C: a component that a text doesn't have is the absent span
pub IsSpan-of-absent : (text : List ℕ) (begin : ℕ) (part : Option (List ℕ)) → part ≡ None
    → IsSpan text begin part absent
IsSpan-of-absent text begin part e = grind (arith, none-some)

start_of_authority : (part : Option (List ℕ)) (n : ℕ) (a : AuthorityPositions)
    → option_map (authority_at n) part ≡ Some a → a.start ≡ n
start_of_authority None n a found = absurd (none-some _ found)
start_of_authority (Some authority) n a found =
    sym (ap (λ (b : AuthorityPositions). b.start) (same_Some _ _ found))

pub authority-start-of-positions : (text : List ℕ) (p : Positions) (a : AuthorityPositions)
    → ArePositionsOf text p → p.authority ≡ Some a → a.start ≡ authority_start text
authority-start-of-positions text p a at here = start_of_authority (components text).authority
    (authority_start text) a (sym (ap (λ (q : Positions). q.authority) at) ∙ here)

-- parts for C: what is between two offsets of a part is in the text at that distance from its start
within : (text part : List ℕ) (start end : ℕ) → slice_range text start end ≡ part
    → end ≡ start + length part → (i j : ℕ) → j ≤ length part
    → slice_range text (start + i) (start + j) ≡ slice_range part i j
within text part start end at ends i j inside = grind (arith, drop-drop, between_is, take-take)

-- parts for C: an authority of a text, at its positions
record Inside (kind : Kind) (text : List ℕ) (a : AuthorityPositions) : Type 0 where
  authority : List ℕ
  is : (components text).authority ≡ Some authority
  start : a.start ≡ authority_start text
  at : slice_range text a.start a.end ≡ authority
  positions : authority_at a.start authority ≡ a
  inside : a.end ≤ length text
  utf8 : IsUtf8 authority
  valid : is_authority_for kind.userinfo kind.reg_name authority ≡ true

-- parts for C: the positions of an authority are inside the text; n: where it begins
inside_of : (kind : Kind) (text : List ℕ) (a : AuthorityPositions) (part : Option (List ℕ)) (n : ℕ)
    → n ≡ authority_start text → (components text).authority ≡ part → IfSome part IsUtf8
    → IsOfKind kind text → option_map (authority_at n) part ≡ Some a
    → IsComponentAt text a.start a.end part → Inside kind text a
inside_of kind text a None n begins e utf8 h found place = absurd (none-some _ found)
inside_of kind text a (Some authority) n begins e utf8 h found place =
    let same : authority_at n authority ≡ a = same_Some _ _ found in
    let first : a.start ≡ n = sym (ap (λ (b : AuthorityPositions). b.start) same) in
    record {
      authority = authority;
      is = e;
      start = first ∙ begins;
      at = same_Some _ _ place.holds;
      positions = ap (λ k. authority_at k authority) first ∙ same;
      inside = place.ends.0;
      utf8 = utf8;
      valid = authority-of-text-of-kind-is-valid kind kind.userinfo kind.reg_name text authority h
          refl refl e;
    }

module _ (kind : Kind) (text : List ℕ) (p : Positions) (a : AuthorityPositions)
    (at : ArePositionsOf text p) (of_kind : IsOfKind kind text) (utf8 : IsUtf8 text)
    (here : p.authority ≡ Some a) where
  inside : Inside kind text a
  inside = inside_of kind text a (components text).authority (authority_start text) refl refl
      (components-of-utf8-are-utf8 text utf8).authority of_kind
      (sym (ap (λ (q : Positions). q.authority) at) ∙ here)
      (authority_is_at_positions text p utf8 at a here)

  -- where the host begins, and where it and the authority end
  host_starts : a.host_start ≡ a.start + host_start_of inside.authority
  host_starts = sym (ap (λ (b : AuthorityPositions). b.host_start) inside.positions)

  host_ends : a.host_end ≡ a.start + host_end_of inside.authority
  host_ends = sym (ap (λ (b : AuthorityPositions). b.host_end) inside.positions)

  ends : a.end ≡ a.start + length inside.authority
  ends = sym (ap (λ (b : AuthorityPositions). b.end) inside.positions)

  -- a part of the authority, at its position in the text
  part-span : (f : Option (List ℕ) → Option (List ℕ)) (i j start end begin : ℕ) (part : List ℕ)
      → Some part ≡ f (Some inside.authority) → slice_range inside.authority i j ≡ part
      → start ≡ begin → start ≡ a.start + i → end ≡ a.start + j → i ≤ j
      → j ≤ length inside.authority
      → IsSpan text begin (f (components text).authority) (record { start = start; end = end })
  part-span f i j start end begin part is holds begins from to ordered short =
      grind (arith, ends, within)

  -- a part that the authority lacks
  absent-span : (f : Option (List ℕ) → Option (List ℕ)) (begin : ℕ)
      → f (Some inside.authority) ≡ None → IsSpan text begin (f (components text).authority) absent
  absent-span f begin none =
      IsSpan-of-absent text begin (f (components text).authority) (ap f inside.is ∙ none)

  -- before the host
  pub userinfo-span-if-present : a.start < a.host_start
      → IsSpan text (authority_start text) (userinfo_of (components text).authority)
      (record { start = a.start; end = a.host_start - 1 })
  userinfo-span-if-present less =
      let some : 0 < host_start_of inside.authority = omega (arith, host_starts) in
      let before = userinfo_is_before_host kind.userinfo kind.reg_name inside.authority inside.valid
      some in
      let n = host_start_of inside.authority - 1 in
      let whole : n - 0 ≡ n = omega arith in
      part-span userinfo_of 0 n a.start (a.host_start - 1) (authority_start text)
      (take n inside.authority) before.is (ap (λ k. take k inside.authority) whole) inside.start
      (omega arith) (omega (arith, host_starts, some)) (omega arith) before.cut.0

  pub userinfo-span-if-absent : a.host_start ≤ a.start
      → IsSpan text (authority_start text) (userinfo_of (components text).authority) absent
  userinfo-span-if-absent more = grind (arith, absent-span, host_starts)

  host_begins : a.host_start ≡ host_start text
  host_begins = omega (
    arith,
    inside.start,
    host_starts,
    ap (λ o. delimited_length 1 (userinfo_of o)) inside.is,
  )

  pub host-span-if-present : IsSpan text (host_start text) (host_of (components text).authority)
      (record { start = a.host_start; end = a.host_end })
  host-span-if-present =
      let found = host_is_at_positions kind.userinfo kind.reg_name inside.authority inside.valid
      inside.utf8 in
      part-span host_of (host_start_of inside.authority) (host_end_of inside.authority) a.host_start
      a.host_end (host_start text) (authority_parts inside.authority).host refl found.holds
      host_begins host_starts host_ends found.ordered found.ends.0

  -- after the host
  pub port-span-if-present : a.host_end < a.end
      → IsSpan text (port_start text) (port_of (components text).authority)
      (record { start = a.host_end + 1; end = a.end })
  port-span-if-present less =
      let n = host_end_of inside.authority in
      let after = port_follows_host kind.userinfo kind.reg_name inside.authority n inside.valid
      inside.utf8 refl (λ e. omega (arith, e, ends, host_ends)) in
      let begins : a.host_end + 1 ≡ port_start text = omega (
        arith,
        host_begins,
        host_starts,
        host_ends,
        ap (λ o. delimited_length 1 (host_of o)) inside.is,
      ) in
      part-span port_of (n + 1) (length inside.authority) (a.host_end + 1) a.end (port_start text)
      (drop (n + 1) inside.authority) after.is (take_rest inside.authority (n + 1)) begins
      (omega (arith, host_ends)) ends (omega (arith, after.inside)) (omega arith)

  pub port-span-if-absent : a.end ≤ a.host_end
      → IsSpan text (port_start text) (port_of (components text).authority) absent
  port-span-if-absent more = absent-span port_of (port_start text)
      (elim (port_is_after_host kind.userinfo kind.reg_name inside.authority inside.valid
      inside.utf8) [
        | inl none ↦ sym none.1
        | inr after ↦ absurd (omega (arith, after.inside, ends, host_ends))
      ])

pub IsSpan-of-equal-span : (text : List ℕ) (begin : ℕ) (part : Option (List ℕ)) (span : Span)
    → span ≡ absent → IsSpan text begin part absent → IsSpan text begin part span
IsSpan-of-equal-span text begin part span e h =
    subst (λ (s : Span). IsSpan text begin part s) (sym e) h

pub AreSpansOf-of-equal-text : (text same : List ℕ) (parts : Parts) → same ≡ text
    → AreSpansOf same parts → AreSpansOf text parts
AreSpansOf-of-equal-text text same parts e h = subst (λ t. AreSpansOf t parts) e h

-- parts for C: those of a text, whose authority is written after the other components
pub AreSpansOf-with-authority : (text : List ℕ) (parts : Parts) (scheme path query fragment : Span)
    → parts.index ≡ 0 → parts.scheme ≡ scheme → parts.path ≡ path → parts.query ≡ query
    → parts.fragment ≡ fragment → IsSpan text 0 (components text).scheme scheme
    → IsSpan text (path_start text) (Some (components text).path) path
    → IsSpan text (query_start text) (components text).query query
    → IsSpan text (fragment_start text) (components text).fragment fragment
    → IsSpan text (authority_start text) (components text).authority parts.authority
    → IsSpan text (authority_start text) (userinfo_of (components text).authority) parts.userinfo
    → IsSpan text (host_start text) (host_of (components text).authority) parts.host
    → IsSpan text (port_start text) (port_of (components text).authority) parts.port
    → parts.host_kind ≡ authority_host_number (components text).authority → AreSpansOf text parts
AreSpansOf-with-authority text parts scheme path query fragment index at_scheme at_path at_query
    at_fragment is_scheme is_path is_query is_fragment authority userinfo host port kind =
    grind (arith, components)
