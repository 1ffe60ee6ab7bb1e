-- Each step of a builder knows where the host is in the authority.
use Rattle.uri_ops.proofs.Common.{common_steps, ◌≡◌, ℕ, ◌+◌, Bool, true, false, List, [], ◌∷◌, ◌++◌, length, refl, sym, ap, subst, ◌∙◌, arith, length-append, codes, Option, IfSome, option_map, unwrap_or, option_map_or, IsUtf8, IsUtf8-from_is_utf8, and_parts, false≢true, nat_tests, TableSet, digit_set, is_valid_for, AuthorityParts, authority_parts, is_authority_for, Kind, absent_or_passes, host_end_of, host_start_of, delimited_length, is_authority_for-sound, Draft, Lengths, AddsUnlessFailed, BuilderParts, MeetsOrFailed, is_authority_text, is_text_for, lacks_host_and_port, lacks_port, with_authority, with_more_authority, draft_parts, ends_in_authority, is_in_order, HasComponentSets, is_empty, IsHostText, IsHostAtIfSome, IsHostAt, HasRightHostRange}
use Rattle.uri_ops.specs.declared.build.places.HostRange.{HostRange}
use Rattle.uri_ops.proofs.Builders.BuilderAuthorities.{authority-text-meets-rule, host-extends-authority, port-extends-authority, userinfo-begins-authority}
use Rattle.uri_ops.proofs.Builders.Drafting.{meet_rules-gives-rules}
use Rattle.uri_ops.proofs.Builders.PartRules.{in-order-parts-pass-their-test, failure-is-kept}
use Rattle.uri_ops.proofs.Normal.WrittenPlaces.{length-with-delimiter-after, length-with-delimiter-before}

authority-is-as-long-as-its-parts : (users names : TableSet) (a : List ℕ)
    → is_authority_for users names a ≡ true
    → length a ≡ delimited_length 1 (authority_parts a).userinfo + length (authority_parts a).host
    + delimited_length 1 (authority_parts a).port
authority-is-as-long-as-its-parts users names a e =
    grind (
      arith,
      common_steps,
      is_authority_for-sound,
      length-with-delimiter-after,
      length-with-delimiter-before,
    )

-- building: two positions are those of the host in the authority a,
-- if they are where its host starts and ends
pub host-range-from-ends : (users names : TableSet) (place : HostRange) (a : List ℕ)
    → is_authority_for users names a ≡ true → place.start ≡ host_start_of a
    → place.end ≡ host_end_of a → IsHostAt place a
host-range-from-ends users names place a e s t =
    grind (arith, nat_tests, authority-is-as-long-as-its-parts)

pub empty-authority-has-host-range : (place : HostRange) → place.start ≡ 0 → place.end ≡ 0
    → IsHostAt place []
empty-authority-has-host-range place s t = record { start = s; end = t; inside = omega (arith, t) }

pub host-range-of-some-authority : (place : HostRange) (o : Option (List ℕ))
    → IsHostAtIfSome place o → IfSome o (IsHostAt place)
host-range-of-some-authority place o has = grind (arith, common_steps)

-- building: if positions are those of the host in the authority, if there is one,
-- they pass the test for an option
host-range-if-some-authority : (place : HostRange) (o : Option (List ℕ)) → IfSome o (IsHostAt place)
    → IsHostAtIfSome place o
host-range-if-some-authority place o h = λ a e. subst (λ t. IfSome t (IsHostAt place)) e h

-- building: a step that leaves the authority as it is leaves the host's positions
pub host-range-stays-with-authority : (change : BuilderParts → BuilderParts) (d e : Draft)
    → AddsUnlessFailed change (draft_parts d) (draft_parts e)
    → (change (draft_parts d)).failed ≡ d.failed → (change (draft_parts d)).authority
    ≡ (draft_parts d).authority → e.host ≡ d.host → HasRightHostRange d → HasRightHostRange e
host-range-stays-with-authority change d e adds same authority host knows whole =
    grind (arith, nat_tests, failure-is-kept)

-- building: a step that gives the authority gives the host's positions
pub host-range-of-new-authority : (x : List ℕ) (d e : Draft)
    → AddsUnlessFailed (with_authority x) (draft_parts d) (draft_parts e) → IsHostAt e.host x
    → HasRightHostRange e
host-range-of-new-authority x d e adds at whole =
    grind (arith, nat_tests, host-range-if-some-authority)

-- and one by which it goes on
module _ (kind : Kind) (needs : Bool) (d e : Draft) (x : List ℕ) (takes : List ℕ → Bool)
    (adds : AddsUnlessFailed (with_more_authority x) (draft_parts d) (draft_parts e))
    (meets : MeetsOrFailed kind (draft_parts d))
    (before : is_in_order (ends_in_authority takes) needs (draft_parts d) ≡ true)
    (step : e.failed ≡ false → (a : List ℕ) → is_authority_text kind a ≡ true → takes a ≡ true
    → IsHostAt d.host a → unwrap_or e.lengths.authority 0 ≡ length (a ++ x)
    → IsHostAt e.host (a ++ x)) where
  host-range-of-appended-authority : e.failed ≡ false → (o : Option (List ℕ))
      → absent_or_passes o (is_authority_text kind)
      ≡ true
      → option_map_or takes o false ≡ true → IfSome o (IsHostAt d.host)
      → option_map length (option_map (λ t. t ++ x) o) ≡ e.lengths.authority
      → IfSome (option_map (λ t. t ++ x) o) (IsHostAt e.host)
  host-range-of-appended-authority whole q rule t at len = grind (arith, common_steps)

  pub host-range-of-longer-authority : HasRightHostRange d → HasRightHostRange e
  host-range-of-longer-authority knows whole =
      let p = draft_parts d in
      let was = failure-is-kept (with_more_authority x) p (draft_parts e) adds refl whole in
      let is = ap (λ (q : BuilderParts). q.authority) (adds whole) in
      let h = in-order-parts-pass-their-test _ _ p before was in
      let counted = ap (λ (l : Lengths). l.authority) (e.ok whole).counted in
      subst (IsHostAtIfSome e.host) (sym is) (host-range-if-some-authority _ _
      (host-range-of-appended-authority whole _ (meet_rules-gives-rules _ p (meets was)).authority
      (and_parts _ _ h.1).0 (host-range-of-some-authority _ _ (knows was))
      (sym (ap (option_map length) is) ∙ counted)))

-- by userinfo, by a host, and by a port
module _ (kind : Kind) (sets : HasComponentSets kind) (old new : HostRange) (len : ℕ) where
  pub host-range-after-userinfo : (user : List ℕ)
      → IsUtf8 user → is_valid_for kind.userinfo user ≡ true → new.start ≡ len → new.end ≡ len
      → (a : List ℕ) → is_authority_text kind a ≡ true → is_empty a ≡ true → IsHostAt old a
      → len ≡ length (a ++ (user ++ codes "@")) → IsHostAt new (a ++ (user ++ codes "@"))
  host-range-after-userinfo user u valid s t [] rule empty at n =
      let whole : List ℕ = user ++ codes "@" in
      let h = userinfo-begins-authority kind sets user u valid in
      let start : host_start_of whole ≡ 1 + length user =
      ap (λ (p : AuthorityParts). delimited_length 1 p.userinfo) h.parts in
      let host : length (authority_parts whole).host ≡ 0 =
      ap (λ (p : AuthorityParts). length p.host) h.parts in
      let m = length-append user (codes "@") in
      record {
        start = omega (arith, s, n, m, start);
        end = omega (arith, t, n, m, start, host);
        inside = omega (arith, t, n);
      }
  host-range-after-userinfo user u valid s t (c ∷ a) rule empty at n = absurd (false≢true empty)

  pub host-range-after-host : (host : List ℕ)
      → IsHostText kind.reg_name host → new.start ≡ old.start → new.end ≡ len
      → (a : List ℕ) → is_authority_text kind a ≡ true → lacks_host_and_port a ≡ true
      → IsHostAt old a → len ≡ length (a ++ host) → IsHostAt new (a ++ host)
  host-range-after-host host text s t a rule takes at n =
      let h = host-extends-authority _ sets a _ rule takes text in
      let start : host_start_of (a ++ host) ≡ host_start_of a =
      ap (λ (p : AuthorityParts). delimited_length 1 p.userinfo) h.parts in
      let port : delimited_length 1 (authority_parts (a ++ host)).port ≡ 0 =
      ap (λ (p : AuthorityParts). delimited_length 1 p.port) h.parts in
      let m = authority-is-as-long-as-its-parts _ _ _ (authority-text-meets-rule _ _ h.rule) in
      record {
        start = s ∙ at.start ∙ sym start;
        end = omega (arith, t, n, m, port);
        inside = omega (arith, t, n);
      }

  pub host-range-after-port : (digits : List ℕ) → is_text_for digit_set digits ≡ true → new ≡ old
      → (a : List ℕ) → is_authority_text kind a ≡ true → lacks_port a ≡ true → IsHostAt old a
      → len ≡ length (a ++ (codes ":" ++ digits)) → IsHostAt new (a ++ (codes ":" ++ digits))
  unfolding is_text_for
  host-range-after-port digits d same a rule takes at n =
      let text = and_parts _ _ d in
      let whole : List ℕ = a ++ (codes ":" ++ digits) in
      let h = port-extends-authority _ sets a _ rule takes (IsUtf8-from_is_utf8 _ text.0) text.1 in
      let start : host_start_of whole ≡ host_start_of a =
      ap (λ (p : AuthorityParts). delimited_length 1 p.userinfo) h.parts in
      let end : host_end_of whole ≡ host_end_of a =
      ap (λ (p : AuthorityParts). delimited_length 1 p.userinfo + length p.host) h.parts in
      subst (λ p. IsHostAt p whole) (sym same) (record {
        start = at.start ∙ sym start;
        end = at.end ∙ sym end;
        inside = omega (arith, at.inside, length-append a (codes ":" ++ digits));
      })
