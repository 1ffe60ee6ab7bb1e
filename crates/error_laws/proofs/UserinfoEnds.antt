-- Where userinfo, a name and a port end in one another, and the last `:` of a text.
use Rattle.error_laws.proofs.Common.{◌≡◌, ℕ, zero, suc, ◌+◌, ◌<◌, ◌≤◌, true, false, List, ◌∷◌, drop, refl, ap, ◌∙◌, arith, ⊎_elim, drop-drop, rules, cases_Bool, cond-true, cond-false, and_right, eq-eqb, valid_prefix_from, valid_prefix, digit_set, valid_prefix_by_first_byte, valid_prefix_of_superset_goes_on_from_subset, Kind, last_colon, error_from_port, error_from_abempty_path, error_from_host, error_from_authority, is_next, scan_end, text-at-mark-is-mark-and-rest}
use Rattle.uri_pct.proofs.Offered.{ascii_byte_has_no_continuation, ascii_first_byte_is_allowed_iff_in_set}
use Rattle.uri_parts.proofs.Offered.{last_colon_is_below_position}
use Rattle.error_laws.proofs.KindFacts.{Facts}
use Rattle.error_laws.proofs.SharedPrefixes.{Alike, scan-goes-on, next-is-shared}

-- error law: if there is a `:` before a position, the byte at the last one is `:`
pub last-colon-is-colon : (text : List ℕ) (n : ℕ) → 0 < last_colon text n
    → is_next text 58 (last_colon text n) ≡ true
unfolding last_colon
last-colon-is-colon text zero l = absurd (omega arith)
last-colon-is-colon text (suc n) l = ⊎_elim
    (λ c. ap (is_next text 58) (cond-true _ _ _ c) ∙ c)
    (λ c. let e = cond-false _ n _ c in
    ap (is_next text 58) e ∙ last-colon-is-colon _ n (omega (arith, e))) (cases_Bool _)

pub last-colon-is-before-position : (text : List ℕ) (n : ℕ) → 0 < last_colon text n
    → last_colon text n < n
unfolding last_colon
last-colon-is-before-position text n l = grind (arith, last_colon, last_colon_is_below_position)

pub last-colon-is-shared : (n : ℕ) (text other : List ℕ) → Alike n text other → (k : ℕ) → k ≤ n
    → last_colon other k ≡ last_colon text k
unfolding last_colon
last-colon-is-shared n text other w zero le = refl
last-colon-is-shared n text other w (suc k) le =
    search (rules, next-is-shared, last-colon-is-shared n text other w k (omega arith))

module _ (kind : Kind) (f : Facts kind) (text : List ℕ) where
  pub colon-adds-to-userinfo : (bs : List ℕ)
      → valid_prefix kind.userinfo (58 ∷ bs) ≡ valid_prefix kind.userinfo bs + 1
  colon-adds-to-userinfo bs = valid_prefix_by_first_byte kind.userinfo 58 bs
      ∙ cond-false _ _ _ (and_right _ _ refl) ∙ cond-true _ _ _
      (ascii_first_byte_is_allowed_iff_in_set kind.userinfo 58 bs (omega arith)
      ∙ f.apart.colon_within) ∙ ap (λ k. valid_prefix_from kind.userinfo k bs + 1)
      (ascii_byte_has_no_continuation 58 (omega arith))

  -- userinfo goes on where a name ends
  pub userinfo-goes-on-after-name : (i : ℕ) → scan_end text kind.userinfo i
      ≡ scan_end text kind.userinfo (scan_end text kind.reg_name i)
  userinfo-goes-on-after-name i =
      let bs : List ℕ = drop i text in
      let w = valid_prefix_of_superset_goes_on_from_subset kind.reg_name kind.userinfo
      f.apart.name_within f.apart.reg_name_lacks bs in
      let d = ap (valid_prefix kind.userinfo) (drop-drop (valid_prefix kind.reg_name bs) i text) in
      omega (arith, w, d)

  -- userinfo goes on where a port ends
  pub userinfo-goes-on-after-port : (k : ℕ) → is_next text 58 k ≡ true
      → scan_end text kind.userinfo k
      ≡ scan_end text kind.userinfo (scan_end text digit_set (k + 1))
  userinfo-goes-on-after-port k e =
      let bs : List ℕ = drop (k + 1) text in
      let w = valid_prefix_of_superset_goes_on_from_subset _ _ f.apart.digits_within refl bs in
      let c = ap (valid_prefix kind.userinfo) (text-at-mark-is-mark-and-rest text 58 k e)
      ∙ colon-adds-to-userinfo bs in
      let d = ap (valid_prefix kind.userinfo)
      (drop-drop (valid_prefix digit_set bs) (k + 1) text) in
      omega (arith, w, c, d)

  -- where nothing of an authority is next, its path is
  pub empty-authority-is-passed : (i : ℕ) → valid_prefix kind.userinfo (drop i text) ≡ 0
      → is_next text 37 i ≡ false → is_next text 64 i ≡ false → is_next text 91 i ≡ false
      → is_next text 58 i ≡ false
      → error_from_authority kind text i ≡ error_from_abempty_path kind text i
  unfolding error_from_authority error_from_host error_from_port
  empty-authority-is-passed i none percent at bracket colon =
      search (rules, userinfo-goes-on-after-name, scan-goes-on, cond-false, cond-true, eq-eqb)
