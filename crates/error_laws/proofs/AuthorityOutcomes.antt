-- The outcomes of errors in an authority.
use Rattle.error_laws.proofs.Common.{◌≡◌, ℕ, suc, ◌+◌, ◌-◌, ◌<◌, ◌≤◌, Bool, true, false, cond, eqb, ap, List, ◌∷◌, ◌++◌, take, drop, Some, refl, sym, subst, ◌∙◌, arith, ◌&&◌, ⊎_elim, length-drop, rules, codes, nat_lt, IsUtf8, drop-drop, cases_Bool, cases_lt, cond-true, cond-false, and_left, and_right, and_from, eq-eqb, ltb-true, ltb-false, lt-ltb, le-ltb, both_ways, nat_tests, same_Some, valid_prefix, digit_set, is_one_of, ParseError, starts, Kind, OptionalParseError, ◌>>=◌, last_colon, error_from_abempty_path, error_from_host, error_from_name, error_from_authority, is_next, scan_end, text-begins-with-one-byte-alone, userinfo-stops-with-name-without-colon, scan-stops-at-stray-percent-or-goes-on, nothing-is-scanned-at-mark, empty-or-marked-for-more-marks, begins-with-mark, begins-with-no-other, text-at-mark-is-mark-and-rest, utf8_around_ascii_byte, is_unrooted, is_late_from_host, is_late_from_authority}
use Rattle.uri_pct.proofs.Offered.{reserved_is_never_in_octet, valid_before_mark}
use Rattle.error_laws.proofs.Marks.{literal-is-utf8, At}
use Rattle.error_laws.proofs.HostOutcomes.{host-outcome, scan-stops-at-its-end}
use Rattle.error_laws.proofs.KindFacts.{Facts, path-stops-with-userinfo}
use Rattle.error_laws.proofs.Outcomes.{Any, Outcome, carry, stop, shared-mark-is-at}
use Rattle.error_laws.proofs.PathOutcomes.{abempty-path-outcome, end-has-no-host-error}
use Rattle.error_laws.proofs.SharedPrefixes.{IsPosition, position-after-mark, position-at-mark, scan-ends-at-position, scanned-part-is-valid, Alike, scan-goes-on, next-is-shared, scan-is-shared, scan-goes-on-alike, valid-part-is-scanned, taken-in-two-steps}
use Rattle.error_laws.proofs.UserinfoEnds.{last-colon-is-colon, last-colon-is-before-position, last-colon-is-shared, colon-adds-to-userinfo, userinfo-goes-on-after-name, userinfo-goes-on-after-port, empty-authority-is-passed}

module _ (kind : Kind) (f : Facts kind) (text : List ℕ) (u : IsUtf8 text) (i : ℕ)
    (a : IsPosition text i) where
  abbrev error : List ℕ → OptionalParseError
  error t = error_from_authority kind t i

  abbrev next : List ℕ → ℕ → OptionalParseError
  next t n = cond (is_next t 64 n) (error_from_host kind t (n + 1))
      (cond (eqb n i) (error_from_host kind t i) (error_from_name kind t i n))

  abbrev end : ℕ
  end = scan_end text kind.userinfo i

  abbrev name : ℕ
  name = scan_end text kind.reg_name i

  abbrev port : ℕ
  port = scan_end text digit_set (name + 1)

  at_end : IsPosition text end
  at_end = scan-ends-at-position text kind.userinfo f.apart.userinfo_lacks i a

  at_name : IsPosition text name
  at_name = scan-ends-at-position text kind.reg_name f.apart.reg_name_lacks i a

  at-sign-is-passed : (other : List ℕ) (n : ℕ) → scan_end other kind.userinfo i ≡ n
      → is_next other 64 n ≡ true → error other ≡ error_from_host kind other (n + 1)
  unfolding error_from_authority
  at-sign-is-passed other n scanned s =
      grind (arith, nat_tests, scan-goes-on, text-begins-with-one-byte-alone)

  userinfo-ends-at-sign : (n : ℕ) (other : List ℕ) → Alike n text other → end ≤ n
      → is_next other 64 end ≡ true → scan_end other kind.userinfo i ≡ end
  userinfo-ends-at-sign n other w le s = search (rules, scan-is-shared, begins-with-mark)

  -- what is before n is userinfo
  userinfo-can-stop : (n : ℕ) → i ≤ n → IsPosition text n
      → ((other : List ℕ) → Alike n text other → is_next other 64 n ≡ true
      → scan_end other kind.userinfo i ≡ n) → Outcome text n false Any i error
  userinfo-can-stop n le b scanned = stop text n Any i error (codes "@") u le b
      (literal-is-utf8 (codes "@") refl) (λ other w d.
      let s : is_next other 64 n ≡ true = ap (starts 64) d in (
        tt,
        at-sign-is-passed other n (scanned other w s) s
            ∙ end-has-no-host-error kind other (n + 1) (sym (drop-drop 1 n other) ∙ ap (drop 1) d),
      ))

  -- up to a `:`
  userinfo-can-stop-at-colon : (c : ℕ) → i ≤ c → c < end → is_next text 58 c ≡ true
      → Outcome text c false Any i error
  userinfo-can-stop-at-colon c le l s =
      let bs : List ℕ = drop i text in
      let k : ℕ = c - i in
      let m : ℕ = end - c - 1 in
      let rest : List ℕ = drop (c + 1) text in
      let at_c : i + k ≡ c = omega (arith, le) in
      let long : valid_prefix kind.userinfo bs ≡ k + suc m = omega (arith, le, l) in
      let p = scanned-part-is-valid text kind.userinfo f.apart.userinfo_lacks i a in
      let same : take (valid_prefix kind.userinfo bs) bs
      ≡ take k bs ++ (58 ∷ take m rest) = ap (λ j. take j bs) long
      ∙ taken-in-two-steps bs k (suc m) (omega (arith, length-drop i text, at_end.le, l, le)) ∙ ap
      (λ t. take k bs ++ take (suc m) t) (drop-drop k i text ∙ ap (λ j. drop j text) at_c
      ∙ text-at-mark-is-mark-and-rest text 58 c s) in
      let v = (utf8_around_ascii_byte (take k bs) 58 (take m rest) (omega arith)
      (subst IsUtf8 same p.0)).0 in
      let valid = valid_before_mark kind.userinfo _ (take k bs) (take m rest) 58 p.1 same
      (reserved_is_never_in_octet 58 refl) p.0 in
      userinfo-can-stop c le (position-at-mark text 58 c u (omega arith) s) (λ other w d.
      valid-part-is-scanned c text other w u kind.userinfo (codes "@/?#[") f.apart.userinfo_lacks
      f.userinfo_marks i k (omega (arith, at_c)) a v valid
      (grind (arith, nat_tests, begins-with-mark)) ∙ at_c)

  -- a name and its port
  module _ (more : name < end) where
    colon-follows-name : is_next text 58 name ≡ true
    colon-follows-name = search (
      rules,
      userinfo-goes-on-after-name,
      userinfo-stops-with-name-without-colon,
      scan-stops-at-its-end,
    )

    at_port : IsPosition text (name + 1)
    at_port = position-after-mark text 58 name (omega arith) colon-follows-name at_name

    port-is-within-userinfo : port ≤ end
    port-is-within-userinfo =
        search (rules, userinfo-goes-on-after-name, userinfo-goes-on-after-port, colon-follows-name)

    userinfo-can-stop-after-port : Outcome text port false Any i error
    userinfo-can-stop-after-port =
        let later : name < port = omega arith in
        userinfo-can-stop port (omega (arith, later))
        (scan-ends-at-position text digit_set refl (name + 1) at_port) (λ other w d.
        let colon = next-is-shared port text other w 58 name later ∙ colon-follows-name in
        let same = scan-is-shared port text other w u kind.reg_name (codes ":@/?#[")
        f.apart.reg_name_lacks f.name_marks i a (omega (arith, later))
        (begins-with-mark 58 (codes ":@/?#[") (drop name other) refl colon) in
        let digits = scan-is-shared port text other w u digit_set (codes "@") refl refl (name + 1)
        at_port (omega arith) (begins-with-mark 64 (codes "@") (drop port other) refl d) in
        userinfo-goes-on-after-name kind f other i ∙ ap (scan_end other kind.userinfo) same
        ∙ userinfo-goes-on-after-port kind f other name colon
        ∙ ap (scan_end other kind.userinfo) digits
        ∙ (let z = nothing-is-scanned-at-mark kind.userinfo (codes "@/?#[") f.apart.userinfo_lacks
        f.userinfo_marks (drop port other)
        (begins-with-mark 64 (codes "@/?#[") (drop port other) refl d) in omega (arith, z)))

  -- where userinfo ends without an `@`, the third exception doesn't apply
  path-is-rooted-after-userinfo : is_next text 64 end ≡ false → is_unrooted kind text end ≡ false
  path-is-rooted-after-userinfo at =
      grind (arith, nat_tests, path-stops-with-userinfo, scan-stops-at-its-end)

  -- a name and a port that are all of the userinfo
  name-and-port-are-passed : eqb end i ≡ false → nat_lt name (last_colon text end) ≡ false
      → (nat_lt name end && nat_lt port end) ≡ false → (n : ℕ) (other : List ℕ)
      → Alike n text other → end ≤ n → At (codes "/?#") end other
      → error other ≡ error_from_abempty_path kind other end
  unfolding error_from_authority error_from_name
  name-and-port-are-passed some first second n other w le at =
      let long = userinfo-goes-on-after-name kind f text i in
      let within : name ≤ end = omega (arith, long) in
      let at_mark = empty-or-marked-for-more-marks (codes "/?#") (codes ":@/?#[") (drop end other)
      (λ c m. grind (arith, nat_tests)) at in
      let scanned = scan-goes-on-alike n text other w u kind.userinfo (codes "@/?#[")
      f.apart.userinfo_lacks f.userinfo_marks refl i a le
      (empty-or-marked-for-more-marks (codes "/?#") (codes "@/?#[") (drop end other)
      (λ c m. grind (arith, nat_tests)) at) in
      let same = scan-is-shared n text other w u kind.reg_name (codes ":@/?#[")
      f.apart.reg_name_lacks f.name_marks i a (omega (arith, within, le)) (⊎_elim
      (λ (m : name < end). shared-mark-is-at n text other w 58 (codes ":@/?#[") name refl
      (omega (arith, m, le)) (colon-follows-name m))
      (λ (m : end ≤ name). subst (λ j. At (codes ":@/?#[") j other)
      (equal_ends within m) at_mark)
      (cases_lt name end)) in
      let colon = last-colon-is-shared n text other w end le in
      let before : last_colon text end ≤ name = ltb-false _ _ first in
      let found : ℕ = scan_end other kind.reg_name i in
      let digits_end : ℕ = scan_end other digit_set (found + 1) in
      let ended : (nat_lt found end && nat_lt digits_end end) ≡ false = ⊎_elim
      (λ (m : name < end).
      let p : end ≤ port = port_reaches_end m second in
      let q = port-is-within-userinfo m in
      let whole : port ≡ end = omega (arith, p, q) in
      let digits = ap (λ k. scan_end other digit_set (k + 1)) same
      ∙ scan-is-shared n text other w u digit_set (codes "/?#") refl refl (name + 1) (at_port m)
      (omega (arith, q, le)) (subst (λ j. At (codes "/?#") j other) (sym whole) at) in
      and_right _ _ (le-ltb digits_end end (omega (arith, digits, whole))))
      (λ (m : end ≤ name). and_left _ _ (le-ltb found end (omega (arith, same, m))))
      (cases_lt name end) in
      ap (λ r. r >>= next other) scanned
      ∙ cond-false _ _ _ (begins-with-no-other 64 (codes "/?#") (drop end other) refl at)
      ∙ cond-false _ _ _ some
      ∙ cond-false _ _ _ (le-ltb found (last_colon other end) (omega (arith, same, colon, before)))
      ∙ cond-false _ _ _ ended
    where
      equal_ends : name ≤ end → end ≤ name → end ≡ name
      equal_ends l m = omega arith

      port_reaches_end : name < end → (nat_lt name end && nat_lt port end) ≡ false → end ≤ port
      port_reaches_end m s = ⊎_elim
          (λ (l : port < end). absurd (both_ways _ s (and_from _ _ (lt-ltb _ _ m) (lt-ltb _ _ l))))
          (λ (l : end ≤ port). l)
          (cases_lt port end)

  -- without userinfo, and with no empty host
  name-outcome : (r : ParseError) → eqb end i ≡ false → is_next text 64 end ≡ false
      → error_from_name kind text i end ≡ Some r → Outcome text r.index false Any i error
  unfolding error_from_name
  name-outcome r some at e =
      let c : ℕ = last_colon text end in
      let named : ParseError → Type 0 = λ x. Outcome text x.index false Any i error in ⊎_elim
      (λ l.
      let k = ltb-true _ c l in
      let positive : 0 < c = omega (arith, k) in
      let within = last-colon-is-colon _ end positive in
      let below = last-colon-is-before-position _ end positive in
      subst named (same_Some _ r (sym (cond-true _ _ _ l) ∙ e))
      (userinfo-can-stop-at-colon c (omega (arith, k)) below within))
      (λ l.
      let e' = sym (cond-false _ _ _ l) ∙ e in ⊎_elim
      (grind (arith, nat_tests, same_Some, userinfo-can-stop-after-port))
      (λ p.
      let o = abempty-path-outcome _ f _ u end at_end _ r
      (path-is-rooted-after-userinfo at) (sym (cond-false _ _ _ p) ∙ e') in
      carry _ _ _ _ _ end i _ _ (omega arith) o (λ other w q.
      (tt, name-and-port-are-passed some l p _ _ w o.from q))) (cases_Bool _)) (cases_Bool _)

  -- no userinfo, no host and no port
  empty-outcome : (r : ParseError) → end ≡ i → is_next text 37 i ≡ false → is_next text 64 i ≡ false
      → is_next text 91 i ≡ false → error text ≡ Some r → Outcome text r.index false Any i error
  empty-outcome r z percent at bracket e =
      let none : valid_prefix kind.userinfo (drop i text) ≡ 0 = omega (arith, z) in
      let colon : is_next text 58 i ≡ false =
      grind (arith, nat_tests, text-at-mark-is-mark-and-rest, colon-adds-to-userinfo) in
      let rooted = subst (λ k. is_unrooted kind text k ≡ false) z
      (path-is-rooted-after-userinfo (ap (is_next text 64) z ∙ at)) in
      let o = abempty-path-outcome kind f text u i a false r rooted
      (sym (empty-authority-is-passed kind f text i none percent at bracket colon) ∙ e) in
      carry text r.index false _ _ i i _ _ (omega arith) o (λ other w q.
      let other_byte : (b : ℕ) → is_one_of (codes "/?#") b ≡ false → is_next other b i ≡ false =
      λ b n. begins-with-no-other b (codes "/?#") (drop i other) n q in (
        tt,
        empty-authority-is-passed kind f other i (nothing-is-scanned-at-mark kind.userinfo
            (codes "@/?#[") f.apart.userinfo_lacks f.userinfo_marks (drop i other)
            (empty-or-marked-for-more-marks (codes "/?#") (codes "@/?#[") (drop i other)
            (λ c m. grind (arith, nat_tests)) q)) (other_byte 37 refl) (other_byte 64 refl)
            (other_byte 91 refl) (other_byte 58 refl),
      ))

  -- a host in brackets without userinfo
  bracket-outcome : (late : Bool) (r : ParseError) → is_next text 91 i ≡ true → end ≡ i
      → is_late_from_host kind text i ≡ late → error_from_host kind text i ≡ Some r
      → Outcome text r.index late Any i error
  unfolding error_from_authority
  bracket-outcome late r s z l e = carry text r.index late _ _ i i _ _ (omega arith)
      (host-outcome kind f text u i a late r l e) (λ other w q.
      let b = q ∙ s in
      let none = nothing-is-scanned-at-mark kind.userinfo (codes "@/?#[") f.apart.userinfo_lacks
      f.userinfo_marks (drop i other) (begins-with-mark 91 (codes "@/?#[") (drop i other) refl b) in
      (grind (arith, nat_tests, scan-goes-on, text-begins-with-one-byte-alone)))

  -- userinfo and its `@`
  host-outcome-after-userinfo : (late : Bool) (r : ParseError) → is_next text 64 end ≡ true
      → is_late_from_host kind text (end + 1) ≡ late → error_from_host kind text (end + 1) ≡ Some r
      → Outcome text r.index late Any i error
  host-outcome-after-userinfo late r s l e =
      let o = host-outcome kind f text u (end + 1)
      (position-after-mark text 64 end (omega arith) s at_end) late r l e in
      let from = o.from in
      search (rules, carry, next-is-shared, at-sign-is-passed, userinfo-ends-at-sign)

  pub authority-outcome : (late : Bool) (r : ParseError)
      → is_late_from_authority kind text i ≡ late → error text ≡ Some r
      → Outcome text r.index late Any i error
  unfolding error_from_authority is_late_from_authority
  authority-outcome late r l e =
      let t = sym (scan-stops-at-stray-percent-or-goes-on text kind.userinfo i (next text)) ∙ e in
      let on_time : (x : ℕ) → Outcome text x false Any i error → false ≡ late
      → Outcome text x late Any i error =
      λ x o z. subst (λ y. Outcome text x y Any i error) z o in
      let no_bracket : is_next text 64 end ≡ false → is_next text 91 i ≡ false → false ≡ late =
      λ s b. sym (cond-false _ _ _ s ∙ and_left _ _ b) ∙ l in
      let here : is_next text 91 i ≡ true → end ≡ i = λ b.
      let z = nothing-is-scanned-at-mark kind.userinfo (codes "@/?#[") f.apart.userinfo_lacks
      f.userinfo_marks (drop i text)
      (begins-with-mark 91 (codes "@/?#[") (drop i text) refl b) in omega (arith, z) in ⊎_elim
      (λ s. ⊎_elim (grind (arith, nat_tests, text-begins-with-one-byte-alone))
      (λ b. subst (λ x. Outcome text x.index late Any i error)
      (same_Some _ _ (sym (cond-true _ _ _ s) ∙ t)) (on_time end
      (userinfo-can-stop end (omega arith) at_end
      (λ other w d. userinfo-ends-at-sign end other w (omega arith) d))
      (grind (arith, nat_tests, text-begins-with-one-byte-alone))))
      (cases_Bool (is_next text 91 i)))
      (λ s.
      let t' = sym (cond-false _ _ _ s) ∙ t in ⊎_elim
      (λ at. host-outcome-after-userinfo late r at (sym (cond-true _ _ _ at) ∙ l)
      (sym (cond-true _ _ _ at) ∙ t'))
      (λ at.
      let e' = sym (cond-false _ _ _ at) ∙ t' in ⊎_elim
      (λ b. bracket-outcome late r b (here b)
      (sym (cond-false _ _ _ at ∙ ap (λ x. x && is_late_from_host kind text i) b) ∙ l)
      (sym (cond-true _ _ _ (eq-eqb end i (here b))) ∙ e'))
      (grind (arith, nat_tests, empty-outcome, name-outcome))
      (cases_Bool (is_next text 91 i)))
      (cases_Bool (is_next text 64 end)))
      (cases_Bool (kind.userinfo.pct_encoded && is_next text 37 end))
