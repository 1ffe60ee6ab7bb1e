-- An IPv6 address with a `]` after it is read.
use Rattle.uri_parts.proofs.Common.{◌≡◌, ℕ, zero, suc, ◌+◌, ◌-◌, ◌<◌, ◌≤◌, Bool, true, false, not, cond, eqb, List, [], ◌∷◌, ◌++◌, length, drop, decimal, Option, Some, None, refl, sym, ap, subst, ◌∙◌, arith, ◌&&◌, ◌||◌, ⊎_elim, inl, inr, lit≤, append_assoc, length-append, nat_lt, codes, IsTrue, digit_value, AllDigits, segments_of, IsDotted, IsGroupsAfter, IsColonHex, digit_count, cond-true, cond-false, cases_Bool, and_from, and_right, ne_eqb, not-true, eq-eqb, lt-ltb, eqb-true, both_ways, and_parts, decimal_is_IsNumeral, length-decimal-le, NoDigit, digit_count_none, nat_tests, second-holds-if-first-is-false, starts, is_end, Groups, Groups_end, Elision, digits_end, ipv4_end, after_ipv4, groups_from, ipv6_end, cannot_begin_ipv6, after_groups, after_elision}
use Rattle.uri_parts.proofs.HostForms.AddressParsing.{dotted as dotted_with}
use Rattle.uri_parts.proofs.Refusals.GroupTurns.{groups_from-ends-without-room, dotted, text-with-mark-is-not-ended, groups_from-ends-without-group, groups_from-elides-at-two-colons, groups_from-goes-on-after-group}
use Rattle.uri_parts.proofs.Refusals.Ipv4Ends.{suffix-after-prefix-at-position, suffix-after-mark-at-position, digits_end-is-after-digits, ipv4_end-finds-ipv4-text}

-- parse errors: what is before a group of an IPv6 address
abbrev lead : Bool → List ℕ
lead true = []
lead false = 58 ∷ []

-- parse errors: hexadecimal digits (ds), one at least, do not begin with `:` (58)
hex-digits-begin-with-no-colon : (ds tail : List ℕ) → 0 < length ds → AllDigits 16 ds
    → starts 58 (ds ++ tail) ≡ false
hex-digits-begin-with-no-colon [] tail l h = absurd (omega arith)
hex-digits-begin-with-no-colon (d ∷ ds) tail l h = ne_eqb d 58 (λ e.
    let x : digit_value 58 < 16 = rw e at h.0 in omega arith)

decimal-digits-are-hex-digits : (ds : List ℕ) → AllDigits 10 ds → AllDigits 16 ds
decimal-digits-are-hex-digits [] h = tt
decimal-digits-are-hex-digits (d ∷ ds) h =
    (omega (arith, h.0), decimal-digits-are-hex-digits ds h.1)

-- parse errors: no group of an IPv6 address goes on there
record Stops (tail : List ℕ) : Type 0 where
  none : NoDigit 16 tail
  dot : starts 46 tail ≡ false
  some : is_end tail ≡ false

-- parse errors: `:` (58) ends a group of an IPv6 address
colon-ends-a-group : (tail : List ℕ) → Stops (58 ∷ tail)
unfolding is_end
colon-ends-a-group tail = record { none = lit≤ tt; dot = refl; some = refl }

-- parse errors: further groups, or what ends a group after them, end a group; ipv4:
-- whether an IPv4 address ends them
text-of-groups-ends-a-group : (ipv4 : Bool) (groups segments suffix : List ℕ)
    → IsGroupsAfter ipv4 (58 ∷ []) groups segments → Stops suffix → Stops (groups ++ suffix)
text-of-groups-ends-a-group ipv4 groups [] suffix h w = subst (λ t. Stops (t ++ suffix)) (sym h) w
text-of-groups-ends-a-group ipv4 groups (s ∷ segments) suffix (inl (group, rest, e, is, more)) w =
    subst (λ t. Stops (t ++ suffix)) (sym e) (colon-ends-a-group _)
text-of-groups-ends-a-group ipv4 groups (s ∷ segments) suffix (inr (last, octets, may, e, is, same))
    w = subst (λ t. Stops (t ++ suffix)) (sym e) (colon-ends-a-group _)

-- parse errors: `]` (93) ends a group of an IPv6 address
bracket-ends-a-group : (tail : List ℕ) → Stops (93 ∷ tail)
unfolding is_end
bracket-ends-a-group tail = record { none = lit≤ tt; dot = refl; some = refl }

module _ (text : List ℕ) where
  -- where a group begins, after its `:`
  record Led (is_first : Bool) (i : ℕ) (xs : List ℕ) : Type 0 where
    place : ℕ
    is : place ≡ cond (starts 58 (drop i text)) (i + 1) i
    apart : (starts 58 (drop i text) && is_first || not (starts 58 (drop i text)) && not is_first)
        ≡ false
    at : drop place text ≡ xs
    from : place ≡ i + length (lead is_first)

  group-begins-after-lead : (is_first : Bool) (i : ℕ) (xs : List ℕ)
      → drop i text ≡ lead is_first ++ xs → starts 58 xs ≡ false → Led is_first i xs
  group-begins-after-lead true i xs s n = grind (arith, nat_tests)
  group-begins-after-lead false i xs s n = grind (arith, nat_tests, suffix-after-mark-at-position)

  groups_from-passes-group : (r : ℕ) (is_first : Bool) (i : ℕ) (ds tail : List ℕ) (w : Led
      is_first i (ds ++ tail)) → AllDigits 16 ds → 0 < length ds → length ds ≤ 4 → Stops tail
      → groups_from text (suc r) is_first i ≡ groups_from text r false (w.place + length ds)
  groups_from-passes-group r is_first i ds tail w all some most stop =
      grind (
        arith,
        suffix-after-prefix-at-position,
        groups_from-goes-on-after-group,
        digits_end-is-after-digits,
      )

  groups_from-ends-after-ipv4 : (r : ℕ) (is_first : Bool)
      (i end : ℕ) (address octets suffix : List ℕ) (w : Led is_first i (address ++ suffix))
      → IsDotted address octets → NoDigit 10 suffix → end ≡ w.place + length address
      → 1 ≤ r → groups_from text (suc r) is_first i ≡ Groups_end (r - 1) end
  unfolding is_end
  groups_from-ends-after-ipv4 r is_first i end address octets suffix w d stop e l =
      let n = decimal_is_IsNumeral d.a (omega (arith, d.fit.0)) in
      let short : length (decimal d.a) ≤ 3 =
      length-decimal-le 3 d.a (lit≤ tt) (omega (arith, d.fit.0)) (omega (arith, d.fit.0)) in
      let all = w.at ∙ ap (λ t. t ++ suffix) d.spelled ∙ dotted_with d.a d.b d.c d.d suffix in
      let next = suffix-after-prefix-at-position text w.place (decimal d.a) _ all in
      let last : ℕ = w.place + length (decimal d.a) in
      let few : nat_lt last (w.place + 4) ≡ true = lt-ltb last (w.place + 4) (omega arith) in
      dotted text (suc r) r is_first i w.place last
      (omega arith) w.is (sym (digits_end-is-after-digits text 16 4 w.place
      (decimal d.a) _ all (decimal-digits-are-hex-digits _ n.0.1) (lit≤ tt) (omega arith)))
      (λ s. omega (arith, s, n.0.0)) (and_right _ _ (ap is_end next)) w.apart
      (and_from _ _ few (ap (starts 46) next)) (λ z. omega (arith, z, l)) ∙ ap (after_ipv4 text
      (r - 1)) (ipv4_end-finds-ipv4-text text w.place end address octets suffix d w.at stop e)

  record IsRest (ipv4 : Bool) (end : ℕ) (answer : ℕ → Groups) : Type 0 where
    stops : Stops (drop end text)
    decimal_stop : NoDigit 10 (drop end text)
    base : (m : ℕ) (is_first : Bool) → groups_from text m is_first end ≡ answer m
    address : IsTrue ipv4 → (m : ℕ) → answer m ≡ Groups_end m end

  groups_from-passes-all-groups : (ipv4 : Bool) (segments : List ℕ)
      (room : ℕ) (is_first : Bool) (i end : ℕ) (groups : List ℕ) (answer : ℕ → Groups)
      → IsRest ipv4 end answer → i + length groups ≡ end
      → drop i text ≡ groups ++ drop end text → IsGroupsAfter ipv4 (lead is_first) groups segments
      → length segments ≤ room → groups_from text room is_first i ≡ answer (room - length segments)
  groups_from-passes-all-groups ipv4 [] room is_first i end groups answer w p s h fits =
      grind (arith, nat_tests)
  groups_from-passes-all-groups ipv4 (g ∷ segments) zero is_first i end groups answer w p s h fits =
      absurd (omega arith)
  groups_from-passes-all-groups ipv4 (g ∷ segments) (suc r) is_first i end groups answer w p s
      (inl (group, rest, e, is, more)) fits =
      let D : List ℕ = drop end text in
      let cut : drop i text ≡ lead is_first ++ (group ++ (rest ++ D)) =
      s ∙ ap (λ t. t ++ D) e ∙ append_assoc (lead is_first ++ group) rest D
      ∙ append_assoc (lead is_first) group (rest ++ D) in
      let v = group-begins-after-lead is_first i (group ++ (rest ++ D)) cut
      (hex-digits-begin-with-no-colon group (rest ++ D) is.0.0.0 is.0.0.1) in
      let size : length groups ≡ length (lead is_first) + length group + length rest =
      ap length e ∙ length-append (lead is_first ++ group) rest
      ∙ ap (λ n. n + length rest) (length-append (lead is_first) group) in
      let next : v.place + length group + length rest ≡ end = omega (arith, v.from, size, p) in
      let left : r - length segments ≡ suc r - length (g ∷ segments) = omega arith in
      groups_from-passes-group r is_first i group (rest
      ++ D) v is.0.0.1 is.0.0.0 is.1 (text-of-groups-ends-a-group ipv4 rest segments D more w.stops)
      ∙ groups_from-passes-all-groups ipv4 segments r false (v.place
      + length group) end rest answer w next (suffix-after-prefix-at-position text v.place group
      (rest ++ D) v.at) more (omega arith) ∙ ap answer left
  groups_from-passes-all-groups ipv4 (g ∷ segments) (suc r) is_first i end groups answer w p s
      (inr (last, octets, may, e, is, same)) fits =
      let D : List ℕ = drop end text in
      let two : length (g ∷ segments) ≡ 2 = ap length (same ∙ ap segments_of is.value) in
      let cut : drop i text ≡ lead is_first ++ (last ++ D) =
      s ∙ ap (λ t. t ++ D) e ∙ append_assoc (lead is_first) last D in
      let digits = decimal_is_IsNumeral is.a (omega (arith, is.fit.0)) in
      let v = group-begins-after-lead is_first i (last ++ D) cut
      (ap (starts 58) (ap (λ t. t ++ D) is.spelled ∙ dotted_with is.a is.b is.c is.d D)
      ∙ hex-digits-begin-with-no-colon (decimal is.a) _ digits.0.0
      (decimal-digits-are-hex-digits _ digits.0.1)) in
      let size = ap length e ∙ length-append (lead is_first) last in
      let left : r - 1 ≡ suc r - length (g ∷ segments) = omega (arith, two) in
      groups_from-ends-after-ipv4 r is_first i end last octets D v is w.decimal_stop
      (omega (arith, v.from, size, p)) (omega (arith, two, fits))
      ∙ sym (w.address may (r - 1)) ∙ ap answer left

  -- nothing goes on
  groups_from-ends-where-none-follows : (m : ℕ) (is_first : Bool) (end : ℕ) → Stops (drop end text)
      → starts 58 (drop end text) ≡ false → groups_from text m is_first end ≡ Groups_end m end
  groups_from-ends-where-none-follows zero is_first end w c = groups_from-ends-without-room text
      zero is_first end refl
  groups_from-ends-where-none-follows (suc r) is_first end w c =
      let z = digit_count_none 16 (drop end text) w.none in
      let none : end ≡ digits_end text 16 4 end = omega (arith, z) in
      groups_from-ends-without-group text (suc r) r is_first end end end (omega arith)
      (sym (cond-false _ _ _ c)) none refl c

  groups_from-elides-at-double-colon : (m : ℕ) (is_first : Bool) (end : ℕ) (suffix : List ℕ)
      → drop end text ≡ 58 ∷ 58 ∷ suffix
      → groups_from text m is_first end ≡ cond (eqb m 0) (Groups_end 0 end) (Elision m (end + 2))
  groups_from-elides-at-double-colon zero is_first end suffix s = groups_from-ends-without-room text
      zero is_first end refl
  groups_from-elides-at-double-colon (suc r) is_first end suffix s =
      let c : starts 58 (drop end text) ≡ true = ap (starts 58) s in
      let next = suffix-after-mark-at-position text 58 end (58 ∷ suffix) s in
      let z = ap (digit_count 16) next in
      let none : end + 1 ≡ digits_end text 16 4 (end + 1) = omega (arith, z) in
      let two : end + 1 + 1 ≡ end + 2 = omega arith in
      groups_from-elides-at-two-colons text (suc r) r is_first end (end
      + 1) (end + 1) (omega arith) (sym (cond-true _ _ _ c)) none refl c (ap (starts 58) next)
      ∙ ap (Elision (suc r)) two ∙ sym (cond-false _ _ _ (ne_eqb (suc r) 0 (λ z. omega (arith, z))))

  ipv4-with-six-groups-left-is-no-ipv6 : (o : Option ℕ) → after_groups text (after_ipv4 text 6 o)
      ≡ None
  ipv4-with-six-groups-left-is-no-ipv6 None = refl
  ipv4-with-six-groups-left-is-no-ipv6 (Some last) = refl

  -- after the groups comes `]`, or `::`
  groups-end-before-bracket : (ipv4 : Bool) (end : ℕ) → starts 93 (drop end text) ≡ true
      → IsRest ipv4 end (λ m. Groups_end m end)
  groups-end-before-bracket ipv4 end c =
      grind (arith, bracket-ends-a-group, groups_from-ends-where-none-follows)

  abbrev elision : ℕ → ℕ → Groups
  elision end m = cond (eqb m 0) (Groups_end 0 end) (Elision m (end + 2))

  groups-end-before-double-colon : (end : ℕ) (suffix : List ℕ) → drop end text ≡ 58 ∷ 58 ∷ suffix
      → IsRest false end (elision end)
  groups-end-before-double-colon end suffix s =
      grind (arith, nat_tests, colon-ends-a-group, groups_from-elides-at-double-colon)

  pub ipv6_end-finds-ipv6-before-bracket : (i end : ℕ) (address segments : List ℕ)
      → IsColonHex address segments → i + length address ≡ end → drop i text
      ≡ address ++ drop end text → starts 93 (drop end text) ≡ true → ipv6_end text i ≡ Some end
  unfolding ipv6_end
  ipv6_end-finds-ipv6-before-bracket i end address segments (inl h) p s c =
      ap (after_groups text) (groups_from-passes-all-groups true segments 8 true i end address
      (λ m. Groups_end m end) (groups-end-before-bracket true end c) p s h.0 (omega (arith, h.1)))
      ∙ cond-true _ _ _ (eq-eqb (8 - length segments) 0 (omega (arith, h.1)))
  ipv6_end-finds-ipv6-before-bracket i end address segments (inr h) p s c =
      let D : List ℕ = drop end text in
      let mid : ℕ = i + length h.head_text in
      let suffix : List ℕ = h.tail_text ++ D in
      let cut : drop i text ≡ h.head_text ++ (58 ∷ 58 ∷ suffix) = s
      ∙ ap (λ t. t ++ D) h.spelled ∙ append_assoc (h.head_text ++ codes "::") h.tail_text D
      ∙ append_assoc h.head_text (codes "::") suffix in
      let d = suffix-after-prefix-at-position text i h.head_text (58 ∷ 58 ∷ suffix) cut in
      let two : mid + 1 + 1 ≡ mid + 2 = omega arith in
      let d_two : drop (mid + 2) text ≡ suffix = ap (λ n. drop n text) (sym two)
      ∙ suffix-after-mark-at-position text 58 (mid + 1) suffix
      (suffix-after-mark-at-position text 58 mid (58 ∷ suffix) d) in
      let size = ap length h.spelled ∙ length-append (h.head_text ++ codes "::") h.tail_text
      ∙ ap (λ n. n + length h.tail_text) (length-append h.head_text (codes "::")) in
      let room : ℕ = 8 - length h.head in
      ap (after_groups text) (groups_from-passes-all-groups false h.head 8 true i mid h.head_text
      (elision mid) (groups-end-before-double-colon mid suffix d) refl (cut
      ∙ ap (λ t. h.head_text ++ t) (sym d)) h.head_groups (omega (arith, h.room))
      ∙ cond-false _ _ _ (ne_eqb room 0 (λ z. omega (arith, z, h.room))))
      ∙ ap (after_elision text) (groups_from-passes-all-groups true h.tail room true
      (mid + 2) end h.tail_text (λ m. Groups_end m end) (groups-end-before-bracket true end c)
      (omega (arith, size, p)) d_two h.tail_groups (omega (arith, h.room)))
      ∙ cond-false _ _ _ (ne_eqb (room - length h.tail) 0 (λ z. omega (arith, z, h.room)))

  -- where neither `:` nor a group is next nothing is read
  pub cannot_begin_ipv6-has-no-end : (i : ℕ) → cannot_begin_ipv6 text i ≡ true
      → ipv6_end text i ≡ None
  unfolding cannot_begin_ipv6 ipv6_end
  cannot_begin_ipv6-has-no-end i e =
      let end : ℕ = digits_end text 16 4 i in
      let p = and_parts (not (starts 58 (drop i text))) _ e in
      let colon : starts 58 (drop i text) ≡ false = not-true _ p.0 in
      let is : i ≡ cond (starts 58 (drop i text)) (i + 1) i = sym (cond-false _ _ _ colon) in
      ⊎_elim (λ q. ap (after_groups text) (groups_from-ends-without-group text
      8 7 true i i end refl is refl (eqb-true end i q) colon)) (λ q.
      let d = and_parts _ _ (second-holds-if-first-is-false _ _ q p.1) in
      ap (after_groups text) (dotted text 8 7 true i i end refl is refl (λ s. both_ways _ q
      (eq-eqb end i s)) (and_right _ _ (text-with-mark-is-not-ended 46 (drop end text) d.1))
      (ap (λ t. t && true || not t && false) colon)
      (second-holds-if-first-is-false _ _ q p.1) (λ z. omega (arith, z)))
      ∙ ipv4-with-six-groups-left-is-no-ipv6 (ipv4_end text i)) (cases_Bool (eqb end i))
