-- What is read as an IPv6 address with something after it, as `]`, is one.
use Rattle.uri_parts.proofs.Common.{◌≡◌, ◌≢◌, ℕ, zero, suc, ◌+◌, ◌-◌, ◌<◌, ◌≤◌, Bool, true, false, not, cond, eqb, List, [], ◌∷◌, ◌++◌, length, get_or, drop, decimal, Option, Some, None, refl, sym, ap, subst, ◌∙◌, arith, ◌&&◌, ◌||◌, ⊎_elim, inl, inr, append_assoc, length-drop, eqb-true, get_or-drop, add-zero, replicate, slice_range, nat_lt, codes, digits_value, segments_of, IsDotted, IsGroupsAfter, IsColonHex, dotted_text, cond-true, cases_Bool, and_parts, eq-eqb, both_ways, none-some, same_Some, get_or-take, drop-drop, drop_more, cond_none, and_then_some, is_digit, drop_split, decimal-digits_value, decimal_digit, nat_tests, starts, is_end, Groups, Groups_end, Elision, Malformed, digits_end, octet_end, octets_end, ipv4_end, after_ipv4, groups_from, ipv6_end, after_groups, after_elision}
use Rattle.std.proofs.lemmas.List.Sums.{prefix_len-le-length}
use Rattle.uri_parts.proofs.HostForms.AddressParsing.{dotted as dotted_with}
use Rattle.std.proofs.lemmas.Str.Parse.{numerals_by_value, tells_digits}
use Rattle.uri_parts.proofs.Refusals.Digits.{text-to-digits_end-is-digits, length-of-text-to-digits_end}
use Rattle.uri_parts.proofs.Refusals.GroupTurns.{groups_from-ends-without-room, dotted, text-with-mark-is-not-ended, groups_from-ends-without-group, groups_from-elides-at-two-colons, groups_from-rejects-lone-colon, groups_from-ends-with-text, groups_from-rejects-misplaced-colon, groups_from-rejects-ipv4-without-room, groups_from-goes-on-after-group}
use Rattle.uri_parts.proofs.Splitting.Recompose.{text-with-mark-is-mark-and-rest}

module _ (text : List ℕ) where
  pub text-at-mark-is-mark-and-rest : (mark i : ℕ) → starts mark (drop i text) ≡ true
      → drop i text ≡ mark ∷ drop (i + 1) text
  text-at-mark-is-mark-and-rest mark i e = text-with-mark-is-mark-and-rest mark (drop i text) e
      ∙ ap (λ t. mark ∷ t) (drop-drop 1 i text)

  digits_end-is-within-text : (radix most i : ℕ) → i < digits_end text radix most i
      → digits_end text radix most i ≤ length text
  digits_end-is-within-text radix most i l = omega
      (arith, prefix_len-le-length (λ c. is_digit c radix) (drop i text), length-drop i text)

  slice-begins-with-byte-at-position : (i end : ℕ) → i < end → end ≤ length text
      → get_or (slice_range text i end) 0 0 ≡ get_or (drop i text) 0 0
  slice-begins-with-byte-at-position i end l k = get_or-take (end - i) (drop i text) 0 0
      (omega arith)

  record IsOctet (i end : ℕ) : Type 0 where
    value : ℕ
    fits : value < 256
    split : drop i text ≡ decimal value ++ drop end text

  digits-up-to-255-are-octet : (i : ℕ) → starts 48 (drop i text) ≡ false
      → i < digits_end text 10 3 i → digits_value 10 (slice_range text i (digits_end text 10 3 i))
      ≤ 255 → IsOctet i (digits_end text 10 3 i)
  digits-up-to-255-are-octet i z l v =
      let end : ℕ = digits_end text 10 3 i in
      let ds : List ℕ = slice_range text i end in
      let within = digits_end-is-within-text 10 3 i l in
      let long = length-of-text-to-digits_end text 10 3 i within in
      let first : get_or ds 0 0 ≡ 48 → length ds ≡ 1 = λ e. absurd (both_ways _ z
      (ap (starts 48) (drop_more text i 0 (omega (arith, within, l))) ∙ eq-eqb _ 48
      (sym (get_or-drop i text 0 0 ∙ ap (λ n. get_or text n 0) (add-zero i))
      ∙ sym (slice-begins-with-byte-at-position i end l within) ∙ e))) in
      let spelled = decimal-digits_value (numerals_by_value _ tells_digits) ds
      (text-to-digits_end-is-digits text 10 3 i)
      (omega (arith, long, l)) first (omega (arith, v)) in
      record {
        value = digits_value 10 ds;
        fits = omega (arith, v);
        split = drop_split text i end (omega (arith, l))
            ∙ ap (λ t. t ++ drop end text) (sym spelled);
      }

  octet_end-ends-an-octet : (i end : ℕ) → octet_end text i ≡ Some end → IsOctet i end
  unfolding octet_end
  octet_end-ends-an-octet i end e = grind (
    arith,
    nat_tests,
    text-at-mark-is-mark-and-rest,
    decimal_digit,
    digits-up-to-255-are-octet,
  )

  octets_end-passed-dot-and-octet : (n i end : ℕ) → octets_end text (suc n) i ≡ Some end →
      (mid : ℕ) × (drop i text ≡ 46 ∷ drop (i + 1) text) × (octet_end text (i + 1) ≡ Some mid)
      × (octets_end text n mid ≡ Some end)
  unfolding octets_end
  octets_end-passed-dot-and-octet n i end e =
      grind (arith, nat_tests, and_then_some, text-at-mark-is-mark-and-rest)

  record IsAddress (i end : ℕ) : Type 0 where
    address : List ℕ
    octets : List ℕ
    is : IsDotted address octets
    split : drop i text ≡ address ++ drop end text

  ipv4_end-ends-an-ipv4 : (i end : ℕ) → ipv4_end text i ≡ Some end → IsAddress i end
  unfolding octets_end
  ipv4_end-ends-an-ipv4 i end e =
      and_then_some (octets_end text 3) (octet_end text i) end e λ a first left.
      let (b, dot_b, second, left_b) = octets_end-passed-dot-and-octet 2 a end left in
      let (c, dot_c, third, left_c) = octets_end-passed-dot-and-octet 1 b end left_b in
      let (d, dot_d, fourth, left_d) = octets_end-passed-dot-and-octet 0 c end left_c in
      let v = octet_end-ends-an-octet i a first in
      let w = octet_end-ends-an-octet (a + 1) b second in
      let x = octet_end-ends-an-octet (b + 1) c third in
      let y = octet_end-ends-an-octet (c + 1) d fourth in
      let last : d ≡ end = same_Some _ _ left_d in
      let all = v.split ∙ ap (λ t. decimal v.value ++ t) (dot_b
      ∙ ap (λ t. 46 ∷ t) (w.split ∙ ap (λ t. decimal w.value ++ t) (dot_c
      ∙ ap (λ t. 46 ∷ t) (x.split ∙ ap (λ t. decimal x.value ++ t) (dot_d
      ∙ ap (λ t. 46 ∷ t) (y.split ∙ ap (λ n. decimal y.value ++ drop n text) last)))))) in
      record {
        address = dotted_text v.value w.value x.value y.value;
        octets = v.value ∷ w.value ∷ x.value ∷ y.value ∷ [];
        is = record {
          a = v.value;
          b = w.value;
          c = x.value;
          d = y.value;
          fit = (v.fits, w.fits, x.fits, y.fits);
          value = refl;
          spelled = refl;
        };
        split = all ∙ sym (dotted_with v.value w.value x.value y.value (drop end text));
      }

  abbrev lead : Bool → List ℕ
  lead true = []
  lead false = 58 ∷ []

  record Parses (ipv4 : Bool) (room : ℕ) (is_first : Bool) (i m : ℕ) (suffix : List ℕ) : Type 0
    where
      pub groups : List ℕ
      pub segments : List ℕ
      pub split : drop i text ≡ groups ++ suffix
      pub are : IsGroupsAfter ipv4 (lead is_first) groups segments
      pub count : length segments + m ≡ room

  abbrev Sound : ℕ → Bool → ℕ → Groups → Type 0
  Sound room is_first i (Groups_end m end) =
      is_end (drop end text) ≡ false → Parses true room is_first i m (drop end text)
  Sound room is_first i (Elision m end) = Parses false room is_first i m (58 ∷ 58 ∷ drop end text)
  Sound room is_first i Malformed = Unit {0}

  no-groups-parse-to-same-text : (ipv4 : Bool) (room : ℕ) (is_first : Bool) (i : ℕ)
      → Parses ipv4 room is_first i room (drop i text)
  no-groups-parse-to-same-text ipv4 room is_first i =
      record { groups = []; segments = []; split = refl; are = refl; count = omega arith }

  -- one more group
  one-more-group-is-parsed : (ipv4 : Bool) (r : ℕ) (is_first : Bool) (i group end m : ℕ)
      (suffix : List ℕ)
      → drop i text ≡ lead is_first ++ drop group text → end ≡ digits_end text 16 4 group
      → end ≢ group → Parses ipv4 r false end m suffix → Parses ipv4 (suc r) is_first i m suffix
  one-more-group-is-parsed ipv4 r is_first i group end m suffix led l some w =
      let last : ℕ = digits_end text 16 4 group in
      let longer : group < last = omega (arith, l, some) in
      let within = digits_end-is-within-text 16 4 group longer in
      let ds : List ℕ = slice_range text group last in
      let long = length-of-text-to-digits_end text 16 4 group within in
      let cut : drop group text ≡ ds ++ (w.groups ++ suffix) = drop_split text group last
      (omega (arith, longer)) ∙ ap (λ t. ds ++ t) (ap (λ n. drop n text) (sym l) ∙ w.split) in
      record {
        groups = lead is_first ++ (ds ++ w.groups);
        segments = digits_value 16 ds ∷ w.segments;
        split = led ∙ ap (λ t. lead is_first ++ t) cut ∙ sym (append_assoc (lead is_first) (ds
            ++ w.groups) suffix ∙ ap (λ t. lead is_first ++ t) (append_assoc ds w.groups suffix));
        are = inl (
          ds,
          w.groups,
          sym (append_assoc (lead is_first) ds w.groups),
          (
            ((omega (arith, long, longer), text-to-digits_end-is-digits text 16 4 group), refl),
            omega (arith, long),
          ),
          w.are,
        );
        count = omega (arith, w.count);
      }

  soundness-after-one-more-group : (r : ℕ) (is_first : Bool) (i group end : ℕ) (g : Groups)
      → drop i text ≡ lead is_first ++ drop group text → end ≡ digits_end text 16 4 group
      → end ≢ group → Sound r false end g → Sound (suc r) is_first i g
  soundness-after-one-more-group r is_first i group end (Groups_end m last) led l some w =
      λ c. one-more-group-is-parsed true r is_first i group end m _ led l some (w c)
  soundness-after-one-more-group r is_first i group end (Elision m last) led l some w =
      one-more-group-is-parsed false r is_first i group end m _ led l some w
  soundness-after-one-more-group r is_first i group end Malformed led l some w = tt

  -- a `::`
  double-colon-is-parsed : (r : ℕ) (is_first : Bool) (i group : ℕ) → starts 58 (drop i text) ≡ true
      → group ≡ i + 1 → starts 58 (drop group text) ≡ true
      → Parses false (suc r) is_first i (suc r) (58 ∷ 58 ∷ drop (group + 1) text)
  double-colon-is-parsed r is_first i group c g d =
      grind (arith, nat_tests, text-at-mark-is-mark-and-rest, no-groups-parse-to-same-text)

  -- a group has its `:`, but the first
  group-follows-its-colon : (is_first : Bool) (i : ℕ)
      → (starts 58 (drop i text) && is_first || not (starts 58 (drop i text)) && not is_first)
      ≡ false → drop i text ≡ lead is_first ++ drop (cond (starts 58 (drop i text)) (i + 1) i) text
  group-follows-its-colon true i m = grind (arith, nat_tests)
  group-follows-its-colon false i m = grind (arith, nat_tests, text-at-mark-is-mark-and-rest)

  -- an IPv4 address ends the groups
  ipv4-ends-sound-groups : (r : ℕ) (is_first : Bool) (i group : ℕ)
      → r ≢ 0 → drop i text ≡ lead is_first ++ drop group text → (o : Option ℕ)
      → ipv4_end text group ≡ o → Sound (suc r) is_first i (after_ipv4 text (r - 1) o)
  ipv4-ends-sound-groups r is_first i group left led None e = tt
  ipv4-ends-sound-groups r is_first i group left led (Some last) e = λ z.
      let w = ipv4_end-ends-an-ipv4 group last e in
      record {
        groups = lead is_first ++ w.address;
        segments = segments_of (w.is.a ∷ w.is.b ∷ w.is.c ∷ w.is.d ∷ []);
        split = led ∙ ap (λ t. lead is_first ++ t) w.split
            ∙ sym (append_assoc (lead is_first) w.address (drop last text));
        are = inr (w.address, w.octets, refl, refl, w.is, ap segments_of (sym w.is.value));
        count = omega arith;
      }

  groups_from-is-sound : (room : ℕ) (is_first : Bool) (i : ℕ)
      → Sound room is_first i (groups_from text room is_first i)
  groups_from-is-sound zero is_first i =
      grind (arith, nat_tests, groups_from-ends-without-room, no-groups-parse-to-same-text)
  groups_from-is-sound (suc r) is_first i =
      let colon : Bool = starts 58 (drop i text) in
      let group : ℕ = cond colon (i + 1) i in
      let end : ℕ = digits_end text 16 4 group in
      let n : suc r ≡ r + 1 = omega arith in
      let S : Groups → Type 0 = Sound (suc r) is_first i in
      ⊎_elim (λ q.
      let none : end ≡ group = eqb-true end group q in
      ⊎_elim (λ c. ⊎_elim (λ d. subst S (sym (groups_from-elides-at-two-colons text
      (suc r) r is_first i group end n refl refl none c d))
      (double-colon-is-parsed r is_first i group c (cond-true _ _ _ c) d)) (λ d. subst S (sym
      (groups_from-rejects-lone-colon text (suc r) r is_first i group end n refl refl none c d)) tt)
      (cases_Bool (starts 58 (drop group text)))) (λ c. subst S
      (sym (groups_from-ends-without-group text (suc r) r is_first i group end n refl refl none c))
      (λ z. no-groups-parse-to-same-text true (suc r) is_first i)) (cases_Bool colon)) (λ q.
      let some : end ≢ group = λ s. both_ways _ q (eq-eqb end group s) in
      ⊎_elim (λ o. subst S
      (sym (groups_from-ends-with-text text (suc r) r is_first i group end n refl refl some o))
      (λ z. absurd (both_ways _ z (and_parts _ _ o).1)))
      (λ o. ⊎_elim (λ m. subst S (sym (groups_from-rejects-misplaced-colon text
      (suc r) r is_first i group end n refl refl some o m)) tt) (λ m.
      let led = group-follows-its-colon is_first i m in
      ⊎_elim (λ d. ⊎_elim (λ z. subst S (sym (groups_from-rejects-ipv4-without-room text
      (suc r) r is_first i group end n refl refl some o m d (eqb-true r 0 z))) tt) (λ z.
      let left : r ≢ 0 = λ s. both_ways _ z (eq-eqb r 0 s) in
      subst S (sym (dotted text (suc r) r is_first i group end n refl refl some o m d left))
      (ipv4-ends-sound-groups r is_first i group left led (ipv4_end text group) refl))
      (cases_Bool (eqb r 0))) (λ d. subst S (sym (groups_from-goes-on-after-group text (suc r)
      r is_first i group end n refl refl some o m d)) (soundness-after-one-more-group r is_first
      i group end (groups_from text r false end) led refl some (groups_from-is-sound r false end)))
      (cases_Bool (nat_lt end (group + 4) && starts 46 (drop end text))))
      (cases_Bool (colon && is_first || not colon && not is_first)))
      (cases_Bool (nat_lt end (group + 4) && is_end (drop end text)))) (cases_Bool (eqb end group))

  -- an address, and what is after it
  pub record Holds (i end : ℕ) : Type 0 where
    pub address : List ℕ
    pub segments : List ℕ
    pub split : drop i text ≡ address ++ drop end text
    pub is : IsColonHex address segments

  elision-gives-ipv6 : (i m e end : ℕ) → Parses false 8 true i m (58 ∷ 58 ∷ drop e text)
      → (g : Groups) → Sound m true e g → after_elision text g ≡ Some end
      → is_end (drop end text) ≡ false → Holds i end
  elision-gives-ipv6 i m e end head (Groups_end room last) s b c =
      let q = cond_none (eqb room 0) (Some last) end b in
      let left : room ≢ 0 = λ z. both_ways _ q.0 (eq-eqb room 0 z) in
      let same : last ≡ end = same_Some _ _ q.1 in
      let tail = s (ap (λ n. is_end (drop n text)) same ∙ c) in
      record {
        address = head.groups ++ codes "::" ++ tail.groups;
        segments = head.segments
            ++ replicate (8 - length head.segments - length tail.segments) 0 ++ tail.segments;
        split = head.split ∙ ap (λ t. head.groups ++ (58 ∷ 58 ∷ t))
            (tail.split ∙ ap (λ n. tail.groups ++ drop n text) same)
            ∙ sym (append_assoc (head.groups ++ codes "::") tail.groups (drop end text)
            ∙ append_assoc head.groups (codes "::") (tail.groups ++ drop end text));
        is = inr (record {
          head_text = head.groups;
          tail_text = tail.groups;
          head = head.segments;
          tail = tail.segments;
          spelled = refl;
          head_groups = head.are;
          tail_groups = tail.are;
          room = omega (arith, head.count, tail.count, left);
          value = refl;
        });
      }
  elision-gives-ipv6 i m e end head (Elision room last) s b c = absurd (none-some end b)
  elision-gives-ipv6 i m e end head Malformed s b c = absurd (none-some end b)

  groups-give-ipv6 : (i end : ℕ) (g : Groups) → Sound 8 true i g → after_groups text g ≡ Some end
      → is_end (drop end text) ≡ false → Holds i end
  groups-give-ipv6 i end (Groups_end room last) s b c = grind (arith, nat_tests)
  groups-give-ipv6 i end (Elision room last) s b c = elision-gives-ipv6 i room last end s
      (groups_from text room true last) (groups_from-is-sound room true last) b c
  groups-give-ipv6 i end Malformed s b c = absurd (none-some end b)

  pub ipv6_end-before-text-ends-ipv6 : (i end : ℕ)
      → ipv6_end text i ≡ Some end → is_end (drop end text) ≡ false → Holds i end
  unfolding ipv6_end
  ipv6_end-before-text-ends-ipv6 i end e c = groups-give-ipv6 i end (groups_from text 8 true i)
      (groups_from-is-sound 8 true i) e c

  pub ipv6_end-before-bracket-ends-ipv6 : (i end : ℕ)
      → ipv6_end text i ≡ Some end → starts 93 (drop end text) ≡ true → Holds i end
  ipv6_end-before-bracket-ends-ipv6 i end e c = ipv6_end-before-text-ends-ipv6 i end e
      (text-with-mark-is-not-ended 93 (drop end text) c)
