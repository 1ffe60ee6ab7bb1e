-- Where the groups of an IPv6 address end in a text that goes on, and with a `]` after it.
use Rattle.error_laws.proofs.Common.{◌≡◌, ◌≢◌, ℕ, zero, suc, ◌+◌, ◌-◌, ◌<◌, ◌≤◌, Bool, true, false, not, cond, eqb, List, [], ◌++◌, length, drop, ◌⊎◌, inl, inr, Option, Some, None, refl, sym, ap, subst, ◌∙◌, arith, ◌&&◌, ◌||◌, ⊎_elim, drop_at, codes, nat_lt, rules, cases_Bool, cases_lt, cond-false, both_ways, eqb-true, eq-eqb, and_parts, and_right, and_left, le-ltb, false≢true, cases_eq, drop-append-le, drop_more, drop_all, none-some, cond_some, nat_tests, starts, is_end, Groups, Groups_end, Elision, Malformed, digits_end, ipv4_end, after_ipv4, groups_from, after_elision, after_groups, ipv6_end, is_next, is_at_end}
use Rattle.std.specs.Net.Reader.{digit_count}
use Rattle.uri_parts.proofs.Offered.{groups_from-ends-without-room, dotted, text-with-mark-is-not-ended, groups_from-ends-without-group, groups_from-elides-at-two-colons, groups_from-rejects-lone-colon, groups_from-ends-with-text, groups_from-rejects-misplaced-colon, groups_from-rejects-ipv4-without-room, groups_from-goes-on-after-group}
use Rattle.error_laws.proofs.LongerTexts.{groups_end, end_with_room, elided-address-has-room, groups-with-room-end-address, next-is-kept-in-longer-text, end-is-past-text, closing, bytes-are-no-end, empty-text-is-end, digits_end-is-kept-in-longer-text, ipv4-ends-within-text, next-before-bracket-is-kept, digits_end-is-no-earlier-in-longer-text, digits_end-is-kept-where-none-follow, digits_end-is-within-text, ipv4-is-kept-before-bracket}
use Rattle.error_laws.proofs.SharedPrefixes.{mark-is-within-text}

module _ (text more : List ℕ) where
  abbrev long : List ℕ
  long = text ++ more

  -- groups that end with the text have room for a `]` after them if they have for what is after
  -- them in the longer text
  abbrev ClosesWithText : ℕ → ℕ → Groups → Groups → Type 0
  ClosesWithText room end longer closed = (room ≢ 0) × ((r e : ℕ) → longer ≡ Groups_end (suc r) e
      → is_next long 93 e ≡ true → (k : ℕ) × (closed ≡ Groups_end (suc k) end))

  -- how the groups of a text end, those of the longer text, and those of the text with a `]`
  abbrev Kept : Groups → Groups → Groups → Type 0
  Kept (Groups_end room end) longer closed = (end ≤ length text)
      × (length text ≤ end → (closed ≡ Groups_end room end) ⊎ ClosesWithText room end longer closed)
  Kept (Elision room end) longer closed = (longer ≡ Elision room end)
      × (closed ≡ Elision room end) × (end ≤ length text)
  Kept Malformed longer closed = Unit {0}

  kept-by : (g g' h h' u u' : Groups) → g ≡ g' → h ≡ h' → u ≡ u' → Kept g' h' u' → Kept g h u
  kept-by g g' h h' u u' e f c k = grind (arith, nat_tests)

  kept-where-malformed : (g h u : Groups) → g ≡ Malformed → Kept g h u
  kept-where-malformed g h u e = subst (λ x. Kept x h u) (sym e) tt

  module _ (room : ℕ) (is_first : Bool) (i : ℕ) where
    abbrev n : ℕ
    n = suc room

    one_more : n ≡ room + 1
    one_more = omega arith

    groups-end-with-text : length text ≤ i → i ≤ length text
        → Kept (groups_from text n is_first i) (groups_from long n is_first i)
        (groups_from (closing text) n is_first i)
    groups-end-with-text over le =
        let none : is_next text 58 i ≡ false = ap (starts 58) (drop_all i text over) in
        let z = ap (digit_count 16) (drop_all i text over) in
        let d : digits_end text 16 4 i ≡ i = omega (arith, z) in
        let c : is_next (closing text) 58 i ≡ false = next-before-bracket-is-kept text 58 i refl le
        ∙ none in
        let k : digits_end (closing text) 16 4 i ≡ i =
        digits_end-is-kept-where-none-follow text 16 4 i le (codes "]") refl ∙ d in
        kept-by _ (Groups_end n i) _ (groups_from long n is_first i) _ (Groups_end n i)
        (groups_from-ends-without-group text n room is_first i i i one_more
        (sym (cond-false _ _ _ none)) (sym d) refl none) refl (groups_from-ends-without-group
        (closing text) n room is_first i i i one_more (sym (cond-false _ _ _ c)) (sym k) refl c)
        (le, λ _. inl refl)

    module _ (l : i < length text) where
      abbrev colon : Bool
      colon = is_next text 58 i

      abbrev group : ℕ
      group = cond colon (i + 1) i

      abbrev end : ℕ
      end = digits_end text 16 4 group

      abbrev short : Bool
      short = nat_lt end (group + 4)

      abbrev Outcome : Type 0
      Outcome = Kept (groups_from text n is_first i) (groups_from long n is_first i)
          (groups_from (closing text) n is_first i)

      group-is-within-text : group ≤ length text
      group-is-within-text = grind (arith, nat_tests)

      end-is-within-text : end ≤ length text
      end-is-within-text = digits_end-is-within-text text 16 4 group group-is-within-text

      colon-is-kept : (m : List ℕ) → is_next (text ++ m) 58 i ≡ colon
      colon-is-kept m = next-is-kept-in-longer-text text m 58 i l

      group-is-kept : (m : List ℕ) → group ≡ cond (is_next (text ++ m) 58 i) (i + 1) i
      group-is-kept m = ap (λ b. cond b (i + 1) i) (sym (colon-is-kept m))

      -- no group is next
      module _ (none : end ≡ group) where
        outcome-without-group : Outcome
        outcome-without-group = ⊎_elim
            (λ c. ⊎_elim
            (λ d.
            let within = mark-is-within-text text 58 group d in
            let elides : (m : List ℕ) → groups_from (text ++ m) n is_first i
            ≡ Elision n (group + 1) =
            λ m. groups_from-elides-at-two-colons (text ++ m) n room is_first i group group one_more
            (group-is-kept m) (sym (digits_end-is-kept-in-longer-text text 16 4 group
            group-is-within-text m (inl (omega (arith, none, within))) ∙ none)) refl
            (colon-is-kept m ∙ c) (next-is-kept-in-longer-text text m 58 group within ∙ d) in
            kept-by _ (Elision n (group + 1)) _ (Elision n (group + 1)) _ (Elision n (group + 1))
            (groups_from-elides-at-two-colons text n room is_first i group end one_more refl refl
            none c d)
            (elides more) (elides (codes "]")) (refl, refl, omega (arith, within)))
            (λ d. kept-where-malformed _ _ _
            (groups_from-rejects-lone-colon text n room is_first i group end one_more refl refl
            none c d))
            (cases_Bool (is_next text 58 group)))
            (λ c. kept-by _ (Groups_end n i) _ (groups_from long n is_first i) _
            (groups_from (closing text) n is_first i) (groups_from-ends-without-group text n room
            is_first i group end one_more refl refl none c) refl refl
            (omega (arith, l), λ over. absurd (omega (arith, over, l)))) (cases_Bool colon)

      abbrev misplaced : Bool → Bool
      misplaced b = b && is_first || not b && not is_first

      -- a group is next
      module _ (some : end ≢ group) where
        -- at the end of the text, and it is short
        module _ (ended : (short && is_at_end text end) ≡ true) where
          over : length text ≤ end
          over = end-is-past-text text end (and_parts _ _ ended).1

          abbrev later : ℕ
          later = digits_end long 16 4 group

          later-is-past-group : later ≢ group
          later-is-past-group z =
              search (rules, digits_end-is-no-earlier-in-longer-text, group-is-within-text)

          -- what of the longer text ends before a `]` has its colons in place, and room left
          longer-text-has-room : (r e : ℕ) → groups_from long n is_first i ≡ Groups_end (suc r) e
              → is_next long 93 e ≡ true → (misplaced colon ≡ false) × (room ≢ 0)
          longer-text-has-room r e h b = ⊎_elim
              (λ k.
              let s = ap groups_end (sym (groups_from-ends-with-text long n room is_first i group
              later one_more (group-is-kept more) refl later-is-past-group k) ∙ h) in
              absurd (both_ways _ (text-with-mark-is-not-ended 93 (drop e long) b)
              (ap (λ x. is_at_end long x) (sym s) ∙ (and_parts _ _ k).1)))
              (λ k. ⊎_elim
              (λ a. absurd (false≢true (ap end_with_room
              (sym (groups_from-rejects-misplaced-colon long n room is_first i group later one_more
              (group-is-kept more) refl later-is-past-group k a) ∙ h))))
              (λ a. (
                ap misplaced (sym (colon-is-kept more)) ∙ a,
                λ z. ⊎_elim
                    (λ d. false≢true (ap end_with_room
                    (sym (groups_from-rejects-ipv4-without-room long n room is_first i group later
                    one_more (group-is-kept more) refl later-is-past-group k a d z) ∙ h)))
                    (λ d. false≢true (ap end_with_room
                    (sym (groups_from-goes-on-after-group long n room is_first i group later
                    one_more (group-is-kept more) refl later-is-past-group k a d
                    ∙ groups_from-ends-without-room long room false later z) ∙ h)))
                    (cases_Bool (nat_lt later (group + 4) && is_next long 46 later)),
              ))
              (cases_Bool (misplaced (is_next long 58 i))))
              (cases_Bool (nat_lt later (group + 4) && is_at_end long later))

          -- a `]` after the text ends its groups there
          closed-text-ends-there : misplaced colon ≡ false → room ≢ 0
              → (k : ℕ) × (groups_from (closing text) n is_first i ≡ Groups_end (suc k) end)
          closed-text-ends-there a left =
              let closed : List ℕ = closing text in
              let same : end ≡ length text = omega (arith, over, end-is-within-text) in
              let d = digits_end-is-kept-where-none-follow text 16 4 group group-is-within-text
              (codes "]") refl in
              let last : drop end closed ≡ codes "]" =
              ap (λ k. drop k closed) same ∙ drop_at text (codes "]") (length text) refl in
              let next : groups_from closed n is_first i ≡ groups_from closed room false end =
              groups_from-goes-on-after-group closed n room is_first i group end one_more
              (group-is-kept (codes "]")) (sym d) some
              (and_right _ _ (ap is_end last ∙ bytes-are-no-end 93 []))
              (ap misplaced (colon-is-kept (codes "]")) ∙ a)
              (and_right _ _ (ap (starts 46) last)) in
              ends-at-bracket closed room end left last next
            where
              ends-at-bracket : (closed : List ℕ) (m at : ℕ) → m ≢ 0 → drop at closed ≡ codes "]"
                  → groups_from closed n is_first i ≡ groups_from closed m false at
                  → (k : ℕ) × (groups_from closed n is_first i ≡ Groups_end (suc k) at)
              ends-at-bracket closed zero at left last next = absurd (left refl)
              ends-at-bracket closed (suc k) at left last next =
                  let c : is_next closed 58 at ≡ false = ap (starts 58) last in
                  let z = ap (digit_count 16) last in
                  let d : at ≡ digits_end closed 16 4 at = omega (arith, z) in (
                    k,
                    next ∙ groups_from-ends-without-group closed (suc k) k false at at at
                        (omega arith) (sym (cond-false _ _ _ c)) d refl c,
                  )

          outcome-at-end-of-text : Outcome
          outcome-at-end-of-text = kept-by _ (Groups_end n end) _ (groups_from long n is_first i) _
              (groups_from (closing text) n is_first i)
              (groups_from-ends-with-text text n room is_first i group end one_more refl refl some
              ended) refl refl (
                end-is-within-text,
                λ _. inr (
                  λ z. omega (arith, z),
                  λ r e h b. let p = longer-text-has-room r e h b in closed-text-ends-there p.0 p.1,
                ),
              )

        -- a group of four digits, or one before the end of the text
        module _ (within : (short && is_at_end text end) ≡ false)
            (kept : Kept (groups_from text room false end) (groups_from long room false end)
            (groups_from (closing text) room false end)) where
          end-is-within-or-four-on : (end < length text) ⊎ (group + 4 ≤ end)
          end-is-within-or-four-on = grind (arith, nat_tests, drop_all, empty-text-is-end)

          end-is-kept : (m : List ℕ) → end ≡ digits_end (text ++ m) 16 4 group
          end-is-kept m = sym (digits_end-is-kept-in-longer-text text 16 4 group
              group-is-within-text m end-is-within-or-four-on)

          within-is-kept : (m : List ℕ) → (short && is_at_end (text ++ m) end) ≡ false
          within-is-kept m = ⊎_elim
              (λ (k : end < length text). and_right _ _
              (ap is_end (drop-append-le end text m (omega (arith, k))
              ∙ ap (λ t. t ++ m) (drop_more text end 0 k)) ∙ bytes-are-no-end _ _))
              (λ (k : group + 4 ≤ end). and_left _ _ (le-ltb _ _ k)) end-is-within-or-four-on

          dot-is-kept : (m : List ℕ) → (short && is_next (text ++ m) 46 end)
              ≡ (short && is_next text 46 end)
          dot-is-kept m =
              grind (arith, nat_tests, next-is-kept-in-longer-text, end-is-within-or-four-on)

          outcome-of-ipv4 : (o : Option ℕ) → ipv4_end text group ≡ o
              → groups_from text n is_first i ≡ after_ipv4 text (room - 1) o
              → groups_from (closing text) n is_first i
              ≡ after_ipv4 (closing text) (room - 1) o → Outcome
          outcome-of-ipv4 None e g u = kept-where-malformed _ _ _ g
          outcome-of-ipv4 (Some last) e g u =
              search (rules, kept-by, ipv4-ends-within-text, group-is-within-text)

          outcome-after-group : Outcome
          outcome-after-group = ⊎_elim
              (λ a. kept-where-malformed _ _ _ (groups_from-rejects-misplaced-colon text n room
              is_first i group end one_more refl refl some within a))
              (λ a. ⊎_elim
              (λ d. ⊎_elim
              (λ z. kept-where-malformed _ _ _ (groups_from-rejects-ipv4-without-room text n room
              is_first i group end one_more refl refl some within a d z))
              (λ z. outcome-of-ipv4 (ipv4_end text group) refl
              (dotted text n room is_first i group end one_more refl refl some within a d z)
              (dotted (closing text) n room is_first i group end one_more
              (group-is-kept (codes "]")) (end-is-kept (codes "]")) some
              (within-is-kept (codes "]")) (ap misplaced (colon-is-kept (codes "]")) ∙ a)
              (dot-is-kept (codes "]") ∙ d) z
              ∙ ap (after_ipv4 (closing text) (room - 1))
              (ipv4-is-kept-before-bracket text group group-is-within-text)))
              (cases_eq room 0))
              (λ d.
              let goes_on : (m : List ℕ) → groups_from (text ++ m) n is_first i
              ≡ groups_from (text ++ m) room false end =
              λ m. groups_from-goes-on-after-group (text ++ m) n room is_first i group end one_more
              (group-is-kept m) (end-is-kept m) some (within-is-kept m)
              (ap misplaced (colon-is-kept m) ∙ a) (dot-is-kept m ∙ d) in
              kept-by _ (groups_from text room false end) _ (groups_from long room false end) _
              (groups_from (closing text) room false end)
              (groups_from-goes-on-after-group text n room is_first i group end one_more refl refl
              some within a d) (goes_on more) (goes_on (codes "]")) kept)
              (cases_Bool (short && is_next text 46 end)))
              (cases_Bool (misplaced colon))

  groups-are-kept : (room : ℕ) (is_first : Bool) (i : ℕ) → i ≤ length text
      → Kept (groups_from text room is_first i) (groups_from long room is_first i)
      (groups_from (closing text) room is_first i)
  groups-are-kept zero is_first i le =
      grind (arith, nat_tests, kept-by, groups_from-ends-without-room)
  groups-are-kept (suc room) is_first i le = ⊎_elim
      (λ (l : i < length text). ⊎_elim
      (λ z. outcome-without-group room is_first i l (eqb-true _ _ z))
      (λ z.
      let some : end room is_first i l ≢ group room is_first i l =
      λ e. both_ways _ z (eq-eqb _ _ e) in
      ⊎_elim
      (λ o. outcome-at-end-of-text room is_first i l some o)
      (λ o. outcome-after-group room is_first i l some o
      (groups-are-kept room false (end room is_first i l) (end-is-within-text room is_first i l)))
      (cases_Bool (short room is_first i l && is_at_end text (end room is_first i l))))
      (cases_Bool (eqb (end room is_first i l) (group room is_first i l))))
      (λ (over : length text ≤ i). groups-end-with-text room is_first i over le)
      (cases_lt i (length text))

  -- what ends after a `::`
  elided-groups-close : (g h u : Groups) → Kept g h u → (last_one last : ℕ)
      → after_elision text g ≡ Some last_one → length text ≤ last_one
      → after_elision long h ≡ Some last → is_next long 93 last ≡ true
      → after_elision (closing text) u ≡ Some (length text)
  elided-groups-close g h u k e last a past b c =
      let p = elided-address-has-room text g e a in
      let q = elided-address-has-room long h last b in
      let kept : Kept (Groups_end (suc p.0) e) h u = subst (λ x. Kept x h u) p.1 k in
      let whole : e ≡ length text = omega (arith, kept.0, past) in ⊎_elim
      (λ s. ap (after_elision (closing text)) s
      ∙ groups-with-room-end-address (closing text) p.0 e ∙ ap Some whole)
      (λ s.
      let r = s.1 q.0 last q.1 c in
      ap (after_elision (closing text)) r.1
      ∙ groups-with-room-end-address (closing text) r.0 e ∙ ap Some whole)
      (kept.1 past)

  groups-close : (g h u : Groups) → Kept g h u → (e last : ℕ)
      → after_groups text g ≡ Some e → length text ≤ e
      → after_groups long h ≡ Some last → is_next long 93 last ≡ true
      → after_groups (closing text) u ≡ Some (length text)
  groups-close (Groups_end room at) h u k e last a past b c = grind (arith, nat_tests, cond_some)
  groups-close (Elision room at) h u k e last a past b c = ap (after_groups (closing text)) k.1
      ∙ elided-groups-close (groups_from text room true at) (groups_from long room true at)
      (groups_from (closing text) room true at) (groups-are-kept room true at k.2) e last a past
      (sym (ap (after_groups long) k.0) ∙ b) c
  groups-close Malformed h u k e last a past b c = absurd (none-some e a)

  address-ends-within-text : (g h u : Groups) → Kept g h u → (end : ℕ)
      → after_groups text g ≡ Some end → end ≤ length text
  address-ends-within-text (Groups_end room at) h u k end e =
      let q = cond_some (eqb room 0) at end e in omega (arith, k.0, q.1)
  address-ends-within-text (Elision room at) h u k end e =
      let p = elided-address-has-room text (groups_from text room true at) end e in
      (subst (λ x. Kept x (groups_from long room true at) (groups_from (closing text) room true at))
      p.1 (groups-are-kept room true at k.2)).0
  address-ends-within-text Malformed h u k end e = absurd (none-some end e)

  -- an IPv6 address that is parsed up to the end of the text, and of which the text goes on so that
  -- a `]` closes it, would be closed by a `]` at the end of the text too
  pub ipv6-closes-with-text : (i e last : ℕ) → i ≤ length text → ipv6_end text i ≡ Some e
      → length text ≤ e → ipv6_end long i ≡ Some last → is_next long 93 last ≡ true
      → ipv6_end (closing text) i ≡ Some (length text)
  unfolding ipv6_end
  ipv6-closes-with-text i e last le a past b c = search (rules, groups-close, groups-are-kept)

pub ipv6-ends-within-text : (text : List ℕ) (i end : ℕ) → i ≤ length text
    → ipv6_end text i ≡ Some end → end ≤ length text
unfolding ipv6_end
ipv6-ends-within-text text i end le e =
    address-ends-within-text _ [] _ _ _ (groups-are-kept _ [] 8 _ i le) end e
