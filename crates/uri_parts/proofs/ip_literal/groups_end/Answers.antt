use Rattle.uri_parts.proofs.Common.{◌≡◌, ◌+◌, ◌-◌, ◌<◌, ℕ, Bool, false, not, sym, ap, ◌∙◌, arith, ◌&&◌, ◌||◌, ◌==◌, ne_eqb, Groups_end, after_ipv4}
use Rattle.uri_parts.proofs.Refusals.GroupTurns.{groups_from-ends-without-room, groups_from-ends-without-group, groups_from-elides-at-two-colons, groups_from-rejects-lone-colon, groups_from-ends-with-text, groups_from-rejects-misplaced-colon, groups_from-rejects-ipv4-without-room, dotted, groups_from-goes-on-after-group}
use Rattle.uri_parts.proofs.ip_literal.groups_end.Goals as goal

room_left : (room counted : ℕ) → counted < room → room - counted ≡ (room - (counted + 1)) + 1
room_left room counted l = omega arith

turn_is : (seen has_colon is_first is b : Bool) → has_colon ≡ seen → is ≡ (has_colon && is_first
    || not has_colon && not is_first) → is ≡ b → (seen && is_first || not seen && not is_first) ≡ b
turn_is seen has_colon is_first is b e f g =
    ap (λ h. h && is_first || not h && not is_first) (sym e) ∙ sym f ∙ g

pub returns-then-not-has_colon-clause-exact : goal.returns-then-not-has_colon-clause-exact
returns-then-not-has_colon-clause-exact c = sym (c.loop-counted.invariant.left
    ∙ groups_from-ends-without-group _ _ _ _ _ _ _ (room_left _ _ c.loop-counted-test.true)
    c.after_colon-first.ensures.exact c.digits_end-last.ensures.exact c.if-last-first.true
    (sym c.next_is-has_colon.ensures.value ∙ c.if-not-has_colon.true))

pub returns-then-next_is-clause-exact : goal.returns-then-next_is-clause-exact
returns-then-next_is-clause-exact c = sym (c.loop-counted.invariant.left
    ∙ groups_from-elides-at-two-colons _ _ _ _ _ _ _ (room_left _ _ c.loop-counted-test.true)
    c.after_colon-first.ensures.exact c.digits_end-last.ensures.exact c.if-last-first.true
    (sym c.next_is-has_colon.ensures.value ∙ c.if-not-has_colon.false) (sym c.next_is.ensures.value
    ∙ c.if-next_is.true))

pub returns-then-last-first-clause-exact : goal.returns-then-last-first-clause-exact
returns-then-last-first-clause-exact c = sym (c.loop-counted.invariant.left
    ∙ groups_from-rejects-lone-colon _ _ _ _ _ _ _ (room_left _ _ c.loop-counted-test.true)
    c.after_colon-first.ensures.exact c.digits_end-last.ensures.exact c.if-last-first.true
    (sym c.next_is-has_colon.ensures.value ∙ c.if-not-has_colon.false) (sym c.next_is.ensures.value
    ∙ c.if-next_is.false))

pub returns-then-is_short_group_at_end-clause-exact
    : goal.returns-then-is_short_group_at_end-clause-exact
returns-then-is_short_group_at_end-clause-exact c = sym (c.loop-counted.invariant.left
    ∙ groups_from-ends-with-text _ _ _ _ _ _ _ (room_left _ _ c.loop-counted-test.true)
    c.after_colon-first.ensures.exact c.digits_end-last.ensures.exact c.if-last-first.false
    (sym c.is_short_group_at_end.ensures ∙ c.if-is_short_group_at_end.true))

pub returns-then-has_misplaced_colon-clause-exact
    : goal.returns-then-has_misplaced_colon-clause-exact
returns-then-has_misplaced_colon-clause-exact c = sym (c.loop-counted.invariant.left
    ∙ groups_from-rejects-misplaced-colon _ _ _ _ _ _ _ (room_left _ _ c.loop-counted-test.true)
    c.after_colon-first.ensures.exact c.digits_end-last.ensures.exact c.if-last-first.false
    (sym c.is_short_group_at_end.ensures ∙ c.if-is_short_group_at_end.false) (turn_is _ _ _ _ _
    c.next_is-has_colon.ensures.value c.has_misplaced_colon.ensures c.if-has_misplaced_colon.true))

pub returns-then-room-counted-eq1-clause-exact : goal.returns-then-room-counted-eq1-clause-exact
returns-then-room-counted-eq1-clause-exact c =
    grind (arith, groups_from-rejects-ipv4-without-room, room_left, turn_is)

pub returns-in-Some-clause-exact : goal.returns-in-Some-clause-exact
returns-in-Some-clause-exact c =
    let less : c.args.room - (c.loop-counted.counted + 1) - 1
    ≡ c.args.room - c.loop-counted.counted - 2 = omega arith in
    sym
    (c.loop-counted.invariant.left ∙ dotted _ _ _ _ _ _ _ (room_left _ _ c.loop-counted-test.true)
    c.after_colon-first.ensures.exact c.digits_end-last.ensures.exact c.if-last-first.false
    (sym c.is_short_group_at_end.ensures ∙ c.if-is_short_group_at_end.false) (turn_is _ _ _ _ _
    c.next_is-has_colon.ensures.value c.has_misplaced_colon.ensures c.if-has_misplaced_colon.false)
    (sym c.is_short_group_before_dot.ensures ∙ c.if-is_short_group_before_dot.true)
    (λ z. c.if-room-counted-eq1.false (omega arith)) ∙ ap (after_ipv4 c.args.text.now _)
    (sym c.ipv4_end.ensures.exact ∙ c.in-Some.is) ∙ ap (λ k. Groups_end k c.in-Some.end) less)

pub returns-in-None-clause-exact : goal.returns-in-None-clause-exact
returns-in-None-clause-exact c = sym
    (c.loop-counted.invariant.left ∙ dotted _ _ _ _ _ _ _ (room_left _ _ c.loop-counted-test.true)
    c.after_colon-first.ensures.exact c.digits_end-last.ensures.exact c.if-last-first.false
    (sym c.is_short_group_at_end.ensures ∙ c.if-is_short_group_at_end.false) (turn_is _ _ _ _ _
    c.next_is-has_colon.ensures.value c.has_misplaced_colon.ensures c.if-has_misplaced_colon.false)
    (sym c.is_short_group_before_dot.ensures
    ∙ c.if-is_short_group_before_dot.true) (λ z. c.if-room-counted-eq1.false (omega arith))
    ∙ ap (after_ipv4 c.args.text.now _) (sym c.ipv4_end.ensures.exact ∙ c.in-None.is))

pub loop-counted-preserved : goal.loop-counted-preserved
loop-counted-preserved c =
    let later : (c.loop-counted.counted + 1 == 0) ≡ false = ne_eqb _ _ (omega arith) in
    grind (arith, groups_from-goes-on-after-group, room_left, turn_is)

pub returns-clause-exact : goal.returns-clause-exact
returns-clause-exact c = grind (arith, groups_from-ends-without-room)
