use Rattle.uri_parts.proofs.Common.{◌≡◌, ◌+◌, ◌-◌, ◌<◌, length, drop, get_or, sym, ap, ◌∙◌, arith, append-nil, length-drop, drop-drop, take, take_all, ℕ, List, [], ◌∷◌, ◌++◌, ◌≤◌, Some, None, nat_lt, le-ltb, refl, places, take_more_set, read_segments, read_ipv4_if, segments_of_ipv4}
use Rattle.std.proofs.Math.ListN.{set}
use Rattle.std.proofs.lemmas.Grind.{common_steps}
use Rattle.uri_parts.proofs.HostForms.AddressParsing.{IsSuffix, suffix-at-position}
use Rattle.uri_parts.proofs.HostForms.GroupReading.{reading-appends-value-of-group, reading-ends-without-group, reading-ends-after-group-without-colon, colon-separates-next-group, no-dot-after-digits-is-no-ipv4, ipv4-ends-reading, unparsed-ipv4-is-not-read, text-after-ipv4-is-suffix, byte-after-digits-at-position, colon-at-position-is-inside}
use Rattle.uri_parts.proofs.address_reader.read_groups.Goals.{else-digits-eq46}
use Rattle.uri_parts.proofs.address_reader.read_groups.Goals as goal

-- the last segments are those of an IPv4 address
two-segments-are-stored : (s : List ℕ) (i v a b : ℕ) → i + 1 < length s
    → take (i + 2) (set (set (set s i v) i a) (i + 1) b) ≡ take i s ++ a ∷ b ∷ []
two-segments-are-stored s i v a b within = grind (arith, common_steps, places)

other-segments-are-kept : (s t : List ℕ) (i v a b : ℕ) → i + 1 < length s → drop i s ≡ drop i t
    → drop (i + 2) (set (set (set s i v) i a) (i + 1) b) ≡ drop (i + 2) t
other-segments-are-kept s t i v a b within same =
    let kept : drop (i + 2) (set (set (set s i v) i a) (i + 1) b) ≡ drop (i + 2) s =
    grind (arith, common_steps, places) in
    kept ∙ sym (drop-drop 2 i s) ∙ ap (drop 2) same ∙ drop-drop 2 i t

-- what is cut at a position is all that follows it, also for what is read of it
same-for-suffix : {B : Type 0} (f : List ℕ → B) (text : List ℕ) (i : ℕ)
    → f (take (length text - i) (drop i text)) ≡ f (drop i text)
same-for-suffix f text i = ap f (take_all (length text - i) (drop i text)
    (omega (arith, length-drop i text)))

ipv4-leaves-suffix : (text two rest : List ℕ) (i : ℕ) → i ≤ length text →
    Some (two, rest) ≡ segments_of_ipv4 (take (length text - i) (drop i text)) → IsSuffix rest text
ipv4-leaves-suffix text two rest i within e = suffix-at-position text rest i within
    (text-after-ipv4-is-suffix _ two rest (e ∙ same-for-suffix segments_of_ipv4 text i))

pub returns-then-digits-eq0-clause-value : goal.returns-then-digits-eq0-clause-value
returns-then-digits-eq0-clause-value c = grind (arith, reading-ends-without-group)

pub overflow_sub-result : goal.overflow_sub-result
overflow_sub-result c =
    let suffix = ipv4-leaves-suffix _ _ _ _ c.loop-i.invariant.group c.in-Some.ensures in
    suffix.0

pub returns-in-Some-clause-value : goal.returns-in-Some-clause-value
returns-in-Some-clause-value c =
    let text = c.args.text.now in
    let group = c.loop-i.group in
    let suffix = ipv4-leaves-suffix _ _ _ _ c.loop-i.invariant.group c.in-Some.ensures in
    rw (two-segments-are-stored c.loop-i.segments c.loop-i.i _ _ _ (omega arith), ← suffix.1)
    (ipv4-ends-reading _ _ _ _ _ _ c.loop-i-test.true c.loop-i.invariant.found
    c.loop-i.invariant.next _ c.leading_digits-digits.ensures.digits _ _ c.if-i-room.true
    (c.in-Some.ensures ∙ same-for-suffix segments_of_ipv4 text group))

pub returns-in-Some-clause-others : goal.returns-in-Some-clause-others
returns-in-Some-clause-others c = grind (arith, other-segments-are-kept)

pub returns-then-digits-ne58-clause-value : goal.returns-then-digits-ne58-clause-value
returns-then-digits-ne58-clause-value c =
    let digits = c.leading_digits-digits in
    let text = c.args.text.now in
    let group = c.loop-i.group in
    let count = digits.result.count in
    let few : count < 5 = grind arith in
    let byte = byte-after-digits-at-position text group count _ (digits.ensures.next few) in
    let room : ℕ = length c.args.segments.now - (c.loop-i.i + 1) in
    let no_ipv4 : read_ipv4_if (nat_lt 0 room) (drop group text) ≡ None =
    elim c.if-digits-eq46.branch [
      | goal.then-digits-eq46+else-not-takes_ipv4+then-i-room+in_default w ↦
          unparsed-ipv4-is-not-read _ _
          (w.in_default.ensures ∙ same-for-suffix segments_of_ipv4 text group)
      | goal.then-digits-eq46+else-not-takes_ipv4+else-i-room w ↦
          rw (le-ltb 0 room (let full = w.if-i-room.false in omega arith)) refl
      | else-digits-eq46 w ↦ no-dot-after-digits-is-no-ipv4 _ _ count digits.ensures.digits
          (λ e. w.if-digits-eq46.false (byte ∙ e))
    ] in
    let read = reading-ends-after-group-without-colon _ _ _ _
    _ _ c.loop-i-test.true c.loop-i.invariant.found c.loop-i.invariant.next _ digits.ensures.digits
    c.if-digits-eq0.false c.if-digits-eq5.false no_ipv4 (λ e. c.if-digits-ne58.true (byte ∙ e)) in
    rw (
      take_more_set c.loop-i.segments c.loop-i.i digits.result.value (omega arith),
      digits.ensures.value few,
      ← drop-drop count group text,
    ) read

pub loop-i-preserved : goal.loop-i-preserved
loop-i-preserved c =
    let digits = c.leading_digits-digits in
    let text = c.args.text.now in
    let group = c.loop-i.group in
    let count = digits.result.count in
    let within : c.loop-i.i < length c.loop-i.segments = omega arith in
    let few : count < 5 = grind arith in
    let byte = byte-after-digits-at-position text group count _ (digits.ensures.next few) in
    let no_ipv4 = no-dot-after-digits-is-no-ipv4 (nat_lt 0
    (length c.args.segments.now - (c.loop-i.i + 1))) (drop group text) count digits.ensures.digits
    (λ e. absurd (let dot = byte ∙ e in let colon = c.if-digits-ne58.false in omega arith)) in
    let read = reading-appends-value-of-group _ _ _ _ _ _ c.loop-i-test.true
    c.loop-i.invariant.found c.loop-i.invariant.next _ digits.ensures.digits
    c.if-digits-eq0.false c.if-digits-eq5.false no_ipv4 in
    let colon : get_or (drop group text) count 0 ≡ 58 = sym byte ∙ c.if-digits-ne58.false in
    let next = colon-separates-next-group _ _ _ _ _ _ c.loop-i-test.true c.loop-i.invariant.found
    c.loop-i.invariant.next _ digits.ensures.digits c.if-digits-eq0.false c.if-digits-eq5.false
    no_ipv4 colon in
    let inside = colon-at-position-is-inside (drop group text) count colon in
    let size = length-drop group text in
    grind (arith, take_more_set, drop-drop, common_steps)

pub returns-clause-value : goal.returns-clause-value
unfolding read_segments
returns-clause-value c = grind (arith, append-nil)
