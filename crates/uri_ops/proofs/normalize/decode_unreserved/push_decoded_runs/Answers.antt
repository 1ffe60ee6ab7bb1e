use Rattle.uri_ops.proofs.Common.{common_steps, ◌≡◌, ◌+◌, ◌*◌, ◌-◌, ◌++◌, ◌∷◌, [], ◌<◌, ◌≤◌, ◌⊎◌, inl, inr, false, true, not, eqb, length, drop, refl, sym, ap, ◌∙◌, subst, arith, string_bytes, digit_value, position_or_len, on_ok_weaker, IsUtf8-drop, IsCharBoundary-start, decode_octet, set_of, Octet, print, KeepsPrefixWhenDecoded, decoded_text, lowered_if, lowered_text_if}
use Rattle.uri_ops.proofs.Meanings.DecodedPrefixes.{LiteralPrefix, octet-is-decoded-alone, text-before-percent-is-literal-prefix, empty-prefix-is-unchanged, unchanged-prefix-grows, unchanged-prefix-is-pushed, last-prefix-is-pushed, suffix-of-suffix-is-valid, decoded-octet-is-pushed, unset-flags-lack-past-ascii}
use Rattle.uri_ops.proofs.Meanings.DecodedOctets.{uppercase-reserved-octet-is-unchanged}
use Rattle.uri_ops.proofs.normalize.decode_unreserved.push_decoded_runs.Goals as goal
use Rattle.uri_ops.proofs.normalize.decode_unreserved.push_decoded_runs.Goals.{else-high-ge56-via-then-high-ge56+else-not-alone, else-high-ge56-via-else-high-ge56}

pub loop-end-init : goal.loop-end-init
loop-end-init c =
    let text = c.args.text.now in
    record {
      order = omega arith;
      start = IsCharBoundary-start text c.utf8.text;
      boundary = IsCharBoundary-start text c.utf8.text;
      valid = c.requires;
      prefix = empty-prefix-is-unchanged c.args.lowers (set_of c.args.table.now) text;
      total = refl;
    }

literal : (c : goal.After-unencoded_len-end)
    → LiteralPrefix (drop c.loop-end.end c.args.text.now) c.unencoded_len-end.result
literal c =
    let holds = c.loop-end.invariant in
    text-before-percent-is-literal-prefix (drop c.loop-end.end c.args.text.now)
    c.unencoded_len-end.result
    (IsUtf8-drop c.args.text.now c.loop-end.end c.utf8.text holds.boundary) holds.valid
    (c.unencoded_len-end.ensures ∙ ap (position_or_len (λ b. eqb b 37)) c.range_from.ensures.value)

pub overflow_add-end : goal.overflow_add-end
overflow_add-end c = grind (arith, literal)

pub loop-end-preserved-then-bytes-end-ne37 : goal.loop-end-preserved-then-bytes-end-ne37
loop-end-preserved-then-bytes-end-ne37 c =
    grind (arith, common_steps, literal, suffix-of-suffix-is-valid, unchanged-prefix-grows)

pub returns-then-not-alone : goal.returns-then-not-alone
returns-then-not-alone c = grind (arith, common_steps, unchanged-prefix-is-pushed)

pub loop-end-preserved-in-Some : goal.loop-end-preserved-in-Some
loop-end-preserved-in-Some c =
    let text = c.args.text.now in
    let lowers = c.args.lowers in
    let set = set_of c.args.table.now in
    let alone = not c.allows_some_past_ascii-alone.result in
    let end = c.loop-end.end in
    let out = string_bytes c.loop-end.out in
    let prefix = string_bytes c.push_literal.new.out in
    let whole = string_bytes c.args.out.now ++ decoded_text lowers set text in
    let holds = c.loop-end.invariant in
    let at = c.octet_digits-high.ensures in
    let pushed = c.in_ok-push_literal.ensures
    ∙ ap (λ x. out ++ lowered_text_if lowers x) c.range.ensures.value in
    let total = unchanged-prefix-is-pushed lowers
    set text out prefix whole c.loop-end.done end holds.order holds.prefix pushed holds.total in
    let none = unset-flags-lack-past-ascii set c.allows_some_past_ascii-alone.result
    c.allows_some_past_ascii-alone.ensures in
    let value = 16 * digit_value c.octet_digits-high.result.0
    + digit_value c.octet_digits-high.result.1 in
    let next = c.in_ok-end.end in
    let decoded = decoded-octet-is-pushed at lowers set prefix
    (string_bytes c.push_unreserved.new.out) whole alone none (inr c.in-Some.ensures.2)
    (c.in_ok-push_unreserved.ensures lowers value c.in-Some.ensures.1 c.in-Some.ensures.0) total in
    let nothing : 0 ≡ next - next = omega arith in
    record {
      order = omega arith;
      start = c.in_ok-end.ensures.boundary;
      boundary = c.in_ok-end.ensures.boundary;
      valid = c.in_ok-end.ensures.valid;
      prefix = subst (KeepsPrefixWhenDecoded lowers set (drop next text)) nothing
          (empty-prefix-is-unchanged lowers set (drop next text));
      total = c.in_ok-end.ensures.text set ∙ decoded;
    }

pub loop-end-smaller-in-Some : goal.loop-end-smaller-in-Some
loop-end-smaller-in-Some c = omega (arith, c.in_ok-end.ensures.from, c.in_ok-end.ensures.boundary.0)

pub loop-end-preserved-then-are_uppercase_digits : goal.loop-end-preserved-then-are_uppercase_digits
loop-end-preserved-then-are_uppercase_digits c =
    let text = c.args.text.now in
    let end = c.loop-end.end in
    let set = set_of c.args.table.now in
    let alone = not c.allows_some_past_ascii-alone.result in
    let holds = c.loop-end.invariant in
    let at = c.octet_digits-high.ensures in
    let either : (alone ≡ true) ⊎ (c.octet_digits-high.result.0 < 56) =
    elim c.else-high-ge56.branch [
      | else-high-ge56-via-then-high-ge56+else-not-alone w ↦ inl (ap not w.if-not-alone.false)
      | else-high-ge56-via-else-high-ge56 w ↦ inr w.if-high-ge56.false
    ] in
    let none = unset-flags-lack-past-ascii set c.allows_some_past_ascii-alone.result
    c.allows_some_past_ascii-alone.ensures in
    let octet : KeepsPrefixWhenDecoded false set (drop end text) 3 =
    uppercase-reserved-octet-is-unchanged at set alone
    (sym c.are_uppercase_digits.ensures ∙ c.if-are_uppercase_digits.true) c.in_default.ensures none
    (octet-is-decoded-alone at alone either) in
    record {
      order = omega (arith, holds.order);
      start = holds.start;
      boundary = at.boundary;
      valid = at.valid;
      prefix = unchanged-prefix-grows c.args.lowers set text c.loop-end.done end 3 holds.order
          holds.prefix (subst (λ lowers. KeepsPrefixWhenDecoded lowers set (drop end text) 3)
          (sym c.if-not-lowers.true) octet);
      total = holds.total;
    }

pub loop-end-preserved : goal.loop-end-preserved
loop-end-preserved c =
    let text = c.args.text.now in
    let lowers = c.args.lowers in
    let set = set_of c.args.table.now in
    let alone = not c.allows_some_past_ascii-alone.result in
    let end = c.loop-end.end in
    let out = string_bytes c.loop-end.out in
    let prefix = string_bytes c.push_literal-in-loop-end.new.out in
    let whole = string_bytes c.args.out.now ++ decoded_text lowers set text in
    let holds = c.loop-end.invariant in
    let at = c.octet_digits-high.ensures in
    let pushed = c.in_ok-push_literal-3.ensures
    ∙ ap (λ x. out ++ lowered_text_if lowers x) c.range-in-loop-end.ensures.value in
    let total = unchanged-prefix-is-pushed lowers
    set text out prefix whole c.loop-end.done end holds.order holds.prefix pushed holds.total in
    let either : (alone ≡ true) ⊎ (c.octet_digits-high.result.0 < 56) =
    elim c.else-high-ge56.branch [
      | else-high-ge56-via-then-high-ge56+else-not-alone w ↦ inl (ap not w.if-not-alone.false)
      | else-high-ge56-via-else-high-ge56 w ↦ inr w.if-high-ge56.false
    ] in
    let none = unset-flags-lack-past-ascii set c.allows_some_past_ascii-alone.result
    c.allows_some_past_ascii-alone.ensures in
    let nothing : 0 ≡ end + 3 - (end + 3) = omega arith in
    record {
      order = omega arith;
      start = at.boundary;
      boundary = at.boundary;
      valid = at.valid;
      prefix = subst (KeepsPrefixWhenDecoded lowers set (drop (end + 3) text)) nothing
          (empty-prefix-is-unchanged lowers set (drop (end + 3) text));
      total = decoded-octet-is-pushed at lowers set prefix (string_bytes c.push_octet.new.out)
          whole alone none either (c.in_ok-push_octet.ensures lowers ∙ ap (λ v. prefix
          ++ print (lowered_if lowers (decode_octet (Octet v) ∷ []))) c.octet_value.ensures) total;
    }

pub returns : goal.returns
returns c =
    let text = c.args.text.now in
    let lowers = c.args.lowers in
    let set = set_of c.args.table.now in
    let done = c.loop-end.done in
    let out = string_bytes c.loop-end.out in
    let whole = string_bytes c.args.out.now ++ decoded_text lowers set text in
    let holds = c.loop-end.invariant in
    let over : length text ≤ c.loop-end.end =
    omega (arith, c.loop-end-test.false, ap length c.as_bytes-bytes.ensures.value) in
    on_ok_weaker c.push_literal-2.result (λ pushed. last-prefix-is-pushed lowers set text out
    (string_bytes c.push_literal-2.new.out) whole done c.loop-end.end holds.order over holds.prefix
    (pushed ∙ ap (λ x. out ++ lowered_text_if lowers x) c.range_from-2.ensures.value) holds.total)
    c.push_literal-2.ensures
