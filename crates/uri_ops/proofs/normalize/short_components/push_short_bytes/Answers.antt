use Rattle.uri_ops.proofs.Common.{◌≡◌, ℕ, List, ◌+◌, ◌*◌, ◌++◌, ◌∷◌, [], ◌<◌, ◌⊎◌, inl, inr, Bool, true, false, get_or, drop, length, refl, sym, ap, subst, ◌∙◌, arith, digit_value, ltb-true, ne_eqb, IsCharBoundary-start, IsAscii-nil, IsAscii-push, decode_octet, Octet, print, widest_set, TableSet, decoded_text, lowered_code_if, lowered_if, lowered_text_if}
use Rattle.uri_ops.proofs.Meanings.AsciiSuffixes.{digits-are-of-byte, longer-suffix-is-ascii, no-suffix-is-ascii, octet-decoded-alone-is-ascii}
use Rattle.uri_ops.proofs.Meanings.DecodedPrefixes.{character_step, decoded-octet-is-pushed}
use Rattle.uri_ops.proofs.Meanings.UnreservedCodes.{lowered-code-of-ascii-is-ascii}
use Rattle.uri_ops.proofs.normalize.short_components.push_short_bytes.Goals as goal
use Rattle.uri_ops.proofs.normalize.short_components.push_short_bytes.Goals.{else-high-ge56-via-then-high-ge56+else-not-alone, else-high-ge56-via-else-high-ge56}

character-is-lowered-text : (lowers : Bool) (b : ℕ)
    → lowered_code_if lowers b ∷ [] ≡ lowered_text_if lowers (b ∷ [])
character-is-lowered-text true b = refl
character-is-lowered-text false b = refl

pub loop-end-init : goal.loop-end-init
loop-end-init c = record {
  within = omega arith;
  boundary = IsCharBoundary-start c.args.text.now c.utf8.text;
  valid = c.requires.valid;
  unchanged = (no-suffix-is-ascii c.args.out.now.items).unchanged;
  ascii = (no-suffix-is-ascii c.args.out.now.items).ascii;
  room = omega (arith, c.requires.room);
  total = λ set none. refl;
}

pub loop-end-preserved-then-byte-ne37 : goal.loop-end-preserved-then-byte-ne37
loop-end-preserved-then-byte-ne37 c =
    let bytes = c.as_bytes-bytes.result.now in
    let text = c.args.text.now in
    let lowers = c.args.lowers in
    let end = c.loop-end.end in
    let byte = get_or bytes end 0 in
    let out = c.loop-end.out.items in
    let holds = c.loop-end.invariant in
    let small : byte < 128 = ltb-true byte 128 (sym c.is_ascii.ensures ∙ c.if-not-is_ascii.false) in
    let pushed : c.push_reserved.new.self.items ≡ out ++ lowered_text_if lowers (byte ∷ []) =
    c.push_reserved.ensures.items ∙ ap (λ x. out ++ x)
    (ap (λ x. x ∷ []) c.lowered_code_if.ensures ∙ character-is-lowered-text lowers byte) in
    let other = ne_eqb byte 37 c.if-byte-ne37.true in
    let step = λ (set : TableSet) (whole : List ℕ) (total : out
    ++ decoded_text lowers set (drop end text) ≡ whole). character_step lowers set bytes
    text out c.push_reserved.new.self.items whole end c.as_bytes-bytes.ensures.value c.utf8.text
    holds.boundary holds.valid c.loop-end-test.true small other pushed total in
    let first = step widest_set (out ++ decoded_text lowers widest_set (drop end text)) refl in
    let ascii : c.lowered_code_if.result < 128 = subst (λ x. x < 128) (sym c.lowered_code_if.ensures)
    (lowered-code-of-ascii-is-ascii lowers byte small) in
    let suffix = longer-suffix-is-ascii c.args.out.now.items out c.push_reserved.new.self.items
    (c.lowered_code_if.result ∷ []) (record { unchanged = holds.unchanged; ascii = holds.ascii })
    c.push_reserved.ensures.items (IsAscii-push [] c.lowered_code_if.result IsAscii-nil ascii) in
    record {
      within = omega (arith, ap length c.as_bytes-bytes.ensures.value);
      boundary = first.boundary;
      valid = first.valid;
      unchanged = suffix.unchanged;
      ascii = suffix.ascii;
      room = omega (
        arith,
        holds.room,
        c.push_reserved.ensures.len,
        c.push_reserved.ensures.capacity,
        ap length c.as_bytes-bytes.ensures.value,
      );
      total = λ set none. (step set
          (c.args.out.now.items ++ decoded_text lowers set text) (holds.total set none)).total;
    }

pub push_octet_of_digits-requires-clause-room : goal.push_octet_of_digits-requires-clause-room
push_octet_of_digits-requires-clause-room c =
    omega (arith, c.loop-end.invariant.room, c.octet_digits-high.ensures.within)

pub loop-end-preserved : goal.loop-end-preserved
loop-end-preserved c =
    let text = c.args.text.now in
    let lowers = c.args.lowers in
    let alone = c.args.alone in
    let out = c.loop-end.out.items in
    let new = c.push_octet_of_digits.new.out.items in
    let holds = c.loop-end.invariant in
    let at = c.octet_digits-high.ensures in
    let high = c.octet_digits-high.result.0 in
    let low = c.octet_digits-high.result.1 in
    let either : (alone ≡ true) ⊎ (high < 56) = elim c.else-high-ge56.branch [
      | else-high-ge56-via-then-high-ge56+else-not-alone w ↦ inl w.if-not-alone.false
      | else-high-ge56-via-else-high-ge56 w ↦ inr w.if-high-ge56.false
    ] in
    let suffix = longer-suffix-is-ascii c.args.out.now.items out new (print (lowered_if lowers
    (decode_octet (Octet (16 * digit_value high + digit_value low)) ∷ [])))
    (record { unchanged = holds.unchanged; ascii = holds.ascii })
    c.push_octet_of_digits.ensures.items (octet-decoded-alone-is-ascii lowers (16 * digit_value high
    + digit_value low) (digits-are-of-byte high low at.high_digit at.low_digit)) in
    record {
      within = omega (arith, at.within);
      boundary = at.boundary;
      valid = at.valid;
      unchanged = suffix.unchanged;
      ascii = suffix.ascii;
      room = omega (
        arith,
        c.push_octet_of_digits.ensures.len,
        c.push_octet_of_digits.ensures.capacity,
        holds.room,
        at.within,
      );
      total = λ set none. decoded-octet-is-pushed at lowers set out new
          (c.args.out.now.items ++ decoded_text lowers set text) alone none either
          c.push_octet_of_digits.ensures.items (holds.total set none);
    }
