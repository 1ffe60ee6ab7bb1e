use Rattle.uri_pct.proofs.Common.{◌≡◌, ◌+◌, drop, sym, ap, subst, arith, IsCharBoundary, len_utf8, IsCharBoundary-past_char, IsUtf8-drop}
use Rattle.uri_pct.proofs.ValidTexts.UnchangedPrefixes.{empty_run_is_encoded_as_octets, longer_run_is_encoded_as_octets, disallowed_run_is_not_empty}
use Rattle.uri_pct.proofs.encode.disallowed_end.Goals as goal

pub loop-end-init : goal.loop-end-init
loop-end-init c = grind (arith, empty_run_is_encoded_as_octets)

pub loop-end-preserved : goal.loop-end-preserved
loop-end-preserved c =
    let text = c.args.text.now in
    let end = c.loop-end.end in
    let ch = c.char_at-ch.result in
    let before = c.loop-end.invariant in
    let u = IsUtf8-drop text end c.utf8.text before.boundary in
    let place : end + c.len_utf8-end.result ≡ end + len_utf8 ch =
    ap (λ n. end + n) c.len_utf8-end.ensures.value in
    record {
      from = omega (arith, before.from);
      boundary = subst (IsCharBoundary text) (sym place) (IsCharBoundary-past_char
          text (drop (end + len_utf8 ch) text) end ch (omega arith) u c.char_at-ch.ensures);
      octets = grind (arith, longer_run_is_encoded_as_octets);
    }

pub returns-then-allows-clause-goes : goal.returns-then-allows-clause-goes
returns-then-allows-clause-goes c = grind (arith, disallowed_run_is_not_empty)
