use Rattle.uri_pct.proofs.Common.{◌≡◌, ◌-◌, ◌++◌, length, take, drop, ap, ◌∙◌, arith, refl, string_bytes, take_all, map, IsCharBoundary-start, set_of, Octet, print}
use Rattle.uri_pct.proofs.EncodedTexts.Encodings.{append_keeps_prefix, unchanged_prefix-transitive}
use Rattle.uri_pct.proofs.ValidTexts.UnchangedPrefixes.{encoded_text_after_two_runs, encoded_text_at_end}
use Rattle.uri_pct.proofs.encode.push_text.Goals as goal

pub loop-done-init : goal.loop-done-init
loop-done-init c = record {
  boundary = IsCharBoundary-start c.args.text.now c.utf8.text;
  total = refl;
  keeps = take_all _ (string_bytes c.args.out.now) (omega arith);
}

pub returns-in_err-push_octets-clause-keeps : goal.returns-in_err-push_octets-clause-keeps
returns-in_err-push_octets-clause-keeps c =
    let old = string_bytes c.args.out.now in
    let copied : string_bytes c.push_str.new.self
    ≡ string_bytes c.loop-done.out ++ c.range.result.now = c.in_ok-push_str.ensures.bytes in
    let mid = ap (take (length old)) copied ∙ append_keeps_prefix old
    (string_bytes c.loop-done.out) c.range.result.now c.loop-done.invariant.keeps in
    grind (arith, unchanged_prefix-transitive)

pub loop-done-preserved : goal.loop-done-preserved
loop-done-preserved c =
    let text = c.args.text.now in
    let done = c.loop-done.done in
    let end = c.allowed_end-end.result in
    let next = c.disallowed_end-next.result in
    let old = string_bytes c.args.out.now in
    let out = string_bytes c.loop-done.out in
    let mid = string_bytes c.push_str.new.self in
    let new = string_bytes c.push_octets.new.out in
    let pushed : mid ≡ out ++ c.range.result.now = c.in_ok-push_str.ensures.bytes in
    let copied : mid ≡ out ++ take (end - done) (drop done text) = grind arith in
    let octets : new ≡ mid ++ print (map Octet (take (next - end) (drop end text))) = grind arith in
    record {
      boundary = c.disallowed_end-next.ensures.boundary;
      total = encoded_text_after_two_runs (set_of c.args.table.now) out mid new text _ done end next
          c.allowed_end-end.ensures.unchanged c.disallowed_end-next.ensures.octets copied octets
          c.loop-done.invariant.total;
      keeps = grind (arith, unchanged_prefix-transitive, append_keeps_prefix);
    }

pub returns-clause-ok : goal.returns-clause-ok
returns-clause-ok c = encoded_text_at_end (set_of c.args.table.now) (string_bytes c.loop-done.out)
    c.args.text.now _ c.loop-done.done (omega (arith, c.loop-done-test.false))
    c.loop-done.invariant.total
