use Rattle.uri_mend.proofs.Common.{common_steps, arith, ◌+◌, ap, set_of, lacks_percent}
use Rattle.uri_mend.proofs.EncodedRuns.{boundary-after-char, run-after-scan-is-encoded}
use Rattle.uri_mend.proofs.component.encode_run.Goals as goal

pub lacked_end-end-requires-clause-boundary : goal.lacked_end-end-requires-clause-boundary
lacked_end-end-requires-clause-boundary c = grind (arith, common_steps, boundary-after-char)

pub returns-clause-encoded : goal.returns-clause-encoded
returns-clause-encoded c = run-after-scan-is-encoded (set_of c.args.table.now)
    (lacks_percent c.args.table.now) c.requires.octets c.args.text.now c.utf8.text c.char_at.result
    c.args.start (c.args.start + c.len_utf8.result) c.lacked_end-end.result c.requires.boundary
    (boundary-after-char c.args.text.now c.args.start c.char_at.result c.len_utf8.result c.utf8.text
    c.requires.boundary c.char_at.ensures c.len_utf8.ensures.value) c.char_at.ensures
    (ap (λ n. c.args.start + n) c.len_utf8.ensures.value) c.requires.stop c.lacked_end-end.ensures
