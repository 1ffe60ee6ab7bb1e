use Rattle.uri_pct.proofs.Common.{◌-◌, arith}
use Rattle.uri_pct.proofs.LaneScans.LinkedRuns as LinkedRuns
use Rattle.uri_pct.proofs.encoded_runs.encoded_run_end.Goals as goal

pub returns-then-end-start-lt2-clause-allowed : goal.returns-then-end-start-lt2-clause-allowed
returns-then-end-start-lt2-clause-allowed c =
    LinkedRuns.no_bytes_are_characters_or_octets _ _ _ _ (omega arith)

pub returns-then-bytes-end-eq37-clause-allowed : goal.returns-then-bytes-end-eq37-clause-allowed
returns-then-bytes-end-eq37-clause-allowed c =
    let e = c.linked_run_end-end in
    LinkedRuns.characters_or_octets_up_to_percent _ c.args.bytes.now c.args.start
    e.result e.ensures.linked (e.result - 1) (omega arith) (omega arith) c.if-bytes-end-eq37.true

pub returns-then-bytes-end-eq37-2-clause-allowed : goal.returns-then-bytes-end-eq37-2-clause-allowed
returns-then-bytes-end-eq37-2-clause-allowed c =
    let e = c.linked_run_end-end in
    LinkedRuns.characters_or_octets_up_to_percent _ c.args.bytes.now c.args.start
    e.result e.ensures.linked (e.result - 2) (omega arith) (omega arith) c.if-bytes-end-eq37-2.true

pub returns-clause-allowed : goal.returns-clause-allowed
returns-clause-allowed c =
    let e = c.linked_run_end-end in
    LinkedRuns.characters_or_octets_up_to_end _ c.args.bytes.now c.args.start
    e.result e.ensures.linked e.ensures.from c.if-bytes-end-eq37.false c.if-bytes-end-eq37-2.false
