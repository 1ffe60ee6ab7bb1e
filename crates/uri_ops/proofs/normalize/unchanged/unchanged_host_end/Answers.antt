use Rattle.uri_ops.proofs.Common.{common_steps, ◌≤◌, arith, refl}
use Rattle.uri_ops.proofs.Normal.UnchangedPrefixes.{run-of-unchanged-bytes-is-literal, run-of-unchanged-bytes-is-unchanged-prefix}
use Rattle.uri_ops.proofs.normalize.unchanged.unchanged_host_end.Goals as goal
use Rattle.uri_ops.proofs.normalize.unchanged.unchanged_host_end.Goals.{then-run-window-via-then-run-window, then-run-window-via-else-run-window+then-end-run}

run-is-to-end : (c : goal.Joined-then-run-window) → c.args.places.host_end ≤ c.run_end-run.result
run-is-to-end c = elim c.then-run-window.branch [
  | then-run-window-via-then-run-window w ↦ grind (arith, common_steps)
  | then-run-window-via-else-run-window+then-end-run w ↦ w.if-end-run.true
]

pub returns-then-run-window-clause-unchanged : goal.returns-then-run-window-clause-unchanged
returns-then-run-window-clause-unchanged c = λ some. run-of-unchanged-bytes-is-unchanged-prefix
    c.args.bytes.now _ c.max.result c.args.places.host_end c.run_end-run.result refl
    (omega (arith, c.max.ensures)) c.requires c.run_end-run.ensures (run-is-to-end c)

pub returns-then-run-window-clause-literal : goal.returns-then-run-window-clause-literal
returns-then-run-window-clause-literal c =
    let whole = run-is-to-end c in grind (arith, common_steps, run-of-unchanged-bytes-is-literal)
