use Rattle.uri_pct.proofs.Common.{on_ok_weaker}
use Rattle.uri_pct.proofs.utf8_runs.take_mixed_run.Goals as goal

pub returns : goal.returns
returns g c = on_ok_weaker c.take_chunks.result (λ taken. c.in_ok-left.ensures.taken _ taken)
    c.take_chunks.ensures
