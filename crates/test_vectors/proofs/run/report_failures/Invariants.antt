use Rattle.std.proofs.Common.{◌≡◌}
use Rattle.std.specs.Io.KnownBytes.{Keeps}
use Rattle.test_vectors.proofs.run.report_failures.Given as goal

-- as long as no row differs, nothing is written
abbrev pub invariant-loop-row : goal.invariant-loop-row
invariant-loop-row g l = l.failed ≡ 0 → Keeps (g.O.Write.contents l.fn.out)
    (g.O.Write.contents l.out)
