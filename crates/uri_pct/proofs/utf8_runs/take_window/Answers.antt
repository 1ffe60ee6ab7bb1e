use Rattle.uri_pct.proofs.Common.{arith}
use Rattle.uri_pct.proofs.Unicode.Runs.{bytes_of_length_zero_have_no_pieces}
use Rattle.uri_pct.proofs.utf8_runs.take_window.Goals as goal

pub returns-then-is_empty-clause-taken : goal.returns-then-is_empty-clause-taken
returns-then-is_empty-clause-taken g c = grind (arith, bytes_of_length_zero_have_no_pieces)
