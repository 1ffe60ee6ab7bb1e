use Rattle.uri_pct.proofs.Common.{arith}
use Rattle.uri_pct.proofs.Unicode.Runs.{bytes_of_length_zero_have_no_pieces}
use Rattle.uri_pct.proofs.utf8_runs.take_text.Goals as goal

pub returns-then-is_empty : goal.returns-then-is_empty
returns-then-is_empty g c = grind (arith, bytes_of_length_zero_have_no_pieces)
