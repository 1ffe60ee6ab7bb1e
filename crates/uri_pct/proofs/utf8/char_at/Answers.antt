use Rattle.uri_pct.proofs.Common.{arith, drop_past_char}
use Rattle.uri_pct.proofs.utf8.char_at.Goals as goal

pub returns : goal.returns
returns c = grind (arith, drop_past_char)
