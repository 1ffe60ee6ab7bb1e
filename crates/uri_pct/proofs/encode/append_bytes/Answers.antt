use Rattle.uri_pct.proofs.Common.{arith}
use Rattle.uri_pct.proofs.ValidTexts.RestoredTexts.{unchanged_text_ends_at_split_point}
use Rattle.uri_pct.proofs.encode.append_bytes.Goals as goal

pub truncate-requires : goal.truncate-requires
truncate-requires c = grind (arith, unchanged_text_ends_at_split_point)
