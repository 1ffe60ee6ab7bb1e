use Rattle.uri_pct.proofs.Common.{IsCharBoundary-start}
use Rattle.uri_pct.proofs.table.Table.allows_text.Goals as goal

pub scan-requires : goal.scan-requires
scan-requires c = IsCharBoundary-start c.args.text.now c.utf8.text
