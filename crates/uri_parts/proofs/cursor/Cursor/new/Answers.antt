use Rattle.uri_parts.proofs.Common.{IsCharBoundary-start}
use Rattle.uri_parts.proofs.cursor.Cursor.new.Goals as goal

pub invariant_of-result : goal.invariant_of-result
invariant_of-result c = record { boundary = IsCharBoundary-start c.args.text.now c.utf8.text }
