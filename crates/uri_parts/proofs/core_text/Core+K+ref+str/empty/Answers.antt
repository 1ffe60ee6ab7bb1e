use Rattle.uri_parts.proofs.Common.{rules}
use Rattle.uri_parts.proofs.core_text.Core+K+ref+str.empty.Goals as goal

pub new-requires-clause-at : goal.new-requires-clause-at
new-requires-clause-at g c = search rules
