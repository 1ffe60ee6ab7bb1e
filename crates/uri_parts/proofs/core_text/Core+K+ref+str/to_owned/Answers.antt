use Rattle.uri_parts.proofs.Common.{rules}
use Rattle.uri_parts.proofs.core_text.Core+K+ref+str.to_owned.Goals as goal

pub new-requires-clause-of_kind : goal.new-requires-clause-of_kind
new-requires-clause-of_kind g c = search rules

pub new-requires-clause-at : goal.new-requires-clause-at
new-requires-clause-at g c = search rules

pub returns : goal.returns
returns g c = search rules
