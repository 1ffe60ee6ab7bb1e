use Rattle.uri_parts.proofs.Common.{rules}
use Rattle.uri_parts.proofs.core_text.Core+K+ref+str.as_str.Goals as goal

pub returns-clause-text : goal.returns-clause-text
returns-clause-text g c = search rules

pub returns-clause-of_kind : goal.returns-clause-of_kind
returns-clause-of_kind g c = search rules
