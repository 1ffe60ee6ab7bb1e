use Rattle.uri_parts.proofs.Common.{rules}
use Rattle.uri_parts.proofs.component.Authority.as_str.Goals as goal

pub returns-clause-text : goal.returns-clause-text
returns-clause-text g c = search rules

pub returns-clause-valid : goal.returns-clause-valid
returns-clause-valid g c = search rules
