use Rattle.uri_parts.proofs.Common.{rules}
use Rattle.uri_parts.proofs.core_text.owned.Core+K+String.set_fragment.Goals as goal

pub returns-clause-set : goal.returns-clause-set
returns-clause-set g c = search rules
