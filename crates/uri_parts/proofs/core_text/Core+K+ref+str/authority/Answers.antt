use Rattle.uri_parts.proofs.Common.{rules}
use Rattle.uri_parts.proofs.core_text.Core+K+ref+str.authority.Goals as goal

pub returns-in_err-places : goal.returns-in_err-places
returns-in_err-places g c = search rules
