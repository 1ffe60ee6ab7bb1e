use Rattle.uri_parts.proofs.Common.{rules}
use Rattle.uri_parts.proofs.core_text.Core+K+ref+str.scheme.Goals as goal

pub returns-in-Some : goal.returns-in-Some
returns-in-Some g c = search rules
