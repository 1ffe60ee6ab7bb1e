use Rattle.uri_parts.proofs.Common.{rules}
use Rattle.uri_parts.proofs.core_text.Core+K+ref+str.needed_scheme.Goals as goal

pub returns : goal.returns
returns g c = search rules
