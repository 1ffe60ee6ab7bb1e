use Rattle.uri_parts.proofs.Common.{rules}
use Rattle.uri_parts.proofs.core_text.owned.Core+K+String.into_string.Goals as goal

pub returns : goal.returns
returns g c = search rules
