use Rattle.uri_parts.proofs.Common.{rules}
use Rattle.uri_parts.proofs.TextKinds.ComponentRules.{path-of-text-of-kind-is-valid}
use Rattle.uri_parts.proofs.core_text.Core+K+ref+str.path.Goals as goal

pub new_or_panic-requires : goal.new_or_panic-requires
new_or_panic-requires g c = rw c.path.ensures (path-of-text-of-kind-is-valid g.K.Kind.kind
    _ c.args.self.text.now c.args.self.of_kind g.met.K.Kind.path_set)

pub returns : goal.returns
returns g c = search rules
