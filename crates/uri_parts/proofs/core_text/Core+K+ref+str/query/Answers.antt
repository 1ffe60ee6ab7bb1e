use Rattle.uri_parts.proofs.Common.{rules, ◌≡◌, Some, components}
use Rattle.uri_parts.proofs.TextKinds.ComponentRules.{query-of-text-of-kind-is-valid}
use Rattle.uri_parts.proofs.core_text.Core+K+ref+str.query.Goals as goal

pub new_or_panic-requires : goal.new_or_panic-requires
new_or_panic-requires g c =
    let part : (components c.args.self.text.now).query ≡ Some c.in-Some.query.now =
    cc c.in-Some.ensures in
    query-of-text-of-kind-is-valid g.K.Kind.kind
    _ c.args.self.text.now c.in-Some.query.now c.args.self.of_kind g.met.K.Kind.query_set part

pub returns-in-Some : goal.returns-in-Some
returns-in-Some g c = search rules
