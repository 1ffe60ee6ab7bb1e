use Rattle.uri_parts.proofs.Common.{rules, ◌≡◌, Some, components}
use Rattle.uri_parts.proofs.TextKinds.ComponentRules.{fragment-of-text-of-kind-is-valid}
use Rattle.uri_parts.proofs.core_text.Core+K+ref+str.fragment.Goals as goal

pub new_or_panic-requires : goal.new_or_panic-requires
new_or_panic-requires g c =
    let part : (components c.args.self.text.now).fragment ≡ Some c.in-Some.fragment.now =
    cc c.in-Some.ensures in
    fragment-of-text-of-kind-is-valid g.K.Kind.kind
    _ c.args.self.text.now c.in-Some.fragment.now c.args.self.of_kind g.met.K.Kind.fragment_set part

pub returns-in-Some : goal.returns-in-Some
returns-in-Some g c = search rules
