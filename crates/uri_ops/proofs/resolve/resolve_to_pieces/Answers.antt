use Rattle.uri_ops.proofs.Common.{◌≡◌, ◌++◌, true, subst, sym, Ok, is_some, Components, components_of}
use Rattle.std.proofs.lemmas.Option.{IfSome_then}
use Rattle.uri_ops.proofs.Targeting.ResolvedTexts.{computed-target-is-resolved, target-is-text-of-base-kind}
use Rattle.uri_ops.proofs.Targeting.Swaps.{text-of-kind-has-needed-scheme}
use Rattle.uri_ops.proofs.resolve.resolve_to_pieces.Goals as goal

pub taken_pieces-requires : goal.taken_pieces-requires
taken_pieces-requires g c =
    subst (λ (p : Components). is_some p.scheme ≡ true) (sym c.of.ensures.components)
    (text-of-kind-has-needed-scheme g.B.RiMaybeRef.kind (g.B.RiMaybeRef.text c.args.base.now)
    g.met.B.Ri.needs_scheme (record { utf8 = c.of.ensures.utf8; grammar = c.of.ensures.of_kind }))

pub returns-clause-of_kind : goal.returns-clause-of_kind
returns-clause-of_kind g c = IfSome_then c.taken_pieces.result c.taken_pieces.ensures.target
    (λ pieces. target-is-text-of-base-kind g.B.RiMaybeRef.kind g.Q.RiMaybeRef.kind
    g.met.B.RiMaybeRef.component_sets g.met.B.Ri.needs_scheme g.met.Q.RefOf.same_tables
    c.args.allow_path_underflow (components_of c.of.result) (components_of c.of-2.result)
    (g.B.RiMaybeRef.text c.args.base.now) (g.Q.RiMaybeRef.text c.args.reference.now)
    c.of.ensures.components c.of-2.ensures.components c.of.ensures.utf8 c.of-2.ensures.utf8
    c.of.ensures.of_kind c.of-2.ensures.of_kind (pieces.prefix.now ++ pieces.suffix.now))

pub returns-clause-resolved : goal.returns-clause-resolved
returns-clause-resolved g c = IfSome_then c.taken_pieces.result c.taken_pieces.ensures.target
    (λ pieces h. computed-target-is-resolved
    g.B.RiMaybeRef.kind g.Q.RiMaybeRef.kind g.met.B.RiMaybeRef.component_sets
    g.met.B.Ri.needs_scheme g.met.Q.RefOf.same_tables c.args.allow_path_underflow
    (components_of c.of.result) (components_of c.of-2.result) (g.B.RiMaybeRef.text c.args.base.now)
    (g.Q.RiMaybeRef.text c.args.reference.now) c.of.ensures.components c.of-2.ensures.components
    c.of.ensures.utf8 c.of-2.ensures.utf8 c.of.ensures.of_kind c.of-2.ensures.of_kind
    (Ok pieces) (λ target. target.prefix.now ++ target.suffix.now) h tt)
