use Rattle.uri_commands.proofs.Common.{arith, rules, sym, subst, IsOfKind, uri, uri_ref, iri, iri_ref, Resolve, kind_of_base, kind_of_references, IsErrorOf, IsErrorOfCommand, Reference}
use Rattle.uri_commands.proofs.Refusals.{mapped-parse-error-is-of-text, mapped-ok-is-of-kind}
use Rattle.uri_commands.proofs.target.target.Goals as goal

pub returns-in_err-base-in-Uri-clause-refused : goal.returns-in_err-base-in-Uri-clause-refused
returns-in_err-base-in-Uri-clause-refused c = grind (arith, mapped-parse-error-is-of-text)

pub returns-in_err-reference-in-Uri-clause-refused
    : goal.returns-in_err-reference-in-Uri-clause-refused
returns-in_err-reference-in-Uri-clause-refused c =
    let base = mapped-ok-is-of-kind uri c.args.base.now c.parse.result c.map_err.result _
    c.parse.ensures.accepts c.map_err.ensures.variant c.in_ok-base-in-Uri.was in
    mapped-parse-error-is-of-text
    (IsErrorOfCommand (Resolve c.args.kind c.args.base.now c.args.reference.now))
    Reference uri_ref c.args.reference.now c.parse-in-Uri.result c.map_err-in-Uri.result
    c.from_residual-in_err-reference-in-Uri.result _
    (λ e is. subst (λ k. IsOfKind (kind_of_base k) c.args.base.now
    × IsErrorOf (kind_of_references k) c.args.reference.now e) (sym c.in-Uri.is) (base, is))
    c.parse-in-Uri.ensures.refused c.map_err-in-Uri.ensures.cases
    c.in_err-reference-in-Uri.was c.from_residual-in_err-reference-in-Uri.ensures.1

pub returns-in_err-base-in-Iri-clause-refused : goal.returns-in_err-base-in-Iri-clause-refused
returns-in_err-base-in-Iri-clause-refused c = grind (arith, mapped-parse-error-is-of-text)

pub returns-in_err-reference-in-Iri-clause-refused
    : goal.returns-in_err-reference-in-Iri-clause-refused
returns-in_err-reference-in-Iri-clause-refused c =
    let base = mapped-ok-is-of-kind iri c.args.base.now c.parse-in-Iri.result
    c.map_err-in-Iri.result _
    c.parse-in-Iri.ensures.accepts c.map_err-in-Iri.ensures.variant c.in_ok-base-in-Iri.was in
    mapped-parse-error-is-of-text
    (IsErrorOfCommand (Resolve c.args.kind c.args.base.now c.args.reference.now))
    Reference iri_ref c.args.reference.now c.parse-in-Iri-2.result c.map_err-in-Iri-2.result
    c.from_residual-in_err-reference-in-Iri.result _
    (λ e is. subst (λ k. IsOfKind (kind_of_base k) c.args.base.now
    × IsErrorOf (kind_of_references k) c.args.reference.now e) (sym c.in-Iri.is) (base, is))
    c.parse-in-Iri-2.ensures.refused c.map_err-in-Iri-2.ensures.cases
    c.in_err-reference-in-Iri.was c.from_residual-in_err-reference-in-Iri.ensures.1

pub returns-in_err-target_of-in-Uri-clause-refused
    : goal.returns-in_err-target_of-in-Uri-clause-refused
returns-in_err-target_of-in-Uri-clause-refused c = search rules

pub returns-in_err-target_of-in-Iri-clause-refused
    : goal.returns-in_err-target_of-in-Iri-clause-refused
returns-in_err-target_of-in-Iri-clause-refused c = search rules

pub returns-clause-target : goal.returns-clause-target
returns-clause-target c = search rules
