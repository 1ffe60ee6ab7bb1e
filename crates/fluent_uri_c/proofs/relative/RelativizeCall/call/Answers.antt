use Rattle.fluent_uri_c.proofs.Common.{subst, reference_text, relativize_result, IsReturnedAs, Returned}
use Rattle.fluent_uri_c.proofs.ParsedBases.{reference_by-is-relativize_result}
use Rattle.fluent_uri_c.proofs.OtherErrors.{relativize_result-is-other}
use Rattle.fluent_uri_c.proofs.relative.RelativizeCall.call.Goals as goal

pub returns-clause-made : goal.returns-clause-made
returns-clause-made c =
    let call = c.args.self.now in
    c.batch_result.ensures.made _
    (relativize_result call.kind call.options call.bytes.now c.args.text.now)
    (subst (λ (r : Returned). IsReturnedAs reference_text r c.reference.result)
    (reference_by-is-relativize_result call.kind call.options call.bytes.now call.base
    c.args.text.now c.requires) c.reference.ensures)

pub returns-clause-memory : goal.returns-clause-memory
returns-clause-memory c =
    let call = c.args.self.now in
    c.batch_result.ensures.memory _
    (relativize_result call.kind call.options call.bytes.now c.args.text.now)
    (relativize_result-is-other call.kind call.options call.bytes.now c.args.text.now)
    (subst (λ (r : Returned). IsReturnedAs reference_text r c.reference.result)
    (reference_by-is-relativize_result call.kind call.options call.bytes.now call.base
    c.args.text.now c.requires) c.reference.ensures)
