use Rattle.fluent_uri_c.proofs.Common.{subst, reference_text, IsReturnedAs, IsTargetReturned, Returned, resolve_normalized_result, resolve_result}
use Rattle.fluent_uri_c.proofs.ParsedBases.{normal_target_by-is-resolve_normalized_result, target_by-is-resolve_result}
use Rattle.fluent_uri_c.proofs.OtherErrors.{resolve_normalized_result-is-other, resolve_result-is-other}
use Rattle.fluent_uri_c.proofs.calls.ResolveCall.call.Goals as goal

pub returns-then-self-clause-made : goal.returns-then-self-clause-made
returns-then-self-clause-made c =
    let call = c.args.self.now in
    rw c.if-self.true (c.batch_result.ensures.made _
    (resolve_normalized_result call.kind call.options call.bytes.now c.args.text.now)
    (subst (λ (r : Returned). IsReturnedAs reference_text r c.normal_target.result)
    (normal_target_by-is-resolve_normalized_result call.kind call.options call.bytes.now call.base
    c.args.text.now c.requires) c.normal_target.ensures))

pub returns-then-self-clause-memory : goal.returns-then-self-clause-memory
returns-then-self-clause-memory c =
    let call = c.args.self.now in
    rw c.if-self.true (c.batch_result.ensures.memory _
    (resolve_normalized_result call.kind call.options call.bytes.now c.args.text.now)
    (resolve_normalized_result-is-other call.kind call.options call.bytes.now c.args.text.now)
    (subst (λ (r : Returned). IsReturnedAs reference_text r c.normal_target.result)
    (normal_target_by-is-resolve_normalized_result call.kind call.options call.bytes.now call.base
    c.args.text.now c.requires) c.normal_target.ensures))

pub returns-clause-made : goal.returns-clause-made
returns-clause-made c =
    let call = c.args.self.now in
    rw c.if-self.false (c.batch_result-2.ensures.made _
    (resolve_result call.kind call.options call.bytes.now c.args.text.now)
    (subst (λ (r : Returned). IsTargetReturned reference_text r c.target.result)
    (target_by-is-resolve_result call.kind call.options call.bytes.now call.base
    c.args.text.now c.requires) c.target.ensures))

pub returns-clause-memory : goal.returns-clause-memory
returns-clause-memory c =
    let call = c.args.self.now in
    rw c.if-self.false (c.batch_result-2.ensures.memory _
    (resolve_result call.kind call.options call.bytes.now c.args.text.now)
    (resolve_result-is-other call.kind call.options call.bytes.now c.args.text.now)
    (subst (λ (r : Returned). IsTargetReturned reference_text r c.target.result)
    (target_by-is-resolve_result call.kind call.options call.bytes.now call.base
    c.args.text.now c.requires) c.target.ensures))
