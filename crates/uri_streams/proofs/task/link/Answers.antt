use Rattle.uri_streams.proofs.Common.{arith, ap, ◌∙◌, result_in}
use Rattle.fluent_uri.specs.Uris.{uri_text}
use Rattle.uri_links.specs.Registers.{texts_of}
use Rattle.uri_streams.proofs.Tasks.{link_result-of-outcome, link_result-of-error}
use Rattle.uri_streams.specs.declared.line_result.LineResult.{LineResult as Returned}
use Rattle.uri_streams.proofs.task.link.Goals as goal

pub returns-in-Ok-clause-output : goal.returns-in-Ok-clause-output
returns-in-Ok-clause-output c = grind (arith, link_result-of-outcome)

pub returns-in-Err-clause-output : goal.returns-in-Err-clause-output
returns-in-Err-clause-output c = λ set rules.
    ap (λ (line : Returned). (result_in line, texts_of c.args.register.now)) c.refused.ensures
    ∙ link_result-of-error set (uri_text c.args.base.now) (texts_of c.args.register.now)
    c.args.text.now c.in-Err.error (λ of_kind. cc (c.in-Err.ensures.accepts.1 of_kind))
    c.in-Err.ensures.refused
