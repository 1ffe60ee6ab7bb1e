use Rattle.uri_streams.proofs.Common.{◌≡◌, false, string_bytes, subst, has_output_failed, kind_named}
use Rattle.uri_streams.proofs.MendedLines.{mend_result-of-mended, mend_result-of-returned-error}
use Rattle.uri_streams.proofs.mending.mend.Goals as goal

pub returns-in-Ok : goal.returns-in-Ok
returns-in-Ok c = mend_result-of-mended (kind_named c.args.kind) c.args.text.now
    (string_bytes c.in-Ok.link) (c.in-Ok.ensures.mendable, c.in-Ok.ensures.text)

pub returns-in-Err : goal.returns-in-Err
returns-in-Err c = mend_result-of-returned-error c.args.kind c.args.text.now c.in-Err.error
    c.mend_error_result.result c.in-Err.ensures.refused
    (subst (λ r. has_output_failed r ≡ false) c.in-Err.is c.mended.ensures.unwritten)
    c.mend_error_result.ensures.output c.mend_error_result.ensures.some
