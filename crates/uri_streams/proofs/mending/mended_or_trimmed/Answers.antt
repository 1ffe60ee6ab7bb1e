use Rattle.uri_streams.proofs.Common.{◌≡◌, false, string_bytes, subst, has_output_failed, kind_named}
use Rattle.uri_streams.proofs.MendedLines.{mended_link-of-mended, mended_link-of-trimmed}
use Rattle.uri_streams.proofs.mending.mended_or_trimmed.Goals as goal

pub returns-in-Ok : goal.returns-in-Ok
returns-in-Ok c = mended_link-of-mended (kind_named c.args.kind) c.args.text.now
    (string_bytes c.in-Ok.link) c.in-Ok.ensures.mendable c.in-Ok.ensures.text

pub returns-in-Err : goal.returns-in-Err
returns-in-Err c = mended_link-of-trimmed c.args.kind c.args.text.now c.in-Err.error
    c.trimmed.result c.in-Err.ensures.refused
    (subst (λ r. has_output_failed r ≡ false) c.in-Err.is c.mended.ensures.unwritten)
    c.trimmed.ensures.text c.trimmed.ensures.some
