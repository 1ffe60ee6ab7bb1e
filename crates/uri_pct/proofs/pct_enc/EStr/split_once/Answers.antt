use Rattle.uri_pct.proofs.Common.{Some, None, arith}
use Rattle.uri_pct.proofs.ValidTexts.Delimiters.{split_once_cuts_at_first}
use Rattle.uri_pct.proofs.ValidTexts.TokenCuts.{reserved_is_never_in_octet, valid_before_mark, valid_after_mark}
use Rattle.uri_pct.proofs.pct_enc.EStr.split_once.Goals as goal

pub returns-in_err-before : goal.returns-in_err-before
returns-in_err-before g c =
    let mark = reserved_is_never_in_octet c.args.delimiter c.requires in
    rw (c.from_residual.ensures, ← c.as_str.ensures.text) (split_once_cuts_at_first
    c.args.delimiter c.as_str.result.now None c.in_err-before.ensures.cases mark.ascii)

pub new_or_panic-requires : goal.new_or_panic-requires
new_or_panic-requires g c =
    let mark = reserved_is_never_in_octet c.args.delimiter c.requires in
    let cut = split_once_cuts_at_first c.args.delimiter c.as_str.result.now
    (Some (c.in_ok-before.before, c.in_ok-before.after)) c.in_ok-before.ensures.cases mark.ascii in
    grind (arith, valid_before_mark)

pub new_or_panic-requires-2 : goal.new_or_panic-requires-2
new_or_panic-requires-2 g c =
    let mark = reserved_is_never_in_octet c.args.delimiter c.requires in
    let cut = split_once_cuts_at_first c.args.delimiter c.as_str.result.now
    (Some (c.in_ok-before.before, c.in_ok-before.after)) c.in_ok-before.ensures.cases mark.ascii in
    grind (arith, valid_after_mark)

pub returns : goal.returns
returns g c =
    let mark = reserved_is_never_in_octet c.args.delimiter c.requires in
    let cut = split_once_cuts_at_first c.args.delimiter c.as_str.result.now
    (Some (c.in_ok-before.before, c.in_ok-before.after)) c.in_ok-before.ensures.cases mark.ascii in
    rw (c.new_or_panic.ensures, c.new_or_panic-2.ensures, ← c.as_str.ensures.text) cut
