use Rattle.uri_commands.proofs.Common.{◌++◌, ap, sym, ◌∙◌, take_rest}
use Rattle.uri_commands.proofs.Prefixes.{AppendsPrefix-of-appended, AppendsPrefix-of-appended-then-kept, Appends-of-one-more-write}
use Rattle.uri_commands.proofs.sink.write_whole.Goals as goal

pub returns-in_err-taken-clause-prefix : goal.returns-in_err-taken-clause-prefix
returns-in_err-taken-clause-prefix g c =
    let i = c.loop-rest.invariant in AppendsPrefix-of-appended-then-kept _ _ _ _ _ _ i.1
    c.in_err-taken.ensures.bytes i.2

pub loop-rest-preserved : goal.loop-rest-preserved
loop-rest-preserved g c =
    let i = c.loop-rest.invariant in
    let more = Appends-of-one-more-write _ _ _ _ _ _ _ i.1 c.in_ok-taken.ensures.bytes i.2 in
    (more.0, more.1, more.2 ∙ ap (λ l. more.0 ++ l) (sym (take_rest _ c.in_ok-taken.taken)))

pub returns-clause-prefix : goal.returns-clause-prefix
returns-clause-prefix g c =
    let i = c.loop-rest.invariant in AppendsPrefix-of-appended _ _ _ _ _ i.1 i.2
