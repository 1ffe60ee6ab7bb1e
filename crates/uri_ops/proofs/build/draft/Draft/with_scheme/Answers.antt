use Rattle.uri_ops.proofs.Common.{common_steps, arith, with_scheme}
use Rattle.uri_ops.proofs.Builders.BuilderDrafts.{change-of-draft-by-appending, draft-with-scheme}
use Rattle.uri_ops.proofs.build.draft.Draft.with_scheme.Goals as goal

pub appended-requires : goal.appended-requires
appended-requires c = λ e. (draft-with-scheme c.args.self c.args.scheme.now c.requires e).draft

pub returns-clause-adds : goal.returns-clause-adds
returns-clause-adds c =
    grind (arith, common_steps, change-of-draft-by-appending, with_scheme, draft-with-scheme)
