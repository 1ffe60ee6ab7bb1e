use Rattle.uri_ops.proofs.Common.{common_steps, arith, with_authority}
use Rattle.uri_ops.proofs.Builders.BuilderDrafts.{change-of-draft-by-appending, draft-with-authority}
use Rattle.uri_ops.proofs.build.draft.Draft.with_authority.Goals as goal

pub appended-requires : goal.appended-requires
appended-requires c = λ e.
    (draft-with-authority c.args.self c.args.authority.now c.requires e).draft

pub returns-clause-adds : goal.returns-clause-adds
returns-clause-adds c =
    grind (arith, common_steps, change-of-draft-by-appending, with_authority, draft-with-authority)
