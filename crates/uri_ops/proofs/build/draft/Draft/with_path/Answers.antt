use Rattle.uri_ops.proofs.Common.{length, Some, with_path}
use Rattle.uri_ops.proofs.Builders.BuilderDrafts.{change-of-draft-by-appending, draft-with-path}
use Rattle.uri_ops.proofs.build.draft.Draft.with_path.Goals as goal

pub appended-requires : goal.appended-requires
appended-requires c = λ e. (draft-with-path c.args.self c.args.path.now c.requires e).draft

pub returns-clause-adds : goal.returns-clause-adds
returns-clause-adds c = change-of-draft-by-appending (with_path c.args.path.now) c.args.self
    c.appended.result (record c.args.self.lengths { path = Some (length c.args.path.now) })
    (c.args.path.now) c.appended.ensures.kept c.appended.ensures.lengths c.appended.ensures.text
    (λ e. (draft-with-path c.args.self c.args.path.now c.requires e).parts)
