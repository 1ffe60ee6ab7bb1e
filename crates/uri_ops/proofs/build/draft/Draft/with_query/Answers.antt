use Rattle.uri_ops.proofs.Common.{◌++◌, length, codes, Some, with_query}
use Rattle.uri_ops.proofs.Builders.BuilderDrafts.{change-of-draft-by-appending, draft-with-query}
use Rattle.uri_ops.proofs.build.draft.Draft.with_query.Goals as goal

pub appended-requires : goal.appended-requires
appended-requires c = λ e. (draft-with-query c.args.self c.args.query.now c.requires e).draft

pub returns-clause-adds : goal.returns-clause-adds
returns-clause-adds c =
    change-of-draft-by-appending (with_query c.args.query.now) c.args.self c.appended.result
    (record c.args.self.lengths { query = Some (length c.args.query.now) }) (codes "?"
    ++ c.args.query.now) c.appended.ensures.kept c.appended.ensures.lengths c.appended.ensures.text
    (λ e. (draft-with-query c.args.self c.args.query.now c.requires e).parts)
