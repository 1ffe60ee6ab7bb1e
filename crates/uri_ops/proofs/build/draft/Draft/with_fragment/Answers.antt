use Rattle.uri_ops.proofs.Common.{◌++◌, length, codes, Some, with_fragment}
use Rattle.uri_ops.proofs.Builders.BuilderDrafts.{change-of-draft-by-appending, draft-with-fragment}
use Rattle.uri_ops.proofs.build.draft.Draft.with_fragment.Goals as goal

pub appended-requires : goal.appended-requires
appended-requires c = λ e. (draft-with-fragment c.args.self c.args.fragment.now c.requires e).draft

pub returns-clause-adds : goal.returns-clause-adds
returns-clause-adds c = change-of-draft-by-appending (with_fragment c.args.fragment.now) c.args.self
    c.appended.result (record c.args.self.lengths { fragment = Some (length c.args.fragment.now) })
    (codes "#" ++ c.args.fragment.now)
    c.appended.ensures.kept c.appended.ensures.lengths c.appended.ensures.text
    (λ e. (draft-with-fragment c.args.self c.args.fragment.now c.requires e).parts)
