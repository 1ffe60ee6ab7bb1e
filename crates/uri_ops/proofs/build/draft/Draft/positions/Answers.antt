use Rattle.uri_ops.proofs.Common.{◌+◌, ◌≤◌, length, sym, subst, ◌∙◌, delimited_len}
use Rattle.uri_ops.proofs.Builders.DraftPositions.{host-end-is-in-authority, host-start-is-in-authority, draft-positions-are-of-its-parts, part-lengths-fit-in-text}
use Rattle.uri_ops.proofs.build.draft.Draft.positions.Goals as goal

pub positions_from_lengths-requires-clause-inside
    : goal.positions_from_lengths-requires-clause-inside
positions_from_lengths-requires-clause-inside c =
    let d = c.args.self.now in
    subst (λ t. delimited_len 1 d.lengths.scheme + delimited_len 2 d.lengths.authority
    + delimited_len 0 d.lengths.path + delimited_len 1 d.lengths.query ≤ length t)
    (sym c.as_str.ensures.value) (part-lengths-fit-in-text d c.requires.whole c.requires.host)

pub positions_from_lengths-requires-clause-host_start
    : goal.positions_from_lengths-requires-clause-host_start
positions_from_lengths-requires-clause-host_start c =
    host-start-is-in-authority c.args.self.now c.requires.whole c.requires.host

pub positions_from_lengths-requires-clause-host_end
    : goal.positions_from_lengths-requires-clause-host_end
positions_from_lengths-requires-clause-host_end c =
    host-end-is-in-authority c.args.self.now c.requires.whole c.requires.host

pub returns : goal.returns
returns c = c.positions_from_lengths.ensures
    ∙ draft-positions-are-of-its-parts c.args.self.now c.requires.whole c.requires.host
