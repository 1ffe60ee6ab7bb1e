use Rattle.uri_ops.proofs.Common.{◌++◌, cond, [], None, Some, inr, ap, sym, ◌∙◌, codes, segments_left}
use Rattle.uri_ops.proofs.FromEnd.SegmentsLeft.{absolute-path-is-not-empty, cut-at-last-slash, removing-dots-leaves-segments_left}
use Rattle.uri_ops.proofs.read_back.segments_back.ends_in_dot_segment.Goals as goal

pub returns-in-Some : goal.returns-in-Some
returns-in-Some c =
    let at = cut-at-last-slash c.args.path.now (inr c.requires)
    (Some (c.in-Some.field-0-0, c.in-Some.last)) c.in-Some.ensures.cases in
    rw at.whole (removing-dots-leaves-segments_left c.in-Some.field-0-0.now
    at.rooted c.in-Some.last.now at.free) ∙ ap (λ b. segments_left c.args.path.now
    ++ cond b (codes "/") []) (sym c.is_dot_segment.ensures)

pub returns-in-None : goal.returns-in-None
returns-in-None c = absurd (absolute-path-is-not-empty c.args.path.now c.requires
    (cut-at-last-slash c.args.path.now (inr c.requires) None c.in-None.ensures.cases))
