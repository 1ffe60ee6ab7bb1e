use Rattle.uri_mend.proofs.Common.{sym, ◌∙◌, subst, string_bytes, IsOfKind, ArePackedPositionsOf, one-of-four-kinds-has-sets}
use Rattle.uri_mend.proofs.MendedPositions.{positions-of-mended-text}
use Rattle.uri_mend.proofs.MendedReferences.{mended-text-is-of-kind}
use Rattle.uri_mend.proofs.MendedResults.{equal-to-mended-text-is-mended}
use Rattle.uri_mend.proofs.mending.mended_link_of.Goals as goal

pub new-requires-clause-of_kind : goal.new-requires-clause-of_kind
new-requires-clause-of_kind g c =
    let kind = g.K.Kind.kind in
    let sets = one-of-four-kinds-has-sets kind g.met.K.Kind.known in
    subst (IsOfKind kind) (sym c.in-Ok.ensures.text)
    (mended-text-is-of-kind kind sets c.args.text.now c.utf8.text c.requires.mendable)

pub new-requires-clause-at : goal.new-requires-clause-at
new-requires-clause-at g c =
    let kind = g.K.Kind.kind in
    let sets = one-of-four-kinds-has-sets kind g.met.K.Kind.known in
    let text = string_bytes c.in-Ok.made.text in
    subst (ArePackedPositionsOf text) (sym c.with_ends-positions.ensures)
    (positions-of-mended-text kind sets c.args.text.now text c.args.link
    c.in-Ok.made.path_end c.in-Ok.made.query_end c.utf8.text c.requires.link c.in-Ok.ensures.text
    c.in-Ok.ensures.path_end c.in-Ok.ensures.query_end)

pub returns-in-Ok-clause-mended : goal.returns-in-Ok-clause-mended
returns-in-Ok-clause-mended g c =
    let kind = g.K.Kind.kind in
    let sets = one-of-four-kinds-has-sets kind g.met.K.Kind.known in
    equal-to-mended-text-is-mended kind sets c.args.text.now c.utf8.text _ c.requires.mendable
    (c.of_core.ensures.text ∙ c.new.ensures.text ∙ c.in-Ok.ensures.text)
