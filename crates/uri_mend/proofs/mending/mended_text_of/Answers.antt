use Rattle.uri_mend.proofs.Common.{arith, ◌++◌, drop, sym, ap, ◌∙◌, subst, IsUtf8, one-of-four-kinds-has-sets, mended_tail}
use Rattle.uri_mend.proofs.MendedResults.{length-of-start, mended-text-of-link-is-utf8, pieces-are-mended-text, start-of-mended-text}
use Rattle.uri_mend.proofs.mending.mended_text_of.Goals as goal

pub finished-requires-clause-utf8 : goal.finished-requires-clause-utf8
finished-requires-clause-utf8 g c =
    let kind = g.K.Kind.kind in
    let sets = one-of-four-kinds-has-sets kind g.met.K.Kind.known in
    let text = c.args.text.now in
    let link = c.args.link in
    subst IsUtf8 (sym (c.in_ok-tail.ensures.text ∙ ap
    (λ t. t ++ mended_tail kind (drop link.path_start text)) (start-of-mended-text text
    c.in_ok-out.out.items c.in_ok-out.at link.path_start link.has_false_scheme
    c.in_ok-out.ensures.text) ∙ pieces-are-mended-text kind sets text link c.requires.link))
    (mended-text-of-link-is-utf8 kind sets text c.utf8.text c.requires.mendable)

pub returns-clause-text : goal.returns-clause-text
returns-clause-text g c =
    let kind = g.K.Kind.kind in
    let sets = one-of-four-kinds-has-sets kind g.met.K.Kind.known in
    let text = c.args.text.now in
    let link = c.args.link in
    c.in_ok-finished.ensures ∙ c.in_ok-tail.ensures.text ∙ ap
    (λ t. t ++ mended_tail kind (drop link.path_start text)) (start-of-mended-text text
    c.in_ok-out.out.items c.in_ok-out.at link.path_start link.has_false_scheme
    c.in_ok-out.ensures.text) ∙ pieces-are-mended-text kind sets text link c.requires.link

pub returns-clause-path_end : goal.returns-clause-path_end
returns-clause-path_end g c = grind (arith, start-of-mended-text, length-of-start)
