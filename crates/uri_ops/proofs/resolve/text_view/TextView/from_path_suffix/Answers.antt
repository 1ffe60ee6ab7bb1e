use Rattle.uri_ops.proofs.Common.{[], ap, sym, subst, ◌++◌, ◌∙◌, codes, components, marked, EndsIn}
use Rattle.uri_ops.proofs.Targeting.TextViews.{from_path_suffix}
use Rattle.uri_ops.proofs.resolve.text_view.TextView.from_path_suffix.Goals as goal

pub range_from-requires : goal.range_from-requires
range_from-requires c =
    let rest = c.args.rest.now in
    λ _. (from_path_suffix c.as_str-text.result.now c.unpack-positions.result
    c.as_str-text.utf8 c.unpack-positions.ensures rest (subst (λ t. EndsIn (components t).path rest)
    (sym c.as_str-text.ensures.text) c.requires) c.utf8.rest).1

pub returns : goal.returns
returns c =
    let rest = c.args.rest.now in
    c.range_from.ensures.value ∙ (from_path_suffix c.as_str-text.result.now
    c.unpack-positions.result c.as_str-text.utf8 c.unpack-positions.ensures rest
    (subst (λ t. EndsIn (components t).path rest) (sym c.as_str-text.ensures.text) c.requires)
    c.utf8.rest).2 ∙ ap (λ t. rest ++ (marked (codes "?") (components t).query []
    ++ marked (codes "#") (components t).fragment [])) c.as_str-text.ensures.text
