use Rattle.uri_ops.proofs.Common.{codes, subst, sym, IsValidFor}
use Rattle.uri_ops.proofs.Meanings.AllowedParts.{set-text-is-valid}
use Rattle.uri_ops.proofs.SchemeRules.RuledTexts.{slash-is-set-text}
use Rattle.uri_ops.proofs.normalize.ruled_parts.ruled_path.Goals as goal

pub new_or_panic-requires : goal.new_or_panic-requires
new_or_panic-requires g c =
    let set = g.K.Kind.kind.path in
    subst (λ set. IsValidFor set (codes "/")) (sym g.met.K.Kind.path_set)
    (set-text-is-valid set (codes "/") (slash-is-set-text set c.requires.slash))
