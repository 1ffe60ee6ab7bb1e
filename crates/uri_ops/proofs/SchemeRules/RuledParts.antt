-- The authority and the path that the rules of schemes leave of a text.
use Rattle.uri_ops.proofs.Common.{arith, ◌≡◌, ℕ, Bool, List, ap, Option, Components, components, Kind, IsTextOf, HasComponentSets, run, underflows, components_meaning, ruled_components, ruled_path, normal_text, path_underflows, Rules, meaning_under, common_steps}
use Rattle.uri_ops.proofs.Normal.NormalTexts.{text-has-parts-of-kind}
use Rattle.uri_ops.proofs.SchemeRules.RuledTexts.{ruled_components-have-meaning-under}

pub ruled_components-have-normal-text : (kind : Kind) (rules : Rules) → HasComponentSets kind
    → (text : List ℕ) → IsTextOf kind text → normal_text (components_meaning kind rules.ports
    (ruled_components kind rules (components text))) ≡ normal_text (meaning_under kind rules text)
ruled_components-have-normal-text kind rules sets text w =
    ap normal_text (ruled_components-have-meaning-under kind rules sets (components text)
    (text-has-parts-of-kind kind text w).path)

-- rules: the removal of dot segments underflows exactly as before
ruled-path-underflows-alike : (scheme : Option (List ℕ)) (rooted after : Bool) (path : List ℕ)
    → path_underflows scheme (ruled_path rooted after path) ≡ path_underflows scheme path
unfolding underflows run
ruled-path-underflows-alike scheme rooted after path = grind (arith, common_steps)

pub ruled-components-underflow-alike : (kind : Kind) (rules : Rules) (p : Components)
    → path_underflows p.scheme (ruled_components kind rules p).path
    ≡ path_underflows p.scheme p.path
ruled-components-underflow-alike kind rules p = grind (arith, ruled-path-underflows-alike)
