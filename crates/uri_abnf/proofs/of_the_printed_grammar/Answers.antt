use Rattle.uri_abnf.proofs.Common.{List, ℕ, sym, subst, ◌↔◌, IsUtf8, Kind, IsOfKind, IsOf, start_rule}
use Rattle.uri_abnf.proofs.Languages.{texts-of-kind-are-of-rule}
use Rattle.uri_abnf.proofs.of_the_printed_grammar.Goals as goal

pub returns : goal.returns
returns g c =
    let kind = g.K.Kind.kind in
    subst (λ (k : Kind). (text : List ℕ) → IsUtf8 text
    → (IsOfKind k text ↔ IsOf (start_rule k) text))
    (sym g.met.K.Kind.known) (texts-of-kind-are-of-rule kind.path.ucschar kind.needs_scheme)
