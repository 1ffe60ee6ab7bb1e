use Rattle.uri_parts.proofs.Common.{cond, Some, None, sym, ap, ◌∙◌}
use Rattle.uri_parts.proofs.Refusals.Digits.{parsed-octet-ends-at-octet_end}
use Rattle.uri_parts.proofs.ip_literal.octet_end.Goals as goal

pub returns-else-is_octet-clause-exact : goal.returns-else-is_octet-clause-exact
returns-else-is_octet-clause-exact c = ap (λ t. cond t (Some c.digits_end-end.result) None)
    (sym (sym c.is_ok-is_octet.ensures.value ∙ c.if-is_octet.false))
    ∙ parsed-octet-ends-at-octet_end _ _ _ _ _ c.digits_end-end.ensures.exact
    c.digits_end-end.ensures.boundary.0 c.range.ensures.value c.parse.ensures.value.0
    (sym c.next_is.ensures.value ∙ c.if-next_is.false)
