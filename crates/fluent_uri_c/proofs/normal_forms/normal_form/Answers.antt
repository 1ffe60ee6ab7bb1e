use Rattle.fluent_uri_c.proofs.Common.{arith, ◌∙◌, ap, sym, Ok}
use Rattle.fluent_uri_c.proofs.Targets.{normal_result-of-normal-form, normal_result-of-own-form}
use Rattle.fluent_uri_c.proofs.normal_forms.normal_form.Goals as goal

pub returns-then-is_own_normal_form : goal.returns-then-is_own_normal_form
returns-then-is_own_normal_form g c = grind (arith, normal_result-of-own-form)

pub returns : goal.returns
returns g c = normal_result-of-normal-form _ _ _ _ _ c.in_ok-value.ensures.rejected
    c.in_ok-value.ensures.text c.in_ok-normalized.ensures ∙ ap Ok (sym c.made.ensures)
