use Rattle.fluent_uri_c.proofs.Common.{arith, normal_form_of}
use Rattle.fluent_uri_c.proofs.normal_forms.is_own_normal_form.Goals as goal

pub returns : goal.returns
unfolding normal_form_of
returns g c = grind arith
