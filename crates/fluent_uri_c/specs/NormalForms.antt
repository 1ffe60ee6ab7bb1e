-- The normal form that a call for C has found or made.
use Rattle.std.specs.Prelude.{ℕ, List}
use Rattle.fluent_uri.specs.Prelude.{reference_text}
use Rattle.fluent_uri_c.specs.declared.normal_forms.NormalForm.{NormalForm}
use Rattle.fluent_uri_c.specs.declared.normal_forms.NormalForm.TheVariants.{Made, Unchanged}

-- the text of a normal form: that of the value which was normalised, or a new one
abbrev pub normal_form_text : NormalForm → List ℕ
normal_form_text (Unchanged value) = reference_text value
normal_form_text (Made value) = reference_text value
