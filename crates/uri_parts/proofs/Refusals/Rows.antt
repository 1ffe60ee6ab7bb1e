-- The errors of some texts, by the definition alone.
use Rattle.uri_parts.proofs.Common.{◌≡◌, map, refl, uri, uri_ref, refusal}
use Rattle.uri_parts.specs.RefusalRows.{uri_ref_rows, uri_rows}
use Rattle.uri_parts.proofs.Refusals.OnLiterals.{errors_on_literals}

-- parse errors: the stored examples of URI references have the errors that their rows say
pub uri_ref_rows_have_their_errors : map (λ row. refusal uri_ref row.0) uri_ref_rows
    ≡ map (λ row. row.1) uri_ref_rows
unfolding errors_on_literals
uri_ref_rows_have_their_errors = refl

pub uri_rows_have_their_errors : map (λ row. refusal uri row.0) uri_rows
    ≡ map (λ row. row.1) uri_rows
unfolding errors_on_literals
uri_rows_have_their_errors = refl
