use Rattle.uri_parts.proofs.Refusals.Rows.{uri_ref_rows_have_their_errors, uri_rows_have_their_errors}
use Rattle.uri_parts.proofs.laws.example_texts_have_their_errors.Goals as goal

pub returns-clause-references : goal.returns-clause-references
returns-clause-references c = uri_ref_rows_have_their_errors

pub returns-clause-uris : goal.returns-clause-uris
returns-clause-uris c = uri_rows_have_their_errors
