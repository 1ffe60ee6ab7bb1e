use Rattle.error_laws.proofs.KindFacts.{facts-of-four-kinds}
use Rattle.error_laws.proofs.Whole.{late-error-begins-no-text}
use Rattle.error_laws.proofs.Common.{uri, uri_ref, iri, iri_ref, false, true}
use Rattle.error_laws.proofs.what_is_before_a_late_error_begins_no_text.Goals as goal

pub returns-clause-uri : goal.returns-clause-uri
returns-clause-uri c = λ text e u r late. late-error-begins-no-text uri
    (facts-of-four-kinds false true) text u e late r

pub returns-clause-uri_ref : goal.returns-clause-uri_ref
returns-clause-uri_ref c = λ text e u r late. late-error-begins-no-text uri_ref
    (facts-of-four-kinds false false) text u e late r

pub returns-clause-iri : goal.returns-clause-iri
returns-clause-iri c = λ text e u r late. late-error-begins-no-text iri
    (facts-of-four-kinds true true) text u e late r

pub returns-clause-iri_ref : goal.returns-clause-iri_ref
returns-clause-iri_ref c = λ text e u r late. late-error-begins-no-text iri_ref
    (facts-of-four-kinds true false) text u e late r
