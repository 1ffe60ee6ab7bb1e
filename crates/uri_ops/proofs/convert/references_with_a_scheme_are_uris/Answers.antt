use Rattle.uri_ops.proofs.TextKinds.Conversions.{uri_ref_with_scheme_is_uri, iri_ref_with_scheme_is_iri}
use Rattle.uri_ops.proofs.convert.references_with_a_scheme_are_uris.Goals as goal

pub returns-clause-uri : goal.returns-clause-uri
returns-clause-uri c = λ text h. uri_ref_with_scheme_is_uri text h

pub returns-clause-iri : goal.returns-clause-iri
returns-clause-iri c = λ text h. iri_ref_with_scheme_is_iri text h
