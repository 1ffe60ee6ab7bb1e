use Rattle.uri_ops.proofs.Common.{uri_is_uri_ref, iri_is_iri_ref}
use Rattle.uri_ops.proofs.TextKinds.Conversions.{uri_is_iri, uri_ref_is_iri_ref}
use Rattle.uri_ops.proofs.convert.uris_are_iris.Goals as goal

pub returns-clause-uri : goal.returns-clause-uri
returns-clause-uri c = λ text u h. uri_is_iri text u h

pub returns-clause-uri_ref : goal.returns-clause-uri_ref
returns-clause-uri_ref c = λ text u h. uri_ref_is_iri_ref text u h

pub returns-clause-reference : goal.returns-clause-reference
returns-clause-reference c = λ text h. uri_is_uri_ref text h

pub returns-clause-iri_reference : goal.returns-clause-iri_reference
returns-clause-iri_reference c = λ text h. iri_is_iri_ref text h
