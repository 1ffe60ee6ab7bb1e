use Rattle.uri_ops.proofs.TextKinds.Conversions.{ascii_iri_is_uri, ascii_iri_ref_is_uri_ref, ascii_iri_ref_with_scheme_is_uri}
use Rattle.uri_ops.proofs.convert.ascii_iris_are_uris.Goals as goal

pub returns-clause-uri : goal.returns-clause-uri
returns-clause-uri c = λ text u h. ascii_iri_is_uri text u h

pub returns-clause-uri_ref : goal.returns-clause-uri_ref
returns-clause-uri_ref c = λ text u h. ascii_iri_ref_is_uri_ref text u h

pub returns-clause-both : goal.returns-clause-both
returns-clause-both c = λ text u h. ascii_iri_ref_with_scheme_is_uri text u h
