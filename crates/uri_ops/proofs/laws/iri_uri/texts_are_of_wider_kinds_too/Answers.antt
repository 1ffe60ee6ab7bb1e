use Rattle.uri_ops.proofs.TextKinds.WiderKinds.{text-is-of-wider-kind, ascii_kind-is-within-kind, kind-with-scheme-is-within-kind}
use Rattle.uri_ops.proofs.Common.{uri_ref, iri_ref}
use Rattle.uri_ops.proofs.laws.iri_uri.texts_are_of_wider_kinds_too.Goals as goal

pub returns-clause-wider : goal.returns-clause-wider
returns-clause-wider c = λ kind wide text sets w x. text-is-of-wider-kind kind wide sets w text x

pub returns-clause-uri : goal.returns-clause-uri
returns-clause-uri c = λ kind. ascii_kind-is-within-kind kind

pub returns-clause-reference : goal.returns-clause-reference
returns-clause-reference c =
    (kind-with-scheme-is-within-kind uri_ref, kind-with-scheme-is-within-kind iri_ref)
