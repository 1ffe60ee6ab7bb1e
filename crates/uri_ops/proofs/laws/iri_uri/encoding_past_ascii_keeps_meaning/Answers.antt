use Rattle.uri_ops.proofs.Common.{refl, no_defaults}
use Rattle.uri_ops.proofs.Theorems.{encoded-text-is-of-ascii_kind, encoding-keeps-meaning_of-text, encoding-keeps-meaning_under-text}
use Rattle.uri_ops.proofs.laws.iri_uri.encoding_past_ascii_keeps_meaning.Goals as goal

pub returns-clause-uri : goal.returns-clause-uri
returns-clause-uri c = refl

pub returns-clause-uri_ref : goal.returns-clause-uri_ref
returns-clause-uri_ref c = refl

pub returns-clause-text : goal.returns-clause-text
returns-clause-text c = λ kind text sets w. encoded-text-is-of-ascii_kind kind sets text w

pub returns-clause-bare : goal.returns-clause-bare
returns-clause-bare c = λ kind text sets w. encoding-keeps-meaning_of-text kind sets
    no_defaults text w

pub returns-clause-meaning : goal.returns-clause-meaning
returns-clause-meaning c = λ kind rules text sets w. encoding-keeps-meaning_under-text kind sets
    rules text w
