use Rattle.uri_abnf.proofs.Common.{true, refl, uri, iri, uri_rules, iri_rules}
use Rattle.uri_ops.proofs.Offered.{uris-are-texts-of-grammar, iris-are-texts-of-grammar}
use Rattle.uri_abnf.proofs.BothRfcs.{uri-rules-fit, iri-rules-fit}
use Rattle.uri_abnf.proofs.Languages.{absolute-texts}
use Rattle.uri_abnf.proofs.absolute_rules_have_no_fragment.Goals as goal

pub returns-clause-uri : goal.returns-clause-uri
returns-clause-uri c = absolute-texts uri_rules uri
    (uri-rules-fit true) uris-are-texts-of-grammar refl

pub returns-clause-iri : goal.returns-clause-iri
returns-clause-iri c = absolute-texts iri_rules iri
    (iri-rules-fit true) iris-are-texts-of-grammar refl
