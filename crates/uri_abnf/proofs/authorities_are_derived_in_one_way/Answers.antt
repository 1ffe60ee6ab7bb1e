use Rattle.uri_abnf.proofs.Common.{true, uri, iri, uri_rules, iri_rules}
use Rattle.uri_abnf.proofs.BothRfcs.{uri-rules-fit, iri-rules-fit}
use Rattle.uri_abnf.proofs.PartRules.{authority-is-derived, authority-derivations-are-unique}
use Rattle.uri_abnf.proofs.authorities_are_derived_in_one_way.Goals as goal

pub returns-clause-uri : goal.returns-clause-uri
returns-clause-uri c = authority-is-derived uri_rules uri (uri-rules-fit true)

pub returns-clause-iri : goal.returns-clause-iri
returns-clause-iri c = authority-is-derived iri_rules iri (iri-rules-fit true)

pub returns-clause-uri_components : goal.returns-clause-uri_components
returns-clause-uri_components c = authority-derivations-are-unique uri_rules uri
    (uri-rules-fit true)

pub returns-clause-iri_components : goal.returns-clause-iri_components
returns-clause-iri_components c = authority-derivations-are-unique iri_rules iri
    (iri-rules-fit true)
