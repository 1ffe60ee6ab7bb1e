use Rattle.uri_abnf.proofs.Common.{false, uri_ref, iri_ref, uri_rules, iri_rules}
use Rattle.uri_abnf.proofs.BothRfcs.{uri-rules-fit, iri-rules-fit}
use Rattle.uri_abnf.proofs.KindRules.{derived-components-are-unique, reference-is-derived}
use Rattle.uri_abnf.proofs.components_are_derived_in_one_way.Goals as goal

pub returns-clause-uri : goal.returns-clause-uri
returns-clause-uri c = reference-is-derived uri_rules uri_ref (uri-rules-fit false)

pub returns-clause-iri : goal.returns-clause-iri
returns-clause-iri c = reference-is-derived iri_rules iri_ref (iri-rules-fit false)

pub returns-clause-uri_components : goal.returns-clause-uri_components
returns-clause-uri_components c = derived-components-are-unique uri_rules uri_ref
    (uri-rules-fit false)

pub returns-clause-iri_components : goal.returns-clause-iri_components
returns-clause-iri_components c = derived-components-are-unique iri_rules iri_ref
    (iri-rules-fit false)
