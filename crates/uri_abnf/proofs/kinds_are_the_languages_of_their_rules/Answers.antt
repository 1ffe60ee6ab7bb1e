use Rattle.uri_abnf.proofs.Languages.{uri-characters-are-language, uri-reference-characters-are-language, iris-are-language, iri-references-are-language}
use Rattle.uri_abnf.proofs.kinds_are_the_languages_of_their_rules.Goals as goal

pub returns-clause-uri : goal.returns-clause-uri
returns-clause-uri c = uri-characters-are-language

pub returns-clause-uri_ref : goal.returns-clause-uri_ref
returns-clause-uri_ref c = uri-reference-characters-are-language

pub returns-clause-iri : goal.returns-clause-iri
returns-clause-iri c = iris-are-language

pub returns-clause-iri_ref : goal.returns-clause-iri_ref
returns-clause-iri_ref c = iri-references-are-language
