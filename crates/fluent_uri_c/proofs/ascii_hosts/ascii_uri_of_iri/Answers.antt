use Rattle.fluent_uri.specs.Grammar.{iri}
use Rattle.fluent_uri_c.proofs.AsciiHosts.{ascii_uri-of-error}
use Rattle.fluent_uri_c.proofs.ascii_hosts.ascii_uri_of_iri.Goals as goal

pub returns-in-Err-clause-text : goal.returns-in-Err-clause-text
returns-in-Err-clause-text c = ascii_uri-of-error iri c.args.bytes.now _ c.in-Err.error _
    c.in_ok-iri.ensures.rejected c.in_ok-iri.ensures.text c.in-Err.ensures.error c.from.ensures
