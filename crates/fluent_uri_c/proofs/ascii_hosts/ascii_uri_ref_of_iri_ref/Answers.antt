use Rattle.fluent_uri.specs.Grammar.{iri_ref}
use Rattle.fluent_uri_c.proofs.AsciiHosts.{ascii_uri-of-error}
use Rattle.fluent_uri_c.proofs.ascii_hosts.ascii_uri_ref_of_iri_ref.Goals as goal

pub returns-in-Err-clause-text : goal.returns-in-Err-clause-text
returns-in-Err-clause-text c = ascii_uri-of-error iri_ref c.args.bytes.now _ c.in-Err.error _
    c.in_ok-value.ensures.rejected c.in_ok-value.ensures.text c.in-Err.ensures.error c.from.ensures
