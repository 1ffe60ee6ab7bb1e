use Rattle.fluent_uri_c.proofs.Common.{ap, option_map}
use Rattle.fluent_uri_c.proofs.AsciiHosts.{authority-error-is-defined, host-without-authority-is-empty}
use Rattle.fluent_uri_c.proofs.ascii_hosts.host_in_ascii.Goals as goal

pub returns-in-None : goal.returns-in-None
returns-in-None g c = host-without-authority-is-empty _ (ap (option_map _) c.in-None.is)

pub returns-in-Err : goal.returns-in-Err
returns-in-Err g c = authority-error-is-defined _ _ c.in-Err.error _
    (ap (option_map _) c.in-Some.is) c.in-Err.ensures.error c.from.ensures
