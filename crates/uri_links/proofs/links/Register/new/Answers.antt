use Rattle.uri_links.proofs.Common.{ap, map, uri_text}
use Rattle.uri_links.proofs.Texts.{no-texts-are-distinct}
use Rattle.uri_links.proofs.links.Register.new.Goals as goal

pub invariant_of-result-clause-distinct : goal.invariant_of-result-clause-distinct
invariant_of-result-clause-distinct g c = no-texts-are-distinct _
    (ap (map uri_text) c.new.ensures.items)
