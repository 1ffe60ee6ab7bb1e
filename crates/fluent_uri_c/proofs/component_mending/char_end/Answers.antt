use Rattle.uri_mend.proofs.Offered.{boundary-after-char}
use Rattle.fluent_uri_c.proofs.component_mending.char_end.Goals as goal

pub returns-clause-boundary : goal.returns-clause-boundary
returns-clause-boundary c = boundary-after-char c.args.text.now c.args.at c.char_at.result
    c.len_utf8.result c.utf8.text c.requires c.char_at.ensures c.len_utf8.ensures.value
