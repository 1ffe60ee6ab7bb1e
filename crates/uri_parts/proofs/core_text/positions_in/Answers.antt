use Rattle.uri_parts.proofs.Common.{sym, ap, ◌∙◌, is_ok, false≢true}
use Rattle.uri_parts.proofs.core_text.positions_in.Goals as goal

pub unreachable-requires : goal.unreachable-requires
unreachable-requires g c =
    false≢true (sym (ap is_ok c.in-Err.is) ∙ c.parse.ensures.accepts.1 c.requires)
