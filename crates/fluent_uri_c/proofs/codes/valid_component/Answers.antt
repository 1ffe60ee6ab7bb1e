use Rattle.fluent_uri_c.proofs.Common.{and_parts, is_text_for}
use Rattle.fluent_uri_c.proofs.codes.valid_component.Goals as goal

pub new_or_panic-requires : goal.new_or_panic-requires
unfolding is_text_for
new_or_panic-requires g c =
    rw (c.in_ok-text.ensures.text, ← c.table.ensures) (and_parts _ _ c.in_ok-text.ensures.valid).1
