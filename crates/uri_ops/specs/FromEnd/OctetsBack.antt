-- What is left of a component of a normal text that is read from its end.
use Rattle.std.specs.Prelude.{ℕ, List, ◌++◌}
use Rattle.uri_pct.specs.Prelude.{set_of}
use Rattle.uri_ops.specs.FromEnd.Held.{held_text}
use Rattle.uri_ops.specs.FromEnd.NormalComponents.{normal_component}
use Rattle.uri_ops.specs.declared.read_back.octets_back.OctetsBack.{OctetsBack}

-- what is left of a component: the normal text of what is before a token, and what is left of the
-- text of that token
abbrev pub octets_unread : OctetsBack → List ℕ
octets_unread component =
    normal_component component.lowers (set_of component.table) component.rest.now
    ++ held_text component.held
