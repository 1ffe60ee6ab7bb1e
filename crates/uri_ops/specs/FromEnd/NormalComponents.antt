-- The normal text of a component: RFC 3986, sections 6.2.2.1 and 6.2.2.2; RFC 3987, sections 4.1
-- and 5.3.2.3.
use Rattle.std.specs.Prelude.{ℕ, Bool, List}
use Rattle.uri_pct.specs.Prelude.{TableSet, decode_unreserved, print}
use Rattle.uri_ops.specs.Models.Decodings.{lowered_if}

-- the normal text of a component, with its letters in lower case if `lowers`
abbrev pub normal_component : Bool → TableSet → List ℕ → List ℕ
normal_component lowers set text = print (lowered_if lowers (decode_unreserved set text))
