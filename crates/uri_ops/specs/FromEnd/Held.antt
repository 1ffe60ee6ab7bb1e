-- The text of a token that is read from its end.
use Rattle.std.specs.Prelude.{ℕ, List, take}
use Rattle.uri_ops.specs.declared.read_back.held.Held.{Held}

-- what is left of the text that is held
abbrev pub held_text : Held → List ℕ
held_text held = take held.len held.bytes
