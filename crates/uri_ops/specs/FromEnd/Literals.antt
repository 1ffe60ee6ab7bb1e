-- Texts that normalising copies, or writes in lower case.
use Rattle.std.specs.Prelude.{ℕ, Bool, List, if◌then◌else◌}
use Rattle.std.specs.Str.{str_to_ascii_lowercase}
use Rattle.uri_ops.specs.declared.read_back.literal_back.LiteralBack.{LiteralBack}

-- the text, with its ASCII letters in lower case if `lowers`
abbrev pub cased : Bool → List ℕ → List ℕ
cased lowers text = if lowers then str_to_ascii_lowercase text else text

-- what is left of a text that is read from its end
abbrev pub literal_unread : LiteralBack → List ℕ
literal_unread t = cased t.lowers t.text.now
