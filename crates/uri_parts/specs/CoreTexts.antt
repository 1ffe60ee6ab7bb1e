-- What a `Core` holds: a text of a kind (RFC 3986, sections 3 and 4.1).
use Rattle.std.specs.Prelude.{ℕ, List}
use Rattle.uri_parts.specs.declared.core_text.Core.{Core}

-- the text that a `Core` holds, as its bytes; the implicit arguments are its kind, the type of its
-- text and the encoders of the kind, and what holds of these
abbrev pub core_text : {K T U N P Q F : _} {k u n p q f : _} {t : _}
    → Core K T U N P Q F k u n p q f t → List ℕ
core_text {t = t} core = t.text core.text
