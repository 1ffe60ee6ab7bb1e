-- The text of a `Reference` (RFC 3986, sections 3 and 4.1; RFC 3987, section 2.2).
use Rattle.std.specs.Prelude.{ℕ, List}
use Rattle.uri_parts.specs.Prelude.{core_text}
use Rattle.fluent_uri.specs.declared.reference.Reference.{Reference}

-- The text of a `Uri`, `UriRef`, `Iri` or `IriRef`, which are one type at four kinds.
-- The type of a `Reference` has the encoders of its kind as parameters, and facts about them.
abbrev pub reference_text : {K T U N P Q F : _} {k u n p q f t : _}
    → Reference K T U N P Q F k u n p q f t → List ℕ
reference_text value = core_text value.core

-- the `&str` or `String` that a `Reference` holds
abbrev pub held_text : {K T U N P Q F : _} {k u n p q f t : _}
    → Reference K T U N P Q F k u n p q f t → T
held_text value = value.core.text
