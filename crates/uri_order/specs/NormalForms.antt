-- The normal forms that are compared, and when values are equivalent: RFC 3986, sections 6.2.2 and
-- 6.2.3.
use Rattle.std.specs.Prelude.{◌≡◌, ℕ, List}
use Rattle.uri_parts.specs.Prelude.{Kind}
use Rattle.uri_ops.specs.Prelude.{Rules, meaning_under, normal_text}

-- the normal form of a text of the kind under the rules of schemes: the text that normalising it by
-- them writes
abbrev pub normal_form : Kind → Rules → List ℕ → List ℕ
normal_form kind rules text = normal_text (meaning_under kind rules text)

-- two texts of the kind are equivalent under the rules of schemes: they have one meaning by them
abbrev pub AreEquivalent : Kind → Rules → List ℕ → List ℕ → Type 0
AreEquivalent kind rules one other = meaning_under kind rules one ≡ meaning_under kind rules other
