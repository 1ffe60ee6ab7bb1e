-- What the reference that a text is mended to has: RFC 3986, sections 2.1, 4.2 and 5.3.
use Rattle.std.specs.Prelude.{◌≡◌, ◌+◌, ◌*◌, ℕ, List, None, false, true, length}
use Rattle.uri_parts.specs.Prelude.{IsOfKind, IsTextOf, Kind, components}
use Rattle.uri_mend.specs.Encodings.{AreComponentsEncodedAs, DecodeAlike}
use Rattle.uri_mend.specs.Lengths.{lacked_in_components}
use Rattle.uri_mend.specs.Mending.{can_be_mended, has_false_scheme, link_components, mended_components, mended_text, with_dot_segment}

-- the text `made` is the reference of the kind that the text `source` is mended to
pub record IsMended (kind : Kind) (source made : List ℕ) : Type 0 where
  -- the source can be mended, and this is what the definition makes of it
  pub mendable : can_be_mended kind source ≡ true
  pub text : made ≡ mended_text kind source
  pub of_kind : IsOfKind kind made
  -- a text of the kind is unchanged
  pub unchanged : IsOfKind kind source → made ≡ source
  -- path, query and fragment are mended; scheme and authority are those of the source, but if what
  -- is before its first `:` is no scheme: then the source is in the path, and there are neither
  pub split : components made ≡ mended_components kind (link_components source)
  pub scheme : has_false_scheme source ≡ false
      → (components made).scheme ≡ (components source).scheme
  pub authority : has_false_scheme source ≡ false
      → (components made).authority ≡ (components source).authority
  pub bare : has_false_scheme source ≡ true
      → ((components made).scheme ≡ None) × ((components made).authority ≡ None)
  -- what is decoded is unchanged
  pub decoded : DecodeAlike (components made) (link_components source)
  -- some characters are percent-encoded, and as few as may be: each other text of the kind that is
  -- so is this one with more of them percent-encoded
  pub encoded : AreComponentsEncodedAs (link_components source) (components made)
  pub fewest : (other : List ℕ) → IsTextOf kind other
      → AreComponentsEncodedAs (link_components source) (components other)
      → AreComponentsEncodedAs (components made) (components other)
  -- two bytes are added for each byte that is percent-encoded
  pub size : length made
      ≡ length (with_dot_segment source) + 2 * lacked_in_components kind (link_components source)
