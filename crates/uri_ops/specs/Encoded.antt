-- Texts and kinds without characters past ASCII: RFC 3987, section 3.1.
use Rattle.std.specs.Prelude.{◌≡◌, ℕ, nat_lt, List, [], ◌∷◌, false, if◌then◌else◌}
use Rattle.std.specs.List.{flat_map}
use Rattle.uri_pct.specs.Prelude.{Octet, TableSet, text_of_token}
use Rattle.uri_parts.specs.Prelude.{Kind}
use Rattle.uri_ops.specs.Meaning.{bare_meaning_of}

-- a byte of an IRI in its URI: one past ASCII is percent-encoded with upper-case digits, any other
-- is unchanged
abbrev pub encode_byte_past_ascii : ℕ → List ℕ
encode_byte_past_ascii b = if nat_lt b 128 then b ∷ [] else text_of_token (Octet b)

-- the text of an IRI with each character past ASCII percent-encoded, as the octets of its UTF-8
-- (RFC 3987, section 3.1, step 2)
unfoldable pub encode_past_ascii : List ℕ → List ℕ
encode_past_ascii text = flat_map encode_byte_past_ascii text

-- the set without the characters past ASCII: that of a URI's component for that of an IRI's
abbrev pub ascii_set : TableSet → TableSet
ascii_set set = record set { ucschar = false; iprivate = false }

-- the kind of the URIs that the IRIs of a kind are converted to: its sets have no character past
-- ASCII
abbrev pub ascii_kind : Kind → Kind
ascii_kind kind = record kind {
  userinfo = ascii_set kind.userinfo;
  reg_name = ascii_set kind.reg_name;
  path = ascii_set kind.path;
  query = ascii_set kind.query;
  fragment = ascii_set kind.fragment;
}

-- two texts of the kind are equivalent whatever default ports schemes have: their bare meanings are
-- equal
unfoldable pub AreEquivalent : Kind → List ℕ → List ℕ → Type 0
AreEquivalent kind text other = bare_meaning_of kind text ≡ bare_meaning_of kind other
