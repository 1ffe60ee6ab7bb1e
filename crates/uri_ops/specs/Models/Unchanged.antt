-- What is asked of a text which then is its own normal text: RFC 3986, section 6.2.2.
use Rattle.std.specs.Prelude.{◌≡◌, ◌||◌, ◌&&◌, ◌==◌, ◌≤◌, ◌<◌, ◌+◌, ◌-◌, ◌*◌, ℕ, Bool, true, false, not, nat_le, nat_lt, codes, length, is_some, List, [], ◌∷◌, Option, IfSome, slice_index}
use Rattle.std.specs.Char.{digit_value, is_ascii_hexdigit, is_ascii_uppercase}
use Rattle.std.specs.Str.{str_to_ascii_lowercase}
use Rattle.uri_pct.specs.Prelude.{LacksPastAscii, TableSet, full_stop, is_one_of, is_unreserved, lacks, left_bracket, percent_sign, slash}
use Rattle.uri_parts.specs.Prelude.{Components, Kind, authority_parts, components, host_kind, is_host, positions_of, starts}
use Rattle.uri_ops.specs.Meaning.{dotless_path, host_meaning, port_meaning}
use Rattle.uri_ops.specs.Normal.{host_text, normal_scheme, path_underflows}

-- the byte begins neither a percent-encoded octet nor a formatting character of bidirectional text
abbrev pub is_literal_byte : ℕ → Bool
is_literal_byte b = not (b == percent_sign || b == 0xE2)

-- normalising leaves a percent-encoded octet with these digits: they are in upper case, its
-- character is not unreserved, and it is of ASCII, unless no component of the text may have
-- characters past ASCII (alone)
abbrev pub is_unchanged_octet : Bool → ℕ → ℕ → Bool
is_unchanged_octet alone high low =
    (is_ascii_hexdigit high && is_ascii_hexdigit low) && ((nat_lt high 97 && nat_lt low 97)
    && ((alone || nat_lt high 56) && not (is_unreserved (16 * digit_value high + digit_value low))))

-- normalising leaves the octet whose digits the text begins with, if it has both
abbrev pub keeps_digits : Bool → List ℕ → Bool
keeps_digits alone [] = true
keeps_digits alone (high ∷ []) = true
keeps_digits alone (high ∷ low ∷ text) = is_unchanged_octet alone high low

-- normalising leaves each percent-encoded octet of the text, and no formatting character of
-- bidirectional text is in it; alone: no component of the text may have characters past ASCII
abbrev pub has_unchanged_octets : Bool → List ℕ → Bool
has_unchanged_octets alone [] = true
has_unchanged_octets alone (b ∷ text) =
    (not (b == 0xE2) && (not (b == percent_sign) || keeps_digits alone text))
    && has_unchanged_octets alone text

-- normalising decodes nothing in the text
abbrev pub HasUnchangedOctets : Bool → List ℕ → Type 0
HasUnchangedOctets alone text = has_unchanged_octets alone text ≡ true

-- the same at one index: normalising leaves an octet that begins there, and no formatting character
-- begins there
abbrev pub is_octet_unchanged_at : Bool → List ℕ → ℕ → Bool
is_octet_unchanged_at alone text k = not (slice_index text k == 0xE2)
    && (not (slice_index text k == percent_sign)
    || is_unchanged_octet alone (slice_index text (k + 1)) (slice_index text (k + 2)))

-- a dot is at this index of a text, and a `/` before it, as where a dot segment begins
abbrev pub is_dot_after_slash : List ℕ → ℕ → Bool
is_dot_after_slash text k =
    slice_index text k == full_stop && slice_index text (k - 1) == slash

-- at this index of a text begins neither an octet nor a formatting character, and no dot is there
-- after a `/`
abbrev pub is_literal_at : List ℕ → ℕ → Bool
is_literal_at text k = is_literal_byte (slice_index text k) && not (is_dot_after_slash text k)

-- no dot segment begins with the dot that is at this index after a `/`, if it is before the limit
-- (section 3.3): another byte than `.`, `/` and `%` follows it before the limit
abbrev pub is_dot_unchanged_at : ℕ → List ℕ → ℕ → Bool
is_dot_unchanged_at limit text k = not (is_dot_after_slash text k) || (nat_le limit k
    || (nat_lt (k + 1) limit && not (is_one_of (codes "./%") (slice_index text (k + 1)))))

-- normalising leaves what begins at this index, where it removes dot segments before the limit
abbrev pub is_unchanged_at : Bool → ℕ → List ℕ → ℕ → Bool
is_unchanged_at alone limit text k =
    is_octet_unchanged_at alone text k && is_dot_unchanged_at limit text k

-- no such byte begins at the indices from start up to end, which is an index of the text
pub record IsLiteralRun (text : List ℕ) (start end : ℕ) : Type 0 where
  pub from : start ≤ end
  pub within : end < length text
  pub pass : (k : ℕ) → start ≤ k → k < end → is_literal_at text k ≡ true

-- no component of the kind has characters past ASCII, as of URIs
pub record KindLacksPastAscii (kind : Kind) : Type 0 where
  pub userinfo : LacksPastAscii kind.userinfo
  pub path : LacksPastAscii kind.path
  pub query : LacksPastAscii kind.query
  pub fragment : LacksPastAscii kind.fragment

-- normalising leaves this host, if no formatting character is in it: a name is in lower case and
-- has no octet, and a host in brackets is its own normal form
abbrev pub IsUnchangedHost : List ℕ → Type 0
IsUnchangedHost host = (starts left_bracket host ≡ false → (str_to_ascii_lowercase host ≡ host)
    × (lacks percent_sign host ≡ true))
    × (starts left_bracket host ≡ true → (names : TableSet) → is_host names host ≡ true
    → host_text (host_meaning names host (host_kind host)) ≡ host)

-- a port is as normalising leaves it, by its scheme's default port, the first Option
abbrev pub IsUnchangedPort : Option ℕ → Option (List ℕ) → Type 0
IsUnchangedPort default port = port_meaning default port ≡ port

-- the byte is no letter in upper case, begins no octet, and begins no host in brackets: normalising
-- leaves a scheme or a host of such bytes, if they are of ASCII
abbrev pub is_unchanged_host_byte : ℕ → Bool
is_unchanged_host_byte b = not (is_ascii_uppercase b)
    && (not (b == percent_sign) && not (b == left_bracket))

-- normalising leaves this path under the scheme, if nothing in it is decoded: it has no dot segment
-- that would be removed
pub record IsUnchangedPath (scheme : Option (List ℕ)) (path : List ℕ) : Type 0 where
  pub dotless : dotless_path scheme path ≡ path
  pub underflow : path_underflows scheme path ≡ false

-- normalising leaves these components, if nothing in them is decoded and the port is unchanged
-- (section 6.2.2)
pub record AreUnchanged (p : Components) : Type 0 where
  pub scheme : normal_scheme p.scheme ≡ p.scheme
  pub host : IfSome p.authority (λ a. IsUnchangedHost (authority_parts a).host)
  pub path : IsUnchangedPath p.scheme p.path

-- normalising leaves the scheme and the host of the text, and neither an octet nor a formatting
-- character begins in its first n bytes, of which none is of the path if there is a scheme
pub record IsUnchangedPrefix (text : List ℕ) (n : ℕ) : Type 0 where
  pub scheme : normal_scheme (components text).scheme ≡ (components text).scheme
  pub host : IfSome (components text).authority (λ a. IsUnchangedHost (authority_parts a).host)
  pub within : n ≤ length text
  pub literal : (k : ℕ) → k < n → is_literal_byte (slice_index text k) ≡ true
  pub path : is_some (components text).scheme ≡ true
      → n ≤ (positions_of (components text)).path_start
