-- Normal texts under the rules that standards give, by computation.
use Rattle.uri_ops.proofs.Common.{◌≡◌, ℕ, List, refl, Err, codes, chars, encode_utf8, digits, read_ipv4, read_octet, read_number, Kind, uri, uri_ref, host_kind, ipv4_value, remove_dot_segments, run, normal_text, InvalidReferenceAgainstOpaqueBase, meaning_under, resolved_meaning}
use Rattle.uri_pct.specs.Sets as Sets
use Rattle.uri_pct.specs.Tokens as Tokens
use Rattle.uri_pct.specs.Pieces as Pieces
use Rattle.uri_pct.specs.DecodeUnreserved as Decoding
use Rattle.uri_parts.specs.SchemePorts.{default_port}
use Rattle.uri_ops.specs.StandardRules.{standard_rules}

-- examples of rules: the second text is the normal form of the first, for the kind
IsNormalOf : Kind → List ℕ → List ℕ → Type 0
IsNormalOf kind text normal = normal_text (meaning_under kind standard_rules text) ≡ normal

-- examples of rules, by normal forms: four equivalent texts and a fifth (RFC 3986, section 6.2.3),
-- and empty paths of the other schemes
normal-forms-of-empty-paths :
    IsNormalOf uri (codes "http://example.com") (codes "http://example.com/")
    × IsNormalOf uri (codes "http://example.com/") (codes "http://example.com/")
    × IsNormalOf uri (codes "http://example.com:/") (codes "http://example.com/")
    × IsNormalOf uri (codes "http://example.com:80/") (codes "http://example.com/")
    × IsNormalOf uri (codes "http://example.com/?") (codes "http://example.com/?")
    × IsNormalOf uri (codes "HTTPS://h#f") (codes "https://h/#f")
    × IsNormalOf uri (codes "ws://h?q") (codes "ws://h/?q")
    × IsNormalOf uri (codes "wss://h:443") (codes "wss://h/")
    × IsNormalOf uri (codes "ftp://h") (codes "ftp://h/")
    × IsNormalOf uri (codes "foo://h") (codes "foo://h")
    × IsNormalOf uri (codes "http:") (codes "http:")
    × IsNormalOf uri_ref (codes "//h") (codes "//h")
unfolding IsNormalOf default_port chars encode_utf8 digits read_ipv4 read_octet read_number
    Sets.is_ucschar Sets.is_iprivate Sets.allows_past_ascii Tokens.is_pct_encoded
    Tokens.tokens_from_chars Pieces.following_ranges Pieces.pieces_from Decoding.is_decodable
    Decoding.is_bidi_formatting Decoding.is_never_literal Decoding.decode_run
    Decoding.decode_after_run host_kind ipv4_value run remove_dot_segments
normal-forms-of-empty-paths =
    (refl, refl, refl, refl, refl, refl, refl, refl, refl, refl, refl, refl)

-- examples of rules, by normal forms: the host `localhost` (RFC 8089, section 2), and hosts that
-- are given explicitly (RFC 3986, section 6.2.3)
normal-forms-of-local-hosts : IsNormalOf uri (codes "file://localhost/x") (codes "file:///x")
    × IsNormalOf uri (codes "FILE://LOC%41LHOST:/x") (codes "file:///x")
    × IsNormalOf uri (codes "file://localhost//x") (codes "file:////x")
    × IsNormalOf uri (codes "file://localhost") (codes "file://")
    × IsNormalOf uri (codes "file:///x") (codes "file:///x")
    × IsNormalOf uri (codes "file:/x") (codes "file:/x")
    × IsNormalOf uri (codes "file://u@localhost/x") (codes "file://u@localhost/x")
    × IsNormalOf uri (codes "file://localhost:1/x") (codes "file://localhost:1/x")
    × IsNormalOf uri (codes "http://localhost/x") (codes "http://localhost/x")
    × IsNormalOf uri_ref (codes "//localhost/x") (codes "//localhost/x")
unfolding IsNormalOf default_port chars encode_utf8 digits read_ipv4 read_octet read_number
    Sets.is_ucschar Sets.is_iprivate Sets.allows_past_ascii Tokens.is_pct_encoded
    Tokens.tokens_from_chars Pieces.following_ranges Pieces.pieces_from Decoding.is_decodable
    Decoding.is_bidi_formatting Decoding.is_never_literal Decoding.decode_run
    Decoding.decode_after_run host_kind ipv4_value run remove_dot_segments
normal-forms-of-local-hosts = (refl, refl, refl, refl, refl, refl, refl, refl, refl, refl)

opaque-bases-stay-opaque : resolved_meaning uri standard_rules (codes "ws:") (codes "?")
    ≡ Err InvalidReferenceAgainstOpaqueBase
opaque-bases-stay-opaque = refl
