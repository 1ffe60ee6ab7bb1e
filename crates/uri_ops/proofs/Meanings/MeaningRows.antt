-- Normal texts of some meanings, by computation.
use Rattle.uri_ops.proofs.Common.{◌≡◌, ℕ, cond, List, [], ◌∷◌, ◌++◌, refl, Some, None, Ok, codes, chars, bytes_eq, encode_utf8, digits, hex, hex_groups_text, ipv6_text, read_ipv6, read_ipv4, read_octet, read_number, read_segment, read_segments, components, Kind, uri, uri_ref, iri, iri_ref, Ipv4, RegName, host_kind, ipv4_value, ipv6_value, run, remove_dot_segments, directory, resolution_of, PortFunction, meaning_of, normal_text}
use Rattle.uri_pct.specs.Sets as Sets
use Rattle.uri_pct.specs.Tokens as Tokens
use Rattle.uri_pct.specs.Pieces as Pieces
use Rattle.uri_pct.specs.DecodeUnreserved as Decoding

-- examples of meanings: the port function that they use
ports : PortFunction
ports scheme = cond (bytes_eq scheme (codes "http")) (Some 80)
    (cond (bytes_eq scheme (codes "foo")) (Some 4673) None)

-- examples of meanings: the second text is the normal form of the first, for the kind
IsNormalOf : Kind → List ℕ → List ℕ → Type 0
IsNormalOf kind text normal = normal_text (meaning_of kind ports text) ≡ normal

normal-forms-of-case-and-octets :
    IsNormalOf uri_ref (codes "FOO://%55se%72@EXamp%4ce%2ecom:8042/%4b%2f?%4c%2b#%24%4d")
    (codes "foo://User@example.com:8042/K%2F?L%2B#%24M") × IsNormalOf uri
    (codes "eXAMPLE://a/./b/../b/%63/%7bfoo%7d") (codes "example://a/b/c/%7Bfoo%7D")
    × IsNormalOf iri_ref (codes "eXAMPLE://a/./b/../b/%63/%7bfoo%7d/ros%C3%A9")
    (codes "example://a/b/c/%7Bfoo%7D/ros" ++ (0xC3 ∷ 0xA9 ∷ []))
    × IsNormalOf uri_ref [] [] × IsNormalOf uri_ref (codes "//@:") (codes "//@")
unfolding IsNormalOf ports chars encode_utf8 digits hex hex_groups_text ipv6_text read_ipv6
    read_ipv4 read_octet read_number read_segment read_segments Sets.is_ucschar Sets.is_iprivate
    Sets.allows_past_ascii Tokens.is_pct_encoded Tokens.tokens_from_chars Pieces.following_ranges
    Pieces.pieces_from Decoding.is_decodable Decoding.is_bidi_formatting
    Decoding.is_never_literal Decoding.decode_run Decoding.decode_after_run host_kind ipv4_value
    ipv6_value run remove_dot_segments
normal-forms-of-case-and-octets = (refl, refl, refl, refl, refl)

-- examples of meanings, by normal forms: hosts, as addresses by their numbers, and names that
-- decode to addresses
normal-forms-of-hosts :
    IsNormalOf uri_ref (codes "//[0:0:0:0:0:ffff:192.0.2.1]") (codes "//[::ffff:192.0.2.1]")
    × IsNormalOf uri_ref (codes "//[::192.0.2.1]") (codes "//[::c000:201]")
    × IsNormalOf uri_ref (codes "//127.0.0.%31") (codes "//127.0.0.1")
    × IsNormalOf uri_ref (codes "//[1:0:0:2:0:0:0:3]") (codes "//[1:0:0:2::3]")
    × IsNormalOf uri_ref (codes "//[1:0:0:2:3:0:0:4]") (codes "//[1::2:3:0:0:4]")
    × IsNormalOf uri_ref (codes "//[1:0:2:3:4:5:6:7]") (codes "//[1:0:2:3:4:5:6:7]")
    × IsNormalOf uri_ref (codes "//[v1FdE.AddR]") (codes "//[v1fde.addr]")
    × IsNormalOf iri_ref (codes "HTTP://R%c3%89/" ++ (0xC3 ∷ 0x89 ∷ []))
    (codes "http://r" ++ (0xC3 ∷ 0x89 ∷ []) ++ codes "/" ++ (0xC3 ∷ 0x89 ∷ []))
    × IsNormalOf iri_ref (codes "HTTP://R%c3%89/%C3%89")
    (codes "http://r" ++ (0xC3 ∷ 0x89 ∷ []) ++ codes "/" ++ (0xC3 ∷ 0x89 ∷ []))
unfolding IsNormalOf ports chars encode_utf8 digits hex hex_groups_text ipv6_text read_ipv6
    read_ipv4 read_octet read_number read_segment read_segments Sets.is_ucschar Sets.is_iprivate
    Sets.allows_past_ascii Tokens.is_pct_encoded Tokens.tokens_from_chars Pieces.following_ranges
    Pieces.pieces_from Decoding.is_decodable Decoding.is_bidi_formatting
    Decoding.is_never_literal Decoding.decode_run Decoding.decode_after_run host_kind ipv4_value
    ipv6_value run remove_dot_segments
normal-forms-of-hosts = (refl, refl, refl, refl, refl, refl, refl, refl, refl)

-- examples of meanings, by normal forms: in an IRI, runs of octets are decoded as UTF-8
normal-forms-of-octets-in-iris : IsNormalOf iri_ref (codes "/%C3%41%A9%C3%A9") (codes "/%C3A%A9"
    ++ (0xC3 ∷ 0xA9 ∷ []))
    × IsNormalOf iri_ref (codes "/%C3A%A9" ++ (0xC3 ∷ 0xA9 ∷ [])) (codes "/%C3A%A9" ++ (0xC3
    ∷ 0xA9 ∷ [])) × IsNormalOf iri_ref (codes "%61%61%61%61%61%61%61%61%61%61%61%61%61%61%61%61"
    ++ codes "%61%61%61%61%61%61%61%61%61%61%61%61%61%61%61%C3%A9")
    (codes "aaaaaaaaaaaaaaaaaaaaaaaaaaaaaaa" ++ (0xC3 ∷ 0xA9 ∷ []))
    × IsNormalOf iri (codes "http://xn--99zt52a.example.org/%e2%80%ae")
    (codes "http://xn--99zt52a.example.org/%E2%80%AE")
    × IsNormalOf iri (codes "http://xn--99zt52a.example.org/" ++ (0xE2 ∷ 0x80 ∷ 0xAE ∷ []))
    (codes "http://xn--99zt52a.example.org/%E2%80%AE") × IsNormalOf iri_ref (codes "//"
    ++ (0xE2 ∷ 0x80 ∷ 0x8F ∷ []) ++ codes "@R" ++ (0xE2 ∷ 0x80 ∷ 0xAA ∷ [])
    ++ codes "#" ++ (0xE2 ∷ 0x80 ∷ 0x8E ∷ [])) (codes "//%E2%80%8F@r%E2%80%AA#%E2%80%8E")
    × IsNormalOf iri_ref (codes "?%EE%80%80") (codes "?" ++ (0xEE ∷ 0x80 ∷ 0x80 ∷ []))
    × IsNormalOf iri_ref (codes "%EE%80%80") (codes "%EE%80%80")
    × IsNormalOf iri_ref (codes "%E2" ++ (0xC3 ∷ 0xA9 ∷ [])) (codes "%E2" ++ (0xC3 ∷ 0xA9 ∷ []))
    × IsNormalOf iri_ref (codes "%E2%C3%A9") (codes "%E2" ++ (0xC3 ∷ 0xA9 ∷ []))
    × IsNormalOf uri_ref (codes "%E2%C3%A9") (codes "%E2%C3%A9")
unfolding IsNormalOf ports chars encode_utf8 digits hex hex_groups_text ipv6_text read_ipv6
    read_ipv4 read_octet read_number read_segment read_segments Sets.is_ucschar Sets.is_iprivate
    Sets.allows_past_ascii Tokens.is_pct_encoded Tokens.tokens_from_chars Pieces.following_ranges
    Pieces.pieces_from Decoding.is_decodable Decoding.is_bidi_formatting
    Decoding.is_never_literal Decoding.decode_run Decoding.decode_after_run host_kind ipv4_value
    ipv6_value run remove_dot_segments
normal-forms-of-octets-in-iris = (refl, refl, refl, refl, refl, refl, refl, refl, refl, refl, refl)

-- examples of meanings, by normal forms: ports, and dot segments of absolute paths under a scheme
normal-forms-of-ports-and-dot-segments : IsNormalOf uri (codes "http://h:0080/") (codes "http://h/")
    × IsNormalOf uri (codes "http://h:65616/") (codes "http://h:65616/")
    × IsNormalOf uri (codes "foo://localhost:4673") (codes "foo://localhost")
    × IsNormalOf uri (codes "FOO://h:4673") (codes "foo://h")
    × IsNormalOf uri_ref (codes "http://example.com:/") (codes "http://example.com/")
    × IsNormalOf uri_ref (codes "//h:80") (codes "//h:80")
    × IsNormalOf uri (codes "http://a//..") (codes "http://a/")
    × IsNormalOf uri (codes "http://a//../..") (codes "http://a/")
    × IsNormalOf uri (codes "http://a/b/c/%2E/%2E./%2e%2E/d") (codes "http://a/d")
    × IsNormalOf uri (codes "foo:/bar/..") (codes "foo:/")
    × IsNormalOf uri_ref (codes "foo:/.//@@") (codes "foo:/.//@@")
    × IsNormalOf uri_ref (codes "/foo/../bar") (codes "/foo/../bar")
    × IsNormalOf uri_ref (codes "foo:bar/../baz") (codes "foo:bar/../baz")
unfolding IsNormalOf ports chars encode_utf8 digits hex hex_groups_text ipv6_text read_ipv6
    read_ipv4 read_octet read_number read_segment read_segments Sets.is_ucschar Sets.is_iprivate
    Sets.allows_past_ascii Tokens.is_pct_encoded Tokens.tokens_from_chars Pieces.following_ranges
    Pieces.pieces_from Decoding.is_decodable Decoding.is_bidi_formatting
    Decoding.is_never_literal Decoding.decode_run Decoding.decode_after_run host_kind ipv4_value
    ipv6_value run remove_dot_segments
normal-forms-of-ports-and-dot-segments =
    (refl, refl, refl, refl, refl, refl, refl, refl, refl, refl, refl, refl, refl)

-- example of meanings: a host whose decoded form is an IPv4 address is a registered name
host-kind-before-and-after-decoding : (host_kind (codes "127.0.0.%31") ≡ RegName)
    × (host_kind (codes "127.0.0.1") ≡ Ipv4 (127 ∷ 0 ∷ 0 ∷ 1 ∷ []))
unfolding host_kind ipv4_value read_ipv4 read_octet read_number
host-kind-before-and-after-decoding = (refl, refl)

HasTargetWithNormalForm : List ℕ → List ℕ → List ℕ → List ℕ → Type 0
HasTargetWithNormalForm base reference target normal =
    (resolution_of (components base) (components reference) ≡ Ok target)
    × IsNormalOf uri target normal

example-targets-have-normal-forms :
    HasTargetWithNormalForm (codes "foo:/bar/..") (codes ".") (codes "foo:/") (codes "foo:/")
    × HasTargetWithNormalForm (codes "foo:/") (codes ".//@@") (codes "foo:/.//@@")
    (codes "foo:/.//@@") × HasTargetWithNormalForm (codes "http://x/") (codes "//a:80")
    (codes "http://a:80") (codes "http://a") × HasTargetWithNormalForm (codes "HTTP://A/%2e%2E/b/c")
    (codes "%2E./d") (codes "HTTP://A/d") (codes "http://a/d") × HasTargetWithNormalForm
    (codes "foo:/bar/baz/.%2E/") (codes "..") (codes "foo:/") (codes "foo:/")
unfolding IsNormalOf ports chars encode_utf8 digits hex hex_groups_text ipv6_text read_ipv6
    read_ipv4 read_octet read_number read_segment read_segments Sets.is_ucschar Sets.is_iprivate
    Sets.allows_past_ascii Tokens.is_pct_encoded Tokens.tokens_from_chars Pieces.following_ranges
    Pieces.pieces_from Decoding.is_decodable Decoding.is_bidi_formatting
    Decoding.is_never_literal Decoding.decode_run Decoding.decode_after_run host_kind ipv4_value
    ipv6_value run remove_dot_segments HasTargetWithNormalForm directory
example-targets-have-normal-forms =
    ((refl, refl), (refl, refl), (refl, refl), (refl, refl), (refl, refl))
