-- The parts of some authorities, and the kinds of their hosts, by computation.
use Rattle.uri_parts.proofs.Common.{◌≡◌, true, false, [], ◌∷◌, refl, codes, map, replicate, Some, None, list_any, list_all, read_ipv4, read_ipv6, read_segments, read_segment, read_number, read_octet, chars, userinfo_set, reg_name_set, tokens_from_chars, Ipv4, Ipv6, IpvFuture, RegName, host_kind, is_host, ipv4_value, ipv6_value, is_ipv_future, authority_parts, is_authority_for}
use Rattle.uri_pct.specs.Tokens as Tokens

user_host_port : authority_parts (codes "u@h:80")
    ≡ record { userinfo = Some (codes "u"); host = codes "h"; port = Some (codes "80") }
user_host_port = refl

lone-marks-give-empty-userinfo-host-and-port : authority_parts (codes "@:")
    ≡ record { userinfo = Some []; host = []; port = Some [] }
lone-marks-give-empty-userinfo-host-and-port = refl

empty-authority-has-empty-host-alone : authority_parts []
    ≡ record { userinfo = None; host = []; port = None }
empty-authority-has-empty-host-alone = refl

userinfo-may-hold-colon : authority_parts (codes "u:p@h")
    ≡ record { userinfo = Some (codes "u:p"); host = codes "h"; port = None }
userinfo-may-hold-colon = refl

parts-of-ipv6-host-with-empty-port : authority_parts (codes "[::ffff:192.0.2.1]:")
    ≡ record { userinfo = None; host = codes "[::ffff:192.0.2.1]"; port = Some [] }
parts-of-ipv6-host-with-empty-port = refl

parts-of-ipv6-host-after-userinfo : authority_parts (codes "u@[::1]:8")
    ≡ record { userinfo = Some (codes "u"); host = codes "[::1]"; port = Some (codes "8") }
parts-of-ipv6-host-after-userinfo = refl

-- examples of authorities, their hosts: each has the first kind that fits, by computation
example-hosts-have-their-kinds : map host_kind (
    codes "127.0.0.1" ∷ codes "127.0.0.001" ∷ codes "127.1" ∷ codes "256.0.0.1"
    ∷ codes "" ∷ codes "1.2.3.4.5" ∷ codes "[v1F.a:b]" ∷ codes "[V1.x]" ∷ codes "[::]"
    ∷ codes "[::ffff:192.0.2.1]" ∷ codes "[64:ff9b::192.0.2.33]" ∷ codes "[::2:3:4:5:6:7:8]" ∷ []
    ) ≡ (
    Ipv4 (127 ∷ 0 ∷ 0 ∷ 1 ∷ []) ∷ RegName ∷ RegName ∷ RegName ∷ RegName ∷ RegName ∷ IpvFuture
    ∷ IpvFuture ∷ Ipv6 (replicate 8 0) ∷ Ipv6 (0 ∷ 0 ∷ 0 ∷ 0 ∷ 0 ∷ 0xffff ∷ 0xc000 ∷ 0x201 ∷ [])
    ∷ Ipv6 (0x64 ∷ 0xff9b ∷ 0 ∷ 0 ∷ 0 ∷ 0 ∷ 49152 ∷ 545 ∷ [])
    ∷ Ipv6 (0 ∷ 2 ∷ 3 ∷ 4 ∷ 5 ∷ 6 ∷ 7 ∷ 8 ∷ []) ∷ []
    )
unfolding host_kind ipv4_value read_ipv4 read_octet read_number ipv6_value read_ipv6 read_segments
    read_segment
example-hosts-have-their-kinds = refl

-- examples of authorities: these texts pass the test of one in a URI
example-authorities-are-accepted : list_all (is_authority_for userinfo_set reg_name_set) (
    codes "" ∷ codes "@:" ∷ codes "u@h:80" ∷ codes "u:p@h" ∷ codes "h:" ∷ codes "a%20b"
    ∷ codes "127.0.0.001" ∷ codes "user%40x@[v1F.a:b]:8080"
    ∷ codes "[V1.x]" ∷ codes "[::ffff:192.0.2.1]:" ∷ codes "[1:2:3:4:5:6:7::]"
    ∷ codes "[1:2:3:4:5:6:7:8]" ∷ codes "[1:2:3:4:5:6:1.2.3.4]" ∷ []
    ) ≡ true
unfolding is_authority_for Tokens.is_valid_for tokens_from_chars chars Tokens.is_pct_encoded is_host
    is_ipv_future ipv4_value read_ipv4 read_octet read_number ipv6_value read_ipv6 read_segments
    read_segment
example-authorities-are-accepted = refl

-- examples of authorities: these texts fail the test of one in a URI
malformed-authorities-are-rejected : list_any (is_authority_for userinfo_set reg_name_set) (
    codes "[1:2:3:4::5:6:7:8]" ∷ codes "[1:2:3:4:5:6:7:8:9]"
    ∷ codes "[44:55::66::77]" ∷ codes "[1.2.3.4]" ∷ codes "[::01.1.1.1]"
    ∷ codes "[::12345]" ∷ codes "[::1" ∷ codes "[::1]x" ∷ codes "[]" ∷ codes "[vG.addr]"
    ∷ codes "[v.addr]" ∷ codes "[vF.]" ∷ codes "[vF.%20]" ∷ codes "[fe80::abcd%eth0]"
    ∷ codes "a@b@c" ∷ codes "h:80a" ∷ codes "a:b:c" ∷ codes "u[@h" ∷ codes "a%2" ∷ []
    ) ≡ false
unfolding is_authority_for Tokens.is_valid_for tokens_from_chars chars Tokens.is_pct_encoded is_host
    is_ipv_future ipv4_value read_ipv4 read_octet read_number ipv6_value read_ipv6 read_segments
    read_segment
malformed-authorities-are-rejected = refl
