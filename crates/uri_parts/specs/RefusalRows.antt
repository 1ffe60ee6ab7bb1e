-- Texts and their errors, which `docs/PARSE_ERRORS.md` shows.
use Rattle.std.specs.Prelude.{ℕ, List, [], ◌∷◌, Some, None, codes}
use Rattle.uri_parts.specs.Errors.{unexpected, stray_percent, malformed_ipv6}
use Rattle.uri_parts.specs.Refusals.{OptionalParseError}

-- texts that are parsed as URI references, each with its error or `None`
abbrev pub uri_ref_rows : List (List ℕ × OptionalParseError)
uri_ref_rows =
    (codes "foo%xxd", Some (stray_percent 3)) ∷
    (codes "?%4g", Some (stray_percent 1)) ∷
    (codes "#a%%41", Some (stray_percent 2)) ∷
    (codes ":hello", Some (unexpected 0)) ∷
    (codes "3ttp://a.com", Some (unexpected 0)) ∷
    (codes "exam=ple:foo", Some (unexpected 8)) ∷
    (codes "(:", Some (unexpected 1)) ∷
    (codes "a%20:foo", Some (unexpected 4)) ∷
    (codes "//a:1:2", Some (unexpected 5)) ∷
    (codes "//::", Some (unexpected 3)) ∷
    (codes "http://example.com:80ab", Some (unexpected 21)) ∷
    (codes "//a:1%41", Some (unexpected 5)) ∷
    (codes "//a:b/%zz", Some (unexpected 4)) ∷
    (codes "//a:b%zz", Some (stray_percent 5)) ∷
    (codes "https://[::1]wrong", Some (unexpected 13)) ∷
    (codes "http://user@example.com:80ab", Some (unexpected 26)) ∷
    (codes "//u@v@w", Some (unexpected 5)) ∷
    (codes "//u@a:1:2", Some (unexpected 7)) ∷
    (codes "//[::1]a%zz", Some (stray_percent 8)) ∷
    (codes "foo\\bar", Some (unexpected 3)) ∷
    (codes "a#b#c", Some (unexpected 3)) ∷
    (codes "?[", Some (unexpected 1)) ∷
    (codes "//a\\", Some (unexpected 3)) ∷
    (codes "//a[::1]", Some (unexpected 3)) ∷
    (codes "http://[]", Some (unexpected 8)) ∷
    (codes "http://[vG.addr]", Some (unexpected 9)) ∷
    (codes "http://[v.addr]", Some (unexpected 9)) ∷
    (codes "ftp://[vF.]", Some (unexpected 10)) ∷
    (codes "ftp://[vF.%20]", Some (unexpected 10)) ∷
    (codes "//[1.2.3.4]", Some (unexpected 3)) ∷
    (codes "//[v1.a", Some (unexpected 7)) ∷
    (codes "http://[:]", Some (malformed_ipv6 8)) ∷
    (codes "//[::01.1.1.1]", Some (malformed_ipv6 3)) ∷
    (codes "//[::1.2.3.256]", Some (malformed_ipv6 3)) ∷
    (codes "//[1::2::3]", Some (malformed_ipv6 3)) ∷
    (codes "//[1:2:3:4:5:6:7::8]", Some (malformed_ipv6 3)) ∷
    (codes "//[1:2:3:4:5:6:7:8", Some (malformed_ipv6 3)) ∷
    (codes "//[::1", Some (unexpected 6)) ∷
    (codes "https://[::1/", Some (unexpected 12)) ∷
    (codes "ftp://[fe80::abcd%eth0]", Some (unexpected 17)) ∷
    (codes "//[:::1", Some (unexpected 7)) ∷
    (codes "//[1:2:3:4:5:6:7:8888", Some (unexpected 21)) ∷
    ([], None) ∷
    (codes "//a:80/b", None) ∷
    (codes "//[::]", None) ∷
    (codes "//[1:2:3:4:5:6:7:8]:", None) ∷
    (codes "//[v1.a:b]/", None) ∷
    (codes "http://u:p@[::1.2.3.4]:80/a/b?c#d", None) ∷
    []

-- texts that are parsed as URIs, each with its error or `None`
abbrev pub uri_rows : List (List ℕ × OptionalParseError)
uri_rows =
    (codes "exam=ple:foo", Some (unexpected 4)) ∷
    (codes "(:", Some (unexpected 0)) ∷
    (codes "a%20:foo", Some (unexpected 1)) ∷
    (codes "%zz", Some (unexpected 0)) ∷
    (codes "a:b", None) ∷
    []
