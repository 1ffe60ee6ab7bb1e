-- The rules as the RFCs print them, a line each: `tools/grammar` writes this file from `printed/`.
use Rattle.std.specs.Prelude.{ℕ, List, [], ◌∷◌, ◌++◌, codes}

unfoldable pub rfc3986 : List (List ℕ)
rfc3986 =
    codes "URI = scheme \":\" hier-part [ \"?\" query ] [ \"#\" fragment ]" ∷
    (codes "hier-part = \"//\" authority path-abempty / path-absolute / path-rootless / "
    ++ codes "path-empty") ∷
    codes "URI-reference = URI / relative-ref" ∷
    codes "absolute-URI = scheme \":\" hier-part [ \"?\" query ]" ∷
    codes "relative-ref = relative-part [ \"?\" query ] [ \"#\" fragment ]" ∷
    (codes "relative-part = \"//\" authority path-abempty / path-absolute / path-noscheme / "
    ++ codes "path-empty") ∷
    codes "scheme = ALPHA *( ALPHA / DIGIT / \"+\" / \"-\" / \".\" )" ∷
    codes "authority = [ userinfo \"@\" ] host [ \":\" port ]" ∷
    codes "userinfo = *( unreserved / pct-encoded / sub-delims / \":\" )" ∷
    codes "host = IP-literal / IPv4address / reg-name" ∷
    codes "port = *DIGIT" ∷
    codes "IP-literal = \"[\" ( IPv6address / IPvFuture ) \"]\"" ∷
    codes "IPvFuture = \"v\" 1*HEXDIG \".\" 1*( unreserved / sub-delims / \":\" )" ∷
    (codes "IPv6address = 6( h16 \":\" ) ls32 / \"::\" 5( h16 \":\" ) ls32 / [ h16 ] \"::\" 4( "
    ++ codes "h16 \":\" ) ls32 / [ *1( h16 \":\" ) h16 ] \"::\" 3( h16 \":\" ) ls32 / [ *2( h16 "
    ++ codes "\":\" ) h16 ] \"::\" 2( h16 \":\" ) ls32 / [ *3( h16 \":\" ) h16 ] \"::\" h16 \":\" "
    ++ codes "ls32 / [ *4( h16 \":\" ) h16 ] \"::\" ls32 / [ *5( h16 \":\" ) h16 ] \"::\" h16 / [ "
    ++ codes "*6( h16 \":\" ) h16 ] \"::\"") ∷
    codes "h16 = 1*4HEXDIG" ∷
    codes "ls32 = h16 \":\" h16 / IPv4address" ∷
    codes "IPv4address = dec-octet \".\" dec-octet \".\" dec-octet \".\" dec-octet" ∷
    (codes "dec-octet = DIGIT / %x31-39 DIGIT / \"1\" 2DIGIT / \"2\" %x30-34 DIGIT / \"25\" "
    ++ codes "%x30-35") ∷
    codes "reg-name = *( unreserved / pct-encoded / sub-delims )" ∷
    codes "path = path-abempty / path-absolute / path-noscheme / path-rootless / path-empty" ∷
    codes "path-abempty = *( \"/\" segment )" ∷
    codes "path-absolute = \"/\" [ segment-nz *( \"/\" segment ) ]" ∷
    codes "path-noscheme = segment-nz-nc *( \"/\" segment )" ∷
    codes "path-rootless = segment-nz *( \"/\" segment )" ∷
    codes "path-empty = 0<pchar>" ∷
    codes "segment = *pchar" ∷
    codes "segment-nz = 1*pchar" ∷
    codes "segment-nz-nc = 1*( unreserved / pct-encoded / sub-delims / \"@\" )" ∷
    codes "pchar = unreserved / pct-encoded / sub-delims / \":\" / \"@\"" ∷
    codes "query = *( pchar / \"/\" / \"?\" )" ∷
    codes "fragment = *( pchar / \"/\" / \"?\" )" ∷
    codes "pct-encoded = \"%\" HEXDIG HEXDIG" ∷
    codes "unreserved = ALPHA / DIGIT / \"-\" / \".\" / \"_\" / \"~\"" ∷
    codes "reserved = gen-delims / sub-delims" ∷
    codes "gen-delims = \":\" / \"/\" / \"?\" / \"#\" / \"[\" / \"]\" / \"@\"" ∷
    (codes "sub-delims = \"!\" / \"$\" / \"&\" / \"'\" / \"(\" / \")\" / \"*\" / \"+\" / \",\" "
    ++ codes "/ \";\" / \"=\"")
    ∷ []

unfoldable pub rfc3987 : List (List ℕ)
rfc3987 =
    codes "IRI = scheme \":\" ihier-part [ \"?\" iquery ] [ \"#\" ifragment ]" ∷
    (codes "ihier-part = \"//\" iauthority ipath-abempty / ipath-absolute / ipath-rootless / "
    ++ codes "ipath-empty") ∷
    codes "IRI-reference = IRI / irelative-ref" ∷
    codes "absolute-IRI = scheme \":\" ihier-part [ \"?\" iquery ]" ∷
    codes "irelative-ref = irelative-part [ \"?\" iquery ] [ \"#\" ifragment ]" ∷
    (codes "irelative-part = \"//\" iauthority ipath-abempty / ipath-absolute / ipath-noscheme "
    ++ codes "/ ipath-empty") ∷
    codes "iauthority = [ iuserinfo \"@\" ] ihost [ \":\" port ]" ∷
    codes "iuserinfo = *( iunreserved / pct-encoded / sub-delims / \":\" )" ∷
    codes "ihost = IP-literal / IPv4address / ireg-name" ∷
    codes "ireg-name = *( iunreserved / pct-encoded / sub-delims )" ∷
    (codes "ipath = ipath-abempty / ipath-absolute / ipath-noscheme / ipath-rootless / "
    ++ codes "ipath-empty") ∷
    codes "ipath-abempty = *( \"/\" isegment )" ∷
    codes "ipath-absolute = \"/\" [ isegment-nz *( \"/\" isegment ) ]" ∷
    codes "ipath-noscheme = isegment-nz-nc *( \"/\" isegment )" ∷
    codes "ipath-rootless = isegment-nz *( \"/\" isegment )" ∷
    codes "ipath-empty = 0<ipchar>" ∷
    codes "isegment = *ipchar" ∷
    codes "isegment-nz = 1*ipchar" ∷
    codes "isegment-nz-nc = 1*( iunreserved / pct-encoded / sub-delims / \"@\" )" ∷
    codes "ipchar = iunreserved / pct-encoded / sub-delims / \":\" / \"@\"" ∷
    codes "iquery = *( ipchar / iprivate / \"/\" / \"?\" )" ∷
    codes "ifragment = *( ipchar / \"/\" / \"?\" )" ∷
    codes "iunreserved = ALPHA / DIGIT / \"-\" / \".\" / \"_\" / \"~\" / ucschar" ∷
    (codes "ucschar = %xA0-D7FF / %xF900-FDCF / %xFDF0-FFEF / %x10000-1FFFD / %x20000-2FFFD / "
    ++ codes "%x30000-3FFFD / %x40000-4FFFD / %x50000-5FFFD / %x60000-6FFFD / %x70000-7FFFD / "
    ++ codes "%x80000-8FFFD / %x90000-9FFFD / %xA0000-AFFFD / %xB0000-BFFFD / %xC0000-CFFFD / "
    ++ codes "%xD0000-DFFFD / %xE1000-EFFFD") ∷
    codes "iprivate = %xE000-F8FF / %xF0000-FFFFD / %x100000-10FFFD"
    ∷ []

unfoldable pub rfc5234 : List (List ℕ)
rfc5234 =
    codes "ALPHA = %x41-5A / %x61-7A" ∷
    codes "DIGIT = %x30-39" ∷
    codes "HEXDIG = DIGIT / \"A\" / \"B\" / \"C\" / \"D\" / \"E\" / \"F\""
    ∷ []
