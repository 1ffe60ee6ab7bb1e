-- The collected ABNF for URIs: RFC 3986, appendix A.
use Rattle.std.specs.Prelude.{List, [], ◌∷◌}
use Rattle.uri_abnf.specs.Abnf.{Abnf, ◌≔◌, lit, ◌⋯◌, ◌⋅◌, ◌∣◌, any, some, times, upto, from_to, opt}
use Rattle.uri_abnf.specs.Rfc5234.{ALPHA, DIGIT, HEXDIG}

unfoldable pub pct-encoded : Abnf
pct-encoded = "pct-encoded" ≔ lit "%" ⋅ HEXDIG ⋅ HEXDIG

unfoldable pub unreserved : Abnf
unreserved = "unreserved" ≔ ALPHA ∣ DIGIT ∣ lit "-" ∣ lit "." ∣ lit "_" ∣ lit "~"

unfoldable pub gen-delims : Abnf
gen-delims = "gen-delims" ≔ lit ":" ∣ lit "/" ∣ lit "?" ∣ lit "#" ∣ lit "[" ∣ lit "]" ∣ lit "@"

unfoldable pub sub-delims : Abnf
sub-delims = "sub-delims" ≔
    lit "!" ∣ lit "$" ∣ lit "&" ∣ lit "'" ∣ lit "(" ∣ lit ")"
    ∣ lit "*" ∣ lit "+" ∣ lit "," ∣ lit ";" ∣ lit "="

unfoldable pub reserved : Abnf
reserved = "reserved" ≔ gen-delims ∣ sub-delims

unfoldable pub pchar : Abnf
pchar = "pchar" ≔ unreserved ∣ pct-encoded ∣ sub-delims ∣ lit ":" ∣ lit "@"

unfoldable pub query : Abnf
query = "query" ≔ any (pchar ∣ lit "/" ∣ lit "?")

unfoldable pub fragment : Abnf
fragment = "fragment" ≔ any (pchar ∣ lit "/" ∣ lit "?")

unfoldable pub segment : Abnf
segment = "segment" ≔ any pchar

unfoldable pub segment-nz : Abnf
segment-nz = "segment-nz" ≔ some pchar

unfoldable pub segment-nz-nc : Abnf
segment-nz-nc = "segment-nz-nc" ≔ some (unreserved ∣ pct-encoded ∣ sub-delims ∣ lit "@")

unfoldable pub path-abempty : Abnf
path-abempty = "path-abempty" ≔ any (lit "/" ⋅ segment)

unfoldable pub path-absolute : Abnf
path-absolute = "path-absolute" ≔ lit "/" ⋅ opt (segment-nz ⋅ any (lit "/" ⋅ segment))

unfoldable pub path-noscheme : Abnf
path-noscheme = "path-noscheme" ≔ segment-nz-nc ⋅ any (lit "/" ⋅ segment)

unfoldable pub path-rootless : Abnf
path-rootless = "path-rootless" ≔ segment-nz ⋅ any (lit "/" ⋅ segment)

unfoldable pub path-empty : Abnf
path-empty = "path-empty" ≔ times 0 pchar

unfoldable pub path : Abnf
path = "path" ≔ path-abempty ∣ path-absolute ∣ path-noscheme ∣ path-rootless ∣ path-empty

unfoldable pub dec-octet : Abnf
dec-octet = "dec-octet" ≔
    DIGIT
    ∣ 0x31 ⋯ 0x39 ⋅ DIGIT
    ∣ lit "1" ⋅ times 2 DIGIT
    ∣ lit "2" ⋅ 0x30 ⋯ 0x34 ⋅ DIGIT
    ∣ lit "25" ⋅ 0x30 ⋯ 0x35

unfoldable pub IPv4address : Abnf
IPv4address = "IPv4address" ≔ dec-octet ⋅ lit "." ⋅ dec-octet ⋅ lit "." ⋅ dec-octet ⋅ lit "."
    ⋅ dec-octet

unfoldable pub h16 : Abnf
h16 = "h16" ≔ from_to 1 4 HEXDIG

unfoldable pub ls32 : Abnf
ls32 = "ls32" ≔ (h16 ⋅ lit ":" ⋅ h16) ∣ IPv4address

unfoldable pub IPv6address : Abnf
IPv6address = "IPv6address" ≔
    times 6 (h16 ⋅ lit ":") ⋅ ls32
    ∣ lit "::" ⋅ times 5 (h16 ⋅ lit ":") ⋅ ls32
    ∣ opt h16 ⋅ lit "::" ⋅ times 4 (h16 ⋅ lit ":") ⋅ ls32
    ∣ opt (upto 1 (h16 ⋅ lit ":") ⋅ h16) ⋅ lit "::" ⋅ times 3 (h16 ⋅ lit ":") ⋅ ls32
    ∣ opt (upto 2 (h16 ⋅ lit ":") ⋅ h16) ⋅ lit "::" ⋅ times 2 (h16 ⋅ lit ":") ⋅ ls32
    ∣ opt (upto 3 (h16 ⋅ lit ":") ⋅ h16) ⋅ lit "::" ⋅ h16 ⋅ lit ":" ⋅ ls32
    ∣ opt (upto 4 (h16 ⋅ lit ":") ⋅ h16) ⋅ lit "::" ⋅ ls32
    ∣ opt (upto 5 (h16 ⋅ lit ":") ⋅ h16) ⋅ lit "::" ⋅ h16
    ∣ opt (upto 6 (h16 ⋅ lit ":") ⋅ h16) ⋅ lit "::"

unfoldable pub IPvFuture : Abnf
IPvFuture = "IPvFuture" ≔ lit "v" ⋅ some HEXDIG ⋅ lit "." ⋅ some (unreserved ∣ sub-delims ∣ lit ":")

unfoldable pub IP-literal : Abnf
IP-literal = "IP-literal" ≔ lit "[" ⋅ (IPv6address ∣ IPvFuture) ⋅ lit "]"

unfoldable pub reg-name : Abnf
reg-name = "reg-name" ≔ any (unreserved ∣ pct-encoded ∣ sub-delims)

unfoldable pub port : Abnf
port = "port" ≔ any DIGIT

unfoldable pub host : Abnf
host = "host" ≔ IP-literal ∣ IPv4address ∣ reg-name

unfoldable pub userinfo : Abnf
userinfo = "userinfo" ≔ any (unreserved ∣ pct-encoded ∣ sub-delims ∣ lit ":")

unfoldable pub authority : Abnf
authority = "authority" ≔ opt (userinfo ⋅ lit "@") ⋅ host ⋅ opt (lit ":" ⋅ port)

unfoldable pub scheme : Abnf
scheme = "scheme" ≔ ALPHA ⋅ any (ALPHA ∣ DIGIT ∣ lit "+" ∣ lit "-" ∣ lit ".")

unfoldable pub relative-part : Abnf
relative-part = "relative-part" ≔
    lit "//" ⋅ authority ⋅ path-abempty
    ∣ path-absolute
    ∣ path-noscheme
    ∣ path-empty

unfoldable pub relative-ref : Abnf
relative-ref = "relative-ref" ≔ relative-part ⋅ opt (lit "?" ⋅ query) ⋅ opt (lit "#" ⋅ fragment)

unfoldable pub hier-part : Abnf
hier-part = "hier-part" ≔
    lit "//" ⋅ authority ⋅ path-abempty
    ∣ path-absolute
    ∣ path-rootless
    ∣ path-empty

unfoldable pub absolute-URI : Abnf
absolute-URI = "absolute-URI" ≔ scheme ⋅ lit ":" ⋅ hier-part ⋅ opt (lit "?" ⋅ query)

unfoldable pub URI : Abnf
URI = "URI" ≔ scheme ⋅ lit ":" ⋅ hier-part ⋅ opt (lit "?" ⋅ query) ⋅ opt (lit "#" ⋅ fragment)

unfoldable pub URI-reference : Abnf
URI-reference = "URI-reference" ≔ URI ∣ relative-ref

-- the rules, in the order in which they are printed
abbrev pub rules : List Abnf
rules =
    URI ∷ hier-part ∷ URI-reference ∷ absolute-URI ∷ relative-ref ∷ relative-part ∷ scheme ∷
    authority ∷ userinfo ∷ host ∷ port ∷ IP-literal ∷ IPvFuture ∷ IPv6address ∷ h16 ∷ ls32 ∷
    IPv4address ∷ dec-octet ∷ reg-name ∷ path ∷ path-abempty ∷ path-absolute ∷ path-noscheme ∷
    path-rootless ∷ path-empty ∷ segment ∷ segment-nz ∷ segment-nz-nc ∷ pchar ∷ query ∷ fragment
    ∷ pct-encoded ∷ unreserved ∷ reserved ∷ gen-delims ∷ sub-delims ∷ []
