-- The ABNF for IRIs: RFC 3987, section 2.2, which takes further rules from RFC 3986.
use Rattle.std.specs.Prelude.{List, [], ◌∷◌}
use Rattle.uri_abnf.specs.Abnf.{Abnf, ◌≔◌, lit, ◌⋯◌, ◌⋅◌, ◌∣◌, any, some, times, opt}
use Rattle.uri_abnf.specs.Rfc3986.{pct-encoded, sub-delims, scheme, port, IP-literal, IPv4address}
use Rattle.uri_abnf.specs.Rfc5234.{ALPHA, DIGIT}

unfoldable pub ucschar : Abnf
ucschar = "ucschar" ≔
    0xA0 ⋯ 0xD7FF ∣ 0xF900 ⋯ 0xFDCF ∣ 0xFDF0 ⋯ 0xFFEF
    ∣ 0x10000 ⋯ 0x1FFFD ∣ 0x20000 ⋯ 0x2FFFD ∣ 0x30000 ⋯ 0x3FFFD
    ∣ 0x40000 ⋯ 0x4FFFD ∣ 0x50000 ⋯ 0x5FFFD ∣ 0x60000 ⋯ 0x6FFFD
    ∣ 0x70000 ⋯ 0x7FFFD ∣ 0x80000 ⋯ 0x8FFFD ∣ 0x90000 ⋯ 0x9FFFD
    ∣ 0xA0000 ⋯ 0xAFFFD ∣ 0xB0000 ⋯ 0xBFFFD ∣ 0xC0000 ⋯ 0xCFFFD
    ∣ 0xD0000 ⋯ 0xDFFFD ∣ 0xE1000 ⋯ 0xEFFFD

unfoldable pub iprivate : Abnf
iprivate = "iprivate" ≔ 0xE000 ⋯ 0xF8FF ∣ 0xF0000 ⋯ 0xFFFFD ∣ 0x100000 ⋯ 0x10FFFD

unfoldable pub iunreserved : Abnf
iunreserved = "iunreserved" ≔ ALPHA ∣ DIGIT ∣ lit "-" ∣ lit "." ∣ lit "_" ∣ lit "~" ∣ ucschar

unfoldable pub ipchar : Abnf
ipchar = "ipchar" ≔ iunreserved ∣ pct-encoded ∣ sub-delims ∣ lit ":" ∣ lit "@"

unfoldable pub iquery : Abnf
iquery = "iquery" ≔ any (ipchar ∣ iprivate ∣ lit "/" ∣ lit "?")

unfoldable pub ifragment : Abnf
ifragment = "ifragment" ≔ any (ipchar ∣ lit "/" ∣ lit "?")

unfoldable pub isegment : Abnf
isegment = "isegment" ≔ any ipchar

unfoldable pub isegment-nz : Abnf
isegment-nz = "isegment-nz" ≔ some ipchar

unfoldable pub isegment-nz-nc : Abnf
isegment-nz-nc = "isegment-nz-nc" ≔ some (iunreserved ∣ pct-encoded ∣ sub-delims ∣ lit "@")

unfoldable pub ipath-abempty : Abnf
ipath-abempty = "ipath-abempty" ≔ any (lit "/" ⋅ isegment)

unfoldable pub ipath-absolute : Abnf
ipath-absolute = "ipath-absolute" ≔ lit "/" ⋅ opt (isegment-nz ⋅ any (lit "/" ⋅ isegment))

unfoldable pub ipath-noscheme : Abnf
ipath-noscheme = "ipath-noscheme" ≔ isegment-nz-nc ⋅ any (lit "/" ⋅ isegment)

unfoldable pub ipath-rootless : Abnf
ipath-rootless = "ipath-rootless" ≔ isegment-nz ⋅ any (lit "/" ⋅ isegment)

unfoldable pub ipath-empty : Abnf
ipath-empty = "ipath-empty" ≔ times 0 ipchar

unfoldable pub ipath : Abnf
ipath = "ipath" ≔ ipath-abempty ∣ ipath-absolute ∣ ipath-noscheme ∣ ipath-rootless ∣ ipath-empty

unfoldable pub ireg-name : Abnf
ireg-name = "ireg-name" ≔ any (iunreserved ∣ pct-encoded ∣ sub-delims)

unfoldable pub ihost : Abnf
ihost = "ihost" ≔ IP-literal ∣ IPv4address ∣ ireg-name

unfoldable pub iuserinfo : Abnf
iuserinfo = "iuserinfo" ≔ any (iunreserved ∣ pct-encoded ∣ sub-delims ∣ lit ":")

unfoldable pub iauthority : Abnf
iauthority = "iauthority" ≔ opt (iuserinfo ⋅ lit "@") ⋅ ihost ⋅ opt (lit ":" ⋅ port)

unfoldable pub irelative-part : Abnf
irelative-part = "irelative-part" ≔
    lit "//" ⋅ iauthority ⋅ ipath-abempty
    ∣ ipath-absolute
    ∣ ipath-noscheme
    ∣ ipath-empty

unfoldable pub irelative-ref : Abnf
irelative-ref = "irelative-ref" ≔ irelative-part ⋅ opt (lit "?" ⋅ iquery) ⋅ opt
    (lit "#" ⋅ ifragment)

unfoldable pub ihier-part : Abnf
ihier-part = "ihier-part" ≔
    lit "//" ⋅ iauthority ⋅ ipath-abempty
    ∣ ipath-absolute
    ∣ ipath-rootless
    ∣ ipath-empty

unfoldable pub absolute-IRI : Abnf
absolute-IRI = "absolute-IRI" ≔ scheme ⋅ lit ":" ⋅ ihier-part ⋅ opt (lit "?" ⋅ iquery)

unfoldable pub IRI : Abnf
IRI = "IRI" ≔ scheme ⋅ lit ":" ⋅ ihier-part ⋅ opt (lit "?" ⋅ iquery) ⋅ opt (lit "#" ⋅ ifragment)

unfoldable pub IRI-reference : Abnf
IRI-reference = "IRI-reference" ≔ IRI ∣ irelative-ref

-- the rules, in the order in which they are printed
abbrev pub rules : List Abnf
rules =
    IRI ∷ ihier-part ∷ IRI-reference ∷ absolute-IRI ∷ irelative-ref ∷ irelative-part ∷
    iauthority ∷ iuserinfo ∷ ihost ∷ ireg-name ∷ ipath ∷ ipath-abempty ∷ ipath-absolute ∷
    ipath-noscheme ∷ ipath-rootless ∷ ipath-empty ∷ isegment ∷ isegment-nz ∷ isegment-nz-nc ∷
    ipchar ∷ iquery ∷ ifragment ∷ iunreserved ∷ ucschar ∷ iprivate ∷ []
