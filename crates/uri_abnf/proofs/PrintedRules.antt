-- The rules print as the RFCs do.
use Rattle.std.proofs.Common.{◌≡◌, refl, map}
use Rattle.uri_abnf.specs.Printed.{rfc5234, rfc3986, rfc3987}
use Rattle.uri_abnf.specs.Printing.{line}
use Rattle.uri_abnf.specs.Rfc3986 as R
use Rattle.uri_abnf.specs.Rfc3987 as I
use Rattle.uri_abnf.specs.Rfc5234 as Core

pub rfc5234-is-printed : map line Core.rules ≡ rfc5234
unfolding Core.ALPHA Core.DIGIT Core.HEXDIG rfc5234
rfc5234-is-printed = refl

pub rfc3986-is-printed : map line R.rules ≡ rfc3986
unfolding Core.ALPHA Core.DIGIT Core.HEXDIG R.URI R.hier-part R.URI-reference R.absolute-URI
    R.relative-ref R.relative-part R.scheme R.authority R.userinfo R.host R.port R.IP-literal
    R.IPvFuture R.IPv6address R.h16 R.ls32 R.IPv4address R.dec-octet R.reg-name R.path
    R.path-abempty R.path-absolute R.path-noscheme R.path-rootless R.path-empty R.segment
    R.segment-nz R.segment-nz-nc R.pchar R.query R.fragment R.pct-encoded R.unreserved R.reserved
    R.gen-delims R.sub-delims rfc3986
rfc3986-is-printed = refl

pub rfc3987-is-printed : map line I.rules ≡ rfc3987
unfolding Core.ALPHA Core.DIGIT Core.HEXDIG R.URI R.hier-part R.URI-reference R.absolute-URI
    R.relative-ref R.relative-part R.scheme R.authority R.userinfo R.host R.port R.IP-literal
    R.IPvFuture R.IPv6address R.h16 R.ls32 R.IPv4address R.dec-octet R.reg-name R.path
    R.path-abempty R.path-absolute R.path-noscheme R.path-rootless R.path-empty R.segment
    R.segment-nz R.segment-nz-nc R.pchar R.query R.fragment R.pct-encoded R.unreserved R.reserved
    R.gen-delims R.sub-delims I.IRI I.ihier-part I.IRI-reference I.absolute-IRI I.irelative-ref
    I.irelative-part I.iauthority I.iuserinfo I.ihost I.ireg-name I.ipath I.ipath-abempty
    I.ipath-absolute I.ipath-noscheme I.ipath-rootless I.ipath-empty I.isegment I.isegment-nz
    I.isegment-nz-nc I.ipchar I.iquery I.ifragment I.iunreserved I.ucschar I.iprivate rfc3987
rfc3987-is-printed = refl
