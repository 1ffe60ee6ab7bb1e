use Rattle.uri_parts.proofs.Common.{◌≡◌, ◌+◌, ◌++◌, codes, take, slice_set, bracketed, arith, sym, subst, IsUtf8, IsAscii-append, take_more_set, All-ipv4_text}
use Rattle.std.specs.Net.Text.{ipv4_text}
use Rattle.uri_parts.proofs.HostForms.AddressTexts.{digits_and_dots_are_ascii, prefix_of_mapped_is_ascii, bracketed-ascii-is-utf8}
use Rattle.uri_parts.proofs.address_text.mapped_host.Goals as goal

pub returns-clause-utf8 : goal.returns-clause-utf8
returns-clause-utf8 c =
    let end = c.put_ipv4-end.result in
    let address = codes "::ffff:" ++ ipv4_text c.args.octets.now in
    let whole : take (end + 1) (slice_set c.put_ipv4-end.new.text end 93) ≡ bracketed address =
    grind (arith, take_more_set) in
    subst IsUtf8 (sym whole) (bracketed-ascii-is-utf8 address
    (IsAscii-append (codes "::ffff:") _ prefix_of_mapped_is_ascii
    (digits_and_dots_are_ascii _ (All-ipv4_text c.args.octets.now
    (λ k. c.fits-octets k)))))
