use Rattle.uri_parts.proofs.Common.{◌≡◌, ◌+◌, take, slice_set, bracketed, hex_groups_text, arith, sym, subst, IsUtf8, take_more_set, All-hex_groups_text}
use Rattle.uri_parts.proofs.HostForms.AddressTexts.{hex_is_ascii, bracketed-ascii-is-utf8}
use Rattle.uri_parts.proofs.address_text.groups_host.Goals as goal

pub returns-clause-utf8 : goal.returns-clause-utf8
returns-clause-utf8 c =
    let end = c.put_compressed-end.result in
    let whole : take (end + 1) (slice_set c.put_compressed-end.new.text end 93)
    ≡ bracketed (hex_groups_text c.args.segments.now) = grind (arith, take_more_set) in
    subst IsUtf8 (sym whole) (bracketed-ascii-is-utf8 _ (hex_is_ascii _
    (All-hex_groups_text c.args.segments.now (λ k. c.fits-segments k))))
