use Rattle.uri_parts.proofs.Common.{◌≡◌, [], ◌∷◌, false, ◌++◌, take, drop, bytes_eq, refl, arith, ap, ◌∙◌, codes, bytes_eq-Decides, ipv6_text, bracketed}
use Rattle.std.specs.Net.Text.{ipv4_text}
use Rattle.std.specs.Net.Addr.{octets_of}
use Rattle.uri_parts.specs.Addresses.{ipv6_segments}
use Rattle.uri_parts.proofs.address_text.ipv6_host.Goals as goal

pub returns-in-Some-clause-text : goal.returns-in-Some-clause-text
unfolding ipv6_text
returns-in-Some-clause-text c =
    let prefix = take 6 (ipv6_segments c.args.address.now) in
    let mapped = 0 ∷ 0 ∷ 0 ∷ 0 ∷ 0 ∷ 0xffff ∷ [] in
    let same = (bytes_eq-Decides prefix mapped).1
    (rw c.to_std.ensures at (c.in-Some.ensures.found.0 refl)) in
    let octets : c.octets.result ≡ octets_of (drop 6 (ipv6_segments c.args.address.now)) =
    c.octets.ensures ∙ c.in-Some.ensures.value ∙ ap (λ s. octets_of (drop 6 s)) c.to_std.ensures in
    rw same (c.mapped_host.ensures.text
    ∙ ap (λ o. bracketed (codes "::ffff:" ++ ipv4_text o)) octets)

pub returns-in-None-clause-text : goal.returns-in-None-clause-text
unfolding ipv6_text
returns-in-None-clause-text c =
    let prefix = take 6 (ipv6_segments c.args.address.now) in
    let mapped = 0 ∷ 0 ∷ 0 ∷ 0 ∷ 0 ∷ 0xffff ∷ [] in
    let other : bytes_eq prefix mapped ≡ false =
    grind (arith, bytes_eq-Decides prefix mapped, c.in-None.ensures.found, c.to_std.ensures) in
    rw (other, ← c.segments.ensures) c.groups_host.ensures.text
