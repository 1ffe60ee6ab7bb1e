use Rattle.uri_parts.proofs.Common.{◌≡◌, ℕ, ◌<◌, ◌^◌, length, get_or, rules}
use Rattle.std.proofs.NetLemmas.Texts.{IsColonHex-ipv6_text}
use Rattle.uri_parts.proofs.laws.ipv6_text_parses_to_its_segments.Goals as goal

pub returns : goal.returns
returns c =
    let eight : length c.segments-segments.result ≡ 8 = search rules in
    let fits : (k : ℕ) → get_or c.segments-segments.result k 0 < 2 ^ 16 = λ k. search rules in
    rw (← c.segments-segments.ensures) (IsColonHex-ipv6_text c.segments-segments.result eight fits)
