-- The numbers of an IPv6 address are eight of 16 bits, so its text by RFC 5952 is one of an address
-- with these numbers.
use Rattle.uri_ops.proofs.Common.{common_steps, ◌≡◌, ℕ, ◌+◌, ◌-◌, ◌*◌, ◌<◌, ◌^◌, Bool, true, List, [], ◌∷◌, ◌++◌, length, replicate, All, refl, sym, subst, arith, ⊎_elim, inl, inr, lit<, IsDotted, IsGroup, IsGroupsAfter, IsColonHex, ipv6_text, cases_lt, get_or_past, All-nil, All-cons, All-append, All-replicate, All-get_or, nat_tests}
use Rattle.std.specs.Net.Addr.{segments_of}
use Rattle.std.proofs.Math.Nat.{pow-le-pow_right}
use Rattle.std.proofs.NetLemmas.Texts.{IsColonHex-ipv6_text}
use Rattle.std.proofs.lemmas.Int.Digits.{digits_value-lt}

-- meanings of hosts: every number of an IPv6 address has 16 bits
abbrev Fit16Bits : List ℕ → Type 0
Fit16Bits segments = All (λ n. n < 2 ^ 16) segments

group-fits-16-bits : (group : List ℕ) (s : ℕ) → IsGroup group s → s < 2 ^ 16
group-fits-16-bits group s h = grind (arith, nat_tests, digits_value-lt, pow-le-pow_right)

-- meanings of hosts: an IPv4 address at the end of an IPv6 address makes groups of 16 bits
ipv4-segments-fit-16-bits : (text octets : List ℕ) → IsDotted text octets
    → Fit16Bits (segments_of octets)
ipv4-segments-fit-16-bits text octets h = subst
    (λ o. Fit16Bits (segments_of o)) (sym h.value) (All-cons (λ n. n < 2 ^ 16) (h.a * 256 + h.b)
    ((h.c * 256 + h.d) ∷ []) (two h.a h.b h.fit.0 h.fit.1) (All-cons (λ n. n < 2 ^ 16)
    (h.c * 256 + h.d) [] (two h.c h.d h.fit.2 h.fit.3) (All-nil (λ n. n < 2 ^ 16))))
  where
    two : (a b : ℕ) → a < 256 → b < 256 → a * 256 + b < 2 ^ 16
    two a b p q = let same : 65536 ≡ 2 ^ 16 = refl in omega arith

-- meanings of hosts: the groups of an IPv6 address have 16 bits; ipv4: whether an IPv4 address ends
-- them, lead: what is before each
groups-fit-16-bits : (ipv4 : Bool) (lead text segments : List ℕ)
    → IsGroupsAfter ipv4 lead text segments → Fit16Bits segments
groups-fit-16-bits ipv4 lead text [] h = All-nil (λ n. n < 2 ^ 16)
groups-fit-16-bits ipv4 lead text (s ∷ segments) (inl (group, rest, e, is_group, more)) =
    All-cons (λ n. n < 2 ^ 16) s segments (group-fits-16-bits group s is_group)
    (groups-fit-16-bits ipv4 (58 ∷ []) rest segments more)
groups-fit-16-bits ipv4 lead text (s ∷ segments) (inr (last, octets, allowed, e, dotted, same)) =
    subst Fit16Bits (sym same) (ipv4-segments-fit-16-bits last octets dotted)

zeros-fit-16-bits : (n : ℕ) → Fit16Bits (replicate n 0)
zeros-fit-16-bits n = All-replicate (λ n. n < 2 ^ 16) n 0 (lit< tt)

ipv6-segments-fit-16-bits : (text segments : List ℕ) → IsColonHex text segments → Fit16Bits segments
ipv6-segments-fit-16-bits text segments (inl h) = groups-fit-16-bits true [] text segments h.0
ipv6-segments-fit-16-bits text segments (inr h) = subst Fit16Bits (sym h.value) (All-append
    (λ n. n < 2 ^ 16) (h.head ++ replicate (8 - length h.head - length h.tail) 0) h.tail (All-append
    (λ n. n < 2 ^ 16) h.head (replicate (8 - length h.head - length h.tail) 0)
    (groups-fit-16-bits _ [] _ _ h.head_groups) (zeros-fit-16-bits _))
    (groups-fit-16-bits _ [] _ _ h.tail_groups))

ipv6-text-has-eight-segments : (text segments : List ℕ) → IsColonHex text segments
    → length segments ≡ 8
ipv6-text-has-eight-segments text segments o = grind (arith, common_steps)

-- meanings of hosts: the text of an IPv6 address by RFC 5952 has the same eight numbers
pub ipv6_text-has-its-segments : (text segments : List ℕ) → IsColonHex text segments
    → IsColonHex (ipv6_text segments) segments
ipv6_text-has-its-segments text segments h =
    IsColonHex-ipv6_text segments (ipv6-text-has-eight-segments _ _ h) (λ k. ⊎_elim
    (λ inside. All-get_or (λ n. n < 2 ^ 16) segments k 0 inside (ipv6-segments-fit-16-bits _ _ h))
    (λ past. subst (λ n. n < 2 ^ 16) (sym (get_or_past _ k 0 past)) (lit< tt)) (cases_lt k _))
