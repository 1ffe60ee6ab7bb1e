-- The hosts and ports that a builder takes are hosts, and digits.
use Rattle.uri_ops.proofs.Common.{◌≡◌, ℕ, ◌<◌, ◌^◌, Bool, true, ltb, List, [], ◌∷◌, refl, arith, codes, digit_value, is_ascii_digit, decimal, list_all, IsUtf8, and_from, nat_tests, All-weaker, list_all-from_AllPass, IsDigitOrDot, TableSet, LacksPercent, digit_set, is_valid_for, excludes, Ipv4, Ipv6, IsIpv4Text, IsIpv6Text, bracketed, host_kind, ipv6-text-is-address-text, is_host-sound, lacking_text_does_not_begin_with, valid_text_lacks_excluded_marks, ipv4-text-is-digits-and-dots, is_text_for, IsHostText, common_steps}
use Rattle.std.specs.Str.Parse.{AllDigits}
use Rattle.std.proofs.lemmas.Fmt.{decimal_is_IsNumeral}
use Rattle.std.proofs.lemmas.Str.Parse.{digit_from_value}
use Rattle.uri_ops.proofs.Builders.BuilderDrafts.{valid_utf8_is_text_for_set}
use Rattle.uri_ops.proofs.Meanings.HostMeanings.{unbracketed-valid-text-is-host, address-text-is-utf8, bracketed-utf8-is-utf8}
use Rattle.uri_ops.proofs.Meanings.AllowedParts.{set-text-is-utf8, set-text-is-valid}
use Rattle.uri_ops.proofs.Meanings.AsciiCharacters.{is_ascii_in, ascii-in-test-is-set-text, ascii-in-test-is-utf8}

-- building: the test that every character passes
any_ascii : ℕ → Bool
any_ascii c = ltb c 128

-- building: the characters of an IPv4 address are ASCII
digit-or-dot-is-ascii : (c : ℕ) → IsDigitOrDot c → is_ascii_in any_ascii c ≡ true
unfolding any_ascii
digit-or-dot-is-ascii c o = grind (arith, common_steps)

pub ipv4-text-is-host : (names : TableSet) (text octets : List ℕ) → IsIpv4Text text octets
    → IsHostText names text
ipv4-text-is-host names text octets h = record {
  utf8 = ascii-in-test-is-utf8 any_ascii text (list_all-from_AllPass _ _ (All-weaker _ _
      (λ c d. digit-or-dot-is-ascii c d) _ (ipv4-text-is-digits-and-dots _ _ h)));
  host = (Ipv4 octets, h);
}

pub bracketed-ipv6-text-is-host : (names : TableSet) (text segments : List ℕ)
    → IsIpv6Text text segments → IsHostText names (bracketed text)
bracketed-ipv6-text-is-host names text segments h = record {
  utf8 = bracketed-utf8-is-utf8 _ (address-text-is-utf8 _ (ipv6-text-is-address-text _ _ h));
  host = (Ipv6 segments, (text, refl, h));
}

-- building: a text that is valid for registered names is a host, as a name or an IPv4 address
pub valid-name-is-host : (names : TableSet) → LacksPercent names → excludes names (codes "[") ≡ true
    → (text : List ℕ) → IsUtf8 text → is_valid_for names text ≡ true → IsHostText names text
valid-name-is-host names percent outside text u valid =
    let lacks = valid_text_lacks_excluded_marks names (codes "[") percent outside text u valid in
    record {
      utf8 = u;
      host = (
        host_kind text,
        is_host-sound names text (unbracketed-valid-text-is-host
            names text (lacking_text_does_not_begin_with (codes "[") text 91 refl lacks) valid),
      );
    }

-- building: a digit with a value below 10 is allowed in a port
decimal-digit-is-ascii-digit : (d : ℕ) → digit_value d < 10 → is_ascii_in is_ascii_digit d ≡ true
decimal-digit-is-ascii-digit d e = let range = digit_from_value d e in grind (arith, nat_tests)

decimal-digits-are-ascii-digits : (digits : List ℕ) → AllDigits 10 digits
    → list_all (is_ascii_in is_ascii_digit) digits ≡ true
decimal-digits-are-ascii-digits [] h = refl
decimal-digits-are-ascii-digits (d ∷ digits) h = and_from _ _ (decimal-digit-is-ascii-digit d h.0)
    (decimal-digits-are-ascii-digits digits h.1)

pub decimal_number_is_port : (n : ℕ) → n < 2 ^ 64 → is_text_for digit_set (decimal n) ≡ true
decimal_number_is_port n fits =
    let part = ascii-in-test-is-set-text _ _ refl refl (λ c e. e) _
    (decimal-digits-are-ascii-digits _ (decimal_is_IsNumeral n fits).0.1) in
    valid_utf8_is_text_for_set _ _ (set-text-is-utf8 _ _ part) (set-text-is-valid _ _ part)
