-- The core rules that RFC 3986 names: RFC 5234, appendix B.1.
use Rattle.std.specs.Prelude.{List, [], ◌∷◌}
use Rattle.uri_abnf.specs.Abnf.{Abnf, ◌≔◌, lit, ◌⋯◌, ◌∣◌}

unfoldable pub ALPHA : Abnf
ALPHA = "ALPHA" ≔ 0x41 ⋯ 0x5A ∣ 0x61 ⋯ 0x7A

unfoldable pub DIGIT : Abnf
DIGIT = "DIGIT" ≔ 0x30 ⋯ 0x39

unfoldable pub HEXDIG : Abnf
HEXDIG = "HEXDIG" ≔ DIGIT ∣ lit "A" ∣ lit "B" ∣ lit "C" ∣ lit "D" ∣ lit "E" ∣ lit "F"

-- the rules, in the order in which they are printed
abbrev pub rules : List Abnf
rules =
    ALPHA ∷ DIGIT ∷ HEXDIG ∷ []
