-- A text in brackets that begins with no `v` is parsed as an IPv6 address with `]` after it.
use Rattle.uri_parts.proofs.Common.{◌≡◌, ℕ, ◌+◌, ◌-◌, ◌≤◌, Bool, true, false, List, [], ◌∷◌, ◌++◌, length, drop, Option, Some, None, option_map, refl, sym, ap, ◌∙◌, arith, ◌||◌, lit≤, eqb-true, length-append, codes, is_some, read_ipv6, false≢true, and_parts, false_from_ne_true, none-some, map_some, EndsGroups, read_ipv6_complete, read_ipv6_sound, nat_tests, starts, before_any, from_any, ipv6_value, is_ipv_future, literal_length}
use Rattle.uri_parts.proofs.Parsing.Acceptance.{is_literal, parses_literal}
use Rattle.uri_parts.proofs.Splitting.Cuts.{IsEmptyOrMarked, text-is-cut-at-first-mark, cut-at-end-of-text-without-marks}
use Rattle.uri_parts.proofs.HostForms.Addresses.{ipv6_value-complete, ipv6_value-sound}
use Rattle.uri_parts.proofs.HostForms.AddressParsing.{IsSuffix, text-after-prefix-is-suffix, suffix-at-position}
use Rattle.uri_parts.proofs.HostForms.Futures.{ipv6-text-lacks-excluded-marks}
use Rattle.uri_parts.proofs.HostForms.LiteralTexts.{text-without-version-letter-is-no-ipvfuture}

-- parsing IPv6: what is left after an address at the start of the text
abbrev left : List ℕ → Option (List ℕ)
left rest = option_map (λ p. p.1) (read_ipv6 rest)

-- parsing IP literals: a text that begins with `]` (93) is cut there
pub text-with-bracket-is-empty-or-marked : (text : List ℕ) → starts 93 text ≡ true
    → IsEmptyOrMarked (codes "]") text
text-with-bracket-is-empty-or-marked [] e = absurd (false≢true e)
text-with-bracket-is-empty-or-marked (c ∷ text) e = rw (eqb-true c 93 e) refl

-- parsing IPv6: `]` (93) ends the groups of an address
closing-bracket-ends-groups : (text : List ℕ) → starts 93 text ≡ true → EndsGroups text
closing-bracket-ends-groups [] e = absurd (false≢true e)
closing-bracket-ends-groups (c ∷ text) e = rw (eqb-true c 93 e)
    ((lit≤ tt, omega arith), λ colon. absurd (omega arith))

pub text-after-ipv6-is-suffix : (rest suffix : List ℕ) → Some suffix ≡ left rest
    → IsSuffix suffix rest
text-after-ipv6-is-suffix rest suffix e =
    grind (arith, nat_tests, map_some, read_ipv6_sound, text-after-prefix-is-suffix)

-- parsing IPv6: what is left after an address at a position is a suffix of the whole text
pub text-after-ipv6-at-position : (text suffix : List ℕ) (start : ℕ) → start ≤ length text
    → Some suffix ≡ left (drop start text) → suffix ≡ drop (length text - length suffix) text
text-after-ipv6-at-position text suffix start within e = (suffix-at-position text
    suffix start within (text-after-ipv6-is-suffix (drop start text) suffix e)).1

pub ipv6-and-bracket-are-parsed-literal : (rest suffix : List ℕ) → Some suffix ≡ left rest
    → starts 93 suffix ≡ true
    → (parses_literal rest ≡ true) × (literal_length rest + length suffix ≡ length rest + 1)
unfolding is_literal parses_literal literal_length
ipv6-and-bracket-are-parsed-literal rest suffix e closed =
    map_some (λ p. p.1) (read_ipv6 rest) suffix (sym e) λ p found same.
    let (prefix, split, groups) = read_ipv6_sound rest p.0 p.1 found in
    let whole : rest ≡ prefix ++ suffix = split ∙ ap (λ t. prefix ++ t) same in
    let cut = cut-at-end-of-text-without-marks (codes "]") prefix suffix
    (ipv6-text-lacks-excluded-marks (codes "]") refl prefix p.0 groups)
    (text-with-bracket-is-empty-or-marked suffix closed) in
    rw (whole, cut.0, cut.1, closed, ipv6_value-complete prefix p.0 groups)
    (refl, omega (arith, length-append prefix suffix))

-- parsing IP literals: if a text does not begin with `v`, no prefix of it is an IPvFuture address
prefix-without-version-letter-is-no-ipvfuture : (before from : List ℕ)
    → (starts 118 (before ++ from) || starts 86 (before ++ from)) ≡ false
    → is_ipv_future before ≡ false
prefix-without-version-letter-is-no-ipvfuture [] from e =
    text-without-version-letter-is-no-ipvfuture [] refl
prefix-without-version-letter-is-no-ipvfuture (c ∷ before) from e =
    text-without-version-letter-is-no-ipvfuture (c ∷ before) e

-- general fact on options, for the value of an IPv6 address
present-option-has-value : (o : Option (List ℕ)) (b : Bool) → (is_some o || b) ≡ true → b ≡ false
    → (x : List ℕ) × (o ≡ Some x)
present-option-has-value None b e f = absurd (false≢true (sym f ∙ e))
present-option-has-value (Some x) b e f = (x, refl)

-- parsing IP literals: without a `v`, what is parsed is an IPv6 address and the `]` (93) after it
pub literal_is_ipv6_and_bracket : (rest : List ℕ) → (starts 118 rest || starts 86 rest) ≡ false
    → parses_literal rest ≡ true → (left rest ≡ Some (from_any (codes "]") rest))
    × (starts 93 (from_any (codes "]") rest) ≡ true)
unfolding is_literal parses_literal
literal_is_ipv6_and_bracket rest no_version e =
    let cut = text-is-cut-at-first-mark (codes "]") rest in
    let before = before_any (codes "]") rest in
    let from = from_any (codes "]") rest in
    let p = and_parts _ _ e in
    let no_future = prefix-without-version-letter-is-no-ipvfuture before from
    (rw cut.whole no_version) in
    let (segments, value) = present-option-has-value (ipv6_value before) _ p.1 no_future in
    let found = read_ipv6_complete before segments from (ipv6_value-sound before segments value)
    (closing-bracket-ends-groups from p.0) in
    (ap (option_map (λ p. p.1)) (ap read_ipv6 (sym cut.whole) ∙ found), p.0)

-- parsing IP literals: without a `v` at its start, and if no IPv6 address is found,
-- the text after `[` is no literal
pub no_ipv6_is_no_literal : (rest : List ℕ)
    → (starts 118 rest || starts 86 rest) ≡ false → None ≡ left rest → parses_literal rest ≡ false
no_ipv6_is_no_literal rest no_version e = false_from_ne_true _ λ t. none-some _
    (e ∙ (literal_is_ipv6_and_bracket rest no_version t).0)

-- parsing IP literals: without a `v` at its start,
-- and if no `]` (93) follows the IPv6 address, it is no literal
pub unclosed_ipv6_is_no_literal : (rest suffix : List ℕ) → (starts 118 rest || starts 86 rest)
    ≡ false → Some suffix ≡ left rest → starts 93 suffix ≡ false → parses_literal rest ≡ false
unclosed_ipv6_is_no_literal rest suffix no_version e other =
    grind (arith, nat_tests, false_from_ne_true, literal_is_ipv6_and_bracket)
