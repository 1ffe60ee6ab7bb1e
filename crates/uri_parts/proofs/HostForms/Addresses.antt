-- The texts of IP addresses: the characters that they are made of, and the numbers that they write.
use Rattle.uri_parts.proofs.Common.{◌≡◌, ℕ, ◌<◌, ◌≤◌, Bool, true, false, List, [], ◌∷◌, ◌++◌, length, decimal, refl, sym, ap, ◌∙◌, arith, ◌||◌, inl, inr, lit≤, append-nil, Some, None, codes, list_all, digit_value, is_ascii_hexdigit, AllDigits, IsDotted, IsGroupsAfter, IsColonHex, Read, read_ipv4, read_ipv6, whole_value, and_from, and_parts, nat_tests, decimal_is_IsNumeral, list_all-append, read_ipv4_complete, read_ipv4_sound, read_ipv6_complete, read_ipv6_sound, EndsGroups-nil, is_one_of, Lacks, ipv4_value, ipv6_value}
use Rattle.uri_parts.proofs.Splitting.Cuts.{text-after-other-byte-lacks-marks}

-- a hexadecimal digit, `:` or `.`
unfoldable pub is_address_char : ℕ → Bool
is_address_char c = is_ascii_hexdigit c || is_one_of (codes ":.") c

-- each character may be in an IP address
unfoldable pub is_address_text : List ℕ → Bool
is_address_text text = list_all is_address_char text

-- IP addresses: two texts of their characters are one, one after the other
joined-address-texts-are-address-text : (xs ys : List ℕ)
    → is_address_text xs ≡ true → is_address_text ys ≡ true → is_address_text (xs ++ ys) ≡ true
unfolding is_address_text
joined-address-texts-are-address-text xs ys h k = list_all-append is_address_char xs ys
    ∙ and_from _ _ h k

-- IP addresses: a hexadecimal digit may be in one
hex-digit-is-address-char : (c : ℕ) → digit_value c < 16 → is_address_char c ≡ true
unfolding is_address_char
hex-digit-is-address-char c h = grind (arith, nat_tests)

hex-digits-are-address-text : (radix : ℕ) (text : List ℕ) → radix ≤ 16 → AllDigits radix text
    → is_address_text text ≡ true
unfolding is_address_text
hex-digits-are-address-text radix [] le h = refl
hex-digits-are-address-text radix (c ∷ text) le h = and_from _ _
    (hex-digit-is-address-char c (omega arith)) (hex-digits-are-address-text radix text le h.1)

decimal-byte-is-address-text : (n : ℕ) → n < 256 → is_address_text (decimal n) ≡ true
decimal-byte-is-address-text n h = hex-digits-are-address-text 10 (decimal n) (lit≤ tt)
    (decimal_is_IsNumeral n (omega arith)).0.1

-- IP addresses: `.`, `:` and `::` may be in one
separators-are-address-text : (is_address_text (codes ".") ≡ true)
    × (is_address_text (codes ":") ≡ true) × (is_address_text (codes "::") ≡ true)
unfolding is_address_text is_address_char
separators-are-address-text = (refl, refl, refl)

empty-text-is-address-text : is_address_text [] ≡ true
unfolding is_address_text
empty-text-is-address-text = refl

ipv4-text-is-address-text : (text octets : List ℕ) → IsDotted text octets
    → is_address_text text ≡ true
ipv4-text-is-address-text text octets h =
    grind (
      arith,
      separators-are-address-text,
      joined-address-texts-are-address-text,
      decimal-byte-is-address-text,
    )

-- IP addresses: groups of an IPv6 address have digits, `:` and `.` only; ipv4: whether an IPv4
-- address ends them, lead: what is before each
groups-are-address-text : (ipv4 : Bool) (lead text segments : List ℕ) → is_address_text lead ≡ true
    → IsGroupsAfter ipv4 lead text segments → is_address_text text ≡ true
groups-are-address-text ipv4 lead text [] k h = ap is_address_text h ∙ empty-text-is-address-text
groups-are-address-text ipv4 lead text (s ∷ segments) k (inl (group, rest, e, is_group, more)) =
    ap is_address_text e
    ∙ joined-address-texts-are-address-text _ _ (joined-address-texts-are-address-text lead group k
    (hex-digits-are-address-text 16 group (lit≤ tt) is_group.0.0.1))
    (groups-are-address-text ipv4 (codes ":") rest segments separators-are-address-text.1 more)
groups-are-address-text ipv4 lead text (s ∷ segments) k
    (inr (last, octets, allowed, e, dotted, same)) =
    ap is_address_text e ∙ joined-address-texts-are-address-text lead last k
    (ipv4-text-is-address-text last octets dotted)

-- parsing IPv6: an address has only digits, `:` and `.`
pub ipv6-text-is-address-text : (text segments : List ℕ) → IsColonHex text segments
    → is_address_text text ≡ true
ipv6-text-is-address-text text segments (inl h) = groups-are-address-text true [] text segments
    empty-text-is-address-text h.0
ipv6-text-is-address-text text segments (inr h) = ap is_address_text h.spelled
    ∙ joined-address-texts-are-address-text _ _ (joined-address-texts-are-address-text _ _
    (groups-are-address-text false [] h.head_text h.head empty-text-is-address-text h.head_groups)
    separators-are-address-text.2)
    (groups-are-address-text true [] h.tail_text h.tail empty-text-is-address-text h.tail_groups)

-- IP addresses: one lacks the delimiters that are none of its characters
pub address-text-lacks-other-marks : (marks : List ℕ) → ((c : ℕ) → is_address_char c ≡ true
    → is_one_of marks c ≡ false) → (text : List ℕ) → is_address_text text ≡ true → Lacks marks text
unfolding is_address_text
address-text-lacks-other-marks marks unmarked [] h = λ k d l. absurd (omega arith)
address-text-lacks-other-marks marks unmarked (c ∷ text) h =
    let p = and_parts _ _ h in
    text-after-other-byte-lacks-marks marks c text (unmarked c p.0)
    (address-text-lacks-other-marks marks unmarked text p.1)

pub address-text-begins-with-address-char : (c : ℕ) (text : List ℕ)
    → is_address_text (c ∷ text) ≡ true → is_address_char c ≡ true
unfolding is_address_text
address-text-begins-with-address-char c text h = (and_parts _ _ h).0

text-of-length-zero-is-empty : (rest : List ℕ) → length rest ≡ 0 → rest ≡ []
text-of-length-zero-is-empty [] e = refl
text-of-length-zero-is-empty (c ∷ rest) e = absurd (omega arith)

whole-value-is-read-to-end : {A : Type 0} (read : Read A) (x : A) → whole_value read ≡ Some x → read
    ≡ Some (x, [])
whole-value-is-read-to-end None x e = cc
whole-value-is-read-to-end (Some (value, rest)) x e =
    grind (arith, nat_tests, text-of-length-zero-is-empty)

-- IP addresses: the text of an IPv4 address is read as its octets
pub ipv4_value-complete : (text octets : List ℕ) → IsDotted text octets
    → ipv4_value text ≡ Some octets
unfolding ipv4_value
ipv4_value-complete text octets h = ap (λ t. whole_value (read_ipv4 t)) (sym (append-nil text))
    ∙ ap whole_value (read_ipv4_complete text octets [] h (lit≤ tt))

-- IP addresses: a text that is read as octets is that of an IPv4 address
pub ipv4_value-sound : (text octets : List ℕ) → ipv4_value text ≡ Some octets → IsDotted text octets
unfolding ipv4_value
ipv4_value-sound text octets e =
    grind (arith, nat_tests, read_ipv4_sound, whole-value-is-read-to-end, append-nil)

-- IP addresses: the text of an IPv6 address is read as its segments
pub ipv6_value-complete : (text segments : List ℕ) → IsColonHex text segments
    → ipv6_value text ≡ Some segments
unfolding ipv6_value
ipv6_value-complete text segments h = ap (λ t. whole_value (read_ipv6 t)) (sym (append-nil text))
    ∙ ap whole_value (read_ipv6_complete text segments [] h EndsGroups-nil)

-- IP addresses: a text that is read as segments is that of an IPv6 address
pub ipv6_value-sound : (text segments : List ℕ) → ipv6_value text ≡ Some segments
    → IsColonHex text segments
unfolding ipv6_value
ipv6_value-sound text segments e =
    grind (arith, nat_tests, read_ipv6_sound, whole-value-is-read-to-end, append-nil)
