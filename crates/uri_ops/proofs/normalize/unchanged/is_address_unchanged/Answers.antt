use Rattle.uri_ops.proofs.Common.{common_steps, ◌≡◌, ℕ, zero, suc, ◌+◌, ◌-◌, ◌*◌, ◌/◌, ◌%◌, ◌<◌, ◌≤◌, Bool, true, false, not, ◌||◌, ◌==◌, List, [], ◌∷◌, ◌++◌, length, take, drop, replicate, flat_map, refl, sym, ap, subst, ◌∙◌, arith, inl, inr, append_assoc, length-append, add-one, le-leb, lt-ltb, ne_eqb, codes, bytes_eq, ⊤, Option, Some, None, digit_value, digit_char, to_ascii_lowercase, str_to_ascii_lowercase, IsDotted, IsGroup, IsGroupsAfter, IsGroups, IsColonHex, IsElided, hex, groups_text, zero_run, longest_zero_run, compressed_text, hex_groups_text, ipv6_text, and_parts, and_from, cond-true, cond-false, lt-leb, nat_tests, drop_at, length-replicate, take_at, bytes_eq-Decides, TableSet, starts, bracketed, host_kind, ipv6_value, is_host, literal_kind, literal_of, ipv6_value-sound, host_meaning, host_text}
use Rattle.uri_ops.proofs.normalize.unchanged.is_address_unchanged.Invariants.{unusual, usual, colons_of}
use Rattle.uri_ops.proofs.normalize.unchanged.is_address_unchanged.Goals as goal

-- normal addresses: a text of usual bytes has usual bytes in its prefix and in its suffix
usual-splits : (p : ℕ) (xs ys : List ℕ) → usual p (xs ++ ys) ≡ true
    → (usual p xs ≡ true) × ((q : ℕ) × (usual q ys ≡ true))
usual-splits p [] ys e = (refl, (p, e))
usual-splits p (c ∷ xs) ys e =
    let parts = and_parts (not (unusual p c)) (usual c (xs ++ ys)) e in
    let later = usual-splits c xs ys parts.1 in
    (and_from _ _ parts.0 later.0, later.1)

-- normal addresses: two texts, one after the other, have the `:` of both
colons_of-append : (xs ys : List ℕ) → colons_of (xs ++ ys) ≡ colons_of xs + colons_of ys
colons_of-append [] ys = omega arith
colons_of-append (c ∷ xs) ys = omega (arith, colons_of-append xs ys)

usual-digit-is-of-its-value : (p c : ℕ) → not (unusual p c) ≡ true → digit_value c < 16
    → digit_char (digit_value c) ≡ c
usual-digit-is-of-its-value p c e h = grind (arith, nat_tests)

usual-first-digit-is-not-zero : (p c : ℕ) → (p == 58 || p == 91) ≡ true
    → not (unusual p c) ≡ true → digit_value c < 16 → 0 < digit_value c
usual-first-digit-is-not-zero p c begins e h = grind (arith, nat_tests)

-- numbers in hexadecimal digits, by how many there are
hex-of-one : (s : ℕ) → s < 16 → hex s ≡ digit_char (s % 16) ∷ []
unfolding hex
hex-of-one s h = grind arith

hex-of-two : (s : ℕ) → 0x10 ≤ s → s < 0x100
    → hex s ≡ digit_char (s / 0x10 % 16) ∷ digit_char (s % 16) ∷ []
unfolding hex
hex-of-two s k h = grind arith

hex-of-three : (s : ℕ) → 0x100 ≤ s → s < 0x1000
    → hex s ≡ digit_char (s / 0x100 % 16) ∷ digit_char (s / 0x10 % 16) ∷ digit_char (s % 16) ∷ []
unfolding hex
hex-of-three s k h = rw (lt-leb 0x1000 s h, le-leb 0x100 s k) refl

hex-of-four : (s : ℕ) → 0x1000 ≤ s → hex s ≡ digit_char (s
    / 0x1000) ∷ digit_char (s / 0x100 % 16) ∷ digit_char (s / 0x10 % 16) ∷ digit_char (s % 16) ∷ []
unfolding hex
hex-of-four s k = rw (le-leb 0x1000 s k) refl

-- normal addresses: the digits of a group, by how many there are, are those of its number
abbrev IsHexOf : List ℕ → ℕ → Type 0
IsHexOf group s = (hex s ≡ group) × (0 < s)

usual-group-is-hex : (p : ℕ) (group : List ℕ) (s : ℕ) → (p == 58 || p == 91) ≡ true
    → usual p group ≡ true → IsGroup group s → IsHexOf group s
usual-group-is-hex p [] s begins e h = absurd (omega (arith, h.0.0.0))
usual-group-is-hex p (a ∷ []) s begins e h =
    grind (arith, usual-first-digit-is-not-zero, usual-digit-is-of-its-value, hex-of-one)
usual-group-is-hex p (a ∷ b ∷ []) s begins e h =
    let ea = and_parts (not (unusual p a)) _ e in
    let eb = and_parts (not (unusual a b)) true ea.1 in
    let ha = h.0.0.1.0 in
    let hb = h.0.0.1.1.0 in
    let va = usual-first-digit-is-not-zero p a begins ea.0 ha in
    let value : digit_value a * 16 + digit_value b ≡ s = omega (arith, h.0.1) in
    let two : s / 0x10 % 16 ≡ digit_value a = omega (arith, value, ha, hb) in
    let one : s % 16 ≡ digit_value b = omega (arith, value, ha, hb) in
    let da = ap digit_char two ∙ usual-digit-is-of-its-value p a ea.0 ha in
    let db = ap digit_char one ∙ usual-digit-is-of-its-value a b eb.0 hb in (
      hex-of-two s (omega (arith, value, va)) (omega (arith, value, ha, hb))
          ∙ (λ i. da i ∷ db i ∷ []),
      omega (arith, value, va),
    )
usual-group-is-hex p (a ∷ b ∷ c ∷ []) s begins e h =
    let ea = and_parts (not (unusual p a)) _ e in
    let eb = and_parts (not (unusual a b)) _ ea.1 in
    let ec = and_parts (not (unusual b c)) true eb.1 in
    let ha = h.0.0.1.0 in
    let hb = h.0.0.1.1.0 in
    let hc = h.0.0.1.1.1.0 in
    let va = usual-first-digit-is-not-zero p a begins ea.0 ha in
    let value : (digit_value a * 16 + digit_value b) * 16 + digit_value c ≡ s =
    omega (arith, h.0.1) in
    let three : s / 0x100 % 16 ≡ digit_value a = omega (arith, value, ha, hb, hc) in
    let two : s / 0x10 % 16 ≡ digit_value b = omega (arith, value, ha, hb, hc) in
    let one : s % 16 ≡ digit_value c = omega (arith, value, ha, hb, hc) in
    let da = ap digit_char three ∙ usual-digit-is-of-its-value p a ea.0 ha in
    let db = ap digit_char two ∙ usual-digit-is-of-its-value a b eb.0 hb in
    let dc = ap digit_char one ∙ usual-digit-is-of-its-value b c ec.0 hc in (
      hex-of-three s (omega (arith, value, va)) (omega (arith, value, ha, hb, hc))
          ∙ (λ i. da i ∷ db i ∷ dc i ∷ []),
      omega (arith, value, va),
    )
usual-group-is-hex p (a ∷ b ∷ c ∷ d ∷ []) s begins e h =
    let ea = and_parts (not (unusual p a)) _ e in
    let eb = and_parts (not (unusual a b)) _ ea.1 in
    let ec = and_parts (not (unusual b c)) _ eb.1 in
    let ed = and_parts (not (unusual c d)) true ec.1 in
    let ha = h.0.0.1.0 in
    let hb = h.0.0.1.1.0 in
    let hc = h.0.0.1.1.1.0 in
    let hd = h.0.0.1.1.1.1.0 in
    let va = usual-first-digit-is-not-zero p a begins ea.0 ha in
    let value : ((digit_value a * 16 + digit_value b) * 16 + digit_value c) * 16 + digit_value d
    ≡ s = omega (arith, h.0.1) in
    let four : s / 0x1000 ≡ digit_value a = omega (arith, value, ha, hb, hc, hd) in
    let three : s / 0x100 % 16 ≡ digit_value b = omega (arith, value, ha, hb, hc, hd) in
    let two : s / 0x10 % 16 ≡ digit_value c = omega (arith, value, ha, hb, hc, hd) in
    let one : s % 16 ≡ digit_value d = omega (arith, value, ha, hb, hc, hd) in
    let da = ap digit_char four ∙ usual-digit-is-of-its-value p a ea.0 ha in
    let db = ap digit_char three ∙ usual-digit-is-of-its-value a b eb.0 hb in
    let dc = ap digit_char two ∙ usual-digit-is-of-its-value b c ec.0 hc in
    let dd = ap digit_char one ∙ usual-digit-is-of-its-value c d ed.0 hd in (
      hex-of-four s (omega (arith, value, va)) ∙ (λ i. da i ∷ db i ∷ dc i ∷ dd i ∷ []),
      omega (arith, value, va),
    )
usual-group-is-hex p (a ∷ b ∷ c ∷ d ∷ x ∷ group) s begins e h = absurd (omega (arith, h.1))

usual-text-has-no-dot : (p : ℕ) (xs ys : List ℕ) → usual p (xs ++ codes "." ++ ys) ≡ true → ⊥
usual-text-has-no-dot p xs ys e = grind (arith, usual-splits)

-- normal addresses: a usual text has no IPv4 address
usual-text-is-not-dotted : (p : ℕ) (lead text octets : List ℕ) → usual p (lead ++ text) ≡ true
    → IsDotted text octets → ⊥
usual-text-is-not-dotted p lead text octets e h =
    grind (arith, usual-splits, usual, usual-text-has-no-dot)

-- all of these numbers are above 0
abbrev AllPositive : List ℕ → Type 0
AllPositive [] = ⊤
AllPositive (s ∷ segments) = (0 < s) × AllPositive segments

-- normal addresses: groups after `:` are written as in a normal form, and have so many `:`
record AreNormalAfter (text segments : List ℕ) : Type 0 where
  same : text ≡ flat_map (λ t. codes ":" ++ hex t) segments
  positive : AllPositive segments
  count : length segments ≤ colons_of text

usual-later-groups-are-normal : (ipv4 : Bool) (p : ℕ) (text segments : List ℕ) → usual p text ≡ true
    → IsGroupsAfter ipv4 (codes ":") text segments → AreNormalAfter text segments
usual-later-groups-are-normal ipv4 p text [] u h = record {
  same = h;
  positive = tt;
  count = omega arith;
}
usual-later-groups-are-normal ipv4 p text (s ∷ segments) u (inl (group, rest, e, is_group, more)) =
    let parts = and_parts (not (unusual p 58)) _ (subst (λ t. usual p t ≡ true) e u) in
    let split = usual-splits 58 group rest parts.1 in
    let own = usual-group-is-hex 58 group s refl split.0 is_group in
    let later = usual-later-groups-are-normal ipv4 split.1.0 rest segments split.1.1 more in
    record {
      same = e ∙ (λ i. 58 ∷ (sym own.0 i ++ later.same i));
      positive = (own.1, later.positive);
      count = omega (arith, ap colons_of e, colons_of-append group rest, later.count);
    }
usual-later-groups-are-normal ipv4 p text
    (s ∷ segments) u (inr (last, octets, allowed, e, dotted, same)) = absurd
    (usual-text-is-not-dotted p (codes ":") last octets (subst (λ t. usual p t ≡ true) e u) dotted)

-- normal addresses: groups with `:` between them are written as in a normal form
record AreNormalGroups (text segments : List ℕ) : Type 0 where
  same : text ≡ groups_text segments
  positive : AllPositive segments
  count : length segments ≤ colons_of text + 1

usual-groups-are-normal : (ipv4 : Bool) (p : ℕ) (text segments : List ℕ) → (p == 58 || p == 91)
    ≡ true → usual p text ≡ true → IsGroups ipv4 text segments → AreNormalGroups text segments
usual-groups-are-normal ipv4 p text [] begins u h = record {
  same = h;
  positive = tt;
  count = omega arith;
}
usual-groups-are-normal ipv4 p text (s ∷ segments) begins u (inl (group, rest, e, is_group, more)) =
    let split = usual-splits p group rest (subst (λ t. usual p t ≡ true) e u) in
    let own = usual-group-is-hex p group s begins split.0 is_group in
    let later = usual-later-groups-are-normal ipv4 split.1.0 rest segments split.1.1 more in
    record {
      same = e ∙ (λ i. sym own.0 i ++ later.same i);
      positive = (own.1, later.positive);
      count = omega (arith, ap colons_of e, colons_of-append group rest, later.count);
    }
usual-groups-are-normal ipv4 p text (s ∷ segments) begins u
    (inr (last, octets, allowed, e, dotted, same)) =
    absurd (usual-text-is-not-dotted p [] last octets (subst (λ t. usual p t ≡ true) e u) dotted)

-- runs of zeros: none is in positive numbers
zero_run-of-positive : (s : ℕ) (segments : List ℕ) → 0 < s → zero_run (s ∷ segments) ≡ 0
zero_run-of-positive s segments h = rw (ne_eqb s 0 (λ e. omega arith)) refl

longest_zero_run-of-positive : (segments : List ℕ) → AllPositive segments
    → (longest_zero_run segments).1 ≡ 0
longest_zero_run-of-positive [] h = refl
longest_zero_run-of-positive (s ∷ segments) h =
    let later = longest_zero_run-of-positive segments h.1 in
    rw (later, zero_run-of-positive s segments h.0) refl

zero_run-of-zeros : (n : ℕ) (tail : List ℕ) → AllPositive tail
    → zero_run (replicate n 0 ++ tail) ≡ n
zero_run-of-zeros zero [] h = refl
zero_run-of-zeros zero (s ∷ tail) h = zero_run-of-positive s tail h.0
zero_run-of-zeros (suc n) tail h = rw (zero_run-of-zeros n tail h) (omega arith)

longest_zero_run-of-zeros : (n : ℕ) (tail : List ℕ) → AllPositive tail
    → (longest_zero_run (replicate n 0 ++ tail)).1 ≡ n
longest_zero_run-of-zeros zero tail h = longest_zero_run-of-positive tail h
longest_zero_run-of-zeros (suc n) tail h =
    let later = longest_zero_run-of-zeros n tail h in
    let run = zero_run-of-zeros (suc n) tail h in
    rw (later, run, le-leb n (suc n) (omega arith)) refl

first-zeros-are-longest_zero_run : (n : ℕ) (tail : List ℕ) → AllPositive tail → 0 < n
    → longest_zero_run (replicate n 0 ++ tail) ≡ (0, n)
first-zeros-are-longest_zero_run zero tail h k = absurd (omega arith)
first-zeros-are-longest_zero_run (suc n) tail h k =
    grind (arith, longest_zero_run-of-zeros, zero_run-of-zeros)

zeros-are-longest_zero_run : (head : List ℕ) (n : ℕ) (tail : List ℕ) → AllPositive head
    → AllPositive tail → 0 < n
    → longest_zero_run (head ++ (replicate n 0 ++ tail)) ≡ (length head, n)
zeros-are-longest_zero_run [] n tail h t k = first-zeros-are-longest_zero_run n tail t k
zeros-are-longest_zero_run (s ∷ head) n tail h t k =
    let later = zeros-are-longest_zero_run head n tail h.1 t k in
    let run = zero_run-of-positive s (head ++ (replicate n 0 ++ tail)) h.0 in
    rw (later, run, lt-leb n 0 k, add-one) refl

-- normal addresses: with `::` for two zeros or more, after a number above 0, an address is printed
-- so
elided-text-is-printed : (s : ℕ) (head tail : List ℕ) (n : ℕ) → AllPositive (s ∷ head)
    → AllPositive tail → 1 < n → ipv6_text ((s ∷ head) ++ replicate n 0 ++ tail)
    ≡ groups_text (s ∷ head) ++ codes "::" ++ groups_text tail
unfolding ipv6_text hex_groups_text
elided-text-is-printed s head tail n h t k =
    let first : List ℕ = s ∷ head in
    let zeros : List ℕ = replicate n 0 in
    let all : List ℕ = first ++ zeros ++ tail in
    let other : bytes_eq (take 6 all) (0 ∷ 0 ∷ 0 ∷ 0 ∷ 0 ∷ 0xffff ∷ []) ≡ false =
    rw (ne_eqb s 0 (λ e. omega (arith, h.0))) refl in
    let run : longest_zero_run all ≡ (length first, n) = ap longest_zero_run
    (append_assoc first zeros tail) ∙ zeros-are-longest_zero_run first n tail h t (omega arith) in
    let before : take (length first) all ≡ first = ap (take (length first))
    (append_assoc first zeros tail) ∙ take_at first (zeros ++ tail) (length first) refl in
    let after : drop (length first + n) all ≡ tail = drop_at (first ++ zeros) tail
    (length first + n) (omega (arith, length-append first zeros, length-replicate {A = ℕ} n 0)) in
    cond-false _ _ _ other ∙ ap (compressed_text all) run ∙ cond-true _ _ _ (lt-ltb 1 n k)
    ∙ (λ i. groups_text (before i) ++ codes "::" ++ groups_text (after i))

normal-groups-around-zeros-are-printed : (head tail head_text tail_text : List ℕ) (n : ℕ)
    → head_text ≡ groups_text head → tail_text ≡ groups_text tail → AllPositive head
    → AllPositive tail → 1 < n → usual 91 (head_text ++ 58 ∷ 58 ∷ tail_text) ≡ true
    → ipv6_text (head ++ replicate n 0 ++ tail) ≡ head_text ++ 58 ∷ 58 ∷ tail_text
normal-groups-around-zeros-are-printed [] tail head_text tail_text n e f h t k u =
    grind (arith, usual)
normal-groups-around-zeros-are-printed (s ∷ head) tail head_text tail_text n e f h t k u =
    grind (arith, common_steps, elided-text-is-printed)

usual-elided-text-is-printed : (text segments : List ℕ) → usual 91 text ≡ true
    → colons_of text ≤ 6 → IsElided text segments → ipv6_text segments ≡ text
usual-elided-text-is-printed text segments u few h =
    let rest : List ℕ = 58 ∷ 58 ∷ h.tail_text in
    let spelled : text ≡ h.head_text ++ rest = h.spelled
    ∙ append_assoc h.head_text (codes "::") h.tail_text in
    let split = usual-splits 91 h.head_text rest (subst (λ t. usual 91 t ≡ true) spelled u) in
    let one = and_parts (not (unusual split.1.0 58)) _ split.1.1 in
    let two = and_parts (not (unusual 58 58)) (usual 58 h.tail_text) one.1 in
    let before = usual-groups-are-normal false 91 h.head_text h.head refl split.0 h.head_groups in
    let after = usual-groups-are-normal true 58 h.tail_text h.tail refl two.1 h.tail_groups in
    let count : length h.head + length h.tail ≤ 6 = omega (
      arith,
      few,
      ap colons_of spelled,
      colons_of-append h.head_text rest,
      before.count,
      after.count,
    ) in
    ap ipv6_text h.value
    ∙ normal-groups-around-zeros-are-printed h.head h.tail h.head_text h.tail_text (8
    - length h.head - length h.tail) before.same after.same before.positive after.positive
    (omega (arith, count)) (subst (λ t. usual 91 t ≡ true) spelled u) ∙ sym spelled

usual-text-is-printed : (text segments : List ℕ) → usual 91 text ≡ true → colons_of text ≤ 6
    → IsColonHex text segments → ipv6_text segments ≡ text
usual-text-is-printed text segments u few (inl h) =
    let groups = usual-groups-are-normal true 91 text segments refl u h.0 in
    absurd (omega (arith, few, groups.count, h.1))
usual-text-is-printed text segments u few (inr h) =
    usual-elided-text-is-printed text segments u few h

-- normal addresses: a usual text has no letter in upper case
usual-text-is-lower : (p : ℕ) (text : List ℕ) → usual p text ≡ true
    → str_to_ascii_lowercase text ≡ text
usual-text-is-lower p [] e = refl
usual-text-is-lower p (c ∷ text) e =
    let parts = and_parts (not (unusual p c)) (usual c text) e in
    let same : to_ascii_lowercase c ≡ c = let h = parts.0 in grind (arith, nat_tests) in
    λ i. same i ∷ usual-text-is-lower c text parts.1 i

-- normal addresses: a host that is a usual address in brackets is its own normal form
module _ (names : TableSet) (host : List ℕ) (u : usual 91 host ≡ true) (few : colons_of host ≤ 6)
    (same : bracketed (literal_of host) ≡ host) where
  usual-literal-is-its-normal-form : (value : Option (List ℕ))
      → ipv6_value (literal_of host) ≡ value
      → host_text (host_meaning names host (literal_kind value)) ≡ host
  usual-literal-is-its-normal-form None e = usual-text-is-lower 91 host u
  usual-literal-is-its-normal-form (Some segments) e =
      let address : List ℕ = literal_of host in
      let whole = subst (λ t. usual 91 t ≡ true) (sym same) u in
      let inside = and_parts (not (unusual 91 91)) (usual 91 (address ++ codes "]")) whole in
      let split = usual-splits 91 address (codes "]") inside.1 in
      ap bracketed (usual-text-is-printed address segments split.0
      (omega (arith, few, ap colons_of same, colons_of-append address (codes "]")))
      (ipv6_value-sound address segments e))
      ∙ same

usual-host-is-its-normal-form : (names : TableSet) (host : List ℕ) → starts 91 host ≡ true
    → usual 91 host ≡ true → colons_of host ≤ 6 → is_host names host ≡ true
    → host_text (host_meaning names host (host_kind host)) ≡ host
unfolding is_host host_kind
usual-host-is-its-normal-form names host begins u few valid =
    let found = and_parts (bytes_eq (bracketed (literal_of host)) host) _
    (sym (cond-true _ _ _ begins) ∙ valid) in
    let same = (bytes_eq-Decides (bracketed (literal_of host)) host).0 found.0 in
    ap (λ k. host_text (host_meaning names host k)) (cond-true _ _ _ begins)
    ∙ usual-literal-is-its-normal-form names host u few same (ipv6_value (literal_of host)) refl

pub returns : goal.returns
returns c = grind (arith, common_steps, usual, usual-host-is-its-normal-form)
