-- What is next in a text that goes on, and where digits and IPv4 addresses end in it.
use Rattle.error_laws.proofs.Common.{Bool, ◌≡◌, ℕ, zero, suc, ◌+◌, ◌-◌, ◌<◌, ◌≤◌, true, false, cond, eqb, List, [], ◌∷◌, ◌++◌, length, take, drop, ◌⊎◌, Option, Some, None, sym, refl, ap, ◌∙◌, arith, ⊎_elim, length-drop, length-append, ◌||◌, codes, slice_range, option_and_then, rules, cases_Bool, cases_lt, cond-true, cond-false, both_ways, ne_eqb, drop-append-le, drop_more, drop_all, take-append-le, get_or_append_left, same_Some, none-some, nat_tests, is_end, digits_end, octet_end, octets_end, ipv4_end, Groups, cannot_begin_ipv6, after_elision, Groups_end, Elision, Malformed, is_next, is_at_end}
use Rattle.std.specs.Char.{is_digit}
use Rattle.std.specs.Net.Reader.{digit_count}
use Rattle.std.proofs.lemmas.List.Sums.{prefix_len-le-length}
use Rattle.error_laws.proofs.SharedPrefixes.{is_next-by-byte, mark-is-within-text}
use Rattle.uri_parts.proofs.Offered.{version-letter-begins-no-ipv6}

pub next-is-kept-in-longer-text : (text more : List ℕ) (mark i : ℕ) → i < length text
    → is_next (text ++ more) mark i ≡ is_next text mark i
next-is-kept-in-longer-text text more mark i l =
    grind (arith, nat_tests, is_next-by-byte, length-append, get_or_append_left)

-- general fact on texts, for the error law: one with a byte is not at its end
pub bytes-are-no-end : (b : ℕ) (bs : List ℕ) → is_end (b ∷ bs) ≡ false
unfolding is_end
bytes-are-no-end b bs = refl

pub empty-text-is-end : is_end [] ≡ true
unfolding is_end
empty-text-is-end = refl

pub end-is-past-text : (text : List ℕ) (i : ℕ) → is_at_end text i ≡ true → length text ≤ i
end-is-past-text text i e = ⊎_elim
    (λ (l : i < length text). absurd (both_ways _ (ap is_end (drop_more text i 0 l)
    ∙ bytes-are-no-end _ _) e))
    (λ (l : length text ≤ i). l) (cases_lt i (length text))

-- error law: where groups end
abbrev pub groups_end : Groups → ℕ
groups_end (Groups_end room end) = end
groups_end (Elision room end) = end
groups_end Malformed = 0

-- error law: whether groups end at an index, with some room left
abbrev pub end_with_room : Groups → Bool
end_with_room (Groups_end zero end) = false
end_with_room (Groups_end (suc room) end) = true
end_with_room (Elision room end) = false
end_with_room Malformed = false

pub elided-address-has-room : (text : List ℕ) (g : Groups) (end : ℕ)
    → after_elision text g ≡ Some end
    → (room : ℕ) × (g ≡ Groups_end (suc room) end)
elided-address-has-room text (Groups_end zero e) end a = absurd (none-some end a)
elided-address-has-room text (Groups_end (suc room) e) end a =
    let s = cond-false _ _ _ (ne_eqb (suc room) 0 (λ z. omega (arith, z))) in
    (room, ap (Groups_end (suc room)) (same_Some _ _ (sym s ∙ a)))
elided-address-has-room text (Elision room e) end a = absurd (none-some end a)
elided-address-has-room text Malformed end a = absurd (none-some end a)

pub groups-with-room-end-address : (text : List ℕ) (room end : ℕ)
    → after_elision text (Groups_end (suc room) end) ≡ Some end
groups-with-room-end-address text room end =
    cond-false (eqb (suc room) 0) None (Some end) (ne_eqb (suc room) 0 (λ z. omega (arith, z)))

end-begins-no-ipv6 : (text : List ℕ) (i : ℕ) → length text ≤ i → cannot_begin_ipv6 text i ≡ true
unfolding cannot_begin_ipv6
end-begins-no-ipv6 text i l = grind (arith, nat_tests, drop_all)

pub longer-text-begins-no-version : (text more : List ℕ) (i : ℕ) → cannot_begin_ipv6 text i ≡ false
    → (is_next (text ++ more) 118 i || is_next (text ++ more) 86 i) ≡ false
longer-text-begins-no-version text more i begins =
    search (rules, version-letter-begins-no-ipv6, next-is-kept-in-longer-text, end-begins-no-ipv6)

digits-are-no-fewer-in-longer-text : (radix : ℕ) (bs more : List ℕ)
    → digit_count radix bs ≤ digit_count radix (bs ++ more)
digits-are-no-fewer-in-longer-text radix [] more = omega arith
digits-are-no-fewer-in-longer-text radix (b ∷ bs) more =
    let ih = digits-are-no-fewer-in-longer-text radix bs more in grind (arith, nat_tests)

digits-within-text-are-kept : (radix : ℕ) (bs more : List ℕ) → digit_count radix bs < length bs
    → digit_count radix (bs ++ more) ≡ digit_count radix bs
digits-within-text-are-kept radix [] more l = absurd (omega arith)
digits-within-text-are-kept radix (b ∷ bs) more l = ⊎_elim
    (λ d.
    let e = cond-true (is_digit b radix) (1 + digit_count radix bs) 0 d in
    cond-true _ _ _ d
    ∙ ap (λ n. 1 + n) (digits-within-text-are-kept radix bs more (omega (arith, e, l))) ∙ sym e)
    (λ d. cond-false _ _ _ d ∙ sym (cond-false _ _ _ d)) (cases_Bool (is_digit b radix))

digits-end-where-none-follow : (radix : ℕ) (bs more : List ℕ) → digit_count radix more ≡ 0
    → digit_count radix (bs ++ more) ≡ digit_count radix bs
digits-end-where-none-follow radix [] more z = z
digits-end-where-none-follow radix (b ∷ bs) more z =
    ap (λ n. cond (is_digit b radix) (1 + n) 0) (digits-end-where-none-follow radix bs more z)

module _ (text : List ℕ) (radix most i : ℕ) (le : i ≤ length text) where
  digits-of-longer-text : (more : List ℕ) → digit_count radix (drop i (text ++ more))
      ≡ digit_count radix (drop i text ++ more)
  digits-of-longer-text more = ap (digit_count radix) (drop-append-le i text more le)

  pub digits_end-is-kept-in-longer-text : (more : List ℕ)
      → (digits_end text radix most i < length text) ⊎ (i + most ≤ digits_end text radix most i)
      → digits_end (text ++ more) radix most i ≡ digits_end text radix most i
  digits_end-is-kept-in-longer-text more h =
      let d = digits-of-longer-text more in
      let n = length-drop i text in
      let fewer = digits-are-no-fewer-in-longer-text radix (drop i text) more in
      grind (arith, nat_tests, digits-within-text-are-kept)

  pub digits_end-is-no-earlier-in-longer-text : (more : List ℕ)
      → digits_end text radix most i ≤ digits_end (text ++ more) radix most i
  digits_end-is-no-earlier-in-longer-text more =
      grind (arith, nat_tests, digits-of-longer-text, digits-are-no-fewer-in-longer-text)

  pub digits_end-is-kept-where-none-follow : (more : List ℕ) → digit_count radix more ≡ 0
      → digits_end (text ++ more) radix most i ≡ digits_end text radix most i
  digits_end-is-kept-where-none-follow more z =
      grind (arith, nat_tests, digits-of-longer-text, digits-end-where-none-follow)

-- general fact on options, for the error law: what follows is the same if it is for what is there
same-next-if-same-for-value : (f g : ℕ → Option ℕ) (o : Option ℕ)
    → ((n : ℕ) → o ≡ Some n → f n ≡ g n)
    → option_and_then f o ≡ option_and_then g o
same-next-if-same-for-value f g o h = grind arith

value-after-two-steps : (P : ℕ → Type 0) (f : ℕ → Option ℕ) (o : Option ℕ) (end : ℕ)
    → option_and_then f o ≡ Some end → ((n : ℕ) → o ≡ Some n → f n ≡ Some end → P end) → P end
value-after-two-steps P f o end e h = grind (arith, none-some)

module _ (text : List ℕ) where
  abbrev pub closing : List ℕ
  closing = text ++ codes "]"

  -- but for a `]`, the same characters are next if the text goes on with one
  pub next-before-bracket-is-kept : (mark i : ℕ) → eqb 93 mark ≡ false → i ≤ length text
      → is_next closing mark i ≡ is_next text mark i
  next-before-bracket-is-kept mark i other le =
      grind (arith, nat_tests, next-is-kept-in-longer-text, drop-append-le, drop_all)

  pub digits_end-is-within-text : (radix most i : ℕ) → i ≤ length text
      → digits_end text radix most i ≤ length text
  digits_end-is-within-text radix most i le = omega
      (arith, prefix_len-le-length (λ c. is_digit c radix) (drop i text), length-drop i text, le)

  octet-is-kept-before-bracket : (i : ℕ) → i ≤ length text
      → octet_end closing i ≡ octet_end text i
  unfolding octet_end
  octet-is-kept-before-bracket i le =
      let n = next-before-bracket-is-kept 48 i refl le in
      let d = digits_end-is-kept-where-none-follow text 10 3 i le (codes "]") refl in
      let end : ℕ = digits_end text 10 3 i in
      let s : slice_range closing i end ≡ slice_range text i end =
      ap (take (end - i)) (drop-append-le i text (codes "]") le)
      ∙ take-append-le (end - i) (drop i text) (codes "]")
      (omega (arith, digits_end-is-within-text 10 3 i le, length-drop i text)) in
      rw (n, d, s) refl

  octet-ends-within-text : (i end : ℕ) → i ≤ length text → octet_end text i ≡ Some end
      → end ≤ length text
  unfolding octet_end
  octet-ends-within-text i end le e = search (
    rules,
    mark-is-within-text,
    same_Some,
    cond-true,
    cond-false,
    digits_end-is-within-text,
    none-some,
  )

  octets-are-kept-before-bracket : (n i : ℕ) → i ≤ length text
      → octets_end closing n i ≡ octets_end text n i
  unfolding octets_end
  octets-are-kept-before-bracket zero i le = refl
  octets-are-kept-before-bracket (suc n) i le = ⊎_elim
      (λ d.
      let l = mark-is-within-text _ 46 i d in
      let within : i + 1 ≤ length text = omega arith in
      cond-true _ _ _ (next-before-bracket-is-kept 46 i refl le ∙ d)
      ∙ ap (option_and_then (octets_end closing n)) (octet-is-kept-before-bracket _ within)
      ∙ same-next-if-same-for-value _ _ _
      (λ end e. octets-are-kept-before-bracket n end (octet-ends-within-text _ end within e))
      ∙ sym (cond-true _ _ _ d))
      (λ d. cond-false _ _ _ (next-before-bracket-is-kept 46 i refl le ∙ d)
      ∙ sym (cond-false _ _ _ d))
      (cases_Bool _)

  octets-end-within-text : (n i end : ℕ) → i ≤ length text → octets_end text n i ≡ Some end
      → end ≤ length text
  unfolding octets_end
  octets-end-within-text zero i end le e = omega (arith, same_Some _ _ e)
  octets-end-within-text (suc n) i end le e = ⊎_elim
      (λ d.
      let l = mark-is-within-text text 46 i d in
      value-after-two-steps (λ k. k ≤ length text) (octets_end text n) (octet_end text (i + 1)) end
      (sym (cond-true _ _ _ d) ∙ e)
      (λ m a b. octets-end-within-text n m end
      (octet-ends-within-text (i + 1) m (omega arith) a) b))
      (λ d. absurd (none-some end (sym (cond-false _ _ _ d) ∙ e))) (cases_Bool (is_next text 46 i))

  pub ipv4-is-kept-before-bracket : (i : ℕ) → i ≤ length text → ipv4_end closing i ≡ ipv4_end text i
  ipv4-is-kept-before-bracket i le =
      ap (option_and_then (octets_end closing 3)) (octet-is-kept-before-bracket i le)
      ∙ same-next-if-same-for-value (octets_end closing 3) (octets_end text 3) (octet_end text i)
      (λ end e. octets-are-kept-before-bracket 3 end (octet-ends-within-text i end le e))

  pub ipv4-ends-within-text : (i end : ℕ) → i ≤ length text → ipv4_end text i ≡ Some end
      → end ≤ length text
  ipv4-ends-within-text i end le e =
      search (rules, value-after-two-steps, octets-end-within-text, octet-ends-within-text)
