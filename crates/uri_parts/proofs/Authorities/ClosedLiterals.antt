-- What is after a bracket has a closing one, and is parsed as the literal before that.
use Rattle.uri_parts.proofs.Common.{◌≡◌, ℕ, ◌+◌, true, List, ◌∷◌, ◌++◌, length, drop, refl, sym, ap, subst, ◌∙◌, arith, ◌||◌, ⊎_elim, append_assoc, length-append, lit<, codes, is_some, IsUtf8, drop-append_seam, and_parts, nat_tests, ipv_future_set, excludes, AreAscii-by-test, before_any, from_any, starts, Lacks, ipv6_value, is_ipv_future, bracketed, literal_length}
use Rattle.uri_parts.proofs.Parsing.Acceptance.{is_literal, parses_literal}
use Rattle.uri_parts.proofs.HostForms.Addresses.{ipv6_value-sound}
use Rattle.uri_parts.proofs.Authorities.Authority.{Lacks-of-fewer-marks}
use Rattle.uri_parts.proofs.Splitting.Cuts.{text-is-cut-at-first-mark, cut-at-end-of-text-without-marks}
use Rattle.uri_parts.proofs.HostForms.Futures.{ipv6-text-lacks-excluded-marks, ipvfuture-text-lacks-excluded-marks, is_ipv_future-sound}
use Rattle.uri_parts.proofs.HostForms.Hosts.{option-is-none-or-some}
use Rattle.uri_parts.proofs.TextKinds.GrammarTexts.{utf8_around_ascii_byte}
use Rattle.uri_parts.proofs.Splitting.Recompose.{text-with-mark-is-mark-and-rest}
use Rattle.uri_parts.proofs.Authorities.NamesAndPorts.{or-of-two-false-is-false, utf8_before_marks}

-- authorities, brackets: the address lacks the delimiters that an IPvFuture address cannot have
pub literal-lacks-excluded-marks : (marks : List ℕ) → excludes ipv_future_set marks ≡ true
    → (address : List ℕ) → IsUtf8 address → is_literal address ≡ true → Lacks marks address
unfolding is_literal
literal-lacks-excluded-marks marks outside address u h =
    ⊎_elim (λ n. ipvfuture-text-lacks-excluded-marks marks outside address u
    (is_ipv_future-sound address (subst (λ o. (is_some o || is_ipv_future address) ≡ true) n h)))
    (λ (segments, s). ipv6-text-lacks-excluded-marks marks outside address
    segments (ipv6_value-sound address segments s)) (option-is-none-or-some (ipv6_value address))

-- authorities, brackets: what is after a `[` has a `]` before the authority ends
pub record IsClosed (rest : List ℕ) : Type 0 where
  pub address : List ℕ
  pub tail : List ℕ
  pub whole : address ++ (93 ∷ tail) ≡ rest
  pub before : before_any (codes "]") rest ≡ address
  pub from : from_any (codes "]") rest ≡ 93 ∷ tail
  pub short : before_any (codes "]/?#") rest ≡ address
  pub long : from_any (codes "]/?#") rest ≡ 93 ∷ tail

-- authorities, brackets: if `]` (93) comes before `/`, `?` and `#`, the brackets are closed there
pub bracket-before-marks-closes-literal : (rest : List ℕ) → starts 93 (from_any (codes "]/?#") rest)
    ≡ true → IsClosed rest
bracket-before-marks-closes-literal rest e =
    let address : List ℕ = before_any (codes "]/?#") rest in
    let from : List ℕ = from_any (codes "]/?#") rest in
    let k = text-is-cut-at-first-mark (codes "]/?#") rest in
    let long : from ≡ 93 ∷ drop 1 from = text-with-mark-is-mark-and-rest 93 from e in
    let whole : address ++ (93 ∷ drop 1 from) ≡ rest = ap (λ t. address ++ t) (sym long)
    ∙ k.whole in
    let c = cut-at-end-of-text-without-marks (codes "]") address (93 ∷ drop 1 from)
    (Lacks-of-fewer-marks (codes "]")
    (codes "]/?#") (λ c e. grind (arith, nat_tests)) address k.lacks) refl in
    record {
      address = address;
      tail = drop 1 from;
      whole = whole;
      before = ap (before_any (codes "]")) (sym whole) ∙ c.0;
      from = ap (from_any (codes "]")) (sym whole) ∙ c.1;
      short = refl;
      long = long;
    }

-- authorities, brackets: what is parsed as an IP literal has its `]` (93) before `/`, `?` and `#`
pub parsed-literal-has-closing-bracket : (rest : List ℕ) → IsUtf8 rest → parses_literal rest ≡ true
    → starts 93 (from_any (codes "]/?#") rest) ≡ true
unfolding parses_literal is_literal
parsed-literal-has-closing-bracket rest u h =
    let p = and_parts (starts 93 (from_any (codes "]") rest)) _ h in
    let k = text-is-cut-at-first-mark (codes "]") rest in
    let address : List ℕ = before_any (codes "]") rest in
    let tail : List ℕ = drop 1 (from_any (codes "]") rest) in
    let whole : address ++ (93 ∷ tail) ≡ rest = ap (λ t. address
    ++ t) (sym (text-with-mark-is-mark-and-rest 93 (from_any (codes "]") rest) p.0)) ∙ k.whole in
    let other = literal-lacks-excluded-marks (codes "/?#") refl address
    (utf8_before_marks (codes "]") rest (AreAscii-by-test (codes "]") refl) u) p.1 in
    let lacks : Lacks (codes "]/?#") address = λ i d l. or-of-two-false-is-false _ _ (k.lacks i d l)
    (other i d l) in
    ap (λ t. starts 93 (from_any (codes "]/?#") t)) (sym whole) ∙ ap
    (starts 93) (cut-at-end-of-text-without-marks (codes "]/?#") address (93 ∷ tail) lacks refl).1

module _ (rest : List ℕ) (u : IsUtf8 rest) (w : IsClosed rest) where
  pub parses_literal-is-is_literal-of-address : parses_literal rest ≡ is_literal w.address
  unfolding parses_literal is_literal
  parses_literal-is-is_literal-of-address = grind (arith, nat_tests)

  pub bracketed-address-and-tail-are-text : (bracketed w.address) ++ w.tail ≡ 91 ∷ rest
  bracketed-address-and-tail-are-text = append_assoc (91 ∷ w.address) (codes "]") w.tail
      ∙ ap (λ t. 91 ∷ t) w.whole

  pub literal-length-is-bracketed-length : 1 + literal_length rest ≡ length (bracketed w.address)
  unfolding literal_length
  literal-length-is-bracketed-length = omega (
    arith,
    ap length w.before,
    length-append w.address (codes "]"),
  )

  pub text-after-literal-is-tail : drop (1 + literal_length rest) (91 ∷ rest) ≡ w.tail
  text-after-literal-is-tail = ap (λ n. drop n (91 ∷ rest)) literal-length-is-bracketed-length
      ∙ ap (drop (length (bracketed w.address))) (sym bracketed-address-and-tail-are-text)
      ∙ drop-append_seam (bracketed w.address) w.tail

  pub address-and-tail-are-utf8 : IsUtf8 w.address × IsUtf8 w.tail
  address-and-tail-are-utf8 = utf8_around_ascii_byte w.address 93 w.tail (lit< tt)
      (subst IsUtf8 (sym w.whole) u)
