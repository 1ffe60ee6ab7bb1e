-- An authority that is cut out, taken apart from left to right: that is the test of the grammar.
use Rattle.uri_parts.proofs.Common.{◌≡◌, ℕ, Bool, true, false, cond, eqb, List, [], ◌∷◌, ◌++◌, length, drop, refl, sym, ap, ◌∙◌, arith, ◌||◌, ◌&&◌, ⊎_elim, append_assoc, append-nil, length-append, codes, Option, is_some, bytes_eq, option_map_or, cases_Bool, cond-true, cond-false, and_left, eqb-true, both_ways, false≢true, false_from_ne_true, nat_tests, bytes_eq-Decides, TableSet, digit_set, is_valid_for, marked, starts, before_any, from_any, when, Lacks, is_host, bracketed, ipv4_value, leading_host, after_host, is_authority_for}
use Rattle.uri_parts.proofs.Parsing.Acceptance.{is_literal}
use Rattle.uri_parts.proofs.Splitting.Cuts.{IsEmptyOrMarked, text-is-cut-at-first-mark, before_any-past-other, from_any-past-other}
use Rattle.uri_parts.proofs.HostForms.Hosts.{literal_of-bracketed-is-address}

-- a host without brackets
unfoldable pub is_unbracketed_host : TableSet → List ℕ → Bool
is_unbracketed_host names text = is_some (ipv4_value text) || is_valid_for names text

-- nothing is left, or a port
unfoldable pub is_empty_or_port : List ℕ → Bool
is_empty_or_port [] = true
is_empty_or_port (b ∷ rest) = starts 58 (b ∷ rest) && is_valid_for digit_set rest

-- a host, in brackets or not, and then nothing or a port
unfoldable pub parses_host_and_port : TableSet → List ℕ → Bool
parses_host_and_port names rest = cond (starts 91 rest) (starts 93
    (from_any (codes "]") (drop 1 rest)) && (is_literal (before_any (codes "]") (drop 1 rest))
    && is_empty_or_port (drop 1 (from_any (codes "]") (drop 1 rest))))) (is_unbracketed_host names
    (before_any (codes ":") rest) && is_empty_or_port (from_any (codes ":") rest))

-- userinfo if there is an `@`, and then a host and a port
unfoldable pub parses_whole_authority : TableSet → TableSet → List ℕ → Bool
parses_whole_authority users names text = cond (starts 64 (from_any (codes "@") text))
    (is_valid_for users (before_any (codes "@") text)
    && parses_host_and_port names (drop 1 (from_any (codes "@") text)))
    (parses_host_and_port names text)

equal-texts-pass-bytes_eq : (xs ys : List ℕ) → xs ≡ ys → bytes_eq xs ys ≡ true
equal-texts-pass-bytes_eq xs ys e = (bytes_eq-Decides xs ys).1 e

-- general fact on texts, for authorities with brackets: different ones fail the test of equality
different_texts_fail_bytes_eq : (xs ys : List ℕ) → (xs ≡ ys → ⊥) → bytes_eq xs ys ≡ false
different_texts_fail_bytes_eq xs ys apart = false_from_ne_true _
    (λ t. apart ((bytes_eq-Decides xs ys).0 t))

-- general fact on texts, for authorities with brackets: a common prefix changes no test of equality
bytes_eq-ignores-common-prefix : (xs ys zs : List ℕ) → bytes_eq (xs ++ ys) (xs ++ zs)
    ≡ bytes_eq ys zs
bytes_eq-ignores-common-prefix [] ys zs = refl
bytes_eq-ignores-common-prefix (x ∷ xs) ys zs =
    grind (arith, nat_tests, bytes_eq-ignores-common-prefix xs ys zs)

-- authorities: the port that is after the `:`, if the text begins with it
port_of : List ℕ → Option (List ℕ)
port_of suffix = when (starts 58 suffix) (drop 1 suffix)

suffix-test-is-is_empty_or_port : (suffix : List ℕ)
    → (bytes_eq (marked (codes ":") (port_of suffix) []) suffix
    && option_map_or (is_valid_for digit_set) (port_of suffix) true) ≡ is_empty_or_port suffix
unfolding port_of is_empty_or_port
suffix-test-is-is_empty_or_port [] = refl
suffix-test-is-is_empty_or_port (b ∷ rest) =
    grind (arith, nat_tests, append-nil, equal-texts-pass-bytes_eq)

host_test : TableSet → List ℕ → Bool
host_test names rest = bytes_eq (leading_host rest
    ++ marked (codes ":") (port_of (after_host rest)) []) rest && (is_host names (leading_host rest)
    && option_map_or (is_valid_for digit_set) (port_of (after_host rest)) true)

-- general fact on booleans, for the tests of an authority's components
and-of-three-swaps-first-two : (a b c : Bool) → (a && (b && c)) ≡ (b && (a && c))
and-of-three-swaps-first-two true true c = refl
and-of-three-swaps-first-two true false c = refl
and-of-three-swaps-first-two false true c = refl
and-of-three-swaps-first-two false false c = refl

host_test-of-known-cut : (names : TableSet) (host suffix rest : List ℕ) → host ++ suffix ≡ rest
    → leading_host rest ≡ host → after_host rest ≡ suffix →
    host_test names rest ≡ (is_host names host && is_empty_or_port suffix)
unfolding host_test
host_test-of-known-cut names host suffix rest whole h b = grind (
  arith,
  nat_tests,
  bytes_eq-ignores-common-prefix,
  and-of-three-swaps-first-two,
  suffix-test-is-is_empty_or_port,
)

-- authorities, hosts: the test of one without `[` (91) is that of an IPv4 address or a name
unbracketed-host-test-is-is_unbracketed_host : (names : TableSet) (host : List ℕ)
    → starts 91 host ≡ false → is_host names host ≡ is_unbracketed_host names host
unfolding is_host is_unbracketed_host
unbracketed-host-test-is-is_unbracketed_host names host e = cond-false _ _ _ e

-- cutting authorities: a prefix of a text that does not begin with a byte does not either
prefix-begins-with-no-mark-either : (mark : ℕ) (prefix suffix : List ℕ)
    → starts mark (prefix ++ suffix) ≡ false → starts mark prefix ≡ false
prefix-begins-with-no-mark-either mark [] suffix e = refl
prefix-begins-with-no-mark-either mark (b ∷ prefix) suffix e = e

-- authorities, parsed: the test of host and port is parsing them, for a host without `[` (91)
host_test-parses-unbracketed-host : (names : TableSet) (rest : List ℕ) → starts 91 rest ≡ false
    → host_test names rest ≡ parses_host_and_port names rest
unfolding parses_host_and_port
host_test-parses-unbracketed-host names rest e = grind (
  arith,
  nat_tests,
  text-is-cut-at-first-mark,
  host_test-of-known-cut,
  unbracketed-host-test-is-is_unbracketed_host,
  prefix-begins-with-no-mark-either,
)

bracketed-host-test-is-is_literal : (names : TableSet) (address : List ℕ)
    → Lacks (codes "]") address → is_host names (bracketed address) ≡ is_literal address
unfolding is_host is_literal
bracketed-host-test-is-is_literal names address lacks =
    grind (arith, nat_tests, literal_of-bracketed-is-address, equal-texts-pass-bytes_eq)

-- authorities, hosts: what is before the first `]` keeps the `[` (91) before it
cut-at-closing-bracket-keeps-open-bracket : (rest : List ℕ)
    → before_any (codes "]") (91 ∷ rest) ≡ 91 ∷ before_any (codes "]") rest
cut-at-closing-bracket-keeps-open-bracket rest = before_any-past-other (codes "]") 91 rest refl

-- authorities, hosts: the first `]` of a text is after the `[` (91) before it
text-from-closing-bracket-skips-open-bracket : (rest : List ℕ) → from_any (codes "]") (91 ∷ rest)
    ≡ from_any (codes "]") rest
text-from-closing-bracket-skips-open-bracket rest = from_any-past-other (codes "]") 91 rest refl

-- authorities, hosts: what is from the first `]` (93) on is `]` and a rest
marked-suffix-is-bracket-and-rest : (suffix : List ℕ)
    → IsEmptyOrMarked (codes "]") suffix → starts 93 suffix ≡ true → suffix ≡ 93 ∷ drop 1 suffix
marked-suffix-is-bracket-and-rest [] b e = absurd (false≢true e)
marked-suffix-is-bracket-and-rest (c ∷ suffix) b e = ap (λ x. x ∷ suffix) (eqb-true c 93 e)

-- authorities, hosts: what is from the first `]` (93) on is nothing, if it does not begin with it
suffix-without-bracket-is-empty : (suffix : List ℕ)
    → IsEmptyOrMarked (codes "]") suffix → starts 93 suffix ≡ false → suffix ≡ []
suffix-without-bracket-is-empty [] b e = refl
suffix-without-bracket-is-empty (c ∷ suffix) b e = grind (arith, both_ways, nat_tests)

host_test-parses-closed-literal : (names : TableSet) (rest : List ℕ)
    → starts 93 (from_any (codes "]") rest) ≡ true
    → host_test names (91 ∷ rest) ≡ parses_host_and_port names (91 ∷ rest)
unfolding parses_host_and_port
host_test-parses-closed-literal names rest e = grind (
  arith,
  nat_tests,
  text-is-cut-at-first-mark,
  marked-suffix-is-bracket-and-rest,
  append_assoc,
  cut-at-closing-bracket-keeps-open-bracket,
  text-from-closing-bracket-skips-open-bracket,
  host_test-of-known-cut,
  bracketed-host-test-is-is_literal,
  is_literal,
)

unclosed-text-is-not-bracketed : (rest : List ℕ) → (bracketed rest ++ []) ≡ 91 ∷ rest → ⊥
unclosed-text-is-not-bracketed rest e = let n = ap length e in
    omega (arith, n, length-append rest (codes "]"), length-append (bracketed rest) [])

host_test-parses-unclosed-literal : (names : TableSet) (rest : List ℕ)
    → starts 93 (from_any (codes "]") rest) ≡ false
    → host_test names (91 ∷ rest) ≡ parses_host_and_port names (91 ∷ rest)
unfolding host_test parses_host_and_port port_of
host_test-parses-unclosed-literal names rest e =
    let cut = text-is-cut-at-first-mark (codes "]") rest in
    let none : from_any (codes "]") rest ≡ [] =
    suffix-without-bracket-is-empty (from_any (codes "]") rest) cut.begins e in
    let all : before_any (codes "]") rest ≡ rest = sym (append-nil (before_any (codes "]") rest))
    ∙ ap (λ t. before_any (codes "]") rest ++ t) (sym none) ∙ cut.whole in
    let h : leading_host (91 ∷ rest) ≡ bracketed rest = ap (λ t. t ++ codes "]")
    (cut-at-closing-bracket-keeps-open-bracket rest ∙ ap (λ t. 91 ∷ t) all) in
    let b : after_host (91 ∷ rest)
    ≡ [] = ap (drop 1) (text-from-closing-bracket-skips-open-bracket rest ∙ none) in
    let text : leading_host (91 ∷ rest) ++ marked (codes ":") (port_of (after_host (91 ∷ rest))) []
    ≡ bracketed rest ++ [] =
    ap (λ t. t ++ marked (codes ":") (port_of (after_host (91 ∷ rest))) []) h
    ∙ ap (λ t. bracketed rest ++ marked (codes ":") (port_of t) []) b in
    and_left _ _ (different_texts_fail_bytes_eq (leading_host (91 ∷ rest)
    ++ marked (codes ":") (port_of (after_host (91 ∷ rest)))
    []) (91 ∷ rest) (λ d. unclosed-text-is-not-bracketed rest (sym text ∙ d)))
    ∙ sym (and_left _ _ e)

host_test-is-parses_host_and_port : (names : TableSet) (rest : List ℕ)
    → host_test names rest ≡ parses_host_and_port names rest
host_test-is-parses_host_and_port names [] = host_test-parses-unbracketed-host names [] refl
host_test-is-parses_host_and_port names (b ∷ rest) =
    ⊎_elim (λ e. ap (λ c. host_test names (c ∷ rest)) (eqb-true b 91 e) ∙ ⊎_elim
    (λ c. host_test-parses-closed-literal names rest c) (λ c. host_test-parses-unclosed-literal
    names rest c) (cases_Bool (starts 93 (from_any (codes "]") rest)))
    ∙ sym (ap (λ c. parses_host_and_port names (c ∷ rest)) (eqb-true b 91 e)))
    (λ e. host_test-parses-unbracketed-host names (b ∷ rest) e) (cases_Bool (eqb b 91))

-- authorities: what is from the first `@` (64) on is `@` and a rest
marked-suffix-is-at-sign-and-rest : (suffix : List ℕ)
    → IsEmptyOrMarked (codes "@") suffix → starts 64 suffix ≡ true → suffix ≡ 64 ∷ drop 1 suffix
marked-suffix-is-at-sign-and-rest [] b e = absurd (false≢true e)
marked-suffix-is-at-sign-and-rest (c ∷ suffix) b e = ap (λ x. x ∷ suffix) (eqb-true c 64 e)

-- general fact on booleans, for the tests of an authority's components
and-of-four-swaps-first-two : (a u h p : Bool) → (a && (u && (h && p))) ≡ (u && (a && (h && p)))
and-of-four-swaps-first-two true true h p = refl
and-of-four-swaps-first-two true false h p = refl
and-of-four-swaps-first-two false true h p = refl
and-of-four-swaps-first-two false false h p = refl

-- authorities, parsed: an authority is of the grammar exactly if userinfo,
-- host and port are passed to its end, from left to right
pub is_authority_for-is-parsed-whole : (users names : TableSet) (text : List ℕ)
    → is_authority_for users names text ≡ parses_whole_authority users names text
unfolding is_authority_for parses_whole_authority host_test port_of
is_authority_for-is-parsed-whole users names text =
    let cut = text-is-cut-at-first-mark (codes "@") text in
    let user : List ℕ = before_any (codes "@") text in
    let from : List ℕ = from_any (codes "@") text in
    let tail = λ (r : List ℕ). leading_host r ++ marked (codes ":") (port_of (after_host r)) [] in
    let tests = λ (r : List ℕ). is_host names (leading_host r)
    && option_map_or (is_valid_for digit_set) (port_of (after_host r)) true in
    let form = λ (t : Bool). bytes_eq (marked [] (when t user) (codes "@") ++ tail
    (cond t (drop 1 from) text)) text && (option_map_or (is_valid_for users) (when t user) true
    && tests (cond t (drop 1 from) text)) in
    ⊎_elim (λ e.
    let rest : List ℕ = drop 1 from in
    let whole : user ++ (64 ∷ rest) ≡ text =
    ap (λ t. user ++ t) (sym (marked-suffix-is-at-sign-and-rest from cut.begins e)) ∙ cut.whole in
    let text_is : bytes_eq ((user ++ codes "@") ++ tail rest) text ≡ bytes_eq (tail rest) rest =
    ap (λ t. bytes_eq t text) (append_assoc user (codes "@") (tail rest))
    ∙ ap (bytes_eq (user ++ (64 ∷ tail rest))) (sym whole)
    ∙ bytes_eq-ignores-common-prefix user (64 ∷ tail rest) (64 ∷ rest) in
    ap form e ∙ ap (λ t. t && (is_valid_for users user && tests rest)) text_is
    ∙ and-of-four-swaps-first-two (bytes_eq (tail rest) rest) (is_valid_for users user)
    (is_host names (leading_host rest)) (option_map_or (is_valid_for digit_set)
    (port_of (after_host rest)) true)
    ∙ ap (λ t. is_valid_for users user && t) (host_test-is-parses_host_and_port names rest)
    ∙ sym (cond-true _ _ _ e)) (λ e. ap form e ∙ host_test-is-parses_host_and_port names text
    ∙ sym (cond-false _ _ _ e)) (cases_Bool (starts 64 from))
