-- The texts of a kind whose sets have no characters past ASCII have none.
use Rattle.uri_ops.proofs.Common.{◌≡◌, ℕ, zero, suc, ◌<◌, Bool, true, false, eqb, ltb, List, [], ◌∷◌, ◌++◌, take, refl, sym, ap, subst, ◌∙◌, arith, ◌&&◌, ⊎_elim, codes, Option, IfSome, is_ascii_digit, list_all, IsUtf8, list_all-append, cases_Bool, cases_lt, cond-true, cond-false, and_parts, and_from, lt-ltb, both_ways, eqb-true, TableSet, LacksPercent, allows_past_ascii, digit_set, is_userinfo_char, IsValidFor, allows_first, begins_with_hex_digits, first_char, valid_from, validity_of_tokens_is_validity_of_bytes, first_byte_past_ascii_is_allowed_by_its_char, hexdigit_is_ascii, Components, components, marked, recompose, Kind, is_authority, IsTextOf, HostKind, Ipv4, Ipv6, IpvFuture, RegName, IsHost, authority_parts, ipv6-text-is-address-text, is_authority_for-sound, address-in-brackets-is-utf8, recompose-components, IsComponentSet, HasComponentSets, ascii_set, ascii_kind, IfSome-weaken, IfSome-combine, common_steps}
use Rattle.uri_ops.proofs.Meanings.AsciiCharacters.{valid_ascii_text}
use Rattle.uri_ops.proofs.Meanings.HostMeanings.{ipvfuture-has-ascii-parts, ipvfuture-is-userinfo-characters}
use Rattle.uri_ops.proofs.Meanings.AuthorityMeanings.{authority-parts-are-utf8}
use Rattle.uri_ops.proofs.Meanings.AllowedParts.{is_set_text, set-text-is-utf8, set-text-is-valid}
use Rattle.uri_ops.proofs.Meanings.TextParts.{ArePartsOfKind}
use Rattle.uri_ops.proofs.Normal.NormalTexts.{text-has-parts-of-kind}
use Rattle.uri_ops.proofs.AsciiForms.EncodedAuthorities.{text-passing-ascii-test-is-ascii, bracketed-ascii-address-is-ascii, address-text-is-ascii, dotted-decimal-is-ascii}
use Rattle.uri_ops.proofs.AsciiForms.EncodedMeanings.{schemes-are-ascii}

-- IRIs as URIs: the text has no byte past ASCII
abbrev ascii : List ℕ → Bool
ascii text = list_all (λ c. ltb c 128) text

append-of-ascii-is-ascii : (x y : List ℕ) → ascii x ≡ true → ascii y ≡ true → ascii (x ++ y) ≡ true
append-of-ascii-is-ascii x y e f = list_all-append (λ c. ltb c 128) x y ∙ and_from _ _ e f

octet-digits-are-ascii : (rest : List ℕ) → begins_with_hex_digits rest ≡ true
    → ascii (take 2 rest) ≡ true
unfolding begins_with_hex_digits
octet-digits-are-ascii rest e = grind (arith, common_steps, hexdigit_is_ascii)

module _ (set : TableSet) where
  ascii_set-allows-nothing-past-ascii : (c : ℕ) → allows_past_ascii (ascii_set set) c ≡ false
  unfolding allows_past_ascii
  ascii_set-allows-nothing-past-ascii c = refl

  first-byte-of-ascii-set-is-ascii : (b : ℕ) (rest : List ℕ) → allows_first (ascii_set set) b rest
      ≡ true → b < 128
  first-byte-of-ascii-set-is-ascii b rest e = ⊎_elim (λ h. h) (λ h. absurd
      (both_ways _ (first_byte_past_ascii_is_allowed_by_its_char (ascii_set set) b rest h
      ∙ ascii_set-allows-nothing-past-ascii (first_char (b ∷ rest))) e)) (cases_lt b 128)

  percent-byte-is-ascii : (b : ℕ) → eqb b 37 ≡ true → b < 128
  percent-byte-is-ascii b e = let d = eqb-true b 37 e in omega arith

  valid-for-ascii-set-is-ascii : (skip : ℕ) (bs : List ℕ) → ascii (take skip bs) ≡ true
      → valid_from (ascii_set set) skip bs ≡ true → ascii bs ≡ true
  unfolding valid_from
  valid-for-ascii-set-is-ascii skip [] t e = refl
  valid-for-ascii-set-is-ascii zero (b ∷ rest) t e = ⊎_elim (λ h.
      let p = and_parts (set.pct_encoded && eqb b 37) (begins_with_hex_digits rest) h in
      and_from _ _ (lt-ltb b 128 (percent-byte-is-ascii b
      (and_parts set.pct_encoded (eqb b 37) p.0).1)) (valid-for-ascii-set-is-ascii 2 rest
      (octet-digits-are-ascii rest p.1) (sym (cond-true _ _ _ h) ∙ e))) (λ h.
      let p = and_parts (allows_first (ascii_set set) b rest) _ (sym (cond-false _ _ _ h) ∙ e) in
      let low = first-byte-of-ascii-set-is-ascii b rest p.0 in
      and_from _ _ (lt-ltb b 128 low) (valid-for-ascii-set-is-ascii 0 rest refl
      (sym (ap (λ n. valid_from (ascii_set set) n rest) (cond-true _ _ _ (lt-ltb b 128 low)))
      ∙ p.1))) (cases_Bool ((set.pct_encoded && eqb b 37) && begins_with_hex_digits rest))
  valid-for-ascii-set-is-ascii (suc k) (b ∷ rest) t e =
      let p = and_parts (ltb b 128) (ascii (take k rest)) t in
      and_from _ _ p.0 (valid-for-ascii-set-is-ascii k rest p.1 e)

  text-for-ascii_set-is-ascii : LacksPercent set
      → (text : List ℕ) → IsUtf8 text → IsValidFor (ascii_set set) text → ascii text ≡ true
  text-for-ascii_set-is-ascii lacks text u e = valid-for-ascii-set-is-ascii 0 text refl
      (sym (validity_of_tokens_is_validity_of_bytes (ascii_set set) lacks text u) ∙ e)

port-digits-are-ascii : (text : List ℕ) → IsUtf8 text → IsValidFor digit_set text
    → ascii text ≡ true
port-digits-are-ascii text u e = text-passing-ascii-test-is-ascii is_ascii_digit text
    (sym (valid_ascii_text is_ascii_digit refl text u) ∙ e)

host-for-ascii_set-is-ascii : (names : TableSet) → LacksPercent names
    → (text : List ℕ) (h : HostKind) → IsUtf8 text
    → IsHost (ascii_set names) text h → ascii text ≡ true
host-for-ascii_set-is-ascii names lacks text (Ipv6 segments) u (address, e, groups) = ap ascii e
    ∙ bracketed-ascii-address-is-ascii address
    (address-text-is-ascii address (ipv6-text-is-address-text address segments groups))
host-for-ascii_set-is-ascii names lacks text IpvFuture u (address, e, future) =
    let ascii_parts = ipvfuture-has-ascii-parts address
    (address-in-brackets-is-utf8 address (subst IsUtf8 e u)) future in
    ap ascii e ∙ bracketed-ascii-address-is-ascii address (text-passing-ascii-test-is-ascii
    is_userinfo_char address (ipvfuture-is-userinfo-characters address future ascii_parts))
host-for-ascii_set-is-ascii names lacks text (Ipv4 octets) u dotted = dotted-decimal-is-ascii text
    octets dotted
host-for-ascii_set-is-ascii names lacks text RegName u (valid, other) = text-for-ascii_set-is-ascii
    names lacks text u valid

delimited-ascii-component-is-ascii : (before suffix : List ℕ) (o : Option (List ℕ))
    → ascii before ≡ true
    → ascii suffix ≡ true → IfSome o (λ x. ascii x ≡ true) → ascii (marked before o suffix) ≡ true
delimited-ascii-component-is-ascii before suffix o e f h =
    grind (arith, common_steps, append-of-ascii-is-ascii)

module _ (kind : Kind) (sets : HasComponentSets kind) where
  abbrev kind_of_ascii : Kind
  kind_of_ascii = ascii_kind kind

  authority-of-ascii-kind-is-ascii : (a : List ℕ) → IsUtf8 a → is_authority kind_of_ascii a ≡ true
      → ascii a ≡ true
  authority-of-ascii-kind-is-ascii a u e =
      let grammar = is_authority_for-sound _ _ a e in
      let p = authority_parts a in
      let utf8 = authority-parts-are-utf8 _ _ _ (subst IsUtf8 (sym grammar.whole) u) in
      let user = IfSome-combine _ _ _ _ (λ x v h. text-for-ascii_set-is-ascii
      kind.userinfo sets.userinfo.percent x v h) utf8.userinfo grammar.userinfo in
      let port = IfSome-combine _ _ _ _ port-digits-are-ascii utf8.port grammar.port in
      let host = host-for-ascii_set-is-ascii kind.reg_name sets.reg_name.percent p.host
      grammar.host.0 utf8.host grammar.host.1 in
      let suffix = marked (codes ":") p.port [] in
      sym (ap ascii grammar.whole) ∙ append-of-ascii-is-ascii
      (marked [] p.userinfo (codes "@")) (p.host ++ suffix) (delimited-ascii-component-is-ascii []
      (codes "@") p.userinfo refl refl user) (append-of-ascii-is-ascii p.host suffix host
      (delimited-ascii-component-is-ascii (codes ":") [] p.port refl refl port))

  component-of-ascii_set-is-ascii : (marks : List ℕ) (set : TableSet) → IsComponentSet marks set
      → (o : Option (List ℕ)) → IfSome o (λ x. is_set_text (ascii_set set) x ≡ true)
      → IfSome o (λ x. ascii x ≡ true)
  component-of-ascii_set-is-ascii marks set w o h = IfSome-weaken o _ _
      (λ x e. text-for-ascii_set-is-ascii set w.percent x (set-text-is-utf8 _ x e)
      (set-text-is-valid _ x e)) h

  recomposed-ascii-components-are-ascii : (p : Components) → ArePartsOfKind kind_of_ascii p
      → ascii (recompose p) ≡ true
  recomposed-ascii-components-are-ascii p parts =
      let s = marked [] p.scheme (codes ":") in
      let a = marked (codes "//") p.authority [] in
      let q = marked (codes "?") p.query [] in
      let f = marked (codes "#") p.fragment [] in
      let scheme = IfSome-weaken _ _ _ (λ x h. schemes-are-ascii x h.0 h.1) parts.scheme in
      let authority = IfSome-weaken _ _
      _ (λ x h. authority-of-ascii-kind-is-ascii x h.0 h.1) parts.authority in
      let path = text-for-ascii_set-is-ascii kind.path sets.path.percent p.path
      (set-text-is-utf8 _ _ parts.path) (set-text-is-valid _ _ parts.path) in
      let query = component-of-ascii_set-is-ascii _ _ sets.query _ parts.query in
      let fragment = component-of-ascii_set-is-ascii _ _ sets.fragment _ parts.fragment in
      append-of-ascii-is-ascii s (a ++ (p.path ++ (q ++ f))) (delimited-ascii-component-is-ascii []
      (codes ":") p.scheme refl refl scheme) (append-of-ascii-is-ascii a (p.path ++ (q ++ f))
      (delimited-ascii-component-is-ascii (codes "//") [] p.authority refl refl authority)
      (append-of-ascii-is-ascii p.path (q ++ f) path (append-of-ascii-is-ascii q f
      (delimited-ascii-component-is-ascii (codes "?") [] p.query refl refl query)
      (delimited-ascii-component-is-ascii (codes "#") [] p.fragment refl refl fragment))))

  pub texts-of-ascii-kinds-are-ascii : (text : List ℕ) → IsTextOf kind_of_ascii text
      → list_all (λ c. ltb c 128) text ≡ true
  texts-of-ascii-kinds-are-ascii text w = sym (ap ascii (recompose-components text))
      ∙ recomposed-ascii-components-are-ascii (components text)
      (text-has-parts-of-kind kind_of_ascii text w)
