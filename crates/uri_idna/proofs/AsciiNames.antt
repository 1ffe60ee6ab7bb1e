-- The hosts that ToASCII writes are hosts of every kind.
use Rattle.std.proofs.Common.{◌≡◌, ℕ, Bool, true, false, ◌||◌, eqb, List, [], refl, ap, sym, ◌∙◌, arith, inl, inr, subst}
use Rattle.std.specs.Prelude.{Some, codes, unwrap_or}
use Rattle.std.specs.Char.{is_ascii_digit, is_ascii_lowercase}
use Rattle.std.specs.List.{list_any}
use Rattle.std.proofs.lemmas.Bool.{cases_Bool, cond-false, cond-true}
use Rattle.std.proofs.lemmas.Bool.Decides.{nat_tests}
use Rattle.std.proofs.lemmas.List.Elements.{All-weaker}
use Rattle.std.proofs.lemmas.List.Sums.{list_all-from_AllPass}
use Rattle.idna.specs.declared.deny_list.TheConstants.AsciiDenyList.{STD3}
use Rattle.idna.specs.declared.options.Hyphens.TheVariants.{CheckFirstLast}
use Rattle.idna.specs.declared.options.DnsLength.TheVariants.{VerifyAllowRootDot}
use Rattle.idna.proofs.Uts46Lemmas.{All-to_ascii, IsOutputByte}
use Rattle.idna.proofs.ValidityLemmas.{denies-STD3}
use Rattle.fluent_uri.specs.Prelude.{HasComponentSets, IsHostText, IsSubset, Kind, LacksPercent, TableSet, name_bytes, unreserved_set}
use Rattle.uri_pct.proofs.Offered.{excludes}
use Rattle.uri_parts.specs.Hosts.{HostKind, Ipv4, Ipv6, IpvFuture, RegName, host_kind}
use Rattle.uri_ops.proofs.Offered.{valid-name-is-host, is_set_text, set-text-is-utf8, set-text-is-valid, ascii-in-test-is-set-text, is_ascii_in}
use Rattle.uri_idna.specs.AsciiHosts.{ascii_host, ascii_host_of, ascii_name, dns_name, is_ascii_text}

-- hosts in ASCII: what ToASCII writes for DNS: lower-case letters, digits, hyphens and full stops
is_name_char : ℕ → Bool
is_name_char c = is_ascii_lowercase c || (is_ascii_digit c || (eqb c 45 || eqb c 46))

output-byte-is-name-char : (c : ℕ) → IsOutputByte STD3 c → is_ascii_in is_name_char c ≡ true
unfolding is_name_char
output-byte-is-name-char c byte =
    let small = byte.ascii in
    let lower = byte.lower in
    let allowed = sym (denies-STD3 c) ∙ byte.allowed in
    grind (arith, nat_tests)

-- hosts in ASCII: these are unreserved (RFC 3986, section 2.3)
name-char-is-unreserved : (c : ℕ) → is_name_char c ≡ true → unreserved_set.ascii c ≡ true
unfolding is_name_char
name-char-is-unreserved c e = grind (arith, nat_tests)

dns-name-is-set-text : (set : TableSet) → IsSubset unreserved_set set → LacksPercent set
    → (name made : List ℕ) → dns_name name ≡ Some made → is_set_text set made ≡ true
unfolding is_name_char
dns-name-is-set-text set within percent name made e =
    ascii-in-test-is-set-text set is_name_char percent refl
    (λ c h. within.ascii c (name-char-is-unreserved c h)) made
    (list_all-from_AllPass (is_ascii_in is_name_char) made
    (All-weaker (IsOutputByte STD3) (λ c. is_ascii_in is_name_char c ≡ true)
    (λ c byte. output-byte-is-name-char c byte) made
    (All-to_ascii STD3 CheckFirstLast VerifyAllowRootDot name made e)))

-- hosts in ASCII: a set of registered names excludes the `[` that begins an address
bracket-is-excluded : (set : TableSet) → list_any set.ascii (codes "/?#[]@:") ≡ false
    → excludes set (codes "[") ≡ true
bracket-is-excluded set ends = grind arith

dns-name-is-host : (kind : Kind) → HasComponentSets kind → (name made : List ℕ)
    → dns_name name ≡ Some made → IsHostText kind.reg_name made
dns-name-is-host kind sets name made e =
    let set = kind.reg_name in
    let part = dns-name-is-set-text set sets.reg_name.unreserved sets.reg_name.percent name made e
    in
    valid-name-is-host set sets.reg_name.percent
    (bracket-is-excluded set sets.reg_name.ends)
    made (set-text-is-utf8 set made part) (set-text-is-valid set made part)

equal-some-texts : (x y : List ℕ) → Some x ≡ Some y → x ≡ y
equal-some-texts x y e = ap (λ o. unwrap_or o []) e

ascii-name-is-host : (kind : Kind) → HasComponentSets kind → (host made : List ℕ)
    → IsHostText kind.reg_name host → ascii_name host ≡ Some made → IsHostText kind.reg_name made
ascii-name-is-host kind sets host made h e = elim (cases_Bool (is_ascii_text (name_bytes host))) [
  | inl plain ↦ subst (IsHostText kind.reg_name)
      (equal-some-texts host made (sym (cond-true _ _ _ plain) ∙ e)) h
  | inr other ↦ dns-name-is-host kind sets (name_bytes host) made (sym (cond-false _ _ _ other) ∙ e)
]

ascii-host-of-kind-is-host : (kind : Kind) → HasComponentSets kind → (host made : List ℕ)
    → IsHostText kind.reg_name host → (k : HostKind) → ascii_host_of k host ≡ Some made
    → IsHostText kind.reg_name made
ascii-host-of-kind-is-host kind sets host made h (Ipv4 octets) e =
    subst (IsHostText kind.reg_name) (equal-some-texts host made e) h
ascii-host-of-kind-is-host kind sets host made h (Ipv6 segments) e =
    subst (IsHostText kind.reg_name) (equal-some-texts host made e) h
ascii-host-of-kind-is-host kind sets host made h IpvFuture e =
    subst (IsHostText kind.reg_name) (equal-some-texts host made e) h
ascii-host-of-kind-is-host kind sets host made h RegName e =
    ascii-name-is-host kind sets host made h e

pub ascii-host-is-host : (kind : Kind) → HasComponentSets kind → (host made : List ℕ)
    → IsHostText kind.reg_name host → ascii_host host ≡ Some made → IsHostText kind.reg_name made
ascii-host-is-host kind sets host made h e =
    ascii-host-of-kind-is-host kind sets host made h (host_kind host) e
