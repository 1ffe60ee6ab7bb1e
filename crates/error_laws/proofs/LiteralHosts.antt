-- Hosts in brackets: how what is before an error in one becomes one.
use Rattle.error_laws.proofs.Common.{◌≡◌, ℕ, ◌+◌, ◌<◌, ◌≤◌, true, false, eqb, List, [], ◌∷◌, ◌++◌, length, take, drop, Option, Some, None, refl, sym, ap, subst, ◌∙◌, arith, ◌&&◌, ⊎_elim, append_assoc, append-nil, length-append, take_at, length-drop, length-take-le, drop_at, inr, rules, codes, Ok, Err, nat_lt, slice_index, is_some, cases_Bool, cond-true, cond-false, and_parts, and_from, eqb-true, both_ways, false≢true, ltb-true, lt-ltb, and_cases, not-false, not_from_true, not_from_false, or_left, or_right, nat_tests, append_cancel_right, drop-append-le, drop_more, get_or_past, IsUtf8-append, valid_prefix, TableSet, LacksPercent, is_one_of, hexdig_set, ipv_future_set, IsValidFor, is_valid_for, tokens_from_chars, Lacks, starts, is_end, closed, literal, ipv6_end, cannot_begin_ipv6, is_next, is_at_end, scan_end, scan_to_mark, ScanResult, Holds, ipv6_end-before-bracket-ends-ipv6, ipv6_end-before-text-ends-ipv6, is_ipv6_end_uncounted}
use Rattle.std.specs.Net.Grammar.{IsColonHex}
use Rattle.std.specs.Option.{option_map_or}
use Rattle.std.specs.Str.{IsUtf8, chars}
use Rattle.uri_pct.proofs.Offered.{valid_text_after_valid_text_is_valid}
use Rattle.uri_parts.specs.Hosts.{IsIpvFuture}
use Rattle.uri_parts.proofs.Offered.{is_address_char, is_address_text, ipv6_value-complete, ipv6-text-is-address-text, is_ipv_future-complete, version-letter-is-ascii, ipv6-text-lacks-excluded-marks, ipvfuture-text-lacks-excluded-marks, is_literal, text-with-mark-is-mark-and-rest}
use Rattle.error_laws.proofs.Marks.{literal-is-utf8, tested-ascii-is-utf8}
use Rattle.error_laws.proofs.LongerAddresses.{ipv6-ends-within-text}
use Rattle.error_laws.proofs.SharedPrefixes.{IsPosition, position-after-mark, scan-ends-at-position, scanned-part-is-valid, taken-in-two-steps}

-- error law: what may be in brackets
pub record IsAddress (address : List ℕ) : Type 0 where
  pub utf8 : IsUtf8 address
  pub lacks : Lacks (codes "]") address
  pub is : is_literal address ≡ true

address-char-is-ascii : (c : ℕ) → is_address_char c ≡ true → c < 128
unfolding is_address_char
address-char-is-ascii c e = grind (arith, nat_tests)

ipv6-is-address : (address segments : List ℕ) → IsColonHex address segments → IsAddress address
unfolding is_literal is_address_text
ipv6-is-address address segments h = record {
  utf8 = search (rules, tested-ascii-is-utf8, address-char-is-ascii, ipv6-text-is-address-text);
  lacks = ipv6-text-lacks-excluded-marks (codes "]") refl address segments h;
  is = or_left _ _ (ap is_some (ipv6_value-complete address segments h));
}

double-colon-is-ipv6 : IsColonHex (codes "::") (0 ∷ 0 ∷ 0 ∷ 0 ∷ 0 ∷ 0 ∷ 0 ∷ 0 ∷ [])
double-colon-is-ipv6 = inr (record {
  head_text = [];
  tail_text = [];
  head = [];
  tail = [];
  spelled = refl;
  head_groups = refl;
  tail_groups = refl;
  room = omega arith;
  value = refl;
})

-- error law: an IPvFuture address may be in brackets
ipvfuture-is-address : (letter : ℕ) (version address : List ℕ)
    → is_one_of (codes "vV") letter ≡ true
    → 0 < length version → IsUtf8 version × IsValidFor hexdig_set version
    → 0 < length address → IsUtf8 address × IsValidFor ipv_future_set address
    → IsAddress (letter ∷ (version ++ (codes "." ++ address)))
unfolding is_literal
ipvfuture-is-address letter version address v some h any k =
    let text : List ℕ = letter ∷ (version ++ (codes "." ++ address)) in
    let one : IsUtf8 (letter ∷ []) = literal-is-utf8 _
    (and_from _ _ (lt-ltb _ 128 (version-letter-is-ascii _ v)) refl) in
    let utf8 : IsUtf8 text = IsUtf8-append _ _ one (IsUtf8-append version (codes "." ++ address) h.0
    (IsUtf8-append (codes ".") address (literal-is-utf8 (codes ".") refl) k.0)) in
    let is : IsIpvFuture text = record {
      letter = letter;
      version = version;
      address = address;
      whole = refl;
      is_v = v;
      version_digits = (some, h.1);
      address_chars = (any, k.1);
    } in
    search (rules, ipvfuture-text-lacks-excluded-marks, or_right, is_ipv_future-complete)

-- error law: `1` is a hexadecimal digit, which may complete an IPvFuture address
digit-is-hexdig-text : IsValidFor hexdig_set (codes "1")
unfolding is_valid_for tokens_from_chars chars
digit-is-hexdig-text = refl

-- error law: `a` is a character of an IPvFuture address, which may complete one
letter-is-ipv-future-text : IsValidFor ipv_future_set (codes "a")
unfolding is_valid_for tokens_from_chars chars
letter-is-ipv-future-text = refl

valid-text-goes-on : (set : TableSet) → LacksPercent set → (x y : List ℕ)
    → IsUtf8 x × IsValidFor set x → IsUtf8 y → IsValidFor set y
    → IsUtf8 (x ++ y) × IsValidFor set (x ++ y)
valid-text-goes-on set lacks x y h u v =
    search (rules, IsUtf8-append, valid_text_after_valid_text_is_valid)

ended-text-is-empty : (xs : List ℕ) → is_end xs ≡ true → xs ≡ []
unfolding is_end
ended-text-is-empty xs e = grind (arith, is_end, false≢true)

option-with-end-is-that-end : (n : ℕ) (o : Option ℕ) → option_map_or (λ end. eqb end n) o false
    ≡ true → o ≡ Some n
option-with-end-is-that-end n o e = grind (arith, false≢true, eqb-true)

module _ (text : List ℕ) where
  -- what is before a position, and the mark there
  taken-through-mark : (mark i : ℕ) → i ≤ length text → is_next text mark i ≡ true
      → take (i + 1) text ≡ take i text ++ (mark ∷ [])
  taken-through-mark mark i le e = taken-in-two-steps text i 1 le
      ∙ ap (λ t. take i text ++ take 1 t) (text-with-mark-is-mark-and-rest mark (drop i text) e)

  -- an IPv6 address that is parsed, and not closed
  unclosed-ipv6-is-there : (i end : ℕ) → i ≤ length text → ipv6_end text i ≡ Some end
      → is_ipv6_end_uncounted text i ≡ false → Holds text i end
  unclosed-ipv6-is-there i end le e late = ⊎_elim
      (λ o.
      let over : option_map_or (is_at_end text) (ipv6_end text i) false ≡ true =
      ap (λ x. option_map_or (is_at_end text) x false) e ∙ o in
      let closes = option-with-end-is-that-end (length text) (ipv6_end (text ++ codes "]") i)
      (not-false _ (⊎_elim (λ z. absurd (both_ways _ z over)) (λ z. z) (and_cases _ _ late))) in
      let last : drop (length text) (text ++ codes "]") ≡ codes "]" =
      drop_at text (codes "]") (length text) refl in
      let w = ipv6_end-before-bracket-ends-ipv6 (text ++ codes "]") i (length text) closes
      (ap (starts 93) last) in
      let none = ended-text-is-empty (drop end text) o in
      record {
        address = w.address;
        segments = w.segments;
        split = append_cancel_right (drop i text) w.address (codes "]")
            (sym (drop-append-le i text (codes "]") le) ∙ w.split ∙ ap (λ t. w.address ++ t) last)
            ∙ sym (append-nil w.address) ∙ ap (λ t. w.address ++ t) (sym none);
        is = w.is;
      })
      (λ o. ipv6_end-before-text-ends-ipv6 text i end e o) (cases_Bool (is_at_end text end))

  module _ (i : ℕ) (a : IsPosition text i) where
    -- what is before index n goes on to an address that begins at i, and its bracket
    pub record CanClose (n : ℕ) : Type 0 where
      pub more : List ℕ
      pub address : List ℕ
      pub joined : take n text ++ more ≡ take i text ++ (address ++ codes "]")
      pub is : IsAddress address
      pub from : i ≤ n
      pub within : n ≤ length text

    abbrev pub Closes : ScanResult → Type 0
    Closes (Ok end) = Unit {0}
    Closes (Err e) = CanClose e.index

    no-address-can-close : CanClose i
    no-address-can-close = record {
      more = codes "::]";
      address = codes "::";
      joined = refl;
      is = ipv6-is-address (codes "::") _ double-colon-is-ipv6;
      from = omega arith;
      within = a.le;
    }

    ipv6-can-close : (end : ℕ) → end ≤ length text → Holds text i end → CanClose end
    ipv6-can-close end le w =
        let n = ap length w.split ∙ length-append w.address (drop end text) in
        let m : i + length w.address ≡ end =
        omega (arith, n, length-drop i text, length-drop end text, a.le, le) in
        record {
          more = codes "]";
          address = w.address;
          joined = ap (λ t. t ++ codes "]") (ap (λ k. take k text) (sym m)
              ∙ taken-in-two-steps text i (length w.address) a.le
              ∙ ap (λ t. take i text ++ t) (ap (take (length w.address)) w.split
              ∙ take_at w.address (drop end text) (length w.address) refl))
              ∙ append_assoc (take i text) w.address (codes "]");
          is = ipv6-is-address w.address w.segments w.is;
          from = omega (arith, m);
          within = le;
        }

    ipv6-closes : (o : Option ℕ) → ipv6_end text i ≡ o → is_ipv6_end_uncounted text i ≡ false
        → Closes (closed text i o)
    ipv6-closes None e late = no-address-can-close
    ipv6-closes (Some end) e late = ⊎_elim
        (λ c. subst Closes (sym (cond-true _ _ _ c)) tt)
        (λ c. subst Closes (sym (cond-false _ _ _ c)) (ipv6-can-close end
        (ipv6-ends-within-text text i end a.le e) (unclosed-ipv6-is-there i end a.le e late)))
        (cases_Bool (is_next text 93 end))

    -- a later version
    module _ (c : ℕ) (letter : is_one_of (codes "vV") c ≡ true) (here : is_next text c i ≡ true)
      where
        abbrev start : ℕ
        start = i + 1

        abbrev dot : ℕ
        dot = scan_end text hexdig_set start

        abbrev last : ℕ
        last = scan_end text ipv_future_set (dot + 1)

        abbrev V : List ℕ
        V = take (valid_prefix hexdig_set (drop start text)) (drop start text)

        abbrev A : List ℕ
        A = take (valid_prefix ipv_future_set (drop (dot + 1) text)) (drop (dot + 1) text)

        at_start : IsPosition text start
        at_start = position-after-mark text c i (version-letter-is-ascii c letter) here a

        at_dot : IsPosition text dot
        at_dot = scan-ends-at-position text hexdig_set refl start at_start

        version : IsUtf8 V × IsValidFor hexdig_set V
        version = scanned-part-is-valid text hexdig_set refl start at_start

        taken-to-dot : take dot text ≡ take i text ++ (c ∷ V)
        taken-to-dot = taken-in-two-steps _ _ _ at_start.le
            ∙ ap (λ t. t ++ V) (taken-through-mark c i a.le here) ∙ append_assoc (take i text) _ V

        version-can-close : CanClose dot
        version-can-close = record {
          more = codes "1.a]";
          address = c ∷ ((V ++ codes "1") ++ codes ".a");
          joined = ap (λ t. t ++ codes "1.a]") taken-to-dot
              ∙ append_assoc (take i text) (c ∷ V) (codes "1.a]")
              ∙ ap (λ t. take i text ++ (c ∷ t))
              (sym (append_assoc (V ++ codes "1") (codes ".a") (codes "]")
              ∙ append_assoc V (codes "1") (codes ".a]")));
          is = ipvfuture-is-address c (V ++ codes "1") (codes "a") letter
              (omega (arith, length-append V (codes "1"))) (valid-text-goes-on hexdig_set refl V
              (codes "1") version (literal-is-utf8 (codes "1") refl) digit-is-hexdig-text)
              (omega arith) (literal-is-utf8 (codes "a") refl, letter-is-ipv-future-text);
          from = omega arith;
          within = at_dot.le;
        }

        address-can-close : start < dot → is_next text 46 dot ≡ true → CanClose last
        address-can-close some dotted =
            let at_address = position-after-mark text 46 dot (omega arith) dotted at_dot in
            let address = scanned-part-is-valid text ipv_future_set refl (dot + 1) at_address in
            let size = length-take-le (valid_prefix hexdig_set (drop start text)) (drop start text)
            (omega (arith, length-drop start text, at_dot.le)) in
            let taken : take last text ≡ take i text ++ ((c ∷ V) ++ (codes "." ++ A)) =
            taken-in-two-steps text (dot + 1) _ at_address.le
            ∙ ap (λ t. t ++ A) (taken-through-mark 46 dot at_dot.le dotted
            ∙ ap (λ t. t ++ codes ".") taken-to-dot)
            ∙ append_assoc (take i text ++ (c ∷ V)) (codes ".") A
            ∙ append_assoc (take i text) (c ∷ V) (codes "." ++ A) in
            record {
              more = codes "a]";
              address = c ∷ (V ++ (codes "." ++ (A ++ codes "a")));
              joined = ap (λ t. t ++ codes "a]") taken
                  ∙ append_assoc (take i text) ((c ∷ V) ++ (codes "." ++ A)) (codes "a]")
                  ∙ ap (λ t. take i text ++ (c ∷ t)) (append_assoc V (46 ∷ A) (codes "a]")
                  ∙ sym (append_assoc V (46 ∷ (A ++ codes "a")) (codes "]")
                  ∙ ap (λ t. V ++ (46 ∷ t)) (append_assoc A (codes "a") (codes "]"))));
              is = ipvfuture-is-address c V (A ++ codes "a") letter (omega (arith, size, some))
                  version
                  (omega (arith, length-append A (codes "a")))
                  (valid-text-goes-on ipv_future_set refl A (codes "a") address
                  (literal-is-utf8 (codes "a") refl) letter-is-ipv-future-text);
              from = omega arith;
              within = (scan-ends-at-position text ipv_future_set refl (dot + 1) at_address).le;
            }

        ipvfuture-closes : Closes
            (scan_to_mark text hexdig_set 46 (scan_to_mark text ipv_future_set 93 (λ end. Ok end))
            start)
        ipvfuture-closes = ⊎_elim
            (λ t. let p = and_parts _ _ t in
            subst Closes (sym (cond-true _ _ _ t)) (⊎_elim
            (λ s. subst Closes (sym (cond-true _ _ _ s)) tt)
            (λ s. subst Closes (sym (cond-false _ _ _ s))
            (address-can-close (ltb-true _ _ p.0) p.1))
            (cases_Bool (nat_lt (dot + 1) last && is_next text 93 last))))
            (λ t. subst Closes (sym (cond-false _ _ _ t)) version-can-close)
            (cases_Bool (nat_lt start dot && is_next text 46 dot))

    version-letter-is-next : is_one_of (codes "vV") (slice_index text i) ≡ true
        → is_next text (slice_index text i) i ≡ true
    version-letter-is-next e = grind (arith, nat_tests, drop_more, get_or_past)

    pub literal-closes : is_ipv6_end_uncounted text i ≡ false → Closes (literal text i)
    unfolding literal
    literal-closes late = ⊎_elim
        (λ n. subst Closes (sym (cond-false _ _ _ (not_from_true _ n))) (⊎_elim
        (λ v. subst Closes (sym (cond-true _ _ _ v))
        (ipvfuture-closes (slice_index text i) v (version-letter-is-next v)))
        (λ v. subst Closes (sym (cond-false _ _ _ v)) no-address-can-close)
        (cases_Bool (is_one_of (codes "vV") (slice_index text i)))))
        (λ n. subst Closes (sym (cond-true _ _ _ (not_from_false _ n)))
        (ipv6-closes (ipv6_end text i) refl late)) (cases_Bool (cannot_begin_ipv6 text i))
