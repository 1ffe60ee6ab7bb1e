-- The outcomes of errors in a host and what follows it.
use Rattle.error_laws.proofs.Common.{◌≡◌, ℕ, ◌+◌, ◌≤◌, Bool, true, false, eqb, List, [], ◌++◌, length, take, drop, Option, Some, None, refl, sym, ap, subst, ◌∙◌, arith, ◌⊎◌, ◌&&◌, ◌||◌, ⊎_elim, length-append, take_all, length-take-le, drop_at, take-append-drop, rules, codes, Ok, Err, is_ok, cases_Bool, cond-true, cond-false, and_parts, or_left, both_ways, false≢true, ltb-true, eq-eqb, not-true, not_from_false, nat_tests, drop-drop, drop_all, none-some, same_Some, IsUtf8-nil, IsUtf8-append, IsUtf8-take, IsCharBoundary-from_drop, valid_prefix, TableSet, nothing_is_scanned_after_valid_prefix, ParseError, starts, unexpected, Kind, literal, ipv6_end, cannot_begin_ipv6, closed, OptionalParseError, ◌>>=◌, error_from_port, error_from_host, ScanResult, is_next, is_at_end, scan_end, text-begins-with-one-byte-alone, userinfo-stops-with-name-without-colon, stray-percent-stops-every-set, scan-stops-at-stray-percent-or-goes-on, empty-or-marked-for-more-marks, holds_at_end, is_ipv6_end_uncounted, is_late_from_port, is_late_from_host}
use Rattle.std.specs.Option.{option_map_or}
use Rattle.std.specs.Str.{IsUtf8}
use Rattle.uri_parts.proofs.Offered.{cannot_begin_ipv6-has-no-end, literal-without-address-is-unexpected}
use Rattle.error_laws.proofs.Marks.{literal-is-utf8, At}
use Rattle.error_laws.proofs.LongerTexts.{longer-text-begins-no-version, end-is-past-text}
use Rattle.error_laws.proofs.KindFacts.{Facts, path-stops-with-userinfo}
use Rattle.error_laws.proofs.LiteralHosts.{Closes, CanClose, literal-closes}
use Rattle.error_laws.proofs.LongerAddresses.{ipv6-closes-with-text, ipv6-ends-within-text}
use Rattle.error_laws.proofs.Outcomes.{IsSomeError, Outcome, carry, stop, Follows, scan-is-passed, shared-mark-is-at, other-byte-is-not-next}
use Rattle.error_laws.proofs.PathOutcomes.{port-outcome, end-has-no-port-error}
use Rattle.error_laws.proofs.SharedPrefixes.{IsPosition, position-after-mark, Alike, next-is-shared, scan-ends-at-position, prefix-is-alike, prefix-is-shared, literal-is-parsed, literal-is-shared, literal-ends-at-position, mark-is-within-text, parsed-literal-is-there}

pub scan-stops-at-its-end : (text : List ℕ) (set : TableSet) (i : ℕ)
    → valid_prefix set (drop (scan_end text set i) text) ≡ 0
scan-stops-at-its-end text set i =
    ap (valid_prefix set) (sym (drop-drop (valid_prefix set (drop i text)) i text))
    ∙ nothing_is_scanned_after_valid_prefix set (drop i text)

module _ (kind : Kind) (f : Facts kind) (text : List ℕ) (u : IsUtf8 text) (h : ℕ)
    (a : IsPosition text h) where
  abbrev error : List ℕ → OptionalParseError
  error t = error_from_host kind t h

  abbrev pub SameBracket : List ℕ → Type 0
  SameBracket other = is_next other 91 h ≡ is_next text 91 h

  -- a registered name
  module _ (b : is_next text 91 h ≡ false) where
    abbrev k : ℕ
    k = scan_end text kind.reg_name h

    at_end : IsPosition text k
    at_end = scan-ends-at-position text kind.reg_name f.apart.reg_name_lacks h a

    stray-percent-is-not-late : is_next text 37 k ≡ true → is_late_from_port kind text k ≡ false
    unfolding is_late_from_port
    stray-percent-is-not-late s =
        let z = stray-percent-stops-every-set kind.reg_name kind.path (drop k text)
        f.adjoins.reg_name_octets f.adjoins.path_octets
        (scan-stops-at-its-end text kind.reg_name h) s in
        grind (arith, nat_tests, text-begins-with-one-byte-alone)

    -- where a late error follows, a name ends only at `@` or `:`
    late-name-ends-at-mark : is_late_from_port kind text k ≡ true
        → (is_next text 58 k ≡ true) ⊎ (is_next text 64 k ≡ true)
    unfolding is_late_from_port
    late-name-ends-at-mark late = search (
      rules,
      cond-false,
      and_parts,
      ltb-true,
      not-true,
      userinfo-stops-with-name-without-colon,
      scan-stops-at-its-end,
      path-stops-with-userinfo,
    )

    name-ends-alike : (late : Bool) → is_late_from_port kind text k ≡ late → (n : ℕ)
        (other : List ℕ) → Alike n text other → Follows late (codes ":/?#") k n other
        → At (codes ":@/?#[") k other
    name-ends-alike true l n other w q = ⊎_elim
        (λ m. shared-mark-is-at n text other w 58 (codes ":@/?#[") k refl q m)
        (λ m. shared-mark-is-at n text other w 64 (codes ":@/?#[") k refl q m)
        (late-name-ends-at-mark l)
    name-ends-alike false l n other w q = empty-or-marked-for-more-marks (codes ":/?#")
        (codes ":@/?#[") (drop k other) (λ c m. grind (arith, nat_tests)) q

    name-is-passed : (late : Bool) → is_late_from_port kind text k ≡ late → (n : ℕ)
        (other : List ℕ) → Alike n text other → k ≤ n → Follows late (codes ":/?#") k n other
        → SameBracket other × (error other ≡ error_from_port kind other k)
    unfolding error_from_host
    name-is-passed late l n other w le q =
        let none = other-byte-is-not-next n _ _ w _ 91 _ h k refl (omega arith) le b q in (
          none ∙ sym b,
          cond-false _ _ _ none ∙ scan-is-passed text u kind.reg_name (codes ":@/?#[")
              f.apart.reg_name_lacks f.name_marks refl h a (error_from_port kind) n other w le
              (name-ends-alike late l n other w q),
        )

    name-outcome : (late : Bool) (r : ParseError) → is_late_from_host kind text h ≡ late
        → error text ≡ Some r → Outcome text r.index late SameBracket h error
    unfolding error_from_host is_late_from_host
    name-outcome late r l e =
        let l' : is_late_from_port kind text k ≡ late = sym (cond-false _ _ _ b) ∙ l in
        let t = sym (scan-stops-at-stray-percent-or-goes-on text kind.reg_name h
        (error_from_port kind text)) ∙ sym (cond-false _ _ _ b) ∙ e in ⊎_elim
        (λ s.
        let counted = stray-percent-is-not-late (and_parts _ _ s).1 in
        subst (λ x. Outcome text x.index late SameBracket h error)
        (same_Some _ _ (sym (cond-true _ _ _ s) ∙ t))
        (subst (λ y. Outcome text k y SameBracket h error) (sym counted ∙ l')
        (stop text k SameBracket h error [] u (omega arith) at_end IsUtf8-nil
        (grind (arith, nat_tests, name-is-passed, end-has-no-port-error)))))
        (λ s.
        let o = port-outcome kind f text u k at_end late r l' (sym (cond-false _ _ _ s) ∙ t) in
        carry text r.index late _ _ k h _ _ (omega arith) o
        (λ other w q. name-is-passed late l' r.index other w o.from q))
        (cases_Bool (kind.reg_name.pct_encoded && is_next text 37 k))

  -- an address in brackets
  module _ (s : is_next text 91 h ≡ true) where
    after_bracket : IsPosition text (h + 1)
    after_bracket = position-after-mark text 91 h (omega arith) s a

    bracket-is-shared : (n : ℕ) (other : List ℕ) → Alike n text other → h + 1 ≤ n
        → is_next other 91 h ≡ true
    bracket-is-shared n other w le = next-is-shared n text other w 91 h (omega (arith, le)) ∙ s

    -- an error in it
    closed-outcome : (n : ℕ) → CanClose text (h + 1) after_bracket n
        → Outcome text n false SameBracket h error
    unfolding error_from_host
    closed-outcome n c =
        let other : List ℕ = take n text ++ c.more in
        let rest : List ℕ = c.address ++ codes "]" in
        let size = length-take-le (h + 1) text after_bracket.le in
        let v = IsUtf8-append (take (h + 1) text) rest (IsUtf8-take text (h + 1) u
        (IsCharBoundary-from_drop text (h + 1) after_bracket.le after_bracket.utf8))
        (IsUtf8-append c.address (codes "]") c.is.utf8 (literal-is-utf8 (codes "]") refl)) in
        let w = prefix-is-alike text c.more n c.within (subst IsUtf8 (sym c.joined) v) in
        let bracket = bracket-is-shared n other w c.from in
        let split : drop (h + 1) other ≡ rest = grind (arith, nat_tests, drop_at) in
        let long = ap length c.joined ∙ length-append (take (h + 1) text) rest in
        let at_address = subst IsUtf8 (sym split) (IsUtf8-append c.address (codes "]") c.is.utf8
        (literal-is-utf8 (codes "]") refl)) in
        record {
          from = omega (arith, c.from);
          within = c.within;
          is = (
            other,
            (
              w,
              (
                bracket ∙ sym s,
                cond-true _ _ _ bracket
                    ∙ ap (λ r. r >>= error_from_port kind other)
                    (literal-is-parsed other (h + 1) (length other) at_address record {
                      address = c.address;
                      rest = [];
                      split = split;
                      lacks = c.is.lacks;
                      is = c.is.is;
                      end = omega (arith, long, size, length-append c.address (codes "]"));
                    }) ∙ end-has-no-port-error kind other (length other) (search (rules, drop_all)),
              ),
            ),
          );
        }

    counted-outcome : (late : Bool) (r : ParseError) (l : ScanResult)
        → literal text (h + 1) ≡ l → is_ipv6_end_uncounted text (h + 1) ≡ false
        → holds_at_end (is_late_from_port kind text) l ≡ late
        → (l >>= error_from_port kind text) ≡ Some r → Outcome text r.index late SameBracket h error
    unfolding error_from_host
    counted-outcome late r (Ok k) e counted l t =
        let o = port-outcome _ f _ u k (literal-ends-at-position _ _ k after_bracket e) _ r l t in
        let later = (parsed-literal-is-there _ _ k after_bracket.utf8 e).end in
        let from = o.from in
        carry _ _ _ _ _ k h _ _ (omega (arith, later)) o
        (search (rules, bracket-is-shared, cond-true, literal-is-shared, after_bracket))
    counted-outcome late r (Err x) e counted l t = subst
        (λ y. Outcome text y.index late SameBracket h error) (same_Some x r t) (subst
        (λ y. Outcome text x.index y SameBracket h error) l (closed-outcome x.index (subst
        (Closes text (h + 1) after_bracket) e (literal-closes text (h + 1) after_bracket counted))))

    -- an IPv6 address that is parsed up to the end of the text, and that no `]` closes there
    module _ (e : ℕ) (ends : ipv6_end text (h + 1) ≡ Some e) (over : is_at_end text e ≡ true)
        (unclosed : option_map_or (λ end. eqb end (length text))
        (ipv6_end (text ++ codes "]") (h + 1)) false ≡ false) where
      within : e ≤ length text
      within = ipv6-ends-within-text text (h + 1) e after_bracket.le ends

      past : length text ≤ e
      past = end-is-past-text text e over

      begins : cannot_begin_ipv6 text (h + 1) ≡ false
      begins = grind (arith, nat_tests, none-some, cannot_begin_ipv6-has-no-end)

      literal-ends-with-text : literal text (h + 1) ≡ Err (unexpected e)
      unfolding literal
      literal-ends-with-text = cond-true _ _ _ (not_from_false _ begins)
          ∙ ap (closed text (h + 1)) ends ∙ cond-false _ _ _ (ap (starts 93) (drop_all e text past))

      closed-option-is-not-ok : (more : List ℕ) (k : ℕ) (o : Option ℕ)
          → ipv6_end (text ++ more) (h + 1) ≡ o → closed (text ++ more) (h + 1) o ≡ Ok k → ⊥
      closed-option-is-not-ok more k None o c = false≢true (ap is_ok c)
      closed-option-is-not-ok more k (Some last) o c = ⊎_elim
          (λ b. both_ways _ unclosed (ap (λ x. option_map_or (λ end. eqb end (length text)) x false)
          (ipv6-closes-with-text text more (h + 1) e last after_bracket.le ends past o b)
          ∙ eq-eqb (length text) (length text) refl))
          (λ b. false≢true (ap is_ok (sym (cond-false _ _ _ b) ∙ c)))
          (cases_Bool (is_next (text ++ more) 93 last))

      longer-literal-is-not-ok : (more : List ℕ) (k : ℕ)
          → literal (text ++ more) (h + 1) ≡ Ok k → ⊥
      unfolding literal
      longer-literal-is-not-ok more k o = ⊎_elim
          (λ c. false≢true (ap is_ok (sym (literal-without-address-is-unexpected _ _
          (longer-text-begins-no-version _ _ _ begins) c) ∙ o)))
          (search (rules, closed-option-is-not-ok, cond-true, not_from_false)) (cases_Bool _)

      longer-host-has-error : (other more : List ℕ) → other ≡ text ++ more
          → is_next other 91 h ≡ true → (l : ScanResult) → literal other (h + 1) ≡ l
          → IsSomeError (error other)
      unfolding error_from_host
      longer-host-has-error other more same b (Ok k) o = absurd
          (longer-literal-is-not-ok more k (ap (λ t. literal t (h + 1)) (sym same) ∙ o))
      longer-host-has-error other more same b (Err x) o =
          (x, cond-true _ _ _ b ∙ ap (λ r. r >>= error_from_port kind other) o)

      unclosed-outcome : (r : ParseError) → error text ≡ Some r
          → Outcome text r.index true SameBracket h error
      unfolding error_from_host
      unclosed-outcome r t =
          let l = mark-is-within-text text 91 h s in
          subst (λ x. Outcome text x.index true SameBracket h error)
          (same_Some _ _ (sym (cond-true _ _ _ s
          ∙ ap (λ r. r >>= error_from_port kind text) literal-ends-with-text) ∙ t))
          record {
            from = omega (arith, past, l);
            within = within;
            is = λ other w.
                let b = bracket-is-shared e other w (omega (arith, past, l)) in (
                  b ∙ sym s,
                  longer-host-has-error other (drop e other) (sym (take-append-drop e other)
                      ∙ ap (λ t. t ++ drop e other) (prefix-is-shared e text other w e (omega arith)
                      ∙ take_all e text past)) b (literal other (h + 1)) refl,
                );
          }

    uncounted-outcome : (r : ParseError) (o : Option ℕ) → ipv6_end text (h + 1) ≡ o
        → option_map_or (is_at_end text) o false ≡ true
        → option_map_or (λ end. eqb end (length text))
        (ipv6_end (text ++ codes "]") (h + 1)) false ≡ false
        → error text ≡ Some r → Outcome text r.index true SameBracket h error
    uncounted-outcome r None e over unclosed t = absurd (false≢true over)
    uncounted-outcome r (Some end) e over unclosed t = unclosed-outcome end e over unclosed r t

    bracket-outcome : (late : Bool) (r : ParseError) → is_late_from_host kind text h ≡ late
        → error text ≡ Some r → Outcome text r.index late SameBracket h error
    unfolding error_from_host is_late_from_host
    bracket-outcome late r l e =
        let rest : Bool = holds_at_end (is_late_from_port kind text) (literal text (h + 1)) in
        let l' : (is_ipv6_end_uncounted text (h + 1) || rest) ≡ late = sym (cond-true _ _ _ s)
        ∙ l in ⊎_elim (search (rules, and_parts, or_left, uncounted-outcome, not-true))
        (λ x. counted-outcome late r (literal text (h + 1)) refl x
        (sym (ap (λ b. b || rest) x) ∙ l') (sym (cond-true _ _ _ s) ∙ e))
        (cases_Bool (is_ipv6_end_uncounted text (h + 1)))

  pub host-outcome : (late : Bool) (r : ParseError) → is_late_from_host kind text h ≡ late
      → error text ≡ Some r → Outcome text r.index late SameBracket h error
  host-outcome late r l e = ⊎_elim
      (λ s. bracket-outcome s late r l e)
      (λ s. name-outcome s late r l e) (cases_Bool (is_next text 91 h))
