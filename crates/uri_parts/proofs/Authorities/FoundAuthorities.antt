-- An authority is parsed exactly where the one that is cut out is taken apart, and its
-- positions are where it is cut.
use Rattle.uri_parts.proofs.Common.{◌≡◌, ℕ, ◌+◌, true, false, eqb, List, ◌∷◌, ◌++◌, length, drop, refl, sym, ap, ◌∙◌, arith, ◌||◌, ◌&&◌, ⊎_elim, append_assoc, length-append, subst, zero-add, lit<, codes, IsUtf8, cases_Bool, cond-true, cond-false, and_left, and_parts, eq-eqb, ne_eqb, both_ways, false_from_ne_true, or-false, nat_tests, TableSet, is_valid_for, valid_prefix, after, cut, length_before_marks, AreAscii-by-test, before_any, from_any, starts, Lacks, authority_at, name_and_port_length, name_ends_authority, host_end, host_and_port_length, host_offset, text_from_host, other_authority_length, found_authority_length, other_authority, found_authority, Kind, second-holds-if-first-is-false}
use Rattle.uri_parts.proofs.Parsing.Acceptance.{finds_host, passes_user, finds_other, finds_authority}
use Rattle.uri_parts.proofs.Authorities.Authority.{cut-of-text-without-marks, Lacks-of-fewer-marks}
use Rattle.uri_parts.proofs.Authorities.AuthorityCuts.{length-of-text-before-marks}
use Rattle.uri_parts.proofs.Splitting.Cuts.{text-is-cut-at-first-mark, cut-at-end-of-text-without-marks, before_any-past-other, text-after-other-byte-lacks-marks}
use Rattle.uri_parts.proofs.HostForms.Futures.{joined-texts-lack-marks}
use Rattle.uri_parts.proofs.HostForms.Hosts.{lacking_text_does_not_begin_with}
use Rattle.uri_parts.proofs.Authorities.NamesAndPorts.{cut_at_further_mark, cut-text-begins-with-same-other-byte, utf8_before_marks}
use Rattle.uri_parts.proofs.Authorities.HostParsing.{host_end-unbracketed, host_and_port_length-unbracketed, finds_host-unbracketed, bracket_begins_no_name, finds_host-is-parses_host_and_port, host-that-is-found-has-its-positions}
use Rattle.uri_parts.proofs.Splitting.Relative.{scan_stops_at_first_mark}
use Rattle.uri_parts.proofs.TextKinds.Separations.{SeparatesComponents}
use Rattle.uri_parts.proofs.TextKinds.GrammarTexts.{valid_text_lacks_excluded_marks}
use Rattle.uri_parts.proofs.Parsing.ScanStops.{scan-stops-at-first-mark-or-within, utf8_from_marks, utf8_after_mark}
use Rattle.uri_parts.proofs.Authorities.WholeAuthorities.{parses_host_and_port, parses_whole_authority}
use Rattle.uri_parts.proofs.Splitting.Recompose.{text-with-mark-is-mark-and-rest}
use Rattle.uri_parts.proofs.Authorities.HostPositions.{places, authority_at-without-userinfo, authority_at-with-userinfo}
use Rattle.uri_parts.proofs.Authorities.UserinfoLengths.{host_offset-is-after-userinfo-and-at-sign, text_from_host-is-after-at-sign, passes_user-is-at-sign-after-userinfo}

-- authorities, parsed: what the parser finds agrees with what is cut out of the text
pub record IsFound (kind : Kind) (rest : List ℕ) : Type 0 where
  pub len : found_authority_length kind rest ≡ length (before_any (codes "/?#") rest)
  pub found : (place : ℕ)
      → found_authority kind place rest ≡ authority_at place (before_any (codes "/?#") rest)

module _ (segment : TableSet) (kind : Kind) (w : SeparatesComponents segment kind) where
  -- what begins with `[` is no userinfo
  no-userinfo-before-bracketed-host : (rest : List ℕ) → starts 91 rest ≡ true
      → text_from_host kind rest ≡ rest
  unfolding host_offset
  no-userinfo-before-bracketed-host rest e = ap (λ n. drop n rest) (cond-true _ _ _ e)

  bracketed-authority-is-host-and-port : (rest : List ℕ) → starts 91 rest ≡ true
      → finds_authority kind rest ≡ finds_host kind rest
  unfolding finds_authority finds_other
  bracketed-authority-is-host-and-port rest e =
      ap (λ t. t || ((starts 91 rest || passes_user kind rest)
      && finds_host kind (text_from_host kind rest))) (bracket_begins_no_name segment kind w rest e)
      ∙ ap (λ t. (t || passes_user kind rest) && finds_host kind (text_from_host kind rest)) e
      ∙ ap (finds_host kind) (no-userinfo-before-bracketed-host rest e)

  unbracketed-authority-is-name-or-userinfo-and-host : (rest : List ℕ)
      → starts 91 rest ≡ false → finds_authority kind rest ≡ (name_ends_authority kind rest
      || (passes_user kind rest && finds_host kind (text_from_host kind rest)))
  unfolding finds_authority finds_other
  unbracketed-authority-is-name-or-userinfo-and-host rest e = ap (λ t. name_ends_authority kind rest
      || ((t || passes_user kind rest) && finds_host kind (text_from_host kind rest))) e

  -- an authority with a host alone holds no `@`
  host-alone-holds-no-at-sign : (rest : List ℕ) → IsUtf8 rest → finds_host kind rest ≡ true
      → starts 64 (from_any (codes "@") (before_any (codes "/?#") rest)) ≡ false
  host-alone-holds-no-at-sign rest u h =
      let f = host-that-is-found-has-its-positions segment kind w rest u h in
      ap (λ t. starts 64 (from_any (codes "@") t)) f.text
      ∙ ap (starts 64) (cut-of-text-without-marks (codes "@") (f.host ++ f.suffix) f.at).1

  name-that-ends-authority-is-host : (rest : List ℕ) → name_ends_authority kind rest ≡ true
      → (starts 91 rest ≡ false) × (finds_host kind rest ≡ true)
  name-that-ends-authority-is-host rest h =
      grind (arith, nat_tests, false_from_ne_true, bracket_begins_no_name, finds_host-unbracketed)

  module _ (rest : List ℕ) (u : IsUtf8 rest) where
    abbrev cut_text : List ℕ
    cut_text = before_any (codes "/?#") rest

    abbrev tail : List ℕ
    tail = from_any (codes "@/?#") rest

    at-sign-in-cut-is-at-sign-in-tail : starts 64 (from_any (codes "@") cut_text) ≡ starts 64 tail
    at-sign-in-cut-is-at-sign-in-tail = ap (starts 64) (cut_at_further_mark 64 (codes "/?#") rest).1
        ∙ cut-text-begins-with-same-other-byte 64 (codes "/?#") refl tail

    text-after-at-sign-is-utf8 : starts 64 tail ≡ true → IsUtf8 (drop 1 tail)
    text-after-at-sign-is-utf8 e = utf8_after_mark 64 (lit< tt) tail e
        (utf8_from_marks (codes "@/?#") rest (AreAscii-by-test (codes "@/?#") refl) u)

    userinfo-validity-by-prefix-length : is_valid_for kind.userinfo (before_any (codes "@/?#") rest)
        ≡ eqb (valid_prefix kind.userinfo rest) (length_before_marks (codes "@/?#") rest)
    userinfo-validity-by-prefix-length = cut (codes "@/?#") kind.userinfo w.userinfo_lacks
        w.userinfo_marks rest u

    -- with an `@` it is userinfo, and then a host
    authority-with-at-sign-is-userinfo-and-host : starts 64 tail ≡ true
        → parses_whole_authority kind.userinfo kind.reg_name cut_text ≡ (is_valid_for kind.userinfo
        (before_any (codes "@/?#") rest) && finds_host kind (drop 1 tail))
    unfolding parses_whole_authority
    authority-with-at-sign-is-userinfo-and-host e =
        let c = cut_at_further_mark 64 (codes "/?#") rest in
        let t : before_any (codes "/?#") tail ≡ 64 ∷ before_any (codes "/?#") (drop 1 tail) =
        ap (before_any (codes "/?#")) (text-with-mark-is-mark-and-rest 64 tail e)
        ∙ before_any-past-other (codes "/?#") 64 (drop 1 tail) refl in
        cond-true _ _ _ (at-sign-in-cut-is-at-sign-in-tail ∙ e)
        ∙ ap (λ x. is_valid_for kind.userinfo x
        && parses_host_and_port kind.reg_name (drop 1 (from_any (codes "@") cut_text))) c.0
        ∙ ap (λ x. is_valid_for kind.userinfo (before_any (codes "@/?#") rest)
        && parses_host_and_port kind.reg_name (drop 1 x)) (c.1 ∙ t)
        ∙ ap (λ x. is_valid_for kind.userinfo (before_any (codes "@/?#") rest) && x)
        (sym (finds_host-is-parses_host_and_port segment kind w (drop 1 tail)
        (text-after-at-sign-is-utf8 e)))

    authority-without-at-sign-is-host : starts 64 tail ≡ false
        → parses_whole_authority kind.userinfo kind.reg_name cut_text ≡ finds_host kind rest
    unfolding parses_whole_authority
    authority-without-at-sign-is-host e = cond-false _ _ _ (at-sign-in-cut-is-at-sign-in-tail ∙ e)
        ∙ sym (finds_host-is-parses_host_and_port segment kind w rest u)

    text-with-at-sign-is-no-host-alone : starts 64 tail ≡ true → finds_host kind rest ≡ false
    text-with-at-sign-is-no-host-alone e = false_from_ne_true _ (λ h. both_ways _
        (host-alone-holds-no-at-sign rest u h) (at-sign-in-cut-is-at-sign-in-tail ∙ e))

    userinfo-before-at-sign-ends-at-first-mark : starts 64 (after kind.userinfo rest) ≡ true
        → valid_prefix kind.userinfo rest ≡ length_before_marks (codes "@/?#") rest
    userinfo-before-at-sign-ends-at-first-mark e = scan_stops_at_first_mark
        (codes "@/?#") 64 refl kind.userinfo w.userinfo_lacks w.userinfo_marks rest u e

    bracket-begins-no-userinfo : starts 91 rest ≡ true
        → is_valid_for kind.userinfo (before_any (codes "@/?#") rest) ≡ false
    bracket-begins-no-userinfo e =
        false_from_ne_true _ (λ v. both_ways _ (lacking_text_does_not_begin_with (codes "[")
        (before_any (codes "@/?#") rest) 91 refl (valid_text_lacks_excluded_marks kind.userinfo
        (codes "[") w.userinfo_lacks w.userinfo_starts (before_any (codes "@/?#") rest)
        (utf8_before_marks (codes "@/?#") rest (AreAscii-by-test (codes "@/?#") refl) u) v))
        (cut-text-begins-with-same-other-byte 91 (codes "@/?#") refl rest ∙ e))

    userinfo-and-host-are-parsed-as-cut : starts 91 rest ≡ false → starts 64 tail ≡ true
        → (passes_user kind rest && finds_host kind (text_from_host kind rest))
        ≡ (is_valid_for kind.userinfo (before_any (codes "@/?#") rest)
        && finds_host kind (drop 1 tail))
    userinfo-and-host-are-parsed-as-cut bare e = ⊎_elim (λ m. ap (λ t. t && finds_host kind
        (text_from_host kind rest)) (passes_user-is-at-sign-after-userinfo segment kind w rest
        ∙ ap (λ n. starts 64 (drop n rest)) m ∙ e)
        ∙ ap (finds_host kind) (text_from_host-is-after-at-sign segment kind w rest bare
        ∙ ap (λ n. drop 1 (drop n rest)) m) ∙ sym (ap (λ t. t && finds_host kind (drop 1 tail))
        (userinfo-validity-by-prefix-length ∙ eq-eqb _ _ m))) (λ s.
        let none : starts 64 (after kind.userinfo rest) ≡ false =
        false_from_ne_true _ (λ t. s.apart (userinfo-before-at-sign-ends-at-first-mark t)) in
        ap (λ t. t && finds_host kind (text_from_host kind rest))
        (passes_user-is-at-sign-after-userinfo segment kind w rest ∙ none)
        ∙ sym (ap (λ t. t && finds_host kind (drop 1 tail)) (userinfo-validity-by-prefix-length
        ∙ ne_eqb _ _ s.apart))) (scan-stops-at-first-mark-or-within
        (codes "@/?#") kind.userinfo w.userinfo_lacks w.userinfo_marks rest u)

    no-userinfo-without-at-sign : starts 64 tail ≡ false → passes_user kind rest ≡ false
    no-userinfo-without-at-sign e = passes_user-is-at-sign-after-userinfo segment kind w rest
        ∙ false_from_ne_true _ (λ t. both_ways _ e (sym (ap (λ n. starts 64 (drop n rest))
        (userinfo-before-at-sign-ends-at-first-mark t)) ∙ t))

    authority-with-at-sign-is-found-as-cut : starts 64 tail ≡ true
        → finds_authority kind rest ≡ (is_valid_for kind.userinfo (before_any (codes "@/?#") rest)
        && finds_host kind (drop 1 tail))
    authority-with-at-sign-is-found-as-cut e = ⊎_elim
        (λ b. bracketed-authority-is-host-and-port rest b ∙ text-with-at-sign-is-no-host-alone e
        ∙ sym (and_left _ _ (bracket-begins-no-userinfo b))) (λ b.
        let none : name_ends_authority kind rest ≡ false = false_from_ne_true _ (λ h. both_ways _
        (text-with-at-sign-is-no-host-alone e) (name-that-ends-authority-is-host rest h).1) in
        unbracketed-authority-is-name-or-userinfo-and-host rest b
        ∙ ap (λ t. t || (passes_user kind rest && finds_host kind (text_from_host kind rest))) none
        ∙ userinfo-and-host-are-parsed-as-cut b e) (cases_Bool (starts 91 rest))

    pub finds_authority-is-parses_whole_authority : finds_authority kind rest
        ≡ parses_whole_authority kind.userinfo kind.reg_name cut_text
    finds_authority-is-parses_whole_authority =
        ⊎_elim (λ e. authority-with-at-sign-is-found-as-cut e
        ∙ sym (authority-with-at-sign-is-userinfo-and-host e))
        (λ e. ⊎_elim (λ b. bracketed-authority-is-host-and-port rest b)
        (λ b. unbracketed-authority-is-name-or-userinfo-and-host rest b
        ∙ ap (λ t. name_ends_authority kind rest
        || (t && finds_host kind (text_from_host kind rest))) (no-userinfo-without-at-sign e)
        ∙ or-false (name_ends_authority kind rest)
        ∙ sym (finds_host-unbracketed segment kind w rest b)) (cases_Bool (starts 91 rest))
        ∙ sym (authority-without-at-sign-is-host e)) (cases_Bool (starts 64 tail))

    -- its positions
    name-alone-is-found-authority : name_ends_authority kind rest ≡ true → IsFound kind rest
    unfolding found_authority_length found_authority
    name-alone-is-found-authority h =
        let p = name-that-ends-authority-is-host rest h in
        let f = host-that-is-found-has-its-positions segment kind w rest u p.1 in
        let n : valid_prefix kind.reg_name rest ≡ length f.host =
        sym (host_end-unbracketed segment kind w rest p.0) ∙ f.end in
        let l : name_and_port_length kind rest ≡ length (f.host ++ f.suffix) =
        sym (host_and_port_length-unbracketed segment kind w rest p.0) ∙ f.whole in
        record {
          len = cond-true _ _ _ h ∙ l ∙ sym (ap length f.text);
          found = λ place.
              let same : record {
                start = place;
                host_start = place;
                host_end = place + valid_prefix kind.reg_name rest;
                end = place + name_and_port_length kind rest;
              } ≡ places place place f.host f.suffix = λ i. record {
                start = place;
                host_start = place;
                host_end = place + n i;
                end = place + l i;
              } in
              cond-true _ _ _ h ∙ same ∙ sym (ap (authority_at place)
              f.text ∙ authority_at-without-userinfo f.host f.suffix f.at f.cut place);
        }

    authority-at-cut-positions-is-found : name_ends_authority kind rest ≡ false
        → (len : other_authority_length kind rest ≡ length cut_text) → ((place : ℕ)
        → other_authority kind place rest ≡ authority_at place cut_text) → IsFound kind rest
    unfolding found_authority_length found_authority
    authority-at-cut-positions-is-found none len found = record {
      len = cond-false _ _ _ none ∙ len;
      found = λ place. cond-false _ _ _ none ∙ found place;
    }

    bracketed-host-is-found-authority : name_ends_authority kind rest ≡ false
        → starts 91 rest ≡ true → finds_host kind rest ≡ true → IsFound kind rest
    unfolding other_authority_length other_authority host_offset
    bracketed-host-is-found-authority none e h =
        let f = host-that-is-found-has-its-positions segment kind w rest u h in
        let z : host_offset kind rest ≡ 0 = cond-true _ _ _ e in
        let l : host_offset kind rest + host_and_port_length kind (text_from_host kind rest)
        ≡ length (f.host ++ f.suffix) = ap (λ n. n + host_and_port_length kind (drop n rest)) z
        ∙ zero-add _ ∙ f.whole in
        authority-at-cut-positions-is-found none (l ∙ sym (ap length f.text)) (λ place.
        let s : place + host_offset kind rest ≡ place = omega (arith, z) in
        let n : host_end kind (text_from_host kind rest) ≡ length f.host =
        ap (host_end kind) (no-userinfo-before-bracketed-host rest e) ∙ f.end in
        let m : host_and_port_length kind (text_from_host kind rest) ≡ length (f.host ++ f.suffix) =
        ap (host_and_port_length kind) (no-userinfo-before-bracketed-host rest e) ∙ f.whole in
        let same : other_authority kind place rest ≡ places place place f.host f.suffix =
        λ i. record {
          start = place;
          host_start = s i;
          host_end = s i + n i;
          end = s i + m i;
        } in
        same ∙ sym (ap (authority_at place) f.text
        ∙ authority_at-without-userinfo f.host f.suffix f.at f.cut place))

    userinfo-and-host-are-found-authority : name_ends_authority kind rest ≡ false
        → starts 91 rest ≡ false → passes_user kind rest ≡ true
        → finds_host kind (text_from_host kind rest) ≡ true → IsFound kind rest
    unfolding other_authority_length other_authority
    userinfo-and-host-are-found-authority none e passed h =
        let m = userinfo-before-at-sign-ends-at-first-mark
        (sym (passes_user-is-at-sign-after-userinfo segment kind w rest) ∙ passed) in
        let user : List ℕ = before_any (codes "@/?#") rest in
        let s : List ℕ = drop 1 tail in
        let mark : starts 64 tail ≡ true = sym (ap (λ n. starts 64 (drop n rest)) m)
        ∙ sym (passes_user-is-at-sign-after-userinfo segment kind w rest) ∙ passed in
        let b : text_from_host kind rest ≡ s = text_from_host-is-after-at-sign segment kind w rest e
        ∙ ap (λ n. drop 1 (drop n rest)) m in
        let f = host-that-is-found-has-its-positions segment kind w s
        (text-after-at-sign-is-utf8 mark) (sym (ap (finds_host kind) b) ∙ h) in
        let cut_user = text-is-cut-at-first-mark (codes "@/?#") rest in
        let cut_host = text-is-cut-at-first-mark (codes "/?#") s in
        let outside : Lacks (codes "@") user = Lacks-of-fewer-marks
        (codes "@") (codes "@/?#") (λ c e. grind (arith, nat_tests)) user cut_user.lacks in
        let whole_text : List ℕ = user ++ (64 ∷ (f.host ++ f.suffix)) in
        let end : List ℕ = from_any (codes "/?#") s in
        let whole : whole_text ++ end ≡ rest = append_assoc user (64 ∷ (f.host ++ f.suffix)) end
        ∙ ap (λ t. user ++ (64 ∷ (t ++ end))) (sym f.text)
        ∙ ap (λ t. user ++ (64 ∷ t)) cut_host.whole ∙ ap (λ t. user
        ++ t) (sym (text-with-mark-is-mark-and-rest 64 tail mark)) ∙ cut_user.whole in
        let ends_lack : Lacks (codes "/?#") whole_text = joined-texts-lack-marks
        (codes "/?#") user (64 ∷ (f.host ++ f.suffix)) (Lacks-of-fewer-marks (codes "/?#")
        (codes "@/?#") (λ c e. grind (arith, nat_tests)) user cut_user.lacks)
        (text-after-other-byte-lacks-marks (codes "/?#") 64
        (f.host ++ f.suffix) refl (subst (Lacks (codes "/?#")) f.text cut_host.lacks)) in
        let text_is : cut_text ≡ whole_text = ap (before_any (codes "/?#")) (sym whole)
        ∙ (cut-at-end-of-text-without-marks (codes "/?#") whole_text end ends_lack
        cut_host.begins).0 in
        let n : host_offset kind rest
        ≡ length user + 1 = host_offset-is-after-userinfo-and-at-sign segment kind w rest e
        ∙ ap (λ n. n + 1) (m ∙ sym (length-of-text-before-marks (codes "@/?#") rest)) in
        let host : host_end kind (text_from_host kind rest) ≡ length f.host = ap (host_end kind) b
        ∙ f.end in
        let past : host_and_port_length kind (text_from_host kind rest)
        ≡ length (f.host ++ f.suffix) = ap (host_and_port_length kind) b ∙ f.whole in
        let l : host_offset kind rest + host_and_port_length kind (text_from_host kind rest)
        ≡ length whole_text =
        omega (arith, n, past, length-append user (64 ∷ (f.host ++ f.suffix))) in
        authority-at-cut-positions-is-found none (l ∙ sym (ap length text_is)) (λ place.
        let same : other_authority kind place rest
        ≡ places place (place + (length user + 1)) f.host f.suffix = λ i. record {
          start = place;
          host_start = place + n i;
          host_end = place + n i + host i;
          end = place + n i + past i;
        } in
        same ∙ sym (ap (authority_at place) text_is
        ∙ authority_at-with-userinfo f.host f.suffix f.at f.cut user outside place))

    pub found-authority-is-the-cut-one : finds_authority kind rest ≡ true → IsFound kind rest
    found-authority-is-the-cut-one h = ⊎_elim name-alone-is-found-authority
        (λ none. ⊎_elim (λ e. bracketed-host-is-found-authority none e
        (sym (bracketed-authority-is-host-and-port rest e) ∙ h)) (λ e.
        let p = and_parts (passes_user kind rest) _
        (second-holds-if-first-is-false (name_ends_authority kind rest) _ none
        (sym (unbracketed-authority-is-name-or-userinfo-and-host rest e) ∙ h)) in
        userinfo-and-host-are-found-authority none e p.0 p.1)
        (cases_Bool (starts 91 rest))) (cases_Bool (name_ends_authority kind rest))
