-- A host and a port are parsed to the end of an authority exactly where what is cut out is a host
-- and a port.
use Rattle.uri_parts.proofs.Common.{◌≡◌, ℕ, ◌+◌, true, false, List, [], ◌∷◌, ◌++◌, length, drop, refl, sym, ap, subst, ◌∙◌, arith, ◌&&◌, ⊎_elim, inl, inr, append_assoc, length-append, lit<, codes, IsUtf8, cases_Bool, cond-false, and_left, and_parts, eq-eqb, ne_eqb, eqb-true, both_ways, false_from_ne_true, nat_tests, TableSet, is_valid_for, valid_prefix, after, cut, valid_prefix_at_mark_is_empty, length_before_marks, AreAscii-by-test, before_any, from_any, starts, Lacks, bracketed, literal_length, leading_host, is_empty_or_begins_with_any, port_length, name_and_port_length, name_ends_authority, host_end, host_and_port_length, Kind}
use Rattle.uri_parts.proofs.Parsing.Acceptance.{is_literal, parses_literal, passes_host, finds_host}
use Rattle.uri_parts.proofs.Authorities.Authority.{host-is-cut-where-it-ends, empty-text-lacks-marks, bracketed_lacks_at_sign, Lacks-of-fewer-marks}
use Rattle.uri_parts.proofs.Authorities.AuthorityCuts.{length-of-text-before-marks, suffix}
use Rattle.uri_parts.proofs.Splitting.Cuts.{text-is-cut-at-first-mark, cut-at-end-of-text-without-marks, before_any-past-other, text-after-other-byte-lacks-marks}
use Rattle.uri_parts.proofs.HostForms.Futures.{joined-texts-lack-marks}
use Rattle.uri_parts.proofs.TextKinds.Separations.{SeparatesComponents}
use Rattle.uri_parts.proofs.TextKinds.GrammarTexts.{valid_text_lacks_excluded_marks}
use Rattle.uri_parts.proofs.Parsing.ScanStops.{scan-stops-at-first-mark-or-within, utf8_from_marks, utf8_after_mark}
use Rattle.uri_parts.proofs.Authorities.WholeAuthorities.{is_unbracketed_host, is_empty_or_port, parses_host_and_port}
use Rattle.uri_parts.proofs.Splitting.Recompose.{text-with-mark-is-mark-and-rest}
use Rattle.uri_parts.proofs.Authorities.NamesAndPorts.{cut_at_further_mark, cut-text-begins-with-same-other-byte, utf8_before_marks, port-ends-at-mark-iff-cut-is-port, port_length-of-whole-port, other_byte_begins_no_port, port-is-empty-or-begins-with-colon, port-lacks-at-sign, unbracketed-host-iff-valid-name}
use Rattle.uri_parts.proofs.Authorities.ClosedLiterals.{literal-lacks-excluded-marks, IsClosed, bracket-before-marks-closes-literal, parsed-literal-has-closing-bracket, parses_literal-is-is_literal-of-address, bracketed-address-and-tail-are-text, literal-length-is-bracketed-length, text-after-literal-is-tail, address-and-tail-are-utf8}

-- authorities, parsed: a host that is passed, with what is after it in the authority
pub record FoundHost (kind : Kind) (rest : List ℕ) : Type 0 where
  pub host : List ℕ
  pub suffix : List ℕ
  pub text : before_any (codes "/?#") rest ≡ host ++ suffix
  pub at : Lacks (codes "@") (host ++ suffix)
  pub cut : leading_host (host ++ suffix) ≡ host
  pub end : host_end kind rest ≡ length host
  pub whole : host_and_port_length kind rest ≡ length (host ++ suffix)

module _ (segment : TableSet) (kind : Kind) (w : SeparatesComponents segment kind) where
  pub host_end-unbracketed : (rest : List ℕ) → starts 91 rest ≡ false
      → host_end kind rest ≡ valid_prefix kind.reg_name rest
  unfolding host_end
  host_end-unbracketed rest e = cond-false _ _ _ e

  pub host_and_port_length-unbracketed : (rest : List ℕ) → starts 91 rest ≡ false
      → host_and_port_length kind rest ≡ name_and_port_length kind rest
  unfolding host_and_port_length name_and_port_length
  host_and_port_length-unbracketed rest e = ap (λ n. n + port_length (drop n rest))
      (host_end-unbracketed rest e)

  pub finds_host-unbracketed : (rest : List ℕ) → starts 91 rest ≡ false
      → finds_host kind rest ≡ name_ends_authority kind rest
  unfolding finds_host passes_host name_ends_authority
  finds_host-unbracketed rest e = cc (host_and_port_length-unbracketed rest e)

  -- no name begins with `[`
  pub bracket_begins_no_name : (rest : List ℕ) → starts 91 rest ≡ true
      → name_ends_authority kind rest ≡ false
  unfolding name_ends_authority name_and_port_length is_empty_or_begins_with_any port_length
  bracket_begins_no_name rest e =
      let r : List ℕ = drop 1 rest in
      let none = valid_prefix_at_mark_is_empty
      (codes "@:[") kind.reg_name w.reg_name_lacks w.reg_name_starts 91 r refl in
      ap (name_ends_authority kind) (text-with-mark-is-mark-and-rest 91 rest e)
      ∙ ap (λ n. is_empty_or_begins_with_any (codes "/?#")
      (drop (n + port_length (drop n (91 ∷ r))) (91 ∷ r))) none

  name-ends-authority-if-mark-follows-port : (rest : List ℕ) → name_ends_authority kind rest
      ≡ is_empty_or_begins_with_any (codes "/?#") (drop (port_length (after kind.reg_name rest))
      (after kind.reg_name rest))
  unfolding name_ends_authority name_and_port_length
  name-ends-authority-if-mark-follows-port rest = ap (is_empty_or_begins_with_any (codes "/?#"))
      (sym (suffix (valid_prefix kind.reg_name rest) (port_length (after kind.reg_name rest)) rest))

  host-and-port-of-unbracketed-cut : (rest : List ℕ) → IsUtf8 rest → starts 91 rest ≡ false →
      parses_host_and_port kind.reg_name (before_any (codes "/?#") rest)
      ≡ (is_valid_for kind.reg_name (before_any (codes ":/?#") rest)
      && is_empty_or_port (before_any (codes "/?#") (from_any (codes ":/?#") rest)))
  unfolding parses_host_and_port
  host-and-port-of-unbracketed-cut rest u e =
      let text : List ℕ = before_any (codes "/?#") rest in
      let name : List ℕ = before_any (codes ":/?#") rest in
      let c = cut_at_further_mark 58 (codes "/?#") rest in
      cond-false _ _ _ (cut-text-begins-with-same-other-byte 91 (codes "/?#") refl rest ∙ e) ∙ ap
      (λ t. is_unbracketed_host kind.reg_name t && is_empty_or_port (from_any (codes ":") text)) c.0
      ∙ ap (λ t. t && is_empty_or_port (from_any (codes ":") text))
      (unbracketed-host-iff-valid-name kind.reg_name w.reg_name_lacks w.address_within name
      (utf8_before_marks (codes ":/?#") rest (AreAscii-by-test (codes ":/?#") refl) u))
      ∙ ap (λ t. is_valid_for kind.reg_name name && is_empty_or_port t) c.1

  text-from-mark-is-utf8 : (rest : List ℕ) → IsUtf8 rest → IsUtf8 (from_any (codes ":/?#") rest)
  text-from-mark-is-utf8 rest u = utf8_from_marks (codes ":/?#") rest
      (AreAscii-by-test (codes ":/?#") refl) u

  name-ends-authority-iff-cut-parses : (rest : List ℕ) → IsUtf8 rest → starts 91 rest ≡ false
      → name_ends_authority kind rest ≡ parses_host_and_port kind.reg_name
      (before_any (codes "/?#") rest)
  name-ends-authority-iff-cut-parses rest u e =
      let right = host-and-port-of-unbracketed-cut rest u e in
      let valid = cut (codes ":/?#") kind.reg_name w.reg_name_lacks w.reg_name_colon rest u in
      let from : List ℕ = from_any (codes ":/?#") rest in
      name-ends-authority-if-mark-follows-port rest ∙ ⊎_elim (λ m. ap (λ n.
      is_empty_or_begins_with_any (codes "/?#") (drop (port_length (drop n rest)) (drop n rest))) m
      ∙ port-ends-at-mark-iff-cut-is-port from (text-from-mark-is-utf8 rest u) ∙ sym (right
      ∙ ap (λ t. t && is_empty_or_port (before_any (codes "/?#") from)) (valid ∙ eq-eqb _ _ m)))
      (λ s. ap (λ r. is_empty_or_begins_with_any (codes "/?#") (drop (port_length r) r)) s.left
      ∙ other_byte_begins_no_port s.byte s.rest s.other
      ∙ sym (right ∙ and_left _ _ (valid ∙ ne_eqb _ _ s.apart))) (scan-stops-at-first-mark-or-within
      (codes ":/?#") kind.reg_name w.reg_name_lacks w.reg_name_colon rest u)

  host-and-port-of-bracketed-cut : (rest : List ℕ)
      → parses_host_and_port kind.reg_name (before_any (codes "/?#") (91 ∷ rest))
      ≡ (starts 93 (from_any (codes "]/?#") rest) && (is_literal (before_any (codes "]/?#") rest)
      && is_empty_or_port (drop 1 (before_any (codes "/?#") (from_any (codes "]/?#") rest)))))
  unfolding parses_host_and_port
  host-and-port-of-bracketed-cut rest =
      let text : List ℕ = before_any (codes "/?#") rest in
      let from : List ℕ = from_any (codes "]/?#") rest in
      let address : List ℕ = before_any (codes "]/?#") rest in
      let c = cut_at_further_mark 93 (codes "/?#") rest in
      ap (parses_host_and_port kind.reg_name) (before_any-past-other (codes "/?#") 91 rest refl)
      ∙ ap (λ t. starts 93 (from_any (codes "]") text)
      && (is_literal t && is_empty_or_port (drop 1 (from_any (codes "]") text)))) c.0
      ∙ ap (λ t. starts 93 t && (is_literal address && is_empty_or_port (drop 1 t))) c.1 ∙ ap
      (λ t. t && (is_literal address && is_empty_or_port (drop 1 (before_any (codes "/?#") from))))
      (cut-text-begins-with-same-other-byte 93 (codes "/?#") refl from)

  -- after the address the port is parsed
  bracketed-host-is-found-if-mark-follows-port : (rest : List ℕ)
      → IsUtf8 rest → (c : IsClosed rest) → finds_host kind (91 ∷ rest) ≡ (parses_literal rest
      && is_empty_or_begins_with_any (codes "/?#") (drop (port_length c.tail) c.tail))
  unfolding finds_host passes_host host_and_port_length host_end
  bracketed-host-is-found-if-mark-follows-port rest u c =
      grind (arith, nat_tests, parses_literal rest, suffix, text-after-literal-is-tail rest u c)

  unparsed-literal-begins-no-host : (rest : List ℕ) → parses_literal rest ≡ false
      → finds_host kind (91 ∷ rest) ≡ false
  unfolding finds_host passes_host
  unparsed-literal-begins-no-host rest e = and_left _ _ e

  bracketed-host-is-found-iff-cut-parses : (rest : List ℕ) → IsUtf8 rest → finds_host kind (91
      ∷ rest) ≡ parses_host_and_port kind.reg_name (before_any (codes "/?#") (91 ∷ rest))
  bracketed-host-is-found-iff-cut-parses rest u = ⊎_elim (λ e.
      let c = bracket-before-marks-closes-literal rest e in
      let after_is : before_any (codes "/?#") (from_any (codes "]/?#") rest)
      ≡ 93 ∷ before_any (codes "/?#") c.tail = ap (before_any (codes "/?#")) c.long
      ∙ before_any-past-other (codes "/?#") 93 c.tail refl in
      bracketed-host-is-found-if-mark-follows-port rest u c
      ∙ ap (λ t. t && is_empty_or_begins_with_any (codes "/?#") (drop (port_length c.tail) c.tail))
      (parses_literal-is-is_literal-of-address rest u c) ∙ ap (λ t. is_literal c.address
      && t) (port-ends-at-mark-iff-cut-is-port c.tail (address-and-tail-are-utf8 rest u c).1)
      ∙ sym (host-and-port-of-bracketed-cut rest
      ∙ ap (λ t. t && (is_literal (before_any (codes "]/?#") rest) && is_empty_or_port
      (drop 1 (before_any (codes "/?#") (from_any (codes "]/?#") rest))))) e ∙ ap (λ t. is_literal t
      && is_empty_or_port (drop 1 (before_any (codes "/?#") (from_any (codes "]/?#") rest))))
      c.short ∙ ap (λ t. is_literal c.address && is_empty_or_port (drop 1 t)) after_is))
      (λ e. unparsed-literal-begins-no-host rest (false_from_ne_true _ (λ h. both_ways _ e
      (parsed-literal-has-closing-bracket rest u h))) ∙ sym (host-and-port-of-bracketed-cut rest
      ∙ and_left _ _ e)) (cases_Bool (starts 93 (from_any (codes "]/?#") rest)))

  pub finds_host-is-parses_host_and_port : (rest : List ℕ) → IsUtf8 rest
      → finds_host kind rest ≡ parses_host_and_port kind.reg_name (before_any (codes "/?#") rest)
  finds_host-is-parses_host_and_port rest u = ⊎_elim (λ e.
      let r = text-with-mark-is-mark-and-rest 91 rest e in
      ap (finds_host kind) r ∙ bracketed-host-is-found-iff-cut-parses (drop 1 rest)
      (utf8_after_mark 91 (lit< tt) rest e u)
      ∙ sym (ap (λ t. parses_host_and_port kind.reg_name (before_any (codes "/?#") t)) r))
      (λ e. finds_host-unbracketed rest e ∙ name-ends-authority-iff-cut-parses rest u e)
      (cases_Bool (starts 91 rest))

  length-of-name-and-port-is-sum : (rest : List ℕ) (i j : ℕ) → valid_prefix kind.reg_name rest ≡ i
      → port_length (after kind.reg_name rest) ≡ j → name_and_port_length kind rest ≡ i + j
  unfolding name_and_port_length
  length-of-name-and-port-is-sum rest i j n k = omega (arith, n, k)

  -- its positions
  unbracketed-host-has-found-positions : (rest : List ℕ) → IsUtf8 rest
      → starts 91 rest ≡ false → name_ends_authority kind rest ≡ true → FoundHost kind rest
  unbracketed-host-has-found-positions rest u e h =
      let p = and_parts _ _ (sym (host-and-port-of-unbracketed-cut rest u e)
      ∙ sym (name-ends-authority-iff-cut-parses rest u e) ∙ h) in
      let name : List ℕ = before_any (codes ":/?#") rest in
      let from : List ℕ = from_any (codes ":/?#") rest in
      let port : List ℕ = before_any (codes "/?#") from in
      let m : valid_prefix kind.reg_name rest ≡ length_before_marks (codes ":/?#") rest = eqb-true
      _ _ (sym (cut (codes ":/?#") kind.reg_name w.reg_name_lacks w.reg_name_colon rest u) ∙ p.0) in
      let c = cut_at_further_mark 58 (codes "/?#") rest in
      let un = utf8_before_marks (codes ":/?#") rest (AreAscii-by-test (codes ":/?#") refl) u in
      let uf = text-from-mark-is-utf8 rest u in
      let lacks = valid_text_lacks_excluded_marks kind.reg_name
      (codes "@:[") w.reg_name_lacks w.reg_name_starts name un p.0 in
      let ends : is_empty_or_begins_with_any (codes "/?#") (drop (port_length from) from) ≡ true =
      port-ends-at-mark-iff-cut-is-port from uf ∙ p.1 in
      let n : valid_prefix kind.reg_name rest ≡ length name = m
      ∙ sym (length-of-text-before-marks (codes ":/?#") rest) in
      let k : port_length (after kind.reg_name rest) ≡ length port =
      ap (λ n. port_length (drop n rest)) m ∙ port_length-of-whole-port from uf ends in
      record {
        host = name;
        suffix = port;
        text = sym (ap (λ t. t ++ port) (sym c.0)
            ∙ ap (λ t. before_any (codes ":") (before_any (codes "/?#") rest) ++ t) (sym c.1)
            ∙ (text-is-cut-at-first-mark (codes ":") (before_any (codes "/?#") rest)).whole);
        at = joined-texts-lack-marks (codes "@") name port (Lacks-of-fewer-marks (codes "@")
            (codes "@:[") (λ c e. grind (arith, nat_tests)) name lacks) (port-lacks-at-sign port
            (utf8_before_marks (codes "/?#") from (AreAscii-by-test (codes "/?#") refl) uf) p.1);
        cut = (host-is-cut-where-it-ends name port (inr lacks)
            (port-is-empty-or-begins-with-colon port p.1)).0;
        end = host_end-unbracketed rest e ∙ n;
        whole = host_and_port_length-unbracketed rest e ∙ length-of-name-and-port-is-sum rest
            (length name) (length port) n k ∙ sym (length-append name port);
      }

  bracketed-host-has-found-positions : (rest : List ℕ)
      → IsUtf8 rest → finds_host kind (91 ∷ rest) ≡ true → FoundHost kind (91 ∷ rest)
  unfolding host_end host_and_port_length
  bracketed-host-has-found-positions rest u h =
      let c = bracket-before-marks-closes-literal rest
      (and_parts _ _ (sym (host-and-port-of-bracketed-cut rest)
      ∙ sym (bracketed-host-is-found-iff-cut-parses rest u) ∙ h)).0 in
      let up = address-and-tail-are-utf8 rest u c in
      let q = and_parts (parses_literal rest) _
      (sym (bracketed-host-is-found-if-mark-follows-port rest u c) ∙ h) in
      let port : List ℕ = before_any (codes "/?#") c.tail in
      let ends = sym (port-ends-at-mark-iff-cut-is-port c.tail up.1) ∙ q.1 in
      let literal = sym (parses_literal-is-is_literal-of-address rest u c) ∙ q.0 in
      let lacks = literal-lacks-excluded-marks (codes "]/?#") refl c.address up.0 literal in
      let unmarked : Lacks (codes "/?#") (bracketed c.address) = text-after-other-byte-lacks-marks
      (codes "/?#") 91 (c.address ++ codes "]") refl (joined-texts-lack-marks
      (codes "/?#") c.address (codes "]") (Lacks-of-fewer-marks (codes "/?#") (codes "]/?#")
      (λ c e. grind (arith, nat_tests)) c.address lacks) (text-after-other-byte-lacks-marks
      (codes "/?#") 93 [] refl (empty-text-lacks-marks (codes "/?#")))) in
      let k = text-is-cut-at-first-mark (codes "/?#") c.tail in
      let from : List ℕ = from_any (codes "/?#") c.tail in
      let whole : (bracketed c.address ++ port) ++ from ≡ 91 ∷ rest =
      append_assoc (bracketed c.address) port from
      ∙ ap (λ t. bracketed c.address ++ t) k.whole ∙ bracketed-address-and-tail-are-text rest u c in
      let n = literal-length-is-bracketed-length rest u c in
      let p : port_length (drop (1 + literal_length rest) (91 ∷ rest)) ≡ length port =
      ap port_length (text-after-literal-is-tail rest u c)
      ∙ port_length-of-whole-port c.tail up.1 q.1 in
      record {
        host = bracketed c.address;
        suffix = port;
        text = ap (before_any (codes "/?#")) (sym whole) ∙ (cut-at-end-of-text-without-marks
            (codes "/?#") (bracketed c.address ++ port) from (joined-texts-lack-marks
            (codes "/?#") (bracketed c.address) port unmarked k.lacks) k.begins).0;
        at = joined-texts-lack-marks (codes "@") (bracketed c.address) port (bracketed_lacks_at_sign
            c.address (literal-lacks-excluded-marks (codes "@") refl c.address up.0 literal))
            (port-lacks-at-sign port (utf8_before_marks
            (codes "/?#") c.tail (AreAscii-by-test (codes "/?#") refl) up.1) ends);
        cut = (host-is-cut-where-it-ends (bracketed c.address) port (inl (
          c.address,
          refl,
          Lacks-of-fewer-marks (codes "]") (codes "]/?#")
              (λ c e. grind (arith, nat_tests)) c.address lacks,
        )) (port-is-empty-or-begins-with-colon port ends)).0;
        end = n;
        whole = omega (arith, n, p, length-append (bracketed c.address) port);
      }

  pub host-that-is-found-has-its-positions : (rest : List ℕ) → IsUtf8 rest → finds_host kind rest
      ≡ true → FoundHost kind rest
  host-that-is-found-has-its-positions rest u h = ⊎_elim (λ e.
      let r = text-with-mark-is-mark-and-rest 91 rest e in
      subst (FoundHost kind) (sym r) (bracketed-host-has-found-positions (drop 1 rest)
      (utf8_after_mark 91 (lit< tt) rest e u) (sym (ap (finds_host kind) r) ∙ h)))
      (λ e. unbracketed-host-has-found-positions rest u e (sym (finds_host-unbracketed rest e) ∙ h))
      (cases_Bool (starts 91 rest))
