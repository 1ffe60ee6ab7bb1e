-- The positions that are parsed are those of the components.
use Rattle.uri_parts.proofs.Common.{◌≡◌, ℕ, ◌+◌, Bool, true, false, eqb, not, List, ◌∷◌, length, get_or, drop, refl, sym, ap, ◌∙◌, arith, ◌&&◌, ⊎_elim, lit<, codes, Some, None, Option, option_map, IsUtf8, is_ascii_alphabetic, cases_Bool, cond-true, cond-false, and_left, and_from, and_parts, ne_eqb, both_ways, not_from_false, false_from_ne_true, nat_tests, TableSet, LacksPercent, is_one_of, scheme_set, valid_prefix, after, excludes, length_before_marks, AreAscii-by-test, valid_prefix_of_superset_goes_on_from_subset, Positions, AuthorityPositions, before_any, from_any, starts, has_authority, has_scheme, after_authority, components, when, positions_of, delimited_length, authority_at, Kind, found_authority_length, query_end_at, path_positions, authority_positions, hier_part_positions, relative_positions, schemeless_positions, parsed_positions}
use Rattle.uri_parts.proofs.Parsing.Acceptance.{finds_authority, is_stray, parses_fragment, parses_end, parses_path, parses_authority, parses_relative, parses_hier_part, parses_schemeless, parses}
use Rattle.uri_parts.proofs.Parsing.ScanStops.{scan-stops-at-first-mark-or-within, utf8_from_marks, utf8_after_mark, utf8_after_slashes}
use Rattle.uri_parts.proofs.Authorities.AuthorityCuts.{length-of-text-before-marks}
use Rattle.uri_parts.proofs.TextKinds.Separations.{SeparatesComponents}
use Rattle.uri_parts.proofs.Parsing.Accepts.{parses_fragment-not-at-other, parses_end-not-at-other}
use Rattle.uri_parts.proofs.Authorities.FoundAuthorities.{found-authority-is-the-cut-one}
use Rattle.uri_parts.proofs.Splitting.Hierarchies.{text_after_found_authority}
use Rattle.uri_parts.proofs.Splitting.Relative.{scheme_set_lacks_percent, scheme_set_excludes_delimiters, scan_stops_at_first_colon, parses_path-after-segment, after_path-after-segment, parses_relative-rejects-scheme, after_segment-after-scheme-chars, parses_relative-after-scheme-chars}
use Rattle.uri_parts.proofs.Parsing.WholeTexts.{colon_is_no_letter, slashes-are-first-mark, slashes-begin-with-no-colon, slashes-begin-with-no-scheme, slashes-follow-no-scheme-characters}

-- parser: a byte that is not the delimiter `#` is not 35
other-byte-is-no-hash : (b : ℕ) → is_one_of (codes "#") b ≡ false → eqb b 35 ≡ false
other-byte-is-no-hash b o = ne_eqb b 35 (λ e. both_ways _ o (ap (is_one_of (codes "#")) e))

-- parsing: a scan by a set that excludes some delimiters, after which a test holds that none else
-- passes, ends at the first of them
scanned-prefix-ends-at-first-mark : (marks : List ℕ) (set : TableSet) → LacksPercent set
    → excludes set marks ≡ true → (test : List ℕ → Bool) → ((b : ℕ) (rest : List ℕ)
    → is_one_of marks b ≡ false → test (b ∷ rest) ≡ false) → (bs : List ℕ)
    → IsUtf8 bs → test (after set bs) ≡ true → valid_prefix set bs ≡ length_before_marks marks bs
scanned-prefix-ends-at-first-mark marks set lacks outside test stuck bs u e = ⊎_elim (λ h. h)
    (λ s. absurd (both_ways _ (ap test s.left ∙ stuck s.byte s.rest s.other) e))
    (scan-stops-at-first-mark-or-within marks set lacks outside bs u)

-- parsing: the positions of what is after a scheme and an authority
abbrev tail_positions : Option ℕ → Option AuthorityPositions → ℕ → List ℕ → Positions
tail_positions scheme_end authority start tail =
    let end = start + length (before_any (codes "?#") tail) in
    let rest = from_any (codes "?#") tail in
    record {
      scheme_end = scheme_end;
      authority = authority;
      path_start = start;
      path_end = end;
      query_end = option_map (λ q. end + 1 + length q)
          (when (starts 63 rest) (before_any (codes "#") (drop 1 rest)));
    }

-- parsing: the positions of what is after a scheme
abbrev hier_part_layout : Option ℕ → ℕ → List ℕ → Positions
hier_part_layout scheme_end place rest =
    let authority = when (has_authority rest) (before_any (codes "/?#") (drop 2 rest)) in
    tail_positions scheme_end (option_map (authority_at (place + 2)) authority)
    (place + delimited_length 2 authority) (after_authority rest)

module _ (segment : TableSet) (kind : Kind) (w : SeparatesComponents segment kind) where
  query-end-is-that-of-cut-query : (end : ℕ) (r : List ℕ) → IsUtf8 r → parses_end kind r ≡ true
      → query_end_at kind end r ≡ option_map (λ q. end + 1 + length q) (when (starts 63 r)
      (before_any (codes "#") (drop 1 r)))
  unfolding parses_end query_end_at
  query-end-is-that-of-cut-query end r u h = ⊎_elim (λ q.
      let r1 = drop 1 r in
      let h1 : (not (is_stray kind.query (after kind.query r1))
      && parses_fragment kind (after kind.query r1)) ≡ true = sym (cond-true _ _ _ q) ∙ h in
      let stuck = λ (b : ℕ) (rest : List ℕ) (o : is_one_of (codes "#") b ≡ false).
      parses_fragment-not-at-other segment kind w b rest (other-byte-is-no-hash b o) in
      let m : valid_prefix kind.query r1 ≡ length (before_any (codes "#") r1) =
      scanned-prefix-ends-at-first-mark (codes "#") kind.query w.query_lacks w.query_marks
      (parses_fragment kind) stuck r1 (utf8_after_mark 63 (lit< tt) r q u) (and_parts _ _ h1).1
      ∙ sym (length-of-text-before-marks (codes "#") r1) in
      cond-true _ _ _ q ∙ ap (λ n. Some (end + 1 + n)) m
      ∙ sym (ap (λ t. option_map (λ q. end + 1 + length q) (when t (before_any (codes "#") r1))) q))
      (λ q. cond-false _ _ _ q ∙ sym (ap (λ t. option_map (λ q. end + 1 + length q)
      (when t (before_any (codes "#") (drop 1 r)))) q)) (cases_Bool (starts 63 r))

  scanned-path-ends-at-first-mark : (tail : List ℕ) → IsUtf8 tail → parses_path kind tail ≡ true
      → valid_prefix kind.path tail ≡ length_before_marks (codes "?#") tail
  unfolding parses_path
  scanned-path-ends-at-first-mark tail u h =
      scanned-prefix-ends-at-first-mark (codes "?#") kind.path w.path_lacks w.path_marks
      (parses_end kind) (parses_end-not-at-other segment kind w) tail u (and_parts _ _ h).1

  path_end : (tail : List ℕ) → parses_path kind tail ≡ true
      → parses_end kind (after kind.path tail) ≡ true
  unfolding parses_path
  path_end tail h = (and_parts _ _ h).1

  path-positions-are-tail-positions : (scheme_end : Option ℕ)
      (authority : Option AuthorityPositions) (start : ℕ) (tail : List ℕ) → IsUtf8 tail
      → parses_path kind tail ≡ true → path_positions kind scheme_end authority start start tail
      ≡ tail_positions scheme_end authority start tail
  unfolding path_positions
  path-positions-are-tail-positions scheme_end authority start tail u h =
      let m = scanned-path-ends-at-first-mark tail u h in
      let rest : List ℕ = from_any (codes "?#") tail in
      let n : valid_prefix kind.path tail ≡ length (before_any (codes "?#") tail) = m
      ∙ sym (length-of-text-before-marks (codes "?#") tail) in
      let r : after kind.path tail ≡ rest = ap (λ k. drop k tail) m in
      let end : start + valid_prefix kind.path tail
      ≡ start + length (before_any (codes "?#") tail) = ap (λ k. start + k) n in
      let q : query_end_at kind (start + valid_prefix kind.path tail) (after kind.path tail)
      ≡ option_map (λ q. start + length (before_any (codes "?#") tail) + 1 + length q)
      (when (starts 63 rest) (before_any (codes "#") (drop 1 rest))) =
      ap (λ e. query_end_at kind e (after kind.path tail)) end
      ∙ ap (query_end_at kind (start + length (before_any (codes "?#") tail))) r
      ∙ query-end-is-that-of-cut-query (start + length (before_any (codes "?#") tail)) rest
      (utf8_from_marks (codes "?#") tail (AreAscii-by-test (codes "?#") refl) u)
      (sym (ap (parses_end kind) r) ∙ path_end tail h) in
      λ i. record {
        scheme_end = scheme_end;
        authority = authority;
        path_start = start;
        path_end = end i;
        query_end = q i;
      }

  authority-positions-are-those-of-cut : (scheme_end : Option ℕ) (place : ℕ) (rest : List ℕ)
      → IsUtf8 rest
      → parses_authority kind rest ≡ true → authority_positions kind scheme_end place rest
      ≡ tail_positions scheme_end (Some (authority_at place (before_any (codes "/?#") rest))) (place
      + length (before_any (codes "/?#") rest)) (from_any (codes "/?#") rest)
  unfolding parses_authority authority_positions
  authority-positions-are-those-of-cut scheme_end place rest u h =
      let both = and_parts (finds_authority kind rest) _ h in
      let f = found-authority-is-the-cut-one segment kind w rest u both.0 in
      let p = both.1 in
      let r = text_after_found_authority segment kind w rest u both.0 in
      let at = λ (a : AuthorityPositions) (k : ℕ) (t : List ℕ). path_positions kind scheme_end
      (Some a) (place + k) (place + k) t in
      let host : List ℕ = before_any (codes "/?#") rest in
      ap (λ a. at a (found_authority_length kind rest)
      (drop (found_authority_length kind rest) rest)) (f.found place) ∙ ap
      (λ k. at (authority_at place host) k (drop (found_authority_length kind rest) rest)) f.len
      ∙ ap (at (authority_at place host) (length host)) r
      ∙ path-positions-are-tail-positions scheme_end (Some (authority_at place host)) (place
      + length host) (from_any (codes "/?#") rest) (utf8_from_marks (codes "/?#") rest
      (AreAscii-by-test (codes "/?#") refl) u) (sym (ap (parses_path kind) r) ∙ p)

  positions-after-slashes-are-hier-part-layout : (scheme_end : Option ℕ) (place : ℕ) (rest : List ℕ)
      → IsUtf8 rest → has_authority rest ≡ true → parses_authority kind (drop 2 rest) ≡ true
      → authority_positions kind scheme_end (place + 2) (drop 2 rest)
      ≡ hier_part_layout scheme_end place rest
  positions-after-slashes-are-hier-part-layout scheme_end place rest u a h =
      grind (arith, nat_tests, authority-positions-are-those-of-cut, utf8_after_slashes)

  positions-without-authority-are-hier-part-layout : (scheme_end : Option ℕ) (place : ℕ)
      (rest : List ℕ) → IsUtf8 rest
      → has_authority rest ≡ false → parses_path kind rest ≡ true →
      path_positions kind scheme_end None place place rest ≡ hier_part_layout scheme_end place rest
  positions-without-authority-are-hier-part-layout scheme_end place rest u a h =
      grind (arith, nat_tests, path-positions-are-tail-positions)

  hier-part-positions-are-hier-part-layout : (scheme_end : Option ℕ) (place : ℕ) (rest : List ℕ)
      → IsUtf8 rest → parses_hier_part kind rest ≡ true
      → hier_part_positions kind scheme_end place rest ≡ hier_part_layout scheme_end place rest
  unfolding parses_hier_part hier_part_positions
  hier-part-positions-are-hier-part-layout scheme_end place rest u h =
      ⊎_elim (λ a. cond-true _ _ _ a ∙ positions-after-slashes-are-hier-part-layout
      scheme_end place rest u a (sym (cond-true _ _ _ a) ∙ h)) (λ a. cond-false _ _ _ a
      ∙ positions-without-authority-are-hier-part-layout scheme_end place rest u a
      (sym (cond-false _ _ _ a) ∙ h)) (cases_Bool (has_authority rest))

  -- the path runs from the beginning of the text, in how many pieces it is scanned
  relative-positions-are-path-positions : (text : List ℕ)
      → relative_positions segment kind (valid_prefix scheme_set text) (after scheme_set text)
      ≡ path_positions kind None None 0 0 text
  unfolding relative_positions path_positions
  relative-positions-are-path-positions text = grind (
    arith,
    nat_tests,
    after_segment-after-scheme-chars,
    after_path-after-segment,
    valid_prefix_of_superset_goes_on_from_subset,
    scheme_set_lacks_percent,
    path_end,
  )

  parsed-relative-path-is-parsed-path : (text : List ℕ) → parses_relative segment kind text ≡ true
      → parses_path kind text ≡ true
  unfolding parses_relative
  parsed-relative-path-is-parsed-path text h = sym (parses_path-after-segment segment kind w text)
      ∙ (and_parts _ _ (and_parts (not (is_stray segment (after segment text))) _ h).1).1

  schemeless-positions-are-hier-part-layout : (text : List ℕ) → IsUtf8 text
      → parses_schemeless segment kind (valid_prefix scheme_set text) (after scheme_set text) ≡ true
      → schemeless_positions segment kind (valid_prefix scheme_set text) (after scheme_set text)
      ≡ hier_part_layout None 0 text
  unfolding parses_schemeless schemeless_positions
  schemeless-positions-are-hier-part-layout text u h = ⊎_elim (λ a.
      let e = slashes-follow-no-scheme-characters text ∙ a in
      let d : drop 2 (after scheme_set text) ≡ drop 2 text =
      ap (λ n. drop 2 (drop n text)) (slashes-begin-with-no-scheme text a) in
      cond-true _ _ _ e ∙ ap (authority_positions kind None 2) d
      ∙ positions-after-slashes-are-hier-part-layout None 0 text u a
      (sym (ap (parses_authority kind) d) ∙ sym (cond-true _ _ _ e) ∙ h)) (λ a.
      let e = slashes-follow-no-scheme-characters text ∙ a in
      cond-false _ _ _ e ∙ relative-positions-are-path-positions text
      ∙ positions-without-authority-are-hier-part-layout None 0 text u a
      (parsed-relative-path-is-parsed-path text (sym (parses_relative-after-scheme-chars segment
      kind w text) ∙ sym (cond-false _ _ _ e) ∙ h))) (cases_Bool (has_authority text))

  -- where there is no colon after the characters of a scheme, there is no scheme
  no-scheme-without-colon : (text : List ℕ) → IsUtf8 text → starts 58 (after scheme_set text)
      ≡ false
      → parses_schemeless segment kind (valid_prefix scheme_set text) (after scheme_set text) ≡ true
      → has_scheme text ≡ false
  unfolding parses_schemeless
  no-scheme-without-colon text u s h =
      ⊎_elim (λ a. ap (λ r. starts 58 r && not (starts 58 text)) (slashes-are-first-mark text a)
      ∙ and_left _ _ (slashes-begin-with-no-colon text a)) (λ a. false_from_ne_true _
      (λ t. both_ways _ (parses_relative-rejects-scheme segment kind w text u t)
      (sym (parses_relative-after-scheme-chars segment kind w text)
      ∙ sym (cond-false _ _ _ (slashes-follow-no-scheme-characters text ∙ a)) ∙ h)))
      (cases_Bool (has_authority text))

  positions-with-scheme-are-hier-part-layout : (text : List ℕ) → has_scheme text ≡ true →
      positions_of (components text)
      ≡ hier_part_layout (Some (length (before_any (codes ":/?#") text)))
      (1 + length (before_any (codes ":/?#") text)) (drop 1 (from_any (codes ":/?#") text))
  positions-with-scheme-are-hier-part-layout text e = grind (arith, nat_tests)

  positions-without-scheme-are-hier-part-layout : (text : List ℕ) → has_scheme text ≡ false
      → positions_of (components text) ≡ hier_part_layout None 0 text
  positions-without-scheme-are-hier-part-layout text e = grind (arith, nat_tests)

  positions-after-scheme-are-those-of-components : (text : List ℕ) → IsUtf8 text
      → starts 58 (after scheme_set text) ≡ true → (is_ascii_alphabetic (get_or text 0 0)
      && parses_hier_part kind (drop 1 (after scheme_set text))) ≡ true
      → hier_part_positions kind (Some (valid_prefix scheme_set text)) (valid_prefix scheme_set text
      + 1) (drop 1 (after scheme_set text)) ≡ positions_of (components text)
  positions-after-scheme-are-those-of-components text u s h =
      let p = and_parts _ _ h in
      let m = scan_stops_at_first_colon scheme_set scheme_set_lacks_percent
      scheme_set_excludes_delimiters text u s in
      let n : valid_prefix scheme_set text ≡ length (before_any (codes ":/?#") text) = m
      ∙ sym (length-of-text-before-marks (codes ":/?#") text) in
      let back : after scheme_set text ≡ from_any (codes ":/?#") text = ap (λ k. drop k text) m in
      let first : starts 58 text ≡ false =
      false_from_ne_true _ (λ c. both_ways _ (colon_is_no_letter text c) p.0) in
      let has : has_scheme text ≡ true =
      and_from _ _ (sym (ap (starts 58) back) ∙ s) (not_from_false _ first) in
      let rest : List ℕ = drop 1 (after scheme_set text) in
      let u1 = utf8_after_mark 58 (lit< tt) (after scheme_set text) s
      (rw back (utf8_from_marks (codes ":/?#") text (AreAscii-by-test (codes ":/?#") refl) u)) in
      let e : valid_prefix scheme_set text + 1 ≡ 1 + length (before_any (codes ":/?#") text) =
      omega arith in
      hier-part-positions-are-hier-part-layout (Some (valid_prefix scheme_set text))
      (valid_prefix scheme_set text + 1) rest u1 p.1
      ∙ ap (λ k. hier_part_layout (Some k) (valid_prefix scheme_set text + 1) rest) n
      ∙ ap (λ k. hier_part_layout (Some (length (before_any (codes ":/?#") text))) k rest) e
      ∙ ap (λ r. hier_part_layout (Some (length (before_any (codes ":/?#") text)))
      (1 + length (before_any (codes ":/?#") text)) (drop 1 r)) back
      ∙ sym (positions-with-scheme-are-hier-part-layout text has)

  pub parsed_positions-are-those-of-components : (text : List ℕ) → IsUtf8 text
      → parses segment kind text ≡ true
      → parsed_positions segment kind text ≡ positions_of (components text)
  unfolding parses parsed_positions
  parsed_positions-are-those-of-components text u h = ⊎_elim (λ s. cond-true _ _ _ s
      ∙ positions-after-scheme-are-those-of-components text u s (sym (cond-true _ _ _ s) ∙ h)) (λ s.
      let h1 = (and_parts (not kind.needs_scheme) _ (sym (cond-false _ _ _ s) ∙ h)).1 in
      cond-false _ _ _ s ∙ schemeless-positions-are-hier-part-layout text u h1
      ∙ sym (positions-without-scheme-are-hier-part-layout text
      (no-scheme-without-colon text u s h1))) (cases_Bool (starts 58 (after scheme_set text)))
