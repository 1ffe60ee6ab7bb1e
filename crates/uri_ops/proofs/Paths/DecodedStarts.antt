-- The decoded form of a path, as printed, begins as the path does.
use Rattle.uri_ops.proofs.Common.{arith, ◌≡◌, ℕ, true, false, eqb, List, [], ◌∷◌, ◌++◌, refl, sym, ap, ◌∙◌, ◌⊎◌, ⊎_elim, inl, inr, codes, list_any, chars, append-nil, cases_Bool, or_from, eqb-true, TableSet, LacksPercent, IsSubset, unreserved_set, tokens, tokens_from_chars, bytes_decoded_from, Lacks, starts, has_authority, before_any, has_colon_in_first_segment, cut-at-end-of-text-without-marks, is_empty, has_slash, print_decoded, common_steps}
use Rattle.uri_ops.proofs.Paths.PathCharacters.{test-of-delimiters-gives-lacks}
use Rattle.uri_ops.proofs.Meanings.AllowedParts.{is_set_text, set-text-is-utf8, print_decoded-of-nil-is-nil, decoding-keeps-decoded-bytes, decoding-splits-at-slash}
use Rattle.uri_ops.proofs.Paths.DotBytes.{text-decoding-to-no-bytes-is-empty}
use Rattle.uri_ops.proofs.Meanings.Lacking.{lacks-gives-lacks_any, decoding-adds-no-reserved}
use Rattle.uri_ops.proofs.Paths.DecodedPaths.{decoding-adds-no-slash, set-text-splits, decoding-keeps-first-slash}

-- paths: the text is its first segment, a `/` (47) and what follows it
record FirstSegment (text : List ℕ) : Type 0 where
  pub segment : List ℕ
  pub rest : List ℕ
  pub whole : text ≡ segment ++ 47 ∷ rest
  pub lacks : has_slash segment ≡ false

text-lacks-slash-or-has-first-segment : (text : List ℕ) → (has_slash text ≡ false)
    ⊎ FirstSegment text
text-lacks-slash-or-has-first-segment [] = inl refl
text-lacks-slash-or-has-first-segment (c ∷ text) = ⊎_elim (λ e. inr (record {
  segment = [];
  rest = text;
  whole = ap (λ d. d ∷ text) (eqb-true c 47 e);
  lacks = refl;
})) (λ e. ⊎_elim (λ h. inl (or_from _ _ e h)) (λ (w : FirstSegment text). inr (record {
  segment = c ∷ w.segment;
  rest = w.rest;
  whole = ap (λ t. c ∷ t) w.whole;
  lacks = or_from _ _ e w.lacks;
})) (text-lacks-slash-or-has-first-segment text)) (cases_Bool (eqb c 47))

empty-text-decodes-to-no-bytes : bytes_decoded_from (tokens []) ≡ []
unfolding chars tokens_from_chars
empty-text-decodes-to-no-bytes = refl

-- paths: a text without `/` does not begin with it (47)
slashless-text-begins-with-no-slash : (s : List ℕ) → has_slash s ≡ false → starts 47 s ≡ false
slashless-text-begins-with-no-slash s e = grind (arith, common_steps)

-- paths: what is before the first `/` (47) is empty exactly if the text begins with it
empty-segment-before-slash-begins-with-slash : (s y : List ℕ) → has_slash s ≡ false
    → starts 47 (s ++ 47 ∷ y) ≡ is_empty s
empty-segment-before-slash-begins-with-slash s y e = grind (arith, common_steps)

-- paths: after a `/` (47), a second one makes the text begin with `//`, as an authority does
pub second-slash-makes-two-slashes : (z : List ℕ) → has_authority (47 ∷ z) ≡ starts 47 z
second-slash-makes-two-slashes z = grind (arith, common_steps)

-- paths: a path that does not begin with `/` (47) does not begin with `//`
pub no-leading-slash-no-two-slashes : (x : List ℕ) → starts 47 x ≡ false → has_authority x ≡ false
no-leading-slash-no-two-slashes x e = grind (arith, common_steps)

-- paths: a text that begins with `/` (47) is that and a rest y
pub leading-slash-splits-off : (x : List ℕ) → starts 47 x ≡ true → (y : List ℕ) × (x ≡ 47 ∷ y)
leading-slash-splits-off x e = grind (arith, common_steps)

slashless-text-lacks-slash-delimiter : (s : List ℕ) → has_slash s ≡ false → Lacks (codes "/") s
slashless-text-lacks-slash-delimiter s e = test-of-delimiters-gives-lacks (codes "/") s
    (lacks-gives-lacks_any 47 s e)

-- paths: what is before the first `/` (47) is the first segment
text-before-first-slash-is-segment : (s y : List ℕ) → has_slash s ≡ false
    → before_any (codes "/") (s ++ 47 ∷ y) ≡ s
text-before-first-slash-is-segment s y e = (cut-at-end-of-text-without-marks (codes "/") s
    (47 ∷ y) (slashless-text-lacks-slash-delimiter s e) refl).0

text-before-no-slash-is-whole : (s : List ℕ) → has_slash s ≡ false → before_any (codes "/") s ≡ s
text-before-no-slash-is-whole s e = ap (before_any (codes "/")) (sym (append-nil s))
    ∙ (cut-at-end-of-text-without-marks (codes "/") s []
    (slashless-text-lacks-slash-delimiter s e) tt).0

module _ (set : TableSet) (lacks : LacksPercent set) (wide : IsSubset unreserved_set set) where
  -- nothing is printed of the empty text alone
  pub decoding-keeps-emptiness : (s : List ℕ) → is_set_text set s ≡ true
      → is_empty (print_decoded set s) ≡ is_empty s
  decoding-keeps-emptiness [] e = ap is_empty (print_decoded-of-nil-is-nil set)
  decoding-keeps-emptiness (c ∷ s) e =
      grind (
        arith,
        text-decoding-to-no-bytes-is-empty,
        set-text-is-utf8,
        decoding-keeps-decoded-bytes,
        empty-text-decodes-to-no-bytes,
      )

  decoding-adds-no-colon : (s : List ℕ) → is_set_text set s ≡ true
      → list_any (λ c. eqb c 58) s ≡ false → list_any (λ c. eqb c 58) (print_decoded set s) ≡ false
  decoding-adds-no-colon s e f = decoding-adds-no-reserved 58 set lacks wide refl refl s e f

  pub decoding-keeps-leading-slash : (x : List ℕ) → is_set_text set x ≡ true
      → starts 47 (print_decoded set x) ≡ starts 47 x
  decoding-keeps-leading-slash x e =
      grind (
        arith,
        slashless-text-begins-with-no-slash,
        decoding-adds-no-slash,
        set-text-splits,
        decoding-splits-at-slash,
        set-text-is-utf8,
        empty-segment-before-slash-begins-with-slash,
        decoding-keeps-emptiness,
        text-lacks-slash-or-has-first-segment,
      )

  pub decoding-keeps-two-slashes : (x : List ℕ) → is_set_text set x ≡ true
      → has_authority (print_decoded set x) ≡ has_authority x
  decoding-keeps-two-slashes x e = ⊎_elim (λ h.
      let w = leading-slash-splits-off x h in
      let p = set-text-splits set [] w.0 (ap (is_set_text set) (sym w.1) ∙ e) in
      ap (λ t. has_authority (print_decoded set t)) w.1
      ∙ ap has_authority (decoding-keeps-first-slash set w.0) ∙ second-slash-makes-two-slashes
      (print_decoded set w.0) ∙ decoding-keeps-leading-slash w.0 p.1
      ∙ sym (ap has_authority w.1 ∙ second-slash-makes-two-slashes w.0)) (λ h.
      no-leading-slash-no-two-slashes (print_decoded set x) (decoding-keeps-leading-slash x e ∙ h)
      ∙ sym (no-leading-slash-no-two-slashes x h)) (cases_Bool (starts 47 x))

  -- decoding adds no `:` to the first segment
  pub decoding-adds-no-colon-first : (x : List ℕ) → is_set_text set x ≡ true
      → has_colon_in_first_segment x ≡ false
      → has_colon_in_first_segment (print_decoded set x) ≡ false
  decoding-adds-no-colon-first x e c = ⊎_elim
      (λ h. ap (list_any (λ c. eqb c 58)) (text-before-no-slash-is-whole (print_decoded set x)
      (decoding-adds-no-slash set lacks wide x e h)) ∙ decoding-adds-no-colon x e
      (sym (ap (list_any (λ c. eqb c 58)) (text-before-no-slash-is-whole x h)) ∙ c))
      (λ (w : FirstSegment x).
      let p = set-text-splits set w.segment w.rest (ap (is_set_text set) (sym w.whole) ∙ e) in
      ap (λ t. has_colon_in_first_segment (print_decoded set t)) w.whole
      ∙ ap has_colon_in_first_segment
      (decoding-splits-at-slash set w.segment w.rest (set-text-is-utf8 set w.segment p.0)) ∙ ap
      (list_any (λ c. eqb c 58)) (text-before-first-slash-is-segment (print_decoded set w.segment)
      (print_decoded set w.rest) (decoding-adds-no-slash set lacks wide w.segment p.0 w.lacks))
      ∙ decoding-adds-no-colon w.segment p.0 (sym (ap has_colon_in_first_segment w.whole
      ∙ ap (list_any (λ c. eqb c 58)) (text-before-first-slash-is-segment w.segment w.rest w.lacks))
      ∙ c)) (text-lacks-slash-or-has-first-segment x)
