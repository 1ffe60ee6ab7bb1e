-- A component, mended from left to right: what a scan passes stays, and the character where it
-- stops becomes octets.
use Rattle.fluent_uri_c.proofs.Common.{common_steps, ◌≡◌, ℕ, ◌+◌, ◌-◌, ◌<◌, ◌≤◌, true, List, ◌++◌, length, drop, map, sym, ap, ◌∙◌, arith, ⊎_elim, encode_utf8, slice_range, IsUtf8, IsCharBoundary, cases_lt, drop-drop, IsUtf8-drop, TableSet, LacksPercent, Octet, print, mended}
use Rattle.std.proofs.lemmas.List.Edits.{between_none}
use Rattle.uri_pct.specs.Prefixes.{valid_prefix}
use Rattle.uri_mend.proofs.Offered.{nothing-is-scanned-after-scan, scanned-prefix-is-unchanged, unscanned-char-is-encoded}

-- mended components for C: the octets of a part of a text
abbrev octets_between : List ℕ → ℕ → ℕ → List ℕ
octets_between text start end = print (map Octet (slice_range text start end))

module _ (set : TableSet) (lacks : LacksPercent set) (octets : set.pct_encoded ≡ true)
    (text : List ℕ) (u : IsUtf8 text) where
  -- what a scan passes stays
  scanned-run-stays : (done end : ℕ) → IsCharBoundary text done
      → end ≡ done + valid_prefix set (drop done text)
      → mended set (drop done text) ≡ slice_range text done end ++ mended set (drop end text)
  scanned-run-stays done end at here =
      grind (arith, set, scanned-prefix-is-unchanged, lacks, octets, IsUtf8-drop, drop-drop)

  -- the character where a scan stops becomes octets
  char-after-run-becomes-octets : (end next c : ℕ) → IsCharBoundary text end → end ≤ next
      → next ≤ length text → valid_prefix set (drop end text) ≡ 0
      → drop end text ≡ encode_utf8 c ++ drop next text
      → mended set (drop end text) ≡ octets_between text end next ++ mended set (drop next text)
  char-after-run-becomes-octets end next c at order inside stop joined =
      grind (arith, common_steps, unscanned-char-is-encoded, set, lacks, octets, IsUtf8-drop)

  -- what is left at a position, by what a scan passes and the character after that, if there is one
  pub mended-rest-by-run-and-char : (done end next : ℕ) → IsCharBoundary text done
      → IsCharBoundary text end → IsCharBoundary text next
      → end ≡ done + valid_prefix set (drop done text) → end ≤ next
      → (end < length text → (c : ℕ) × (drop end text ≡ encode_utf8 c ++ drop next text))
      → (length text ≤ end → next ≡ end) → mended set (drop done text)
      ≡ slice_range text done end ++ (octets_between text end next ++ mended set (drop next text))
  mended-rest-by-run-and-char done end next from at to here order char last =
      scanned-run-stays done end from here ∙ ap (λ t. slice_range text done end ++ t) (⊎_elim
      (λ (more : end < length text).
      let found = char more in
      char-after-run-becomes-octets end next found.0 at order to.0
      (nothing-is-scanned-after-scan set text done end here) found.1)
      (λ (none : length text ≤ end).
      let same = last none in
      sym (ap (λ n. octets_between text end n ++ mended set (drop n text)) same
      ∙ ap (λ bytes. print (map Octet bytes) ++ mended set (drop end text))
      (between_none text end)))
      (cases_lt end (length text)))

pub text-grows-by-run-and-octets : (old mid new run octets rest left whole : List ℕ)
    → mid ≡ old ++ run → new ≡ mid ++ octets → left ≡ run ++ (octets ++ rest)
    → old ++ left ≡ whole → new ++ rest ≡ whole
text-grows-by-run-and-octets old mid new run octets rest left whole first second step before =
    grind (arith, common_steps)
