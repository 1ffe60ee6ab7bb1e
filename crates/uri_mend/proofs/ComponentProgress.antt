-- How far a component was mended: what a scan passes, and the octets after it.
use Rattle.uri_mend.proofs.Common.{◌≡◌, ℕ, ◌+◌, ◌-◌, ◌≤◌, true, List, [], ◌++◌, take, drop, sym, ap, ◌∙◌, arith, append_assoc, IsUtf8, IsCharBoundary, take-add, append-nil, drop-drop, IsUtf8-drop, chars-nil, valid_prefix, TableSet, LacksPercent, excludes, before_any, from_any, mended, mended_from_chars}
use Rattle.uri_pct.proofs.Offered.{nothing_is_scanned_after_valid_prefix}
use Rattle.uri_mend.proofs.ComponentSteps.{scanned-component-is-unchanged}

pub run-goes-on : (text : List ℕ) (start end n : ℕ) → start ≤ end
    → take (end - start) (drop start text) ++ take n (drop end text)
    ≡ take (end + n - start) (drop start text)
run-goes-on text start end n le =
    let size : end - start + n ≡ end + n - start = omega arith in
    let place : start + (end - start) ≡ end = omega arith in
    sym (sym (ap (λ k. take k (drop start text)) size) ∙ take-add (end - start) n (drop start text)
    ∙ ap (λ t. take (end - start) (drop start text) ++ take n t)
    (drop-drop (end - start) start text ∙ ap (λ k. drop k text) place))

pub mended-nothing : (set : TableSet) → mended set [] ≡ []
unfolding mended mended_from_chars
mended-nothing set = ap (mended_from_chars set) chars-nil

-- progress: where the component ends, all of it is mended
pub all-is-mended-at-end : (set : TableSet) (out rest whole : List ℕ) → rest ≡ []
    → out ++ mended set rest ≡ whole → out ≡ whole
all-is-mended-at-end set out rest whole none e =
    sym (append-nil out) ∙ ap (λ t. out ++ t) (sym (ap (mended set) none ∙ mended-nothing set)) ∙ e

-- progress: nothing is scanned where a scan stopped
pub nothing-is-scanned-after-scan : (set : TableSet) (text : List ℕ) (end stop : ℕ)
    → stop ≡ end + valid_prefix set (drop end text) → valid_prefix set (drop stop text) ≡ 0
nothing-is-scanned-after-scan set text end stop e =
    let n = valid_prefix set (drop end text) in
    ap (λ k. valid_prefix set (drop k text)) e ∙ ap (valid_prefix set) (sym (drop-drop n end text))
    ∙ nothing_is_scanned_after_valid_prefix set (drop end text)

pub scan-goes-on : (marks : List ℕ) (set : TableSet) → LacksPercent set → set.pct_encoded ≡ true
    → excludes set marks ≡ true → (text out whole : List ℕ) (start end stop : ℕ) → IsUtf8 text
    → IsCharBoundary text end → start ≤ end → stop ≡ end + valid_prefix set (drop end text)
    → (out ++ take (end - start) (drop start text)) ++ mended set (before_any marks (drop end text))
    ≡ whole → ((out ++ take (stop - start) (drop start text))
    ++ mended set (before_any marks (drop stop text)) ≡ whole)
    × (from_any marks (drop end text) ≡ from_any marks (drop stop text))
scan-goes-on marks set lacks octets outside text out whole start end stop u at le e total =
    let rest = drop end text in
    let n = valid_prefix set rest in
    let run = take (end - start) (drop start text) in
    let suffix : drop n rest ≡ drop stop text =
    drop-drop n end text ∙ ap (λ k. drop k text) (sym e) in
    let parts = scanned-component-is-unchanged marks set lacks octets outside rest
    (IsUtf8-drop text end u at) in
    let left : List ℕ = mended set (before_any marks (drop stop text)) in (
      ap (λ k. (out ++ take (k - start) (drop start text)) ++ left) e
          ∙ ap (λ t. (out ++ t) ++ left) (sym (run-goes-on text start end n le))
          ∙ ap (λ t. t ++ left) (sym (append_assoc out run (take n rest)))
          ∙ append_assoc (out ++ run) (take n rest) left ∙ ap (λ t. (out ++ run) ++ t)
          (sym (parts.0 ∙ ap (λ t. take n rest ++ mended set (before_any marks t)) suffix)) ∙ total,
      parts.1 ∙ ap (from_any marks) suffix,
    )

-- progress: after octets that a part of a component is mended to, the rest is left
pub octets-go-on : (out new octets rest left whole : List ℕ) → new ≡ out ++ octets
    → rest ≡ octets ++ left → out ++ rest ≡ whole → new ++ left ≡ whole
octets-go-on out new octets rest left whole written split total = ap (λ t. t ++ left) written
    ∙ append_assoc out octets left ∙ ap (λ t. out ++ t) (sym split) ∙ total
