-- What follows an authority, mended component by component.
use Rattle.uri_mend.proofs.Common.{common_steps, ◌≡◌, ℕ, ◌+◌, ◌-◌, ◌<◌, ◌≤◌, true, List, [], ◌∷◌, ◌++◌, length, take, drop, get_or, refl, sym, ap, ◌∙◌, arith, length-append, codes, append-nil, drop_more, TableSet, after_query, before_any, from_any, starts, Kind, cut-at-end-of-text-without-marks, mended, IsProgress, mended_so_far, mended_marked, mended_query, mended_tail}
use Rattle.uri_mend.specs.declared.component.Progress.{Progress}
use Rattle.uri_mend.proofs.ComponentProgress.{run-goes-on}

pub run-goes-on-by-mark : (text : List ℕ) (start end mark : ℕ) → start ≤ end → end < length text
    → get_or text end 0 ≡ mark
    → take (end + 1 - start) (drop start text) ≡ take (end - start) (drop start text) ++ mark ∷ []
run-goes-on-by-mark text start end mark le inside same =
    let one : take 1 (drop end text) ≡ mark ∷ [] =
    ap (take 1) (drop_more text end 0 inside) ∙ ap (λ c. c ∷ []) same in
    sym (run-goes-on text start end 1 le) ∙ ap (λ t. take (end - start) (drop start text) ++ t) one

pub component-is-mended-after-mark : (mark : ℕ) (marks : List ℕ) (set : TableSet)
    (out new text : List ℕ) → starts mark text ≡ true
    → new ≡ (out ++ mark ∷ []) ++ mended set (before_any marks (drop 1 text))
    → new ≡ out ++ mended_marked mark marks set text
component-is-mended-after-mark mark marks set out new text e written = grind (arith, common_steps)

-- tails: no character ends a component without marks
text-without-marks-is-whole : (text : List ℕ) → before_any [] text ≡ text
text-without-marks-is-whole text = ap (before_any []) (sym (append-nil text))
    ∙ (cut-at-end-of-text-without-marks [] text [] (λ k d l. refl) tt).0

pub parts-are-mended-tail : (kind : Kind) (tail end rest a b c d : List ℕ)
    → end ≡ from_any (codes "?#") tail → rest ≡ after_query end
    → b ≡ a ++ mended kind.path (before_any (codes "?#") tail)
    → c ≡ b ++ mended_query kind.query end → d ≡ c ++ mended_marked 35 [] kind.fragment rest
    → d ≡ a ++ mended_tail kind tail
unfolding mended_tail
parts-are-mended-tail kind tail end rest a b c d e r first second third =
    grind (arith, common_steps, starts, text-without-marks-is-whole)

pub length-of-mended-so-far : (text out : List ℕ) (p : Progress) → IsProgress text out p
    → length (mended_so_far text out p) ≡ p.at + (p.end - p.run_start)
length-of-mended-so-far text out p h = grind (arith, common_steps)

pub part-ends-where-mended : (text out old part : List ℕ) (p : Progress) (end : ℕ)
    → IsProgress text out p → end ≡ p.at + (p.end - p.run_start)
    → mended_so_far text out p ≡ old ++ part → end ≡ length old + length part
part-ends-where-mended text out old part p end h e written =
    e ∙ sym (length-of-mended-so-far text out p h) ∙ ap length written ∙ length-append old part
