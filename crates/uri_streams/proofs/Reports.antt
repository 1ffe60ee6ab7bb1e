-- What the error output of a run got, and what its observer saw.
use Rattle.uri_streams.proofs.Common.{common_steps}
use Rattle.std.proofs.Common.{◌≡◌, ◌+◌, ◌++◌, ℕ, Bool, true, false, List, [], ◌∷◌, refl, ap, ◌∙◌, subst, Option, length, arith, true≢false, cond, zero-add}
use Rattle.std.specs.Prelude.{if◌then◌else◌}
use Rattle.std.proofs.lemmas.List.{append-nil}
use Rattle.std.proofs.lemmas.List.Sums.{sum_by-append}
use Rattle.std.proofs.KnownBytes.{Appends-trans, Keeps-trans}
use Rattle.uri_commands.specs.Prefixes.{AppendsPrefix}
use Rattle.uri_commands.proofs.Offered.{AppendsPrefix-after-Appends, AppendsPrefix-of-longer, AppendsPrefix-of-kept, AppendsPrefix-then-Keeps}
use Rattle.uri_streams.specs.Outputs.{ProcessedLine, error_count, is_error, tallies_after, tallies_of}
use Rattle.uri_streams.specs.Runs.{ErrorOutput, Reports, ReportsPrefix, Sees}
use Rattle.uri_streams.specs.declared.run.Tally.{Tally}

pub Reports-nothing : (a : ErrorOutput) → Reports a a []
Reports-nothing a = grind (arith, common_steps, AppendsPrefix-of-kept)

-- error output: a prefix of a second text comes after the whole of the first, or the output failed
prefix-of-both : (a b c : ErrorOutput) (text more : List ℕ) (y : Bool) → b.has_failed ≡ y
    → Reports a b text → ReportsPrefix b c more → AppendsPrefix a.held c.held (text ++ more)
prefix-of-both a b c text more true is first second =
    grind (arith, AppendsPrefix-of-longer, AppendsPrefix-then-Keeps)
prefix-of-both a b c text more false is first second =
    AppendsPrefix-after-Appends a.held b.held c.held text more (first.1 is) second.0

pub ReportsPrefix-after-Reports : (a b c : ErrorOutput) (text more : List ℕ) → Reports a b text
    → ReportsPrefix b c more → ReportsPrefix a c (text ++ more)
ReportsPrefix-after-Reports a b c text more first second = (
  prefix-of-both a b c text more b.has_failed refl first second,
  λ failed. let so = first.0.1 failed in let then' = second.1 so.0 in
      (then'.0, Keeps-trans a.held b.held c.held so.1 then'.1),
)

not-failed-before : (b c : ErrorOutput) (more : List ℕ) (y : Bool) → b.has_failed ≡ y
    → ReportsPrefix b c more → c.has_failed ≡ false → b.has_failed ≡ false
not-failed-before b c more y is second fine = grind (arith, true≢false)

-- error output: a second text is reported after the first
pub Reports-after-Reports : (a b c : ErrorOutput) (text more : List ℕ) → Reports a b text
    → Reports b c more → Reports a c (text ++ more)
Reports-after-Reports a b c text more first second = (
  ReportsPrefix-after-Reports a b c text more first second.0,
  λ fine. Appends-trans a.held b.held c.held text more
      (first.1 (not-failed-before b c more b.has_failed refl second.0 fine)) (second.1 fine),
)

pub Reports-then-nothing : (a b c : ErrorOutput) (text : List ℕ) → Reports a b text
    → Reports b c [] → Reports a c text
Reports-then-nothing a b c text first second =
    subst (Reports a c) (append-nil text) (Reports-after-Reports a b c text [] first second)

pub ReportsPrefix-of-longer : (a b : ErrorOutput) (text more : List ℕ) → ReportsPrefix a b text
    → ReportsPrefix a b (text ++ more)
ReportsPrefix-of-longer a b text more prefix =
    (AppendsPrefix-of-longer a.held b.held text more prefix.0, prefix.1)

pub Sees-nothing : (seen : Option (List Tally)) → Sees seen seen []
Sees-nothing seen = grind (arith, append-nil)

-- observers: they see more after what they saw
pub Sees-after-Sees : (a b c : Option (List Tally)) (tallies more : List Tally) → Sees a b tallies
    → Sees b c more → Sees a c (tallies ++ more)
Sees-after-Sees a b c tallies more first second = grind (arith, common_steps)

-- the tally of so many lines and errors
abbrev tally : ℕ → ℕ → Tally
tally lines errors = record { lines = lines; errors = errors }

-- tallies: those of equal numbers are equal
same-tally : (n m e d : ℕ) → n ≡ m → e ≡ d → tally n e ≡ tally m d
same-tally n m e d p q = ap (λ k. tally k e) p ∙ ap (λ k. tally m k) q

-- tallies: one more line adds one tally, after those of the lines before it
tallies_after-one-more : (before errors : ℕ) (lines : List ProcessedLine) (line : ProcessedLine)
    → tallies_after before errors (lines ++ line ∷ []) ≡ tallies_after before errors lines
    ++ tally (before + length lines + 1)
    (errors + (error_count lines + (if is_error line.result then 1 else 0))) ∷ []
tallies_after-one-more before errors [] line =
    ap (λ (t : Tally). t ∷ []) (same-tally _ _ _ _ (omega arith) (omega arith))
tallies_after-one-more before errors (first ∷ lines) line =
    let one = if is_error first.result then 1 else 0 in
    let more = if is_error line.result then 1 else 0 in
    let counted : error_count (first ∷ lines) ≡ one + error_count lines =
    sum_by-append (λ (l : ProcessedLine). cond (is_error l.result) 1 0) (first ∷ []) lines
    ∙ ap (λ n. n + error_count lines) (zero-add one) in
    let same : (errors + one) + (error_count lines + more)
    ≡ errors + (error_count (first ∷ lines) + more) = omega (arith, counted) in
    ap (λ (ts : List Tally). tally (before + 1) (errors + one) ∷ ts)
    (tallies_after-one-more (before + 1) (errors + one) lines line
    ∙ ap (λ (t : Tally). tallies_after (before + 1) (errors + one) lines ++ t ∷ [])
    (same-tally _ _ _ _ (omega arith) same))

-- tallies: after one more line, one more tally was made: that of all lines
pub tallies_of-one-more : (lines : List ProcessedLine) (line : ProcessedLine) (tally_new : Tally)
    → tally_new.lines ≡ length lines + 1
    → tally_new.errors ≡ error_count lines + (if is_error line.result then 1 else 0)
    → tallies_of (lines ++ line ∷ []) ≡ tallies_of lines ++ tally_new ∷ []
tallies_of-one-more lines line tally_new is errors =
    grind (arith, tallies_after-one-more, same-tally)
