use Rattle.fluent_uri_c.proofs.Common.{◌≡◌, ◌≤◌, ℕ, ◌<◌, ◌++◌, length, drop, slice_get, joined_results, lines_of, error_number_at, written_at}
use Rattle.fluent_uri_c.proofs.lines.fluent_uri_normalize_lines.Given as goal

-- what is left of the lines, and what is written for those before
abbrev pub invariant-loop-index : goal.invariant-loop-index
invariant-loop-index l =
    let at = written_at l.kind l.options l.lines in
    (l.start ≤ length l.lines) × (drop l.index (lines_of l.lines) ≡ lines_of (drop l.start l.lines))
    × (l.out ≡ joined_results at l.index ++ drop (length (joined_results at l.index)) l.fn.out)
    × (l.at ≡ length (joined_results at l.index)) × (l.at ≤ length l.out)
    × ((i : ℕ) → i < l.index → slice_get l.errors i ≡ error_number_at l.kind l.options l.lines i)
    × (drop l.index l.errors ≡ drop l.index l.fn.errors)
