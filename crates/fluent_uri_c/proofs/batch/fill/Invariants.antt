use Rattle.fluent_uri_c.proofs.Common.{◌≡◌, ◌≤◌, ◌<◌, ℕ, length, IsSome, IsColumn, buffers, column_of, joined_results, result_in, text_in}
use Rattle.fluent_uri_c.proofs.batch.fill.Given as goal

-- what is written is the results so far
abbrev pub invariant-loop-index : goal.invariant-loop-index
invariant-loop-index g l =
    let value = g.O.Offset.value in
    let texts = column_of value g.O.Offset.limit l.texts l.offsets in
    let at = result_in (g.C.Call.definition l.call).result texts in
    IsColumn value at l.index (buffers l.fn.out l.fn.ends l.fn.valid) (buffers l.out l.ends l.valid)
    × (l.at ≡ length (joined_results at l.index)) × (l.at ≤ length l.out)
    × (l.at < g.O.Offset.limit) × ((i : ℕ) → i < l.index → IsSome (text_in texts i))
