use Rattle.uri_ops.proofs.Common.{◌≡◌, ◌∙◌, ◌<◌, ◌≤◌, Bool, true, ℕ, List, length, ap, sym, arith, ⊎_elim, cases_lt, is_unchanged_at}
use Rattle.uri_ops.proofs.Normal.UnchangedBytes.{dot-that-begins-no-segment-is-unchanged, literal-index-is-unchanged}
use Rattle.uri_ops.proofs.normalize.unchanged_octets.is_unchanged_from.Goals as goal
use Rattle.uri_ops.proofs.normalize.unchanged_octets.is_unchanged_from.Goals.{else-bytes-end-eq46, then-bytes-end-eq46+then-is_dot_unchanged}

-- what normalising leaves from one index up to another
record IsUnchangedPart (alone : Bool) (limit : ℕ) (bs : List ℕ) (start end : ℕ) : Type 0 where
  from : start ≤ end
  within : end ≤ length bs
  unchanged : (k : ℕ) → start ≤ k → k < end → is_unchanged_at alone limit bs k ≡ true

pub loop-end-preserved : goal.loop-end-preserved
loop-end-preserved c =
    let alone = c.args.alone in
    let limit = c.args.limit in
    let bs = c.args.bytes.now in
    let i = c.loop-end.i in
    let end : ℕ = c.in-Some.end in
    let run = c.in-Some.ensures.some in
    let more : IsUnchangedPart alone limit bs end c.if-bytes-end-eq46.i =
    elim c.if-bytes-end-eq46.branch [
      | then-bytes-end-eq46+then-is_dot_unchanged w ↦ record {
        from = omega (arith, w.i-is);
        within = omega (arith, w.i-is, run.within);
        unchanged = λ k from to.
            let same : end ≡ k = omega (arith, from, to, w.i-is) in
            ap (is_unchanged_at alone limit bs) (sym same)
            ∙ dot-that-begins-no-segment-is-unchanged alone limit bs end w.if-bytes-end-eq46.true
            (w.is_dot_unchanged.ensures w.if-is_dot_unchanged.true);
      }
      | else-bytes-end-eq46 w ↦ record {
        from = omega (arith, w.i-is, w.unchanged_octets_end-i.ensures.from);
        within = omega (arith, w.i-is, w.unchanged_octets_end-i.ensures.within);
        unchanged = λ k from to.
            w.unchanged_octets_end-i.ensures.unchanged limit k from (omega (arith, to, w.i-is));
      }
    ] in
    record {
      from = omega (arith, c.loop-end.invariant.from, run.from, more.from);
      within = more.within;
      unchanged = λ k from to. ⊎_elim
          (λ (h : k < i). c.loop-end.invariant.unchanged k from h) (λ (h : i ≤ k). ⊎_elim
          (λ (before : k < end). literal-index-is-unchanged alone limit bs k (run.pass k h before))
          (λ (after : end ≤ k). more.unchanged k after to) (cases_lt k end)) (cases_lt k i);
    }

pub returns : goal.returns
returns c =
    λ e k from to. ⊎_elim (λ (h : k < c.loop-end.i). c.loop-end.invariant.unchanged k from h)
    (λ (h : c.loop-end.i ≤ k). literal-index-is-unchanged c.args.alone c.args.limit c.args.bytes.now
    k (c.literal_end.ensures.none c.in_default.is k h to)) (cases_lt k c.loop-end.i)
