-- The end of a run of bytes that fail a test is the first byte that passes it.
use Rattle.uri_pct.proofs.Common.{◌≡◌, ℕ, Bool, not, List, arith, position_or_len, not-true, not-false, position_or_len_is, IsLongestRun}

-- sixteen bytes at a time: a run of bytes that fail a test ends where the first byte passes it
pub first_match_ends_run : (test : ℕ → Bool) (bs : List ℕ) (end : ℕ)
    → IsLongestRun (λ b. not (test b)) bs 0 end → position_or_len test bs ≡ end
first_match_ends_run test bs end run = position_or_len_is test bs end 0 run.within
    (λ k before. not-true _ (run.pass k (omega arith) before))
    (λ inside. not-false _ (run.stop inside))
