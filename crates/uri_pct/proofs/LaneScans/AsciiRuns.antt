-- A run of ASCII characters that a set allows is scanned, and after it the text has a character's
-- boundary.
use Rattle.uri_pct.proofs.Common.{◌≡◌, ℕ, zero, suc, ◌+◌, ◌-◌, ◌<◌, ◌≤◌, true, List, length, get_or, drop, arith, subst, IsUtf8, IsCharBoundary, IsCharBoundary-after_ascii, TableSet, LacksPercent, valid_prefix, IsLongestRun}
use Rattle.uri_pct.proofs.ValidTexts.PrefixSteps.{valid_prefix_passes_ascii_char_of_set}

module _ (set : TableSet) (lacks : LacksPercent set)
    (ascii : (b : ℕ) → set.ascii b ≡ true → b < 128) (bs : List ℕ) (u : IsUtf8 bs) (start : ℕ)
    (here : IsCharBoundary bs start) where
  abbrev IsScannedTo : ℕ → Type 0
  IsScannedTo i =
      (i + valid_prefix set (drop i bs) ≡ start + valid_prefix set (drop start bs))
      × IsCharBoundary bs i

  allowed_ascii_is_scanned : (n : ℕ) → start + n ≤ length bs → ((k : ℕ)
      → start ≤ k → k < start + n → set.ascii (get_or bs k 0) ≡ true) → IsScannedTo (start + n)
  allowed_ascii_is_scanned zero room pass = let e : start ≡ start + zero = omega arith in
      subst IsScannedTo e (omega arith, here)
  allowed_ascii_is_scanned (suc n) room pass =
      let before = allowed_ascii_is_scanned n (omega arith)
      (λ k from to. pass k from (omega arith)) in
      let given = pass (start + n) (omega arith) (omega arith) in
      let below = ascii (get_or bs (start + n) 0) given in
      let step = valid_prefix_passes_ascii_char_of_set set lacks bs (start + n)
      (omega arith) below given in
      let next : start + n + 1 ≡ start + suc n = omega arith in
      subst IsScannedTo next (
        omega (arith, before.0, step),
        IsCharBoundary-after_ascii bs (start + n) u (omega arith) below,
      )

  pub ascii_run_is_scanned : (end : ℕ) → IsLongestRun set.ascii bs start end
      → (end + valid_prefix set (drop end bs) ≡ start + valid_prefix set (drop start bs))
      × IsCharBoundary bs end
  ascii_run_is_scanned end run =
      let f = run.from in
      let w = run.within in
      let e : start + (end - start) ≡ end = omega arith in
      subst IsScannedTo e (allowed_ascii_is_scanned (end - start) (omega arith)
      (λ k from to. run.pass k from (omega arith)))
