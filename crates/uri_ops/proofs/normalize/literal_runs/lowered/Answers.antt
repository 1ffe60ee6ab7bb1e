use Rattle.uri_ops.proofs.Common.{◌≡◌, ℕ, ◌<◌, Bool, true, eqb, get_or, refl, arith, to_ascii_lowercase, agree_below_at, eqb-true}
use Rattle.uri_ops.specs.declared.normalize.literal_runs.TheConstants.{LOWERED}
use Rattle.uri_ops.proofs.normalize.literal_runs.lowered.Goals as goal

-- normalising, letters lowered by a table: the entry of the byte is the byte in lower case
abbrev is_entry : ℕ → Bool
is_entry b = eqb (get_or LOWERED.now b 0) (to_ascii_lowercase b)

entry-is-lowered : (b : ℕ) → b < 256 → get_or LOWERED.now b 0 ≡ to_ascii_lowercase b
entry-is-lowered b small = eqb-true _ _ (agree_below_at is_entry (λ _. true) 256 b refl small)

pub returns : goal.returns
returns c = rw c.from.ensures (entry-is-lowered c.args.byte (omega arith))
