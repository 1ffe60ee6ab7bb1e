use Rattle.uri_pct.proofs.Common.{◌≡◌, ◌-◌, ◌≤◌, ℕ, List, length, take, drop, arith, take_at, length-take, length-drop, copy_within, All-same, All-drop}
use Rattle.std.proofs.lemmas.Slice.{between_is}
use Rattle.uri_pct.proofs.window.Window.keep_last.Goals as goal

-- the end comes first
moved : (bytes after : List ℕ) (len kept : ℕ) → kept ≤ length (take len bytes) → len ≤ length bytes
    → after ≡ copy_within bytes (len - kept) len 0
    → take kept after ≡ drop (length (take len bytes) - kept) (take len bytes)
moved bytes after len kept fits within put =
    grind (arith, length-take, length-drop, take_at, between_is)

pub invariant_of-self-clause-past_ascii : goal.invariant_of-self-clause-past_ascii
invariant_of-self-clause-past_ascii c =
    let w = c.args.self.now in
    All-same (λ b. 128 ≤ b) _ _
    (moved w.bytes _ w.len c.args.kept c.requires (omega (arith, w.fits))
    c.copy_within.ensures.after) (All-drop (λ b. 128 ≤ b) _ (take w.len w.bytes) w.past_ascii)

pub returns : goal.returns
returns c = grind (arith, moved)
