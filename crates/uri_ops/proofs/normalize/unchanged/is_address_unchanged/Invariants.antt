use Rattle.uri_ops.proofs.Common.{◌≡◌, ℕ, ◌+◌, ◌-◌, ◌≤◌, Bool, true, not, ◌&&◌, ◌||◌, ◌==◌, List, [], ◌∷◌, length, drop, if◌then◌else◌, is_ascii_uppercase}
use Rattle.uri_ops.proofs.normalize.unchanged.is_address_unchanged.Given as goal

-- whether a byte after another may be written otherwise in a normal form
abbrev pub unusual : ℕ → ℕ → Bool
unusual p c = c == 46 || is_ascii_uppercase c || (c == 48 && (p == 58 || p == 91))
    || (c == 58 && p == 91)

-- whether each byte of a text is usual, where the first is after this one
abbrev pub usual : ℕ → List ℕ → Bool
usual p [] = true
usual p (c ∷ text) = not (unusual p c) && usual c text

-- how many `:` a text has
abbrev pub colons_of : List ℕ → ℕ
colons_of [] = 0
colons_of (c ∷ text) = (if c == 58 then 1 else 0) + colons_of text

abbrev pub invariant-loop-i : goal.invariant-loop-i
invariant-loop-i l = record {
  within : l.i ≤ length l.bytes;
  few : l.colons ≤ l.i;
  usual : usual l.previous (drop l.i l.bytes) ≡ usual 91 l.bytes;
  colons : l.colons + colons_of (drop l.i l.bytes) ≡ colons_of l.bytes;
}

abbrev pub decreases-loop-i : goal.decreases-loop-i
decreases-loop-i l = length l.bytes - l.i
