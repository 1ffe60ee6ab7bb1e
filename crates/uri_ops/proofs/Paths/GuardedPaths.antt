-- Paths with `/.` before them, if they would otherwise be parsed as an authority.
use Rattle.uri_ops.proofs.Common.{common_steps, ◌≡◌, ℕ, false, List, ◌++◌, length, take, drop, sym, ap, ◌∙◌, arith, length-append, subst, Option, Some, None, is_some, IsCharBoundary, IsUtf8, IsCharBoundary-from_take, false≢true, take_at, guarded}

pub pushed-path-begins-at-boundary : (old path new : List ℕ) (start : ℕ)
    → start ≡ length old → new ≡ old ++ path → IsUtf8 old → IsUtf8 new → IsCharBoundary new start
pushed-path-begins-at-boundary old path new start at is before after = IsCharBoundary-from_take
    new start after (omega (arith, at, ap length is, length-append old path))
    (subst IsUtf8 (sym (ap (take start) is ∙ take_at old path start (sym at))) before)

pub guard-inserted-before-path : (authority : Option (List ℕ)) (old mid new path : List ℕ)
    (start : ℕ) → is_some authority ≡ false → start ≡ length old → mid ≡ old ++ path
    → new ≡ take start mid ++ guarded None (drop start mid) → new ≡ old ++ guarded authority path
guard-inserted-before-path (Some a) old mid new path start e at is put = absurd (false≢true (sym e))
guard-inserted-before-path None old mid new path start e at is put = grind (arith, common_steps)
