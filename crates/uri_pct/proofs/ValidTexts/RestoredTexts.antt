-- What was there, where the text after it is cut off again.
use Rattle.uri_pct.proofs.Common.{◌≡◌, ◌≤◌, length, take, sym, ap, arith, subst, string_bytes, String, IsUtf8, length-take, IsCharBoundary-from_take, IsUtf8-string_bytes}
use Rattle.std.specs.String.Boundary.{IsSplitPoint}

-- owned texts: what was there before an append may be cut off again
pub unchanged_text_ends_at_split_point : {Z : Type 0} (old new : String Z)
    → take (length (string_bytes old)) (string_bytes new) ≡ string_bytes old
    → IsSplitPoint (string_bytes new) (length (string_bytes old))
unchanged_text_ends_at_split_point old new e =
    let n = length (string_bytes old) in
    let long : n ≤ length (string_bytes new) =
    omega (arith, length-take n (string_bytes new), ap length e) in
    let b = IsCharBoundary-from_take (string_bytes new) n (IsUtf8-string_bytes new) long
    (subst IsUtf8 (sym e) (IsUtf8-string_bytes old)) in
    (b.0, λ _. b.1)
