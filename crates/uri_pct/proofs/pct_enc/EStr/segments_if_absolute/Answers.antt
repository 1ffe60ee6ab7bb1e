use Rattle.uri_pct.proofs.Common.{◌≡◌, ◌<◌, ◌∷◌, [], length, get_or, drop, ap, arith, List, ℕ, not-false, IsCharBoundary-after_ascii}
use Rattle.uri_pct.proofs.ValidTexts.Delimiters.{absolute_path_begins_with_slash}
use Rattle.uri_pct.proofs.ValidTexts.TokenCuts.{reserved_is_never_in_octet, slash_is_reserved, valid_after_mark}
use Rattle.uri_pct.proofs.pct_enc.EStr.segments_if_absolute.Goals as goal

pub range_from-requires : goal.range_from-requires
range_from-requires g c =
    let text = c.as_str.result.now in
    let begins : text ≡ 47 ∷ drop 1 text =
    grind (arith, absolute_path_begins_with_slash, not-false) in
    let there : get_or text 0 0 ≡ 47 = ap (λ (t : List ℕ). get_or t 0 0) begins in
    let some : 0 < length text = omega (arith, ap length begins) in
    λ _. IsCharBoundary-after_ascii text 0 c.as_str.utf8 some (omega arith)

pub new_or_panic-rest-requires : goal.new_or_panic-rest-requires
new_or_panic-rest-requires g c =
    let text = c.as_str.result.now in
    let begins : text ≡ 47 ∷ drop 1 text =
    grind (arith, absolute_path_begins_with_slash, not-false) in
    rw c.range_from.ensures.value (valid_after_mark g.E.Encoder.set text [] (drop 1 text) 47
    c.as_str.ensures.valid begins (reserved_is_never_in_octet 47 slash_is_reserved) c.as_str.utf8)

pub split-requires : goal.split-requires
split-requires g c = slash_is_reserved
