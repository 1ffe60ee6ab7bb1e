use Rattle.uri_relative.proofs.Common.{◌≡◌, ℕ, List, ◌++◌, ap, arith, drop, length, length-append, refl, sym, ◌∙◌, IsCharBoundary, IsUtf8, drop_at, take_at, IsCharBoundary-from_take, recompose-components, components_of, after_scheme}
use Rattle.uri_relative.proofs.pieces.after_scheme.Goals as goal

-- relativized references: a text may be cut after its scheme
boundary-after-scheme : (scheme rest text : List ℕ) → scheme ++ rest ≡ text → IsUtf8 text
    → IsUtf8 scheme → IsCharBoundary text (length scheme)
boundary-after-scheme scheme rest text whole utf8 scheme_utf8 = IsCharBoundary-from_take text
    (length scheme) utf8 (omega (arith, ap length whole, length-append scheme rest))
    (grind (arith, take_at))

pub range_from-requires : goal.range_from-requires
range_from-requires c = λ _.
    let t = components_of c.args.target.now in
    boundary-after-scheme c.scheme_with_delimiter.result.now (after_scheme t) c.as_str.result.now
    (ap (λ s. s ++ after_scheme t) c.scheme_with_delimiter.ensures
    ∙ recompose-components c.args.target.now.text.now ∙ sym c.as_str.ensures.text)
    c.as_str.utf8 c.scheme_with_delimiter.utf8

pub returns : goal.returns
returns c =
    let t = components_of c.args.target.now in
    let scheme = c.scheme_with_delimiter.result.now in
    c.range_from.ensures.value ∙ ap (drop (length scheme)) (grind (arith, recompose-components))
    ∙ drop_at scheme (after_scheme t) (length scheme) refl
