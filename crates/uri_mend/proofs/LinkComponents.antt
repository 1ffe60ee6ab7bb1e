-- The components of a text that is no reference, perhaps: its scheme is one, and without a scheme
-- and an authority its first segment has no `:`.
use Rattle.uri_mend.proofs.Common.{arith, ◌≡◌, ℕ, true, false, List, [], ◌∷◌, ◌++◌, refl, sym, ap, subst, ◌∙◌, ⊎_elim, lit<, codes, IfSome, IfNone, IsUtf8, encode_utf8_all, cases_Bool, cond-true, cond-false, IsUtf8-append, encode_ascii, components, starts, before_any, has_scheme, is_scheme, has_colon_in_first_segment, from_any-at-mark, before_any-at-mark, has_false_scheme, with_dot_segment, link_components}
use Rattle.uri_parts.proofs.Offered.{colon_in_first_segment-is-at-start}

pub false-scheme-gets-dot-segment : (text : List ℕ) → has_false_scheme text ≡ true
    → with_dot_segment text ≡ codes "./" ++ text
unfolding with_dot_segment
false-scheme-gets-dot-segment text e = cond-true _ _ _ e

-- links: another text is unchanged
pub no-false-scheme-gets-nothing : (text : List ℕ) → has_false_scheme text ≡ false
    → with_dot_segment text ≡ text
unfolding with_dot_segment
no-false-scheme-gets-nothing text e = cond-false _ _ _ e

-- links: `./` is UTF-8
dot-segment-is-utf8 : IsUtf8 (codes "./")
dot-segment-is-utf8 =
    let bytes : encode_utf8_all (46 ∷ 47 ∷ []) ≡ 46 ∷ 47 ∷ [] =
    rw (encode_ascii 46 (lit< tt), encode_ascii 47 (lit< tt)) refl in
    (46 ∷ 47 ∷ [], (refl, bytes))

-- links: with `./`, perhaps, a text in UTF-8 is so
pub with_dot_segment-is-utf8 : (text : List ℕ) → IsUtf8 text → IsUtf8 (with_dot_segment text)
with_dot_segment-is-utf8 text u = ⊎_elim
    (λ e. subst IsUtf8 (sym (false-scheme-gets-dot-segment text e))
    (IsUtf8-append (codes "./") text dot-segment-is-utf8 u))
    (λ e. subst IsUtf8 (sym (no-false-scheme-gets-nothing text e)) u)
    (cases_Bool (has_false_scheme text))

scheme-is-one-if-not-false : (text : List ℕ) → has_false_scheme text ≡ false
    → has_scheme text ≡ true → is_scheme (before_any (codes ":/?#") text) ≡ true
unfolding has_false_scheme
scheme-is-one-if-not-false text e h = grind (arith, starts)

leading-colon-ends-false-scheme : (text : List ℕ) → has_false_scheme (58 ∷ text) ≡ true
unfolding has_false_scheme
leading-colon-ends-false-scheme text = grind (arith, starts, from_any-at-mark, before_any-at-mark)

-- links: a text without a false scheme does not begin with `:`
no-false-scheme-means-no-leading-colon : (text : List ℕ) → has_false_scheme text ≡ false
    → starts 58 text ≡ false
no-false-scheme-means-no-leading-colon text e = grind (arith, leading-colon-ends-false-scheme)

pub scheme-of-link-is-scheme : (text : List ℕ)
    → IfSome (link_components text).scheme (λ s. is_scheme s ≡ true)
unfolding link_components
scheme-of-link-is-scheme text =
    grind (
      arith,
      false-scheme-gets-dot-segment,
      no-false-scheme-gets-nothing,
      scheme-is-one-if-not-false,
    )

no-colon-in-schemeless-path : (text : List ℕ) → starts 58 text ≡ false
    → IfNone (components text).scheme (IfNone (components text).authority
    (has_colon_in_first_segment (components text).path ≡ false))
no-colon-in-schemeless-path text first = grind (arith, colon_in_first_segment-is-at-start)

pub no-colon-in-schemeless-link : (text : List ℕ)
    → IfNone (link_components text).scheme (IfNone (link_components text).authority
    (has_colon_in_first_segment (link_components text).path ≡ false))
unfolding link_components
no-colon-in-schemeless-link text = no-colon-in-schemeless-path (with_dot_segment text) (⊎_elim
    (λ e. ap (starts 58) (false-scheme-gets-dot-segment text e))
    (λ e. ap (starts 58) (no-false-scheme-gets-nothing text e)
    ∙ no-false-scheme-means-no-leading-colon text e)
    (cases_Bool (has_false_scheme text)))

pub link-components-without-false-scheme : (text : List ℕ) → has_false_scheme text ≡ false
    → link_components text ≡ components text
unfolding link_components
link-components-without-false-scheme text e = ap components (no-false-scheme-gets-nothing text e)
