-- A substring that is cut at its first `=`.
use Rattle.std.proofs.Common.{◌≡◌, ℕ, true, List, [], ◌∷◌, ◌++◌, refl, ap, arith, sym, ◌∙◌}
use Rattle.fluent_uri.specs.Texts.{IsCutAtFirst, lacks}
use Rattle.uri_query.specs.Pairs.{text_before_equals, decode_pair, decode_text, text_after_equals}

-- pairs of a query: what is before the first `=` (61) of two texts joined by one is the
-- first text, the name
pub text_before_equals-append : (before after : List ℕ) → lacks 61 before ≡ true
    → text_before_equals (before ++ 61 ∷ after) ≡ before
unfolding text_before_equals
text_before_equals-append [] after e = refl
text_before_equals-append (b ∷ bs) after e = grind (arith, e, text_before_equals-append bs after)

-- pairs of a query: what is after the first `=` (61) of two texts joined by one is the
-- second text, the value
pub text_after_equals-append : (before after : List ℕ) → lacks 61 before ≡ true
    → text_after_equals (before ++ 61 ∷ after) ≡ after
unfolding text_after_equals
text_after_equals-append [] after e = refl
text_after_equals-append (b ∷ bs) after e = grind (arith, e, text_after_equals-append bs after)

-- pairs of a query: where a piece is cut at its first `=` (61), `text_before_equals`
-- gives what is before it, the name
pub text_before_equals-of-cut : (text before after : List ℕ) → IsCutAtFirst 61 text before after
    → before ≡ text_before_equals text
text_before_equals-of-cut text before after cut = sym (ap text_before_equals cut.0
    ∙ text_before_equals-append before after cut.1)

-- pairs of a query: where a piece is cut at its first `=` (61), `text_after_equals` gives
-- what is after it, the value
pub text_after_equals-of-cut : (text before after : List ℕ) → IsCutAtFirst 61 text before after
    → after ≡ text_after_equals text
text_after_equals-of-cut text before after cut = sym (ap text_after_equals cut.0
    ∙ text_after_equals-append before after cut.1)

-- pairs of a query: a piece without `=` (61) is its own name
pub text_before_equals-of-whole : (text : List ℕ) → lacks 61 text ≡ true → text
    ≡ text_before_equals text
unfolding text_before_equals
text_before_equals-of-whole [] e = refl
text_before_equals-of-whole (b ∷ bs) e = grind (arith, e, text_before_equals-of-whole bs)

-- pairs of a query: a piece without `=` (61) has an empty value
pub text_after_equals-of-whole : (text : List ℕ) → lacks 61 text ≡ true → []
    ≡ text_after_equals text
unfolding text_after_equals
text_after_equals-of-whole [] e = refl
text_after_equals-of-whole (b ∷ bs) e = grind (arith, e, text_after_equals-of-whole bs)

pub ruleset cuts = (
  text_before_equals-of-cut,
  text_after_equals-of-cut,
  text_before_equals-of-whole,
  text_after_equals-of-whole,
)

-- pairs of a query: a piece is decoded to the pair of its decoded halves; a, b: the name
-- and the value, decoded
pub decode_pair-of-halves : (a b name value piece : List ℕ) → a ≡ decode_text name → b
    ≡ decode_text value
    → name ≡ text_before_equals piece → value ≡ text_after_equals piece → (a, b) ≡ decode_pair piece
decode_pair-of-halves a b name value piece p q n v =
    λ i. ((p ∙ ap decode_text n) i, (q ∙ ap decode_text v) i)
