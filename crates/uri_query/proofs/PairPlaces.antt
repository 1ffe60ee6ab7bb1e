-- Where the pairs of a query are, by where its `&` and `=` are.
use Rattle.std.proofs.Common.{◌≡◌, ℕ, ◌+◌, ◌<◌, ◌≤◌, true, false, not, eqb, List, [], ◌∷◌, ◌++◌, length, take, drop, get_or, cond, refl, sym, ap, ◌∙◌, arith, ⊎_elim, append-nil, ltb, Some, None, slice_range}
use Rattle.std.specs.List.{slice_split}
use Rattle.std.proofs.lemmas.Bool.{and_parts, and_right, cases_lt, eqb-true, not-true, not-false}
use Rattle.std.proofs.Math.Seq.{drop-cons}
use Rattle.std.proofs.lemmas.List.{drop_all, length-take-le, take-take}
use Rattle.std.proofs.lemmas.List.Edits.{get_or-between, length-between}
use Rattle.std.proofs.lemmas.List.Elements.{All-from_get_or}
use Rattle.std.proofs.lemmas.List.Folds.{drop_split}
use Rattle.std.proofs.lemmas.List.Sums.{list_all-from_AllPass}
use Rattle.std.proofs.lemmas.Slice.{between_is}
use Rattle.fluent_uri.specs.Prelude.{IsLongestRun, lacks}
use Rattle.uri_query.specs.Pairs.{nonempty_substrings, text_after_equals, text_before_equals, those_with_bytes}
use Rattle.uri_query.specs.Places.{value_of_pair}
use Rattle.uri_query.proofs.Cuts.{text_after_equals-append, text_before_equals-append, text_before_equals-of-whole}
use Rattle.uri_query.proofs.PairsAgain.{text_without_ampersand_is_one_piece}

run-lacks-byte : (byte : ℕ) (text : List ℕ) (start end : ℕ)
    → IsLongestRun (λ b. not (eqb b byte)) text start end
    → lacks byte (slice_range text start end) ≡ true
run-lacks-byte byte text start end run =
    let size = length-between text start end run.within in
    list_all-from_AllPass (λ b. not (eqb b byte)) (slice_range text start end)
    (All-from_get_or (λ b. not (eqb b byte) ≡ true) (slice_range text start end) 0
    (λ k h. ap (λ b. not (eqb b byte))
    (get_or-between text start end k 0 (omega (arith, h, size)))
    ∙ run.pass (start + k) (omega arith) (omega (arith, h, size))))

pub run-passes-other-byte : (byte : ℕ) (text : List ℕ) (start end : ℕ)
    → IsLongestRun (λ b. not (eqb b byte)) text start end → start < length text
    → eqb (get_or text start 0) byte ≡ false → start < end
run-passes-other-byte byte text start end run inside other = grind (arith, not-false)

text-from-place-begins-with-byte : (text : List ℕ) (at : ℕ) → at < length text
    → drop at text ≡ get_or text at 0 ∷ drop (at + 1) text
text-from-place-begins-with-byte text at inside = grind (arith, drop-cons)

-- places of pairs: a text with a `=` (61) does not lack it
text-with-equals-does-not-lack-it : (before after : List ℕ)
    → lacks 61 (before ++ 61 ∷ after) ≡ false
text-with-equals-does-not-lack-it [] after = refl
text-with-equals-does-not-lack-it (c ∷ cs) after =
    and_right _ _ (text-with-equals-does-not-lack-it cs after)

-- places of pairs: what is before the first `&` (38) is the first substring
text-before-ampersand-is-first-piece : (piece rest : List ℕ) → lacks 38 piece ≡ true
    → slice_split (λ b. eqb b 38) (piece ++ 38 ∷ rest)
    ≡ piece ∷ slice_split (λ b. eqb b 38) rest
text-before-ampersand-is-first-piece [] rest e = refl
text-before-ampersand-is-first-piece (c ∷ cs) rest e =
    let p = and_parts (not (eqb c 38)) (lacks 38 cs) e in
    grind (arith, not-true, text-before-ampersand-is-first-piece cs rest p.1)

first-with-bytes-is-kept : (piece : List ℕ) (pieces : List (List ℕ)) → 0 < length piece
    → those_with_bytes (piece ∷ pieces) ≡ piece ∷ those_with_bytes pieces
first-with-bytes-is-kept [] pieces h = absurd (omega (arith, h))
first-with-bytes-is-kept (c ∷ cs) pieces h = refl

module _ (query : List ℕ) where
  -- places of pairs: what is up to the next `&` (38) is the next pair
  pub next-substring-is-first : (start end : ℕ) → start < end
      → IsLongestRun (λ b. not (eqb b 38)) query start end
      → nonempty_substrings (drop start query)
      ≡ slice_range query start end ∷ nonempty_substrings (drop end query)
  next-substring-is-first start end some run =
      let piece : List ℕ = slice_range query start end in
      let lacking = run-lacks-byte 38 query start end run in
      let size : 0 < length piece =
      omega (arith, length-between query start end run.within, some) in
      ap nonempty_substrings (drop_split query start end run.from)
      ∙ ⊎_elim
      (λ (more : end < length query).
      let mark : get_or query end 0 ≡ 38 = eqb-true _ 38 (not-false _ (run.stop more)) in
      let rest : drop end query ≡ 38 ∷ drop (end + 1) query =
      text-from-place-begins-with-byte query end more
      ∙ ap (λ b. b ∷ drop (end + 1) query) mark in
      ap (λ t. nonempty_substrings (piece ++ t)) rest
      ∙ ap those_with_bytes (text-before-ampersand-is-first-piece piece (drop (end + 1) query)
      lacking)
      ∙ first-with-bytes-is-kept piece (slice_split (λ b. eqb b 38) (drop (end + 1) query)) size
      ∙ ap (λ t. piece ∷ nonempty_substrings t) (sym rest))
      (λ (all : length query ≤ end).
      let rest : drop end query ≡ [] = drop_all end query all in
      ap (λ t. nonempty_substrings (piece ++ t)) rest
      ∙ ap nonempty_substrings (append-nil piece)
      ∙ ap those_with_bytes (text_without_ampersand_is_one_piece piece lacking)
      ∙ first-with-bytes-is-kept piece [] size
      ∙ ap (λ t. piece ∷ nonempty_substrings t) (sym rest))
      (cases_lt end (length query))

-- places of pairs: a substring of a query, from start to end, whose first `=` (61), if it has one,
-- is at name_end
module _ (query : List ℕ) (start name_end end : ℕ) (inside : end ≤ length query)
    (run : IsLongestRun (λ b. not (eqb b 61)) (take end query) start name_end) where
  abbrev before_end : List ℕ
  before_end = take end query

  size : length before_end ≡ end
  size = length-take-le end query inside

  pub name-ends-within : name_end ≤ end
  name-ends-within = omega (arith, run.within, size)

  part-of-text-before-end : (i j : ℕ) → j ≤ end
      → slice_range before_end i j ≡ slice_range query i j
  part-of-text-before-end i j order = grind (arith, between_is, take-take)

  name-lacks-equals : lacks 61 (slice_range query start name_end) ≡ true
  name-lacks-equals = ap (lacks 61) (sym (part-of-text-before-end start name_end name-ends-within))
      ∙ run-lacks-byte 61 before_end start name_end run

  substring-is-cut-at-equals : name_end < end
      → slice_range query start end
      ≡ slice_range query start name_end ++ 61 ∷ slice_range query (name_end + 1) end
  substring-is-cut-at-equals more =
      let further : name_end < length before_end = omega (arith, more, size) in
      let mark : get_or before_end name_end 0 ≡ 61 =
      eqb-true _ 61 (not-false _ (run.stop further)) in
      between_is query start end
      ∙ drop_split before_end start name_end run.from
      ∙ ap (λ name. name ++ drop name_end before_end)
      (part-of-text-before-end start name_end name-ends-within)
      ∙ ap (λ rest. slice_range query start name_end ++ rest)
      (text-from-place-begins-with-byte before_end name_end further
      ∙ ap (λ b. b ∷ drop (name_end + 1) before_end) mark
      ∙ ap (λ rest. 61 ∷ rest) (sym (between_is query (name_end + 1) end)))

  substring-without-equals-lacks-it : name_end ≡ end
      → lacks 61 (slice_range query start end) ≡ true
  substring-without-equals-lacks-it e =
      ap (λ n. lacks 61 (slice_range query start n)) (sym e) ∙ name-lacks-equals

  pub name-is-before-equals : slice_range query start name_end
      ≡ text_before_equals (slice_range query start end)
  name-is-before-equals = ⊎_elim
      (λ (more : name_end < end). sym (ap text_before_equals (substring-is-cut-at-equals more)
      ∙ text_before_equals-append _ (slice_range query (name_end + 1) end) name-lacks-equals))
      (λ (last : end ≤ name_end).
      let e : name_end ≡ end = omega (arith, last, name-ends-within) in
      ap (slice_range query start) e
      ∙ text_before_equals-of-whole _ (substring-without-equals-lacks-it e))
      (cases_lt name_end end)

  value-is-after-equals : name_end < end
      → slice_range query (name_end + 1) end ≡ text_after_equals (slice_range query start end)
  value-is-after-equals more = sym (ap text_after_equals (substring-is-cut-at-equals more)
      ∙ text_after_equals-append (slice_range query start name_end) _ name-lacks-equals)

  pub value-is-that-of-pair : cond (ltb name_end end)
      (Some (slice_range query (name_end + 1) end)) None
      ≡ value_of_pair (slice_range query start end)
  value-is-that-of-pair =
      grind (
        arith,
        value-is-after-equals,
        substring-is-cut-at-equals,
        text-with-equals-does-not-lack-it,
        name-ends-within,
        substring-without-equals-lacks-it,
      )
