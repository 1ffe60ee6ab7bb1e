-- Two texts that are read from their ends in step, and their order.
use Rattle.std.proofs.lemmas.Grind.{common_steps}
use Rattle.std.proofs.Common.{◌≡◌, ℕ, ◌+◌, ◌-◌, ◌<◌, ◌≤◌, List, [], ◌∷◌, ◌++◌, length, take, drop, Ordering, Less, Equal, Greater, refl, sym, ap, ◌∙◌, arith}
use Rattle.std.proofs.lemmas.List.{length-append, length-drop, take-append-le}
use Rattle.std.specs.Cmp.Lexicographic.{slice_cmp}
use Rattle.std.specs.Ordering.{ordering_then, nat_cmp}
use Rattle.uri_ops.specs.FromEnd.Blocks.{IsLastBlock}

-- of three orders the first that is not `Equal` decides
pub then_assoc : (a b c : Ordering)
    → ordering_then a (ordering_then b c) ≡ ordering_then (ordering_then a b) c
then_assoc Less b c = refl
then_assoc Equal b c = refl
then_assoc Greater b c = refl

pub then_equal : (a : Ordering) → a ≡ ordering_then a Equal
then_equal a = elim a as (λ o. o ≡ ordering_then o Equal)
    [ Less ↦ refl | Equal ↦ refl | Greater ↦ refl ]

-- the bytes nearest to the start decide, unless they are equal
pub order_of_appended : (xs ys a b : List ℕ) → length xs ≡ length ys
    → slice_cmp nat_cmp (xs ++ a) (ys ++ b)
    ≡ ordering_then (slice_cmp nat_cmp xs ys) (slice_cmp nat_cmp a b)
order_of_appended [] [] a b e = refl
order_of_appended [] (y ∷ ys) a b e = absurd (omega arith)
order_of_appended (x ∷ xs) [] a b e = absurd (omega arith)
order_of_appended (x ∷ xs) (y ∷ ys) a b e =
    grind (arith, then_assoc, order_of_appended xs ys a b (omega arith))

-- the order of a text and a shorter one is that of its prefix and the shorter one, or else it is
-- the greater
pub order_of_longer_text : (xs ys : List ℕ) → length ys < length xs
    → slice_cmp nat_cmp xs ys
    ≡ ordering_then (slice_cmp nat_cmp (take (length ys) xs) ys) Greater
order_of_longer_text [] ys h = absurd (omega arith)
order_of_longer_text (x ∷ xs) [] h = refl
order_of_longer_text (x ∷ xs) (y ∷ ys) h =
    grind (arith, then_assoc, order_of_longer_text xs ys (omega arith))

-- a text of which as many bytes are read as are asked for keeps a prefix that is before them
pub prefix_is_kept : (kept count start : ℕ) (text left before after : List ℕ)
    → text ++ drop count before ≡ left ++ drop start after → (0 < start → left ≡ [])
    → kept + count ≤ length text → start ≤ count → count ≤ 1024 → length before ≡ 1024
    → length after ≡ 1024 → (length text ≡ length left + count) × (take kept left ≡ take kept text)
prefix_is_kept kept count start text left before after e last enough a b c d =
    let size : length text ≡ length left + count =
    grind (arith, length-append, length-drop, ap length e) in (
      size,
      sym (take-append-le kept left (drop start after) (omega arith)) ∙ ap (take kept) (sym e)
          ∙ take-append-le kept text (drop count before) (omega arith),
    )

pub short_block_is_whole_text : (start : ℕ) (text left block : List ℕ)
    → IsLastBlock 1024 text left (drop start block) → length (drop start block) + start ≡ 1024
    → 0 < start → take (1024 - start) (drop start block) ≡ text
short_block_is_whole_text start text left block last size some = grind (arith, common_steps)
