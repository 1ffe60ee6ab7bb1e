-- How many pieces and chunks a text has at most.
use Rattle.uri_pct.proofs.Common.{ℕ, ◌+◌, ◌*◌, ◌≤◌, Bool, true, false, cond, List, [], ◌∷◌, length, ap, arith, chars, IsUtf8, slice_split, digit_value, count_by-le-length, encodes-chars, length-le-encodes, Token, Char, Octet, is_pct_encoded, tokens_from_chars, tokens, Chunk, Text, Byte, prepend_to_chunks, chunks_of_tokens, chunks, nat_tests}
use Rattle.std.proofs.lemmas.List.Splits.{length-slice_split}

-- decoding and splitting, counts: a text has at most one
-- piece more than it has bytes, so their number fits usize
pub split_pieces_are_at_most_length_plus_one : (p : ℕ → Bool) (text : List ℕ)
    → length (slice_split p text) ≤ length text + 1
split_pieces_are_at_most_length_plus_one p text = omega
    (arith, length-slice_split p text, count_by-le-length p text)

-- decoding, counts: a literal text before chunks makes one chunk more at most
prepend_adds_at_most_one_chunk : (text : List ℕ) (ps : List Chunk)
    → length (prepend_to_chunks text ps) ≤ length ps + 1
unfolding prepend_to_chunks
prepend_adds_at_most_one_chunk text [] = omega arith
prepend_adds_at_most_one_chunk text (Text more ∷ ps) = omega arith
prepend_adds_at_most_one_chunk text (Byte value ∷ ps) = omega arith

chunks_are_no_more_than_tokens : (ts : List Token) → length (chunks_of_tokens ts) ≤ length ts
unfolding chunks_of_tokens
chunks_are_no_more_than_tokens [] = omega arith
chunks_are_no_more_than_tokens (Char c ∷ ts) =
    grind (arith, nat_tests, prepend_adds_at_most_one_chunk, chunks_are_no_more_than_tokens ts)
chunks_are_no_more_than_tokens (Octet value ∷ ts) = omega (arith, chunks_are_no_more_than_tokens ts)

tokens_are_no_more_than_chars : (cs : List ℕ) → length (tokens_from_chars cs) ≤ length cs
unfolding tokens_from_chars
tokens_are_no_more_than_chars [] = omega arith
tokens_are_no_more_than_chars (c ∷ []) = omega arith
tokens_are_no_more_than_chars (c ∷ d ∷ []) = omega arith
tokens_are_no_more_than_chars (c ∷ high ∷ low ∷ rest) = elim (is_pct_encoded c high low) as (λ t.
    length (cond t (Octet (16 * digit_value high + digit_value low) ∷ tokens_from_chars rest)
    (Char c ∷ tokens_from_chars (high ∷ low ∷ rest))) ≤ length (c ∷ high ∷ low ∷ rest)) [
      | true ↦ omega (arith, tokens_are_no_more_than_chars rest)
      | false ↦ omega (arith, tokens_are_no_more_than_chars (high ∷ low ∷ rest))
    ]

pub chunks_are_no_more_than_bytes : (text : List ℕ) → IsUtf8 text
    → length (chunks text) ≤ length text
chunks_are_no_more_than_bytes text u = omega (
  arith,
  chunks_are_no_more_than_tokens (tokens text),
  tokens_are_no_more_than_chars (chars text),
  length-le-encodes (chars text),
  ap length (encodes-chars text u),
)
