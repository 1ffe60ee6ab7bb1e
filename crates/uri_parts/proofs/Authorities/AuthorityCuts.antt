-- The parts of an authority, as they are parsed.
use Rattle.uri_parts.proofs.Common.{◌≡◌, ℕ, ◌+◌, not, List, length, drop, drop-drop, before_any, is_one_of, length_before_marks, length-prefix_len}

-- cutting authorities: the position of the first delimiter is the length of what is before it
pub length-of-text-before-marks : (marks text : List ℕ) → length (before_any marks text)
    ≡ length_before_marks marks text
length-of-text-before-marks marks text = length-prefix_len (λ c. not (is_one_of marks c)) text

-- general fact on lists, for authorities: what is passed in two steps is passed in one
pub suffix : (n k : ℕ) (bs : List ℕ) → drop k (drop n bs) ≡ drop (n + k) bs
suffix n k bs = drop-drop k n bs

-- general fact on lists, for authorities: one byte, and then k, are passed
pub drop-after-drop-of-one : (k : ℕ) (bs : List ℕ) → drop k (drop 1 bs) ≡ drop (1 + k) bs
drop-after-drop-of-one k bs = drop-drop k 1 bs
