-- Where a text is cut at a byte, and the pieces between its places.
use Rattle.uri_pct.proofs.Common.{◌≡◌, ℕ, suc, ◌<◌, ◌≢◌, Bool, true, eqb, not, List, [], ◌∷◌, ◌++◌, length, get_or, take, drop, refl, sym, ap, ◌∙◌, arith, ⊎_elim, Option, Some, None, MatchOption, Bor, take-append-drop, list_all, slice_split, onto_first, eq-eqb, eqb-true, false≢true, and_parts, and_from, not_from_false, not-true, ne_eqb, cases_Bool, cond-true, cond-false, lacks, is_absolute, IsCutAtFirst, IsCutAtLast, nat_tests}
use Rattle.std.specs.Str.Pattern.{RFindsChar, SplitsAroundMatch}
use Rattle.std.proofs.lemmas.Str.Pattern.{IsSplitOnceResult, split_parts, NoCharPasses-char, drop_at_char}

-- general fact on lists of bytes, for splitting
-- at a delimiter: a text lacks a byte that is at none of its indices
byte_at_no_index_is_lacked : (d : ℕ) (bs : List ℕ) → ((i : ℕ) → i < length bs → get_or bs i 0 ≢ d)
    → lacks d bs ≡ true
byte_at_no_index_is_lacked d [] h = refl
byte_at_no_index_is_lacked d (b ∷ bs) h =
    and_from _ _ (not_from_false _ (ne_eqb b d (h 0 (omega arith))))
    (byte_at_no_index_is_lacked d bs (λ i l. h (suc i) (omega arith)))

pub split_once_cuts_at_first : (d : ℕ) (bs : List ℕ) (r : Option (Bor (List ℕ) × Bor (List ℕ)))
    → IsSplitOnceResult d bs r → d < 128
    → MatchOption r (lacks d bs ≡ true) (λ x. IsCutAtFirst d bs x.0.now x.1.now)
split_once_cuts_at_first d bs None h small = byte_at_no_index_is_lacked d bs
    (split_parts d bs None h small)
split_once_cuts_at_first d bs (Some x) h small = let p = split_parts d bs (Some x) h small in
    (p.0, byte_at_no_index_is_lacked d x.0.now p.1)

-- splitting at an ASCII delimiter: what `rsplit_once` returns:
-- the text is cut at the last such byte, or lacks it
pub rsplit_once_cuts_at_last : (d : ℕ) (bs : List ℕ) (r : Option (Bor (List ℕ) × Bor (List ℕ)))
    → MatchOption r (RFindsChar d bs None) (λ x. SplitsAroundMatch (RFindsChar d) bs x.0.now
    x.1.now) → d < 128 → MatchOption r (lacks d bs ≡ true) (λ x. IsCutAtLast d bs x.0.now x.1.now)
rsplit_once_cuts_at_last d bs None h small = byte_at_no_index_is_lacked d bs
    (λ i l. NoCharPasses-char d bs i h small l)
rsplit_once_cuts_at_last d bs (Some x) h small =
    let found = h.2 in (
      sym (take-append-drop h.0 bs)
          ∙ ap (λ y. take h.0 bs ++ y) (drop_at_char d bs h.0 h.1 found.1 small)
          ∙ ap (λ y. y ++ d ∷ drop h.1 bs) (sym h.3) ∙ ap (λ y. x.0.now ++ d ∷ y) (sym h.4),
      ap (lacks d) h.4 ∙ byte_at_no_index_is_lacked d
          (drop h.1 bs) (λ i l. NoCharPasses-char d (drop h.1 bs) i found.0 small l),
    )

split_has_first_piece : (p : ℕ → Bool) (xs : List ℕ)
    → (piece : List ℕ) × (pieces : List (List ℕ)) × (slice_split p xs ≡ piece ∷ pieces)
split_has_first_piece p [] = ([], [], refl)
split_has_first_piece p (x ∷ xs) =
    let f = split_has_first_piece p xs in
    ⊎_elim (λ e. ([], slice_split p xs, cond-true _ _ _ e))
    (λ e. (x ∷ f.0, f.1, cond-false _ _ _ e ∙ ap (onto_first x) f.2)) (cases_Bool (p x))

onto_first_commutes_with_append : (x : ℕ) (piece : List ℕ) (pieces more all : List (List ℕ))
    → all ≡ piece ∷ pieces → onto_first x (all ++ more) ≡ onto_first x all ++ more
onto_first_commutes_with_append x piece pieces more all e = rw e refl

-- splitting at a delimiter d: the pieces of a text with one are those before it and those after it
delimiter_separates_split_pieces : (d : ℕ) (before after : List ℕ) → slice_split (λ b. eqb b d)
    (before ++ d ∷ after) ≡ slice_split (λ b. eqb b d) before ++ slice_split (λ b. eqb b d) after
delimiter_separates_split_pieces d [] after = grind (arith, eq-eqb)
delimiter_separates_split_pieces d (x ∷ xs) after =
    let p = λ (b : ℕ). eqb b d in
    let f = split_has_first_piece p xs in
    ⊎_elim (λ e. rw e (ap (λ ps. [] ∷ ps) (delimiter_separates_split_pieces d xs after)))
    (λ e. rw e (ap (onto_first x) (delimiter_separates_split_pieces d xs after)
    ∙ onto_first_commutes_with_append x f.0 f.1 (slice_split p after) (slice_split p xs) f.2))
    (cases_Bool (eqb x d))

pub text_without_delimiter_is_one_piece : (d : ℕ) (text : List ℕ) → lacks d text ≡ true
    → slice_split (λ b. eqb b d) text ≡ text ∷ []
text_without_delimiter_is_one_piece d [] e = refl
text_without_delimiter_is_one_piece d (x ∷ xs) e =
    let p = and_parts (not (eqb x d)) _ e in
    cond-false _ _ _ (not-true _ p.0)
    ∙ ap (onto_first x) (text_without_delimiter_is_one_piece d xs p.1)

pub split_piece_before_first_delimiter_is_first : (d : ℕ) (text piece rest : List ℕ)
    → IsCutAtFirst d text piece rest
    → slice_split (λ b. eqb b d) text ≡ piece ∷ slice_split (λ b. eqb b d) rest
split_piece_before_first_delimiter_is_first d text piece rest cut =
    grind (arith, nat_tests, delimiter_separates_split_pieces, text_without_delimiter_is_one_piece)

pub split_piece_after_last_delimiter_is_last : (d : ℕ) (text rest piece : List ℕ)
    → IsCutAtLast d text rest piece
    → slice_split (λ b. eqb b d) text ≡ slice_split (λ b. eqb b d) rest ++ piece ∷ []
split_piece_after_last_delimiter_is_last d text rest piece cut =
    grind (arith, nat_tests, delimiter_separates_split_pieces, text_without_delimiter_is_one_piece)

-- splitting at a delimiter d: no piece has the delimiter
pub substrings_lack_delimiter : (d : ℕ) (text : List ℕ)
    → list_all (lacks d) (slice_split (λ b. eqb b d) text) ≡ true
substrings_lack_delimiter d [] = refl
substrings_lack_delimiter d (x ∷ xs) =
    grind (arith, substrings_lack_delimiter d xs, split_has_first_piece, nat_tests, cases_Bool)

-- splitting at a delimiter: an absolute path, whose segments are split, is `/` (47) and a rest
pub absolute_path_begins_with_slash : (text : List ℕ) → is_absolute text ≡ true → text
    ≡ 47 ∷ drop 1 text
absolute_path_begins_with_slash [] e = absurd (false≢true e)
absolute_path_begins_with_slash (b ∷ rest) e = ap (λ x. x ∷ rest) (eqb-true b 47 e)
