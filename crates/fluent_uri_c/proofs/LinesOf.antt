-- The lines of an input, as a batch takes them one by one.
use Rattle.fluent_uri_c.proofs.Common.{◌≡◌, ℕ, ◌+◌, ◌-◌, ◌<◌, ◌≤◌, List, [], ◌∷◌, length, take, drop, get_or, refl, sym, ap, ◌∙◌, arith, length-drop, ⊎_elim, add-zero, not, Some, slice_get, slice_range, position_or_len, take-length, cases_lt, drop-drop, get_or-drop, slice_get_read, is_newline, lines_of}
use Rattle.std.proofs.lemmas.List.Splits.{slice_split_first, slice_split_none}
use Rattle.std.proofs.lemmas.List.Sums.{fails_before_first, prefix_len-le-length}

-- general fact on lists, for lines for C: what is left of a list from an item on
drop-at-item : {A : Type 0} (items more : List A) (n : ℕ) (item : A) → drop n items ≡ item ∷ more
    → (n < length items) × (slice_get items n ≡ Some item) × (drop (n + 1) items ≡ more)
drop-at-item items more n item e =
    let l : length (drop n items) ≡ length (item ∷ more) = ap length e in
    let inside : n < length items = omega (arith, l, length-drop n items) in (
      inside,
      slice_get_read items (length items) n item refl inside
          (ap (λ is. get_or is 0 item) (sym e) ∙ get_or-drop n items 0 item
          ∙ ap (λ k. get_or items k item) (add-zero n)),
      sym (drop-drop 1 n items) ∙ ap (drop 1) e,
    )

-- lines for C: the length of the first line of what is left of the input
abbrev pub line_length : List ℕ → ℕ
line_length rest = position_or_len is_newline rest

-- lines for C: a line is no longer than the text that is left
pub line_length-le : (rest : List ℕ) → line_length rest ≤ length rest
line_length-le rest = prefix_len-le-length (λ byte. not (is_newline byte)) rest

-- lines for C: what is left of an input, if it has no newline, is its last line
last_line : (rest : List ℕ) → length rest ≤ line_length rest → lines_of rest ≡ rest ∷ []
last_line rest past = slice_split_none is_newline rest
    (λ k d inside. fails_before_first is_newline rest k d (omega arith))

-- lines for C: a line of an input, from one position to another, and what is after it; so many
-- lines are before it
pub record IsLine (input : List ℕ) (n start end : ℕ) : Type 0 where
  pub inside : end ≤ length input
  pub more : n < length (lines_of input)
  pub here : slice_get (lines_of input) n ≡ Some (slice_range input start end)
  pub next : end < length input → drop (n + 1) (lines_of input) ≡ lines_of (drop (end + 1) input)
  pub last : length input ≤ end → length (lines_of input) ≡ n + 1

IsLine-before-newline : (input : List ℕ) (n start end : ℕ) → start ≤ length input
    → drop n (lines_of input) ≡ lines_of (drop start input)
    → end ≡ start + line_length (drop start input)
    → line_length (drop start input) < length (drop start input) → IsLine input n start end
IsLine-before-newline input n start end inside before is less =
    let rest : List ℕ = drop start input in
    let k : ℕ = line_length rest in
    let left = drop-at-item (lines_of input) (lines_of (drop (k + 1) rest)) n (take k rest)
    (before ∙ slice_split_first is_newline rest 0 less) in
    let long : length rest ≡ length input - start = length-drop start input in
    let same : k ≡ end - start = omega arith in
    let after : start + (k + 1) ≡ end + 1 = omega arith in
    record {
      inside = omega arith;
      more = left.0;
      here = left.1 ∙ ap (λ n. Some (take n rest)) same;
      next = λ below. left.2 ∙ ap lines_of (drop-drop (k + 1) start input)
          ∙ ap (λ n. lines_of (drop n input)) after;
      last = λ past. absurd (omega arith);
    }

-- lines for C: line n of the input, if it is the last and no newline ends it
IsLine-at-end : (input : List ℕ) (n start end : ℕ) → start ≤ length input
    → drop n (lines_of input) ≡ lines_of (drop start input)
    → end ≡ start + line_length (drop start input)
    → length (drop start input) ≤ line_length (drop start input) → IsLine input n start end
IsLine-at-end input n start end inside before is past =
    let rest : List ℕ = drop start input in
    let k : ℕ = line_length rest in
    let left = drop-at-item (lines_of input) [] n rest (before ∙ last_line rest past) in
    let long : length rest ≡ length input - start = length-drop start input in
    let short : k ≤ length rest = line_length-le rest in
    let same : length rest ≡ end - start = omega arith in
    let none : length (drop (n + 1) (lines_of input)) ≡ 0 = ap length left.2 in
    record {
      inside = omega arith;
      more = left.0;
      here = left.1 ∙ ap Some (sym (take-length rest)) ∙ ap (λ n. Some (take n rest)) same;
      next = λ below. absurd (omega arith);
      last = λ past. omega (arith, left.0, none, length-drop (n + 1) (lines_of input));
    }

pub IsLine-from-position : (input : List ℕ) (n start end : ℕ) → start ≤ length input
    → drop n (lines_of input) ≡ lines_of (drop start input)
    → end ≡ start + line_length (drop start input) → IsLine input n start end
IsLine-from-position input n start end inside before is = ⊎_elim
    (IsLine-before-newline input n start end inside before is)
    (IsLine-at-end input n start end inside before is)
    (cases_lt (line_length (drop start input)) (length (drop start input)))
