-- The fields of a line, one after the other.
use Rattle.uri_streams.proofs.Common.{◌≡◌, ◌<◌, ◌+◌, ◌-◌, ◌++◌, ◌∷◌, [], ℕ, suc, zero, List, Bool, Some, None, All, true, false, cond, eqb, refl, ap, sym, subst, ◌∙◌, length, take, drop, arith, get_or, length-take-le, length-drop, eqb-true, add-one, get_or-take, Err, Ok, slice_get, slice_range, onto_first, slice_split, drop-cons, drop-drop, drop-length, take-add, take-suc, append-nil, take-append-drop, take_rest, flat_map-append, All-from_get_or, false_from_ne_true, Cut, IsFieldStart, fields_after_delimiters, fields_before_delimiters, field_cut, fields_of, cut_at_field, cut_without_other_fields, NoField}
use Rattle.std.proofs.lemmas.List.Splits.{slice_split_at, slice_split_none}
use Rattle.std.proofs.lemmas.Option.{slice_get_past}
use Rattle.memchr.specs.Find.{NoneBefore, Nowhere, Passes, is_byte}

-- general fact on lists, for fields of `urilines`: what is left after k elements begins with this
-- one
head_at : {X : Type 0} (k n : ℕ) (fs : List X) (x : X) (ys : List X) → n ≡ suc k
    → drop k fs ≡ x ∷ ys
    → (take n fs ≡ take k fs ++ x ∷ []) × (drop n fs ≡ ys) × (slice_get fs k ≡ Some x)
head_at {X} k n fs x ys one e =
    let h = at k fs e in (
      ap (λ i. take i fs) one ∙ h.0,
      ap (λ i. drop i fs) one ∙ h.1,
      h.2,
    )
  where
    at : (k : ℕ) (fs : List X) → drop k fs ≡ x ∷ ys
        → (take (suc k) fs ≡ take k fs ++ x ∷ []) × (drop (suc k) fs ≡ ys)
        × (slice_get fs k ≡ Some x)
    at zero [] e = absurd (cc)
    at zero (f ∷ fs) e =
        let head : f ≡ x = cc in
        let tail : fs ≡ ys = cc in
        (ap (λ a. a ∷ []) head, tail, ap Some head)
    at (suc k) [] e = absurd (cc)
    at (suc k) (f ∷ fs) e =
        let h = at k fs e in (ap (λ l. f ∷ l) h.0, h.1, h.2)

fields_of-at-first-delimiter : (d i : ℕ) (xs : List ℕ) → NoneBefore (Passes (is_byte d) xs) 0
    (length xs) i
    → Passes (is_byte d) xs i → fields_of d xs ≡ take i xs ∷ fields_of d (drop (i + 1) xs)
fields_of-at-first-delimiter d i xs none is =
    let apart : xs ≡ take i xs ++ get_or xs i 0 ∷ drop (i + 1) xs =
    sym (take-append-drop i xs)
    ∙ ap (λ l. take i xs ++ l) (drop-cons xs i 0 none.high
    ∙ ap (λ n. get_or xs i 0 ∷ drop n xs) (sym (add-one i))) in
    ap (slice_split (λ b. eqb b d)) apart
    ∙ slice_split_at (λ b. eqb b d) (take i xs) (get_or xs i 0) (drop (i + 1) xs) lacks is
  where
    lacks : All (λ x. eqb x d ≡ false) (take i xs)
    lacks = All-from_get_or (λ x. eqb x d ≡ false) (take i xs) 0 (λ k below.
        let within : k < i = omega (arith, length-take-le i xs (omega (arith, none.high)), below) in
        subst (λ x. eqb x d ≡ false) (sym (get_or-take i xs k 0 within))
        (false_from_ne_true (eqb (get_or xs k 0) d) (none.before k (omega arith) within)))

fields_of-without-delimiter : (d : ℕ) (xs : List ℕ) → Nowhere (Passes (is_byte d) xs) 0 (length xs)
    → fields_of d xs ≡ xs ∷ []
fields_of-without-delimiter d xs none = slice_split_none (λ b. eqb b d) xs
    (All-from_get_or (λ x. eqb x d ≡ false) xs 0 (λ k below.
    false_from_ne_true (eqb (get_or xs k 0) d) (none k (omega arith) below)))

-- fields: if each field with a delimiter before it gives the line after one,
-- so it is with one byte x before
joined : (d x : ℕ) (xs : List ℕ) (fs : List (List ℕ)) → fields_after_delimiters d fs ≡ d ∷ xs
    → fields_after_delimiters d (onto_first x fs) ≡ d ∷ x ∷ xs
joined d x xs fs e = grind arith

-- fields: if the fields of a line are right, they are so with one byte x before it
after-cons : (d x : ℕ) (xs : List ℕ) → fields_after_delimiters d (fields_of d xs) ≡ d ∷ xs
    → fields_after_delimiters d (fields_of d (x ∷ xs)) ≡ d ∷ x ∷ xs
after-cons d x xs e = at (eqb x d) refl
  where
    at : (b : Bool) → eqb x d ≡ b
        → fields_after_delimiters d
        (cond b ([] ∷ fields_of d xs) (onto_first x (fields_of d xs)))
        ≡ d ∷ x ∷ xs
    at true is = ap (λ l. d ∷ l) (e ∙ ap (λ y. y ∷ xs) (sym (eqb-true x d is)))
    at false is = joined d x xs (fields_of d xs) e

-- fields: the fields of a line, each after a delimiter, are the line after one
after-fields_of : (d : ℕ) (xs : List ℕ) → fields_after_delimiters d (fields_of d xs) ≡ d ∷ xs
after-fields_of d [] = refl
after-fields_of d (x ∷ xs) = after-cons d x xs (after-fields_of d xs)

module _ (d k : ℕ) (line : List ℕ) (start : ℕ) (is : IsFieldStart d k line start) where
  abbrev rest : List ℕ
  rest = slice_range line start (length line)

  rest_is : rest ≡ drop start line
  rest_is = take_rest line start

  from_it : fields_of d rest ≡ drop k (fields_of d line)
  from_it = ap (fields_of d) rest_is ∙ is.from_it

  long : length rest + start ≡ length line
  long = omega (arith, ap length rest_is, length-drop start line, is.within)

  abbrev fields : List (List ℕ)
  fields = fields_of d line

  module _ (i : ℕ) (none : NoneBefore (Passes (is_byte d) rest) 0 (length rest) i)
      (found : Passes (is_byte d) rest i) where
    here : (take (k + 1) fields ≡ take k fields ++ take i rest ∷ [])
        × (drop (k + 1) fields ≡ fields_of d (drop (i + 1) rest))
        × (slice_get fields k ≡ Some (take i rest))
    here = head_at k (k + 1) fields (take i rest) (fields_of d (drop (i + 1) rest)) (add-one k)
        (sym from_it ∙ fields_of-at-first-delimiter d i rest none found)

    is_delimiter : get_or rest i 0 ≡ d
    is_delimiter = eqb-true (get_or rest i 0) d found

    dropped : (n : ℕ) → drop (start + n) line ≡ drop n rest
    dropped n = sym (drop-drop n start line) ∙ ap (drop n) (sym rest_is)

    pub IsFieldStart-more : IsFieldStart d (k + 1) line (start + (i + 1))
    IsFieldStart-more = record {
      within = omega (arith, none.high, long);
      before_it =
          take-add start (i + 1) line
          ∙ ap (λ l. take start line ++ take (i + 1) l) (sym rest_is)
          ∙ ap (λ l. take start line ++ l) (ap (λ n. take n rest) (add-one i)
          ∙ take-suc rest i 0 none.high ∙ ap (λ b. take i rest ++ b ∷ []) is_delimiter)
          ∙ ap (λ l. l ++ (take i rest ++ d ∷ [])) is.before_it
          ∙ sym (ap (fields_before_delimiters d) here.0
          ∙ flat_map-append (λ field. field ++ d ∷ []) (take k fields) (take i rest ∷ [])
          ∙ ap (λ l. fields_before_delimiters d (take k fields) ++ l)
          (append-nil (take i rest ++ d ∷ [])));
      from_it = ap (fields_of d) (dropped (i + 1)) ∙ sym here.1;
    }

    pub field_found : slice_get fields k ≡ Some (slice_range line start (start + i))
    field_found =
        let same : start + i - start ≡ i = omega arith in
        here.2 ∙ ap (λ l. Some (take i l)) rest_is
        ∙ sym (ap (λ n. Some (take n (drop start line))) same)

    pub after_found : drop (start + i) line ≡ fields_after_delimiters d (drop (k + 1) fields)
    after_found = dropped i ∙ drop-cons rest i 0 none.high
        ∙ ap (λ b. b ∷ drop (suc i) rest) is_delimiter ∙ ap (λ n. d ∷ drop n rest) (sym (add-one i))
        ∙ sym (after-fields_of d (drop (i + 1) rest)) ∙ ap (fields_after_delimiters d) (sym here.1)

  module _ (none : Nowhere (Passes (is_byte d) rest) 0 (length rest)) where
    last : (take (k + 1) fields ≡ take k fields ++ rest ∷ []) × (drop (k + 1) fields ≡ [])
        × (slice_get fields k ≡ Some rest)
    last = head_at k (k + 1) fields rest [] (add-one k) (sym from_it
        ∙ fields_of-without-delimiter d rest none)

    pub no_field : (n : ℕ) → k < n → slice_get fields n ≡ None
    no_field n more = slice_get_past fields n (omega (
      arith,
      length-drop (k + 1) fields,
      ap length last.1,
      more,
    ))

    pub field_last : slice_get fields k ≡ Some (slice_range line start (length line))
    field_last = last.2

    pub after_last : drop (length line) line ≡ fields_after_delimiters d (drop (k + 1) fields)
    after_last = drop-length line ∙ ap (fields_after_delimiters d) (sym last.1)

-- fields: the cut of a line around a field that was found is the one defined; k: which field
pub field_cut-found : (d k start end : ℕ) (line before text after : List ℕ)
    → IsFieldStart d k line start
    → slice_get (fields_of d line) k ≡ Some (slice_range line start end)
    → drop end line ≡ fields_after_delimiters d (drop (k + 1) (fields_of d line))
    → before ≡ take start line → text ≡ slice_range line start end → after ≡ drop end line
    → (let cut : Cut = record { before = before; text = Ok text; after = after } in
    cut ≡ field_cut d k line)
unfolding field_cut
field_cut-found d k start end line before text after is found rest before_is text_is after_is =
    grind arith

-- fields: a line without field k gives the error that says so; d: the delimiter
pub field_cut-none : (d k : ℕ) (line : List ℕ) → slice_get (fields_of d line) k ≡ None
    → cut_without_other_fields (Err (NoField k)) ≡ field_cut d k line
unfolding field_cut
field_cut-none d k line none = sym (ap (cut_at_field d k (fields_of d line)) none)
