-- What a batch leaves, text by text.
use Rattle.fluent_uri_c.proofs.Common.{◌≡◌, ◌≢◌, ℕ, zero, suc, ◌+◌, ◌<◌, List, [], ◌∷◌, ◌++◌, length, set, take, drop, refl, sym, ap, subst, ◌∙◌, arith, append_assoc, ⊎_elim, length-append, Option, Some, IsSome, IsSomeAnd, slice_get, is_some, drop-append_seam, take-append_seam, cases_eq, drop-drop, drop-set-lt, Buffers, IsColumn, bit_of, buffers, bytes_of, joined_results, number_of_bool}

-- general fact on slices, for the buffers of a batch for C: what is set at an index is read there
slice_get-set_same : {O : Type 0} → (xs : List O) (i : ℕ) (x : O) → i < length xs
    → slice_get (set xs i x) i ≡ Some x
slice_get-set_same [] i x inside = absurd (omega arith)
slice_get-set_same (y ∷ ys) zero x inside = refl
slice_get-set_same (y ∷ ys) (suc i) x inside = slice_get-set_same ys i x (omega arith)

-- general fact on slices, for the buffers of a batch for C: setting one index leaves the others
slice_get-set_other : {O : Type 0} → (xs : List O) (i j : ℕ) (x : O) → (j ≡ i → ⊥)
    → slice_get (set xs i x) j ≡ slice_get xs j
slice_get-set_other [] i j x apart = refl
slice_get-set_other (y ∷ ys) zero zero x apart = absurd (apart refl)
slice_get-set_other (y ∷ ys) zero (suc j) x apart = refl
slice_get-set_other (y ∷ ys) (suc i) zero x apart = refl
slice_get-set_other (y ∷ ys) (suc i) (suc j) x apart =
    slice_get-set_other ys i j x (λ e. apart (ap suc e))

pub holds-up-to-set-item : {A : Type 0} → (P : ℕ → Option A → Type 0) (all : List A) (n : ℕ)
    (here : A) → n < length all → P n (Some here) → ((i : ℕ) → i < n → P i (slice_get all i))
    → (i : ℕ) → i < n + 1 → P i (slice_get (set all n here) i)
holds-up-to-set-item P all n here inside holds before i below =
    grind (arith, set, slice_get-set_same, slice_get-set_other)

module _ (at : ℕ → Option (List ℕ)) (n position : ℕ) (bytes : List ℕ)
    (here : position ≡ length (joined_results at n)) (made : bytes ≡ bytes_of (at n)) where
  joined_results-of-one-more : joined_results at (n + 1) ≡ joined_results at n ++ bytes_of (at n)
  joined_results-of-one-more = let step : n + 1 ≡ suc n = omega arith in ap (joined_results at) step

  joined_results-length-of-one-more : length (joined_results at (n + 1)) ≡ position + length bytes
  joined_results-length-of-one-more =
      grind (arith, joined_results-of-one-more, length-append, at, bytes_of, made)

  -- the buffer, after one more result
  pub buffer-of-one-more-result : (old out next : List ℕ) → out
      ≡ joined_results at n ++ drop (length (joined_results at n)) old
      → next ≡ take position out ++ (bytes ++ drop (position + length bytes) out)
      → next ≡ joined_results at (n + 1) ++ drop (length (joined_results at (n + 1))) old
  buffer-of-one-more-result old out next before written =
      let J : List ℕ = joined_results at n in
      let R : List ℕ = drop (length J) old in
      let prefix : take position out ≡ J =
      ap (λ k. take k out) here ∙ ap (take (length J)) before ∙ take-append_seam J R in
      let after : drop (position + length bytes) out
      ≡ drop (length (joined_results at (n + 1))) old = ap (λ k. drop (k + length bytes) out) here
      ∙ sym (drop-drop (length bytes) (length J) out)
      ∙ ap (λ t. drop (length bytes) (drop (length J) t)) before
      ∙ ap (drop (length bytes)) (drop-append_seam J R) ∙ drop-drop (length bytes) (length J) old
      ∙ ap (λ k. drop k old)
      (ap (λ k. k + length bytes) (sym here) ∙ sym joined_results-length-of-one-more) in
      written ∙ ap (λ t. t ++ (bytes ++ drop (position + length bytes) out)) prefix
      ∙ ap (λ t. J ++ (t ++ drop (position + length bytes) out)) made
      ∙ ap (λ t. J ++ (bytes_of (at n) ++ t)) after
      ∙ sym (append_assoc J (bytes_of (at n)) (drop (length (joined_results at (n + 1))) old)) ∙ ap
      (λ t. t ++ drop (length (joined_results at (n + 1))) old) (sym joined_results-of-one-more)

  -- where its result ends
  pub end-of-one-more-result : (end : ℕ) → end ≡ position + length bytes → end
      ≡ length (joined_results at (n + 1))
  end-of-one-more-result end ends = ends ∙ sym joined_results-length-of-one-more

module _ {O : Type 0} (value : O → ℕ) (at : ℕ → Option (List ℕ)) where
  -- one more is done
  pub IsColumn-of-one-more-result : (n : ℕ) (old now : Buffers O) (next bits : List ℕ)
      (position : ℕ) (bytes : List ℕ) (offset : O) → IsColumn value at n old now
      → position ≡ length (joined_results at n) → bytes ≡ bytes_of (at n)
      → next ≡ take position now.bytes ++ (bytes ++ drop (position + length bytes) now.bytes)
      → n + 1 < length now.ends → value offset ≡ position + length bytes
      → bit_of bits n ≡ number_of_bool (is_some (at n))
      → ((i : ℕ) → i ≢ n → bit_of bits i ≡ bit_of now.valid i)
      → IsColumn value at (n + 1) old (buffers next (set now.ends (n + 1) offset) bits)
  IsColumn-of-one-more-result n old now next bits position bytes offset is here made written inside
      end bit others =
      record {
        bytes = buffer-of-one-more-result at n position bytes here made old.bytes now.bytes next
            is.bytes written;
        ends = λ i below. holds-up-to-set-item
            (λ k o. IsSomeAnd o (λ end. value end ≡ length (joined_results at k))) now.ends (n + 1)
            offset inside (end-of-one-more-result at n position bytes here made (value offset) end)
            (λ k less. is.ends k (omega arith)) i (omega arith);
        valid = λ i below. ⊎_elim
            (λ e. subst (λ k. bit_of bits k ≡ number_of_bool (is_some (at k))) (sym e) bit)
            (λ ne. others i ne ∙ is.valid i (omega arith)) (cases_eq i n);
        other_ends = drop-set-lt (n + 1 + 1) now.ends (n + 1) offset (omega arith)
            ∙ sym (drop-drop 1 (n + 1) now.ends) ∙ ap (drop 1) is.other_ends
            ∙ drop-drop 1 (n + 1) old.ends;
        other_bits = λ i above. others i (λ e. omega arith) ∙ is.other_bits i (omega arith);
      }

pub equal-to-Some-is-some : {A : Type 0} (o : Option A) (x : A) → Some x ≡ o → IsSome o
equal-to-Some-is-some o x e = sym (ap is_some e)

pub later-items-unchanged : {A : Type 0} → (first all : List A) (n : ℕ) (here : A)
    → drop n all ≡ drop n first → drop (n + 1) (set all n here) ≡ drop (n + 1) first
later-items-unchanged first all n here others = drop-set-lt (n + 1) all n here (omega arith)
    ∙ sym (drop-drop 1 n all) ∙ ap (drop 1) others ∙ drop-drop 1 n first
