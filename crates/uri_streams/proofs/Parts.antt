-- What is kept of parts of a line that are read one after the other.
use Rattle.uri_streams.proofs.Common.{common_steps, ◌≡◌, ◌<◌, ◌≤◌, ◌+◌, ◌-◌, ℕ, Bool, true, false, List, ◌++◌, Option, Some, None, IfSome, cond, drop, length, take, min, ap, arith, refl, subst, sym, ◌∙◌, take-take, take_all, length-take-le, ltb-true, ltb-false, ◌≢◌, All, eqb, eq-eqb, get_or-take, nat_lt, slice_index, OnErr, OnOk, Result, ends_with_byte, take_through, DropsConsumable, DropsThrough, Consumes, IsAtEnd, Keeps, prepend_known, take-append-drop, take-append-le, length-take, append-nil, All-from_get_or, take-append-add, ends_with_return, IsBufferedLine, ReadsFirstLine}
use Rattle.std.proofs.Transfers.{StopsAt-take}

-- general fact on lists, for lines: as much of a prefix is taken as there is room for
pub take-min : (kept count room : ℕ) (xs : List ℕ) → count ≤ length xs → kept ≡ min count room
    → take kept xs ≡ take room (take count xs)
take-min kept count room xs within e = at (nat_lt count room) refl
  where
    at : (b : Bool) → nat_lt count room ≡ b → take kept xs ≡ take room (take count xs)
    at true is =
        let shorter : count < room = ltb-true count room is in
        let all : kept ≡ count = omega arith in
        ap (λ n. take n xs) all
        ∙ sym (take_all room (take count xs) (omega (arith, length-take-le count xs within)))
    at false is =
        let longer : room ≤ count = ltb-false count room is in
        let some : kept ≡ room = omega arith in
        ap (λ n. take n xs) some ∙ sym (take-take room count xs longer)

-- lines: after one part more, as much is kept of all as there is room for
pub take-of-appended-part : (limit : ℕ) (done part old new : List ℕ) → old ≡ take limit done
    → new ≡ old ++ take (limit - length old) part → new ≡ take limit (done ++ part)
take-of-appended-part limit done part old new was is = at (nat_lt limit (length done)) refl
  where
    long : length old ≡ min limit (length done)
    long = ap length was ∙ length-take limit done

    at : (b : Bool) → nat_lt limit (length done) ≡ b → new ≡ take limit (done ++ part)
    at true is_over =
        let over : limit < length done = ltb-true limit (length done) is_over in
        let none : limit - length old ≡ 0 = omega (arith, long) in
        is ∙ ap (λ n. old ++ take n part) none ∙ append-nil old ∙ was
        ∙ sym (take-append-le limit done part (omega arith))
    at false is_within =
        let within : length done ≤ limit = ltb-false limit (length done) is_within in
        let whole : old ≡ done = was ∙ take_all limit done within in
        let room : limit ≡ length done + (limit - length old) = omega (arith, ap length whole) in
        is ∙ ap (λ l. l ++ take (limit - length old) part) whole
        ∙ sym (take-append-add done part (limit - length old))
        ∙ ap (λ n. take n (done ++ part)) (sym room)

-- lines: a line that is read part by part is the first line that is left; a, c: what is left before
-- and after, end: the byte that ends it
pub ReadsFirstLine-of-parts : (end limit : ℕ) (a c : Option (List ℕ)) (all line : List ℕ)
    (is_return : Bool) → IfSome a (λ xs. all ≡ take_through end xs) → DropsThrough a c end
    → 0 < length all → line ≡ take limit all → is_return ≡ ends_with_return end all
    → ReadsFirstLine a c end limit line is_return
ReadsFirstLine-of-parts end limit None c all line is_return whole rest some kept is = tt
ReadsFirstLine-of-parts end limit (Some xs) c all line is_return whole rest some kept is =
    grind (arith, common_steps)

pub Consumes-buffered : (unknown : Bool) (buffer : List ℕ) (inner new : Option (List ℕ)) (n : ℕ)
    → n ≤ length buffer
    → DropsConsumable (cond unknown None (prepend_known buffer inner)) new (Some (length buffer)) n
    → Consumes (cond unknown None (prepend_known buffer inner)) new (take n buffer)
Consumes-buffered true buffer inner new n within drops = tt
Consumes-buffered false buffer None new n within drops = tt
Consumes-buffered false buffer (Some xs) new n within drops = at new (drops within)
  where
    at : (o : Option (List ℕ)) → o ≡ Some (drop n (buffer ++ xs))
        → Consumes (Some (buffer ++ xs)) o (take n buffer)
    at None e = absurd (cc)
    at (Some rest) e =
        let same : rest ≡ drop n (buffer ++ xs) = cc in
        sym (take-append-drop n (buffer ++ xs))
        ∙ ap (λ l. l ++ drop n (buffer ++ xs)) (take-append-le n buffer xs within)
        ∙ ap (λ l. take n buffer ++ l) (sym same)

-- general fact on results, for lines read in parts: what holds always holds after an error
pub OnErr-of-any : {T E : Type 0} (result : Result T E) (P : Type 0) → P → OnErr result P
OnErr-of-any h e p = grind arith

-- general fact on results, for a run: what holds always holds after a success
pub OnOk-of-any : {T E : Type 0} (result : Result T E) (P : Type 0) → P → OnOk result P
OnOk-of-any h e p = grind arith

-- lines: at the end of the bytes nothing is dropped through the end of a line; a, c: what is left
-- before and after
pub Keeps-at-end : (end : ℕ) (a c : Option (List ℕ)) → IsAtEnd a → DropsThrough a c end → Keeps a c
Keeps-at-end end a c none drops = grind arith

-- lines: the first line of a buffer is up to and including the first byte that ends a line
pub IsBufferedLine-up-to : (end byte index : ℕ) (buffer line : List ℕ) → byte ≡ end
    → line ≡ take (index + 1) buffer → index < length buffer → slice_index buffer index ≡ byte
    → ((k : ℕ) → k < index → eqb (slice_index buffer k) byte ≡ true → ⊥)
    → IsBufferedLine end buffer line
IsBufferedLine-up-to end byte index buffer line b e within ends lacks =
    let long = length-take-le (index + 1) buffer (omega arith) in
    let same : index + 1 - 1 ≡ index = omega arith in
    subst (λ n. IsBufferedLine n buffer line) b
    (subst (IsBufferedLine byte buffer) (sym e) (record {
      within = omega (arith, long);
      first = ap (λ n. take n buffer) (sym long);
      some = omega (arith, long);
      lacks_end = StopsAt-take buffer byte (index + 1) (omega arith)
          (subst (λ n. All (λ x. x ≢ byte) (take n buffer)) (sym same)
          (All-from_get_or (λ x. x ≢ byte) (take index buffer) 0 (λ k to is.
          let below : k < index = omega (arith, length-take-le index buffer (omega arith)) in
          lacks k below (eq-eqb _ _ (sym (get_or-take index buffer k 0 below) ∙ is)))));
      ends = ap (λ n. slice_index (take (index + 1) buffer) (n - 1)) long
          ∙ ap (slice_index (take (index + 1) buffer)) same
          ∙ get_or-take (index + 1) buffer index 0 (omega arith) ∙ ends;
    }))

pub ends_with_byte-up-to : (end byte index : ℕ) (buffer : List ℕ) → byte ≡ end
    → index < length buffer → slice_index buffer index ≡ byte
    → ends_with_byte end (take (index + 1) buffer) ≡ true
ends_with_byte-up-to end byte index buffer b within ends = grind (arith, common_steps)
