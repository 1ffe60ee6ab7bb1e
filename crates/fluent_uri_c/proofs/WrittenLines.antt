-- What is written of lines, and what a batch of them leaves.
use Rattle.fluent_uri_c.proofs.Common.{◌≡◌, ◌≢◌, ℕ, ◌+◌, ◌<◌, ◌≤◌, List, [], ◌∷◌, ◌++◌, length, take, drop, sym, ap, ◌∙◌, arith, append_assoc, length-append, false, Bool, ◌⊎◌, Some, None, IsTrue, cond, slice_get, nat_lt, position, position_or_len, result_ok, drop-append_seam, take-append_seam, drop-drop, length-take-le, none-some, same_Some, bytes_of, joined_results, outcome_of_batch, HasConsumed, IsFullAt, LeavesLines, LineBuffers, TakesMemoryAt, is_newline, lines_of, newline, error_number_at, number_returned, written_at, is_possible_length, normalize_result}
use Rattle.fluent_uri_c.specs.declared.outcome.Outcome.{Outcome}
use Rattle.fluent_uri_c.specs.Endings.{EndsAt}

-- lines for C: a value that is there only if b is true is that value
cond_some : (b : Bool) (n k : ℕ) → Some k ≡ cond b (Some n) None → k ≡ n
cond_some b n k e = grind (arith, same_Some, none-some)

-- lines for C: without a value the test b is false
cond_none : (b : Bool) (n : ℕ) → None ≡ cond b (Some n) None → b ≡ false
cond_none b n e = grind (arith, none-some)

pub first-newline-found : (rest : List ℕ) (k : ℕ) → Some k ≡ position is_newline rest
    → k ≡ position_or_len is_newline rest
first-newline-found rest k e = cond_some (nat_lt (position_or_len is_newline rest) (length rest)) _
    k e

pub no-newline-found : (rest : List ℕ) → None ≡ position is_newline rest
    → length rest ≤ position_or_len is_newline rest
no-newline-found rest e = grind (arith, cond_none)

-- lines for C: bytes that are written at a position and more after them are one text that is
-- written there
pub two-writes-are-one : (out one two bytes more : List ℕ) (at end : ℕ) → end ≡ at + length bytes
    → at ≤ length out → one ≡ take at out ++ (bytes ++ drop (at + length bytes) out)
    → two ≡ take end one ++ (more ++ drop (end + length more) one)
    → two ≡ take at out ++ ((bytes ++ more) ++ drop (at + length (bytes ++ more)) out)
two-writes-are-one out one two bytes more at end ends inside first second =
    let P : List ℕ = take at out ++ bytes in
    let R : List ℕ = drop (at + length bytes) out in
    let whole : one ≡ P ++ R = first ∙ sym (append_assoc (take at out) bytes R) in
    let long : end ≡ length P = omega (
      arith,
      ends,
      length-append (take at out) bytes,
      length-take-le at out inside,
    ) in
    let before : take end one ≡ P = ap (λ k. take k one) long ∙ ap (take (length P)) whole
    ∙ take-append_seam P R in
    let n = length more in
    let after : drop (end + n) one ≡ drop (at + length (bytes ++ more)) out =
    sym (drop-drop n end one) ∙ ap (λ k. drop n (drop k one)) long
    ∙ ap (λ l. drop n (drop (length P) l)) whole ∙ ap (drop n) (drop-append_seam P R)
    ∙ drop-drop n (at + length bytes) out
    ∙ ap (λ k. drop k out) (omega (arith, length-append bytes more)) in
    second ∙ ap (λ l. l ++ (more ++ drop (end + n) one)) before ∙ ap (λ l. P ++ (more ++ l)) after
    ∙ append_assoc (take at out) bytes _
    ∙ ap (λ l. take at out ++ l) (sym (append_assoc bytes more _))

pub written_at-of-line : (kind options : ℕ) (input line bytes : List ℕ) (n : ℕ)
    → bytes ≡ bytes_of (result_ok (normalize_result kind options line))
    → slice_get (lines_of input) n ≡ Some line
    → bytes ++ newline ∷ [] ≡ bytes_of (written_at kind options input n)
written_at-of-line kind options input line bytes n made here =
    rw here (ap (λ b. b ++ newline ∷ []) made)

pub error_number_at-of-line : (kind options : ℕ) (input line : List ℕ) (n number : ℕ)
    → number ≡ number_returned (normalize_result kind options line)
    → slice_get (lines_of input) n ≡ Some line → Some number ≡ error_number_at kind options input n
error_number_at-of-line kind options input line n number made here = rw here (ap Some made)

pub consumed-before-line : (input : List ℕ) (done start : ℕ) → done < length (lines_of input)
    → start ≤ length input → drop done (lines_of input) ≡ lines_of (drop start input)
    → HasConsumed input done start
consumed-before-line input done start more inside left = grind arith

pub consumed-after-last-line : (input : List ℕ) (done end : ℕ) → length (lines_of input) ≡ done
    → end ≡ length input → HasConsumed input done end
consumed-after-last-line input done end last all = grind arith

-- lines for C: normalising a batch of lines leaves the buffers that its contract defines;
-- done: how many were processed
pub leaves_lines : (kind options : ℕ) (input : List ℕ) (old new : LineBuffers) (outcome : Outcome)
    (number which needed done at consumed returned : ℕ) → kind ≤ 3 → (options ≡ 0) ⊎ (options ≡ 2)
    → IsTrue (is_possible_length input) → returned ≡ number
    → outcome ≡ outcome_of_batch number which needed done at consumed
    → (number ≢ 10 → (which ≡ 0) × (needed ≡ 0)) → new.bytes
    ≡ joined_results (written_at kind options input) done
    ++ drop (length (joined_results (written_at kind options input) done)) old.bytes
    → at ≡ length (joined_results (written_at kind options input) done)
    → ((i : ℕ) → i < done → slice_get new.errors i ≡ error_number_at kind options input i)
    → drop done new.errors ≡ drop done old.errors → EndsAt (length (lines_of input))
    (slice_get (lines_of input)) (TakesMemoryAt kind options input)
    (IsFullAt kind options input old.bytes old.errors which needed) done number
    → HasConsumed input done consumed → LeavesLines kind options input old new outcome returned
leaves_lines kind options input old new outcome number which needed done at consumed returned valid
    chosen possible same is full bytes total errors others end left =
    grind arith
