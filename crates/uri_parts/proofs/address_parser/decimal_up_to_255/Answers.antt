use Rattle.uri_parts.proofs.Common.{◌≡◌, ℕ, ◌+◌, ◌*◌, ◌<◌, ◌≤◌, List, take, get_or, length, arith, sym, lit≤, get_or_past, digits_more, digits_value_more, digit_value, AllDigits, digits_value, read_number_some_at, read_number_large_at, read_number_empty}
use Rattle.uri_parts.proofs.address_parser.decimal_up_to_255.Goals.{else-loop-byte-test, then-loop-byte-test+in_default}
use Rattle.uri_parts.proofs.address_parser.decimal_up_to_255.Goals as goal

more : (s : List ℕ) (i j value byte digit : ℕ) → i ≡ j → j < length s → AllDigits 10 (take i s)
    → value ≡ digits_value 10 (take i s) → byte ≡ get_or s j 0
    → (digit_value byte < 10) × (digit ≡ digit_value byte)
    → AllDigits 10 (take (i + 1) s) × (value * 10 + digit ≡ digits_value 10 (take (i + 1) s))
more s i j value byte digit same within all is found h =
    let inside : i < length s = omega arith in
    let at : byte ≡ get_or s i 0 = rw same found in (
      digits_more 10 s i inside all (rw (← at) h.0),
      rw (digits_value_more 10 s i inside, ← at, ← is, h.1),
    )

-- the loop ends at the end of the text or at a byte that is no digit
past : (s : List ℕ) (i j : ℕ) → i ≡ j → length s ≤ j → 10 ≤ digit_value (get_or s i 0)
past s i j same end = rw (same, get_or_past s j 0 end) (lit≤ tt)

other : (s : List ℕ) (i j byte : ℕ) → i ≡ j → byte ≡ get_or s j 0 → ¬ (digit_value byte < 10)
    → 10 ≤ digit_value (get_or s i 0)
other s i j byte same found h = rw (same, ← found) (let d = digit_value byte in omega arith)

pub returns-then-next-gt255-clause-value : goal.returns-then-next-gt255-clause-value
returns-then-next-gt255-clause-value c =
    let i = c.loop-byte.invariant in
    let h = more _ _ _ _ _ _ i.counted c.loop-byte-test.true i.digits i.value c.from.ensures
    c.in-Some.ensures.value in
    sym (read_number_large_at _ _ _ _ (omega arith) h.0 (rw (← h.1) c.if-next-gt255.true))

pub loop-byte-preserved : goal.loop-byte-preserved
loop-byte-preserved c =
    let i = c.loop-byte.invariant in
    let h = more _ _ _ _ _ _ i.counted c.loop-byte-test.true i.digits i.value c.from.ensures
    c.in-Some.ensures.value in
    record { counted = omega arith; digits = h.0; value = h.1; small = c.if-next-gt255.false }

pub returns-then-count-eq0-clause-value : goal.returns-then-count-eq0-clause-value
returns-then-count-eq0-clause-value c =
    grind (arith, else-loop-byte-test, past, then-loop-byte-test+in_default, read_number_empty)

pub returns-else-count-eq0-clause-value : goal.returns-else-count-eq0-clause-value
returns-else-count-eq0-clause-value c =
    let i = c.loop-byte.invariant in
    let stop : 10 ≤ digit_value (get_or c.args.text.now c.loop-byte.count 0) =
    grind (arith, else-loop-byte-test, past, then-loop-byte-test+in_default) in
    let found = read_number_some_at 10 255 _ _ (omega arith) (omega arith) i.digits
    (rw (← i.value) i.small) stop in
    rw i.value (sym found)
