-- Where a batch ends, and why: by the number that it returns.
use Rattle.std.specs.Prelude.{◌≡◌, ◌⊎◌, ℕ, ◌<◌, List, Option, IsSome, IsNone}

-- A batch has done the first `done` of `count` texts, and returns a number for why it ended.
-- It returns 0 if these are all, 8 if an allocation failed at the next text, which takes memory, 9
-- if that text is not within the data, and 10 if there is no room for what the call makes of it.
abbrev pub EndsAt : ℕ → (ℕ → Option (List ℕ)) → (ℕ → Type 0) → (ℕ → Type 0) → ℕ → ℕ → Type 0
EndsAt count text TakesMemory IsFull done number =
    ((number ≡ 0) × (done ≡ count))
    ⊎ (((number ≡ 8) × (done < count) × IsSome (text done) × TakesMemory done)
    ⊎ (((number ≡ 9) × (done < count) × IsNone (text done))
    ⊎ ((number ≡ 10) × (done < count) × IsSome (text done) × IsFull done)))
