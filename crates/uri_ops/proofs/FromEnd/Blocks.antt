-- Texts that are read from their ends in blocks.
use Rattle.uri_ops.proofs.Common.{common_steps, ◌≡◌, ◌↔◌, ℕ, ◌<◌, ◌≤◌, ◌+◌, ◌-◌, Bool, List, [], ◌∷◌, ◌++◌, length, take, drop, sym, ap, ◌∙◌, arith, append_assoc, ⊎_elim, cases_lt, append-nil, length-append, get_or-take, length-drop, length-take-le, drop_all, drop_at, map-append, take-append-drop, take_all, cased, has_authority}
use Rattle.std.proofs.lemmas.List.{append_cancel_right}
use Rattle.std.specs.List.{copy_within}
use Rattle.uri_ops.specs.FromEnd.Blocks.{IsLastBlock, IsPut}

cased_texts_append : (lowers : Bool) (one other : List ℕ)
    → cased lowers (one ++ other) ≡ cased lowers one ++ cased lowers other
cased_texts_append lowers one other = grind (arith, common_steps, map-append)

-- texts that are copied: a text is what is left of it, and then what was read
pub literal_is_read : (lowers : Bool) (n : ℕ) (text before after : List ℕ)
    → after ≡ cased lowers (take (length text - n) (drop n text)) ++ before
    → cased lowers text ++ before ≡ cased lowers (take n text) ++ after
literal_is_read lowers n text before after e =
    ap (λ t. cased lowers t ++ before) (sym (take-append-drop n text))
    ∙ ap (λ t. t ++ before) (cased_texts_append lowers (take n text) (drop n text))
    ∙ append_assoc (cased lowers (take n text)) (cased lowers (drop n text)) before
    ∙ ap (λ t. cased lowers (take n text) ++ t) (ap (λ t. cased lowers t ++ before)
    (sym (take_all (length text - n) (drop n text) (omega (arith, length-drop n text)))) ∙ sym e)

-- paths: the segments before the current one stay when bytes of that are read
pub segment_is_read : (prefix slash segment left before after : List ℕ) → segment ++ before ≡ left
    ++ after → (prefix ++ (slash ++ segment)) ++ before ≡ (prefix ++ (slash ++ left)) ++ after
segment_is_read prefix slash segment left before after e = grind (arith, common_steps)

-- paths: a `/` is read if nothing is left after it
pub slash_is_read : (prefix segment before : List ℕ) (slash : ℕ) → segment ≡ []
    → (prefix ++ ((slash ∷ []) ++ segment)) ++ before ≡ (prefix ++ ([] ++ segment)) ++ slash ∷ before
slash_is_read prefix segment before slash none = rw none (append_assoc prefix (slash ∷ []) before
    ∙ ap (λ t. t ++ slash ∷ before) (sym (append-nil prefix)))

pub bytes_at_end_are_last_block : (size start : ℕ) (text left before after : List ℕ)
    → length before ≡ size → length after ≡ size → start ≤ size → text ++ drop size before ≡ left
    ++ drop start after → (0 < start → left ≡ []) → IsLastBlock size text left (drop start after)
bytes_at_end_are_last_block size start text left before after m n within e last =
    grind (arith, common_steps)

-- blocks: a text is another one that its last block ends exactly if what is left of both is equal
pub last_block_is_taken_off_both : (size : ℕ) (text left block other rest : List ℕ)
    → IsLastBlock size text left block → other ≡ rest ++ block → (text ≡ other) ↔ (left ≡ rest)
last_block_is_taken_off_both size text left block other rest a e =
    grind (arith, append_cancel_right)

first_two_bytes_are_copied : (n : ℕ) (block : List ℕ) → n + 2 ≡ length block
    → drop n (copy_within block 0 2 n) ≡ take 2 block
first_two_bytes_are_copied n block size =
    grind (arith, drop_all, append-nil, drop_at, length-take-le)

-- blocks: whether a text begins with `//` is known from the first two bytes of its last block
pub first_two_bytes_of_block_decide : (n start : ℕ) (left block kept : List ℕ) → start ≡ 0
    → n + 2 ≡ length block → kept ≡ copy_within block 0 2 n
    → has_authority (left ++ drop start block) ≡ has_authority (left ++ drop n kept)
first_two_bytes_of_block_decide n start left block kept full size e =
    grind (arith, get_or-take, common_steps, first_two_bytes_are_copied)

pub first_two_bytes_are_fewer : (n start : ℕ) (left block kept read : List ℕ) → start + 2 < n
    → n + 2 ≡ length block → length kept ≡ length block → left ++ drop n kept ≡ read
    → length read < length (left ++ drop start block)
first_two_bytes_are_fewer n start left block kept read fewer full size e =
    grind (arith, length-append, length-drop)

pub end_is_read_if_nothing_is_held : (whole held text end left before after : List ℕ)
    → whole ≡ text ++ end → held ≡ [] → end ++ before ≡ left ++ after
    → (whole ++ held) ++ before ≡ (text ++ left) ++ after
end_is_read_if_nothing_is_held whole held text end left before after e none f =
    grind (arith, common_steps, append_assoc)

-- blocks: some of a text is read if there is room
pub some_is_read : (size end start : ℕ) (text left before after : List ℕ) → length before ≡ size
    → length after ≡ size → end ≤ size → text ++ drop end before ≡ left ++ drop start after
    → (0 < start → left ≡ []) → 0 < length text → 0 < end → start < end
some_is_read size end start text left before after m n within e last some room =
    let all = ap length e in
    let first = length-append text (drop end before) in
    let second = length-append left (drop start after) in
    let from = length-drop end before in
    let to = length-drop start after in
    ⊎_elim (λ fewer. fewer)
    (λ h. let none = ap length (last (omega arith)) in absurd (omega arith)) (cases_lt start end)

-- blocks: a slice of a block from where a text begins is the text, so a comparison tests the text
pub rest_of_block_is_text : (start : ℕ) (text block : List ℕ) → length block ≡ 1024
    → drop start block ≡ text → take (1024 - start) (drop start block) ≡ text
rest_of_block_is_text start text block size is =
    take_all (1024 - start) (drop start block) (omega (arith, size, length-drop start block)) ∙ is

-- blocks: a text is put before another one
pub put_before : (text rest : List ℕ) (end middle start : ℕ) (before between after : List ℕ)
    → start ≤ middle → IsPut rest end before middle between → IsPut text middle between start after
    → IsPut (text ++ rest) end before start after
put_before text rest end middle start before between after within put_rest put_text =
    grind (arith, append_assoc)

-- blocks: a text that was put is the slice from its start to where it ends
pub put_text_is_slice : (text : List ℕ) (end start : ℕ) (before after : List ℕ)
    → length before ≡ 1024 → length after ≡ 1024 → end ≤ 1024 → start ≤ end
    → IsPut text end before start after → 0 < start → take (end - start) (drop start after) ≡ text
put_text_is_slice text end start before after m n fits within put some =
    grind (arith, common_steps)
