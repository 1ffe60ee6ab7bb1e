-- Texts that are hashed from their ends, block by block.
use Rattle.std.proofs.lemmas.Grind.{common_steps}
use Rattle.std.proofs.Common.{◌≡◌, ℕ, suc, ◌+◌, ◌-◌, ◌/◌, ◌<◌, ◌≤◌, List, ◌∷◌, ◌++◌, length, take, drop, sym, ap, ap₂, ◌∙◌, arith}
use Rattle.std.proofs.Math.Seq.{drop-append_seam, take-append_seam}
use Rattle.std.proofs.lemmas.List.{length-append, take_all}
use Rattle.std.specs.Hash as fed
use Rattle.std.specs.List.{fold}
use Rattle.uri_ops.specs.FromEnd.Blocks.{IsLastBlock}
use Rattle.uri_order.specs.HashedTexts.{hashed_blocks, hashed_text}
use Rattle.uri_order.proofs.InStep.{short_block_is_whole_text}

pub short_text_is_hashed_whole : (text : List ℕ) → length text < 1024
    → hashed_text text ≡ fed.str text
unfolding hashed_blocks
short_text_is_hashed_whole text short = grind arith

pub full_block_is_hashed_first : (text left block : List ℕ) → text ≡ left ++ block
    → length block ≡ 1024 → hashed_text text ≡ block ∷ hashed_text left
unfolding hashed_blocks
full_block_is_hashed_first text left block whole full =
    let all : length text ≡ length left + 1024 =
    ap length whole ∙ length-append left block ∙ ap (λ n. length left + n) full in
    let count : length text / 1024 ≡ suc (length left / 1024) = omega (arith, all) in
    let cut : length text - 1024 ≡ length left = omega (arith, all) in
    ap (λ n. hashed_blocks n text) count
    ∙ ap₂ (λ b l. b ∷ hashed_blocks (length left / 1024) l)
    (ap₂ drop cut whole ∙ drop-append_seam left block)
    (ap₂ take cut whole ∙ take-append_seam left block)

module _ {S : Type 0} (write : S → List ℕ → S) (state next : S) (start : ℕ)
    (text left block : List ℕ) (last : IsLastBlock 1024 text left (drop start block))
    (size : length (drop start block) + start ≡ 1024)
    (written : next ≡ write state (take (1024 - start) (drop start block))) where
  -- hashes: after a full block was hashed, what is left of the text gives the rest
  pub hash_goes_on : start ≤ 0
      → fold write state (hashed_text text) ≡ fold write next (hashed_text left)
  hash_goes_on none =
      grind (arith, common_steps, full_block_is_hashed_first, left, start, block, size, written)

  -- hashes: after a block that is not full, 255 is hashed
  pub hash_ends : 0 < start → fold write next (fed.u8 255) ≡ fold write state (hashed_text text)
  hash_ends some =
      let whole = short_block_is_whole_text start text left block last size some in
      let all = take_all (1024 - start) (drop start block) (omega (arith, size)) in
      let short : length text < 1024 = omega (arith, size, ap length whole, ap length all) in
      ap (λ s. fold write s (fed.u8 255)) (written ∙ ap (write state) whole)
      ∙ ap (fold write state) (sym (short_text_is_hashed_whole text short))
