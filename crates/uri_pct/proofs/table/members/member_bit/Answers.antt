-- The table of members has each byte right for each of its sets, which is computed.
use Rattle.uri_pct.proofs.Common.{◌≡◌, ◌<◌, ◌==◌, ◌%◌, ◌/◌, ◌^◌, ℕ, Bool, true, not, bit_and, refl, slice_index, sym, ◌∙◌, ap, agree_below, agree_below_at, has_bit, DIGIT, PATH, QUERY, REG_NAME, SCHEME, SEGMENT_NZ_NC, USERINFO}
use Rattle.uri_pct.specs.declared.table.members.TheConstants.{MEMBERS}
use Rattle.uri_pct.proofs.table.members.member_bit.Goals as goal

-- the table has the bit for the byte
abbrev has_member : ℕ → ℕ → Bool
has_member bit b = not (bit_and (slice_index MEMBERS.now b) bit == 0)

-- a bit that agrees with the characters of a rule at each byte, which is computed, is right for the
-- two words of these characters
table_is_right : (characters bit low high : ℕ)
    → agree_below (has_member bit) (has_bit (characters % 2 ^ 64) (characters / 2 ^ 64)) 256 ≡ true
    → low ≡ characters % 2 ^ 64 → high ≡ characters / 2 ^ 64 → (b : ℕ) → b < 256
    → has_member bit b ≡ has_bit low high b
table_is_right characters bit low high same l h b small = agree_below_at
    (has_member bit) (has_bit (characters % 2 ^ 64) (characters / 2 ^ 64)) 256 b same small
    ∙ sym (ap (λ n. has_bit n high b) l ∙ ap (λ n. has_bit (characters % 2 ^ 64) n b) h)

pub returns-then-high : goal.returns-then-high
unfolding has_bit
returns-then-high c = λ _. table_is_right SCHEME 1 _ _ refl c.if-low.true c.if-high.true

pub returns-then-high-2 : goal.returns-then-high-2
unfolding has_bit
returns-then-high-2 c = λ _. table_is_right DIGIT 2 _ _ refl c.if-low-2.true c.if-high-2.true

pub returns-then-high-3 : goal.returns-then-high-3
unfolding has_bit
returns-then-high-3 c = λ _. table_is_right USERINFO 4 _ _ refl c.if-low-3.true c.if-high-3.true

pub returns-then-high-4 : goal.returns-then-high-4
unfolding has_bit
returns-then-high-4 c = λ _. table_is_right REG_NAME 8 _ _ refl c.if-low-4.true c.if-high-4.true

pub returns-then-high-5 : goal.returns-then-high-5
unfolding has_bit
returns-then-high-5 c = λ _. table_is_right SEGMENT_NZ_NC 16 _ _ refl c.if-low-5.true c.if-high-5.true

pub returns-then-high-6 : goal.returns-then-high-6
unfolding has_bit
returns-then-high-6 c = λ _. table_is_right PATH 32 _ _ refl c.if-low-6.true c.if-high-6.true

pub returns-then-high-7 : goal.returns-then-high-7
unfolding has_bit
returns-then-high-7 c = λ _. table_is_right QUERY 64 _ _ refl c.if-low-7.true c.if-high-7.true
