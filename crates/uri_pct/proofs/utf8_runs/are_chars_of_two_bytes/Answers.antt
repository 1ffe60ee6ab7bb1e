use Rattle.uri_pct.proofs.Common.{◌≡◌, ℕ, ◌+◌, ◌-◌, ◌*◌, ◌<◌, ◌≤◌, List, [], ◌∷◌, ◌++◌, length, get_or, drop, sym, subst, arith, IsUtf8, encode_utf8, low_scalar, nat_tests, drop_more, drop_all, IsUtf8-append, IsUtf8-encode}
use Rattle.uri_pct.proofs.utf8_runs.are_chars_of_two_bytes.Goals as goal

-- UTF-8: a byte of C2 to DF and one of 80 to BF are a character
pair-is-character : (b d : ℕ) → 0xC2 ≤ b → b ≤ 0xDF → 0x80 ≤ d → d < 0xC0
    → encode_utf8 (64 * (b - 192) + (d - 128)) ≡ b ∷ d ∷ []
unfolding encode_utf8
pair-is-character b d low high from below = grind (arith, nat_tests)

-- UTF-8: a byte of C2 to DF and one of 80 to BF are UTF-8
pair-is-utf8 : (b d : ℕ) → 0xC2 ≤ b → b ≤ 0xDF → 0x80 ≤ d → d < 0xC0 → IsUtf8 (b ∷ d ∷ [])
pair-is-utf8 b d low high from below =
    let c = 64 * (b - 192) + (d - 128) in
    subst IsUtf8 (pair-is-character b d low high from below)
    (IsUtf8-encode c (low_scalar c (omega arith)))

-- general fact on lists, for a run: what begins at an index is two bytes and the rest
suffix-is-pair-and-rest : (run : List ℕ) (i : ℕ) → i + 1 < length run
    → drop i run ≡ (get_or run i 0 ∷ get_or run (i + 1) 0 ∷ []) ++ drop (i + 2) run
suffix-is-pair-and-rest run i within = grind (arith, nat_tests, drop_more)

-- UTF-8: what begins at an index is UTF-8 if a pair is there and UTF-8 follows it
suffix-is-utf8 : (run : List ℕ) (i : ℕ) → i + 1 < length run
    → 0xC2 ≤ get_or run i 0 → get_or run i 0 ≤ 0xDF → 0x80 ≤ get_or run (i + 1) 0
    → get_or run (i + 1) 0 < 0xC0 → IsUtf8 (drop (i + 2) run) → IsUtf8 (drop i run)
suffix-is-utf8 run i within low high from below rest =
    subst IsUtf8 (sym (suffix-is-pair-and-rest run i within)) (IsUtf8-append _ _
    (pair-is-utf8 (get_or run i 0) (get_or run (i + 1) 0) low high from below) rest)

pub loop-end-init : goal.loop-end-init
loop-end-init c = record { within = omega arith; utf8 = λ u. u }

pub loop-end-preserved : goal.loop-end-preserved
loop-end-preserved c = grind (arith, nat_tests, suffix-is-utf8)

pub returns : goal.returns
returns c = grind (arith, drop_all)
