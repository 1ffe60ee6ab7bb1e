-- Scans that end at marks, and ASCII texts.
use Rattle.error_laws.proofs.Common.{◌≡◌, ℕ, true, List, [], ◌∷◌, ◌++◌, length, drop, ap, sym, ◌∙◌, zero, suc, Bool, ltb, ◌<◌, arith, IsUtf8, IsAscii, eqb-true, and_parts, ltb-true, valid_prefix, TableSet, LacksPercent, IsValidFor, is_valid_for, excludes, cut, IsEmptyOrMarked, cut-at-end-of-text-without-marks, valid_text_lacks_excluded_marks, IsUtf8-from_ascii}
use Rattle.uri_parts.proofs.Offered.{length-of-text-before-marks}
use Rattle.std.specs.List.{list_all}

-- error law: at an index of a text it ends, or one of the marks is next
abbrev pub At : List ℕ → ℕ → List ℕ → Type 0
At marks i text = IsEmptyOrMarked marks (drop i text)

pub valid-text-is-scanned-to-mark : (set : TableSet) (marks : List ℕ) → LacksPercent set
    → excludes set marks ≡ true → (x rest : List ℕ) → IsUtf8 x → IsUtf8 (x ++ rest)
    → IsValidFor set x → IsEmptyOrMarked marks rest → valid_prefix set (x ++ rest) ≡ length x
valid-text-is-scanned-to-mark set marks lacks outside x rest u v valid begins =
    let c = cut-at-end-of-text-without-marks marks x rest
    (valid_text_lacks_excluded_marks set marks lacks outside x u valid) begins in
    eqb-true _ _ (sym (cut marks set lacks outside (x ++ rest) v) ∙ ap (is_valid_for set) c.0
    ∙ valid)
    ∙ sym (length-of-text-before-marks marks (x ++ rest)) ∙ ap length c.0

tested-bytes-are-ascii : (test : ℕ → Bool) → ((c : ℕ) → test c ≡ true → c < 128) → (bs : List ℕ)
    → list_all test bs ≡ true → IsAscii bs
tested-bytes-are-ascii test ascii [] e i = omega arith
tested-bytes-are-ascii test ascii (b ∷ bs) e zero = ascii b (and_parts (test b) _ e).0
tested-bytes-are-ascii test ascii (b ∷ bs) e (suc i) = tested-bytes-are-ascii test ascii bs
    (and_parts (test b) _ e).1 i

-- error law: a text of characters that pass a test of ASCII alone is UTF-8
pub tested-ascii-is-utf8 : (test : ℕ → Bool) → ((c : ℕ) → test c ≡ true → c < 128)
    → (bs : List ℕ) → list_all test bs ≡ true → IsUtf8 bs
tested-ascii-is-utf8 test ascii bs e = IsUtf8-from_ascii bs (tested-bytes-are-ascii test ascii bs e)

-- error law: a byte is ASCII
abbrev pub is_ascii_byte : ℕ → Bool
is_ascii_byte c = ltb c 128

-- error law: a literal text of ASCII is UTF-8
pub literal-is-utf8 : (bs : List ℕ) → list_all is_ascii_byte bs ≡ true → IsUtf8 bs
literal-is-utf8 bs e = tested-ascii-is-utf8 is_ascii_byte (λ c. ltb-true c 128) bs e
