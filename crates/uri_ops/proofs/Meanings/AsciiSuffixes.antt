-- What is appended to a text is ASCII: characters, and octets that are decoded or written as they
-- are.
use Rattle.uri_ops.proofs.Common.{common_steps, ◌≡◌, ℕ, ◌+◌, ◌*◌, ◌<◌, Bool, true, false, List, [], ◌∷◌, ◌++◌, length, take, drop, refl, sym, ap, subst, ◌∙◌, append_assoc, take_all, arith, ⊎_elim, append-nil, eqb, suc, digit_value, is_ascii_hexdigit, list_any, IsAscii, IsUtf8, cases_Bool, nat_tests, drop_all, take-append-drop, drop-append_seam, IsAscii-append, IsAscii-drop, IsAscii-take, IsUtf8-append, IsUtf8-from_ascii, IsAscii-nil, IsAscii-push, lowercase_ascii, decode_octet, is_unreserved, Octet, print, text_of_token, unreserved_is_ascii, lowered_code_if, lowered_if}
use Rattle.uri_pct.proofs.Offered.{octet_entry_is_printed_octet, octet_table_is_ascii}
use Rattle.uri_ops.proofs.Meanings.UnreservedCodes.{unreserved-octet-prints-its-code}

-- ASCII suffixes: a text begins with the old one, and what is after it is ASCII
pub record AppendsAscii (old new : List ℕ) : Type 0 where
  pub unchanged : take (length old) new ≡ old
  pub ascii : IsAscii (drop (length old) new)

text-is-old-and-suffix : (old new : List ℕ) → AppendsAscii old new
    → new ≡ old ++ drop (length old) new
text-is-old-and-suffix old new a = sym (take-append-drop (length old) new)
    ∙ ap (λ x. x ++ drop (length old) new) a.unchanged

-- ASCII suffixes: a text itself has an empty suffix
pub no-suffix-is-ascii : (old : List ℕ) → AppendsAscii old old
no-suffix-is-ascii old = grind (arith, nat_tests, drop_all, take_all, IsAscii-nil)

pub longer-suffix-is-ascii : (old out new more : List ℕ) → AppendsAscii old out
    → new ≡ out ++ more → IsAscii more → AppendsAscii old new
longer-suffix-is-ascii old out new more a pushed ascii = grind (arith, common_steps, IsAscii-append)

-- ASCII suffixes: after a text in UTF-8, an ASCII suffix leaves it UTF-8
pub ascii-suffix-keeps-utf8 : (old new : List ℕ) → IsUtf8 old → AppendsAscii old new → IsUtf8 new
ascii-suffix-keeps-utf8 old new utf8 a = subst IsUtf8 (sym (text-is-old-and-suffix old new a))
    (IsUtf8-append old _ utf8 (IsUtf8-from_ascii _ a.ascii))

pub suffix-and-rest-are-text : (old new rest text : List ℕ) → AppendsAscii old new
    → new ++ rest ≡ old ++ text → drop (length old) new ++ rest ≡ text
suffix-and-rest-are-text old new rest text a total =
    let suffix = drop (length old) new in
    let whole : old ++ (suffix ++ rest) ≡ old ++ text = sym (append_assoc old suffix rest)
    ∙ ap (λ x. x ++ rest) (sym (text-is-old-and-suffix old new a)) ∙ total in
    sym (drop-append_seam old (suffix ++ rest)) ∙ ap (drop (length old)) whole
    ∙ drop-append_seam old text

pub ascii-lacks-byte-E2 : (text : List ℕ) → IsAscii text → list_any (λ b. eqb b 0xE2) text ≡ false
ascii-lacks-byte-E2 [] ascii = refl
ascii-lacks-byte-E2 (b ∷ text) ascii =
    let small : b < 128 = ascii 0 in
    let other : eqb b 0xE2 ≡ false = grind (arith, nat_tests) in
    rw other (ascii-lacks-byte-E2 text (λ i. ascii (suc i)))

pub digits-are-of-byte : (high low : ℕ) → is_ascii_hexdigit high ≡ true
    → is_ascii_hexdigit low ≡ true → 16 * digit_value high + digit_value low < 256
digits-are-of-byte high low h l = grind (arith, nat_tests)

lowered-unreserved-is-ascii : (lowers : Bool) (value : ℕ) → is_unreserved value ≡ true
    → lowered_code_if lowers value < 128
lowered-unreserved-is-ascii true value e = lowercase_ascii value (unreserved_is_ascii value e)
lowered-unreserved-is-ascii false value e = unreserved_is_ascii value e

-- ASCII suffixes: the octet of an unreserved character is decoded to its code alone, in lower case
-- if lowers
pub unreserved-octet-is-its-code : (lowers : Bool) (value : ℕ) → is_unreserved value ≡ true
    → lowered_code_if lowers value ∷ []
    ≡ print (lowered_if lowers (decode_octet (Octet value) ∷ []))
unreserved-octet-is-its-code lowers value e =
    grind (arith, common_steps, lowered-unreserved-is-ascii, unreserved-octet-prints-its-code)

pub reserved-octet-is-written : (lowers : Bool) (value : ℕ) → is_unreserved value ≡ false
    → text_of_token (Octet value) ≡ print (lowered_if lowers (decode_octet (Octet value) ∷ []))
reserved-octet-is-written lowers value e = grind (arith, common_steps, append-nil)

octet-text-is-ascii : (value : ℕ) → value < 256 → IsAscii (text_of_token (Octet value))
octet-text-is-ascii value small = subst IsAscii (octet_entry_is_printed_octet value small)
    (IsAscii-take _ 3 (IsAscii-drop _ (value * 3) octet_table_is_ascii))

pub octet-decoded-alone-is-ascii : (lowers : Bool) (value : ℕ) → value < 256
    → IsAscii (print (lowered_if lowers (decode_octet (Octet value) ∷ [])))
octet-decoded-alone-is-ascii lowers value small = ⊎_elim
    (λ e. subst IsAscii (unreserved-octet-is-its-code lowers value e)
    (IsAscii-push [] _ IsAscii-nil (lowered-unreserved-is-ascii lowers value e)))
    (λ e. subst IsAscii (reserved-octet-is-written _ _ e) (octet-text-is-ascii _ small))
    (cases_Bool _)
