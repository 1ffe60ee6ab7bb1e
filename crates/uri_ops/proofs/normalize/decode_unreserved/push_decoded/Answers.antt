use Rattle.uri_ops.proofs.Common.{arith, ◌≡◌, ℕ, Bool, ◌&&◌, List, ◌++◌, cond, sym, ap, ◌∙◌, string_bytes, ⊎_elim, IsAscii, cases_Bool, cond-true, cond-false, IsUtf8-from_ascii, widest_set, decode_unreserved, encoded_formatting_text, TableSet, set_of, IsValidFor, print, decoded_text, lowered_if}
use Rattle.uri_ops.proofs.Meanings.AsciiSuffixes.{ascii-lacks-byte-E2}
use Rattle.uri_ops.proofs.Meanings.DecodedPrefixes.{unset-flags-lack-past-ascii}
use Rattle.uri_ops.proofs.Meanings.WrittenFormatting.{encoding-formatting-completes-decoding, decoding-without-formatting-is-complete, no-byte-E2-no-formatting, text-without-formatting-is-unchanged}
use Rattle.uri_ops.proofs.normalize.decode_unreserved.push_decoded.Goals as goal

-- decoding: the text of a component, with formatting characters as octets if the set allows both
abbrev formatted : TableSet → List ℕ → List ℕ
formatted set text = cond (set.ucschar && set.pct_encoded) (encoded_formatting_text text) text

-- decoding: the normal text of a component, with its letters in lower case if lowers
abbrev normal : Bool → TableSet → List ℕ → List ℕ
normal lowers set text = print (lowered_if lowers (decode_unreserved set text))

-- decoding: with its formatting characters as octets, a decoded component is normal
formatting-completes-decoding : (lowers : Bool) (set : TableSet) (text : List ℕ)
    → IsValidFor widest_set text → formatted set (decoded_text lowers set text)
    ≡ normal lowers set text
formatting-completes-decoding lowers set text valid =
    grind (arith, encoding-formatting-completes-decoding, decoding-without-formatting-is-complete)

formatting-leaves-ascii : (set : TableSet) (text : List ℕ) → IsAscii text
    → formatted set text ≡ text
formatting-leaves-ascii set text ascii =
    let utf8 = IsUtf8-from_ascii text ascii in
    ⊎_elim (λ e. cond-true _ _ _ e ∙ text-without-formatting-is-unchanged text utf8
    (no-byte-E2-no-formatting text utf8 (ascii-lacks-byte-E2 text ascii)))
    (λ e. cond-false _ _ _ e) (cases_Bool (set.ucschar && set.pct_encoded))

pub returns-then-push_short : goal.returns-then-push_short
returns-then-push_short c =
    let set = set_of c.args.table.now in
    let text = c.args.text.now in
    let lowers = c.args.lowers in
    let none = unset-flags-lack-past-ascii set c.allows_some_past_ascii.result
    c.allows_some_past_ascii.ensures in
    let done = c.push_short.ensures.done c.if-push_short.true set none in
    done.0 ∙ ap (λ x. string_bytes c.args.out.now ++ x)
    (sym (formatting-leaves-ascii set (decoded_text lowers set text) done.1)
    ∙ formatting-completes-decoding lowers set text c.requires)
