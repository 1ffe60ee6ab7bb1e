-- What is taken where text is appended.
use Rattle.uri_pct.proofs.ValidTexts.Allowed.{valid_text_has_printable_tokens}
use Rattle.uri_pct.proofs.Unicode.PartPieces.{parts_after_run_have_pieces_of_decoded_bytes}
use native.Mathlib.Omega.{arith}
use Rattle.uri_pct.proofs.Common.{◌≡◌, ℕ, true, List, [], ◌∷◌, ◌++◌, refl, string_bytes, Result, Ok, Err, OnOk, is_ok, IsUtf8, append-nil, Part, Literal, pieces_of_parts, parts, utf8_pieces, lossy_text, widest_set, tokens, bytes_decoded_from, IsValidFor}
use Rattle.uri_pct.specs.Models.TakenBytes.{TookText}
use Rattle.uri_pct.specs.declared.decode_text.LossyText.{LossyText}
use Rattle.uri_pct.proofs.Unicode.Lossy.{lossy_text_of_utf8_is_itself}

-- general fact on results, for decoding: what holds if a call succeeds holds if it returned Ok
pub OnOk-from-is_ok : {T E P : Type 0} (r : Result T E) → (is_ok r ≡ true → P) → OnOk r P
OnOk-from-is_ok (Ok x) f = f refl
OnOk-from-is_ok (Err e) f = tt

pub literal_part_has_utf8_pieces_of_its_text : (text : List ℕ) → pieces_of_parts (Literal text ∷ [])
    ≡ utf8_pieces text
literal_part_has_utf8_pieces_of_its_text text = append-nil (utf8_pieces text)

-- decoding, parts taken: where text is appended,
-- the text so far has taken the parts that decode to it; s, t: before and after
pub appended_text_takes_lossy_text_of_parts : (s t : LossyText) (ps : List Part) (text : List ℕ)
    → IsUtf8 text → pieces_of_parts ps ≡ utf8_pieces text
    → string_bytes t.text ≡ string_bytes s.text ++ text → TookText s ps t
appended_text_takes_lossy_text_of_parts s t ps text u pieces bytes =
    grind (arith, lossy_text_of_utf8_is_itself)

pub parts_taken_give_lossy_text : (text : List ℕ) (s t : LossyText) → IsValidFor widest_set text
    → string_bytes s.text ≡ [] → TookText s (parts text) t
    → string_bytes t.text ≡ lossy_text (bytes_decoded_from (tokens text))
parts_taken_give_lossy_text text s t v none took =
    grind (arith, parts_after_run_have_pieces_of_decoded_bytes, valid_text_has_printable_tokens)
