-- An octet of ASCII is a character by itself, whatever is before and after it.
use Rattle.uri_pct.proofs.Common.{ℕ, ◌≡◌, ◌<◌, ◌≤◌, List, [], ◌∷◌, ◌++◌, length, take, drop, map, sym, ap, ◌∙◌, inl, IsUtf8, All-same, All-take, All-drop, take-append_seam, drop-append_seam, IsUtf8-from_ascii, IsAscii-nil, IsAscii-push, Chunk, Byte, ArePastAscii, Decoded, parts_from, utf8_pieces, CutsNoPiece}
use Rattle.uri_pct.proofs.Unicode.CharacterPieces.{byte_below_80_or_from_c0_is_no_continuation}
use Rattle.uri_pct.proofs.Unicode.Pieces.{utf8_pieces_are_cut_at_non_continuation}
use Rattle.uri_pct.proofs.Unicode.Runs.{utf8_pieces_are_cut_after_text}
use Rattle.uri_pct.proofs.Unicode.Unfinished.{parts_from_are_cut_where_pieces_are}

-- UTF-8: an ASCII byte is a character
pub ascii_byte_is_utf8 : (b : ℕ) → b < 128 → IsUtf8 (b ∷ [])
ascii_byte_is_utf8 b small = IsUtf8-from_ascii (b ∷ []) (IsAscii-push [] b IsAscii-nil small)

-- UTF-8: bytes (run) before an ASCII byte end where a piece does
cut_before_ascii_divides_no_piece : (run : List ℕ) (b : ℕ) → b < 128 → CutsNoPiece run (b ∷ [])
cut_before_ascii_divides_no_piece run b small suffix = utf8_pieces_are_cut_at_non_continuation run
    (b ∷ suffix) (byte_below_80_or_from_c0_is_no_continuation b (inl small))

cut_after_ascii_divides_no_piece : (b : ℕ) → b < 128 → CutsNoPiece (b ∷ []) []
cut_after_ascii_divides_no_piece b small suffix = utf8_pieces_are_cut_after_text (b ∷ []) suffix
    (ascii_byte_is_utf8 b small)

pub parts_from-ascii-octet : (run : List ℕ) (b : ℕ) (suffix : List Chunk) → b < 128
    → parts_from run (Byte b ∷ suffix)
    ≡ map Decoded (utf8_pieces run) ++ (map Decoded (utf8_pieces (b ∷ [])) ++ parts_from [] suffix)
unfolding parts_from
parts_from-ascii-octet run b suffix small = parts_from_are_cut_where_pieces_are run (b
    ∷ []) [] suffix (cut_before_ascii_divides_no_piece run b small)
    ∙ ap (λ ps. map Decoded (utf8_pieces run) ++ ps) (parts_from_are_cut_where_pieces_are (b
    ∷ []) [] [] suffix (cut_after_ascii_divides_no_piece b small))

pub prefix_of_past_ascii_is_past_ascii : (prefix end bytes : List ℕ) → bytes ≡ prefix ++ end
    → ArePastAscii bytes → ArePastAscii prefix
prefix_of_past_ascii_is_past_ascii prefix end bytes same past = All-same (λ b. 128 ≤ b) _ _
    (sym (ap (take (length prefix)) same ∙ take-append_seam prefix end))
    (All-take (λ b. 128 ≤ b) (length prefix) bytes past)

pub suffix_of_past_ascii_is_past_ascii : (prefix end bytes : List ℕ) → bytes ≡ prefix ++ end
    → ArePastAscii bytes → ArePastAscii end
suffix_of_past_ascii_is_past_ascii prefix end bytes same past = All-same (λ b. 128 ≤ b) _ _
    (sym (ap (drop (length prefix)) same ∙ drop-append_seam prefix end))
    (All-drop (λ b. 128 ≤ b) (length prefix) bytes past)
