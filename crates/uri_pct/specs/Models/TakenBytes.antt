-- What the parts of a text leave in the lossy text that takes them, one part after the other:
-- Unicode, section 3.9.
use Rattle.std.proofs.Common.{◌≡◌, ℕ, List, [], ◌++◌, sym, ap, ◌∙◌, append_assoc, string_bytes}
use Rattle.std.specs.List.{flat_map}
use Rattle.std.proofs.lemmas.List.{append-nil}
use Rattle.std.proofs.lemmas.List.Concat.{flat_map-append}
use Rattle.uri_pct.specs.Parts.{Part, part_pieces, pieces_of_parts}
use Rattle.uri_pct.specs.Pieces.{Piece, lossy_piece}
use Rattle.uri_pct.specs.declared.decode_text.LossyText.{LossyText}

-- the lossy text t is s after it took the parts: their text is appended, with U+FFFD for each
-- ill-formed piece (Unicode, section 3.9)
pub record TookText (s : LossyText) (ps : List Part) (t : LossyText) : Type 0 where
  pub text : string_bytes t.text ≡ string_bytes s.text ++ flat_map lossy_piece (pieces_of_parts ps)

-- the UTF-8 pieces of two lists of parts, joined, are those of the one and then those of the other
pieces_of_joined_parts : (ps qs : List Part) → pieces_of_parts (ps ++ qs)
    ≡ pieces_of_parts ps ++ pieces_of_parts qs
pieces_of_joined_parts ps qs = flat_map-append part_pieces ps qs

-- what is appended for the parts ps and then for the parts qs is what is appended for all of them;
-- of_piece: what is appended for a piece
appended_parts_join : (of_piece : Piece → List ℕ) (s t u : List ℕ) (ps qs : List Part)
    → t ≡ s ++ flat_map of_piece (pieces_of_parts ps) → u
    ≡ t ++ flat_map of_piece (pieces_of_parts qs)
    → u ≡ s ++ flat_map of_piece (pieces_of_parts (ps ++ qs))
appended_parts_join of_piece s t u ps qs first then =
    let suffix = flat_map of_piece in
    let both = ap suffix (pieces_of_joined_parts ps qs)
    ∙ flat_map-append of_piece (pieces_of_parts ps) (pieces_of_parts qs) in
    then ∙ ap (λ x. x ++ suffix (pieces_of_parts qs)) first
    ∙ append_assoc s (suffix (pieces_of_parts ps)) (suffix (pieces_of_parts qs))
    ∙ ap (λ x. s ++ x) (sym both)

-- a lossy text that takes no parts is unchanged
pub taking_no_parts_keeps_text : (s : LossyText) → TookText s [] s
taking_no_parts_keeps_text s = record { text = sym (append-nil (string_bytes s.text)) }

-- a lossy text that takes the parts ps and then the parts qs has taken them joined
pub text_taken_in_turn_is_taken_of_joined_parts : (s t u : LossyText) (ps qs : List Part)
    → TookText s ps t → TookText t qs u
    → TookText s (ps ++ qs) u
text_taken_in_turn_is_taken_of_joined_parts s t u ps qs first then = record {
  text = appended_parts_join lossy_piece (string_bytes s.text) (string_bytes t.text)
      (string_bytes u.text)
      ps qs first.text then.text;
}
