use Rattle.uri_commands.proofs.Common.{◌≡◌, ◌∷◌, true, false, map, take, uri_ref, uri_ref_text, are_of_kind, texts}
use Rattle.uri_commands.proofs.links.parse_references.Given as goal

-- the words so far are parsed, and kept if no allocation failed
abbrev pub invariant-loop-word : goal.invariant-loop-word
invariant-loop-word l = record {
  of_kind : are_of_kind uri_ref (l.reference ∷ texts (take l.word-index l.others)) ≡ true;
  kept : l.is_refused ≡ false
      → map uri_ref_text l.references.items ≡ l.reference ∷ texts (take l.word-index l.others);
}
